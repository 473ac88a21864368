-- The columns of the core, and what the wrapper has of each (own).
use Rattle.std.specs.Prelude.{ℕ, Bool, ◌+◌, ◌-◌, ◌==◌, false, if◌then◌else◌, List, [], ◌∷◌, ◌++◌, map, Some}
use Rattle.std.specs.List.{range_with_len}
use Rattle.vl_ast.specs.declared.expressions.BinOp.TheVariants.{Both}
use Rattle.vl_ast.specs.declared.expressions.Sized.{Sized}
use Rattle.vl_ast.specs.declared.expressions.Expr.{Expr}
use Rattle.vl_ast.specs.declared.expressions.Expr.TheVariants.{Name, Binary, Choose}
use Rattle.vl_ast.specs.declared.modules.ModItem.{ModItem}
use Rattle.vl_ast.specs.declared.modules.ModItem.TheVariants.{Reg, Assign, Always}
use Rattle.vl_ast.specs.declared.modules.Port.{Port}
use Rattle.vl_ast.specs.Control.{is_number_input, is_number_output}
use Rattle.vl_ast.specs.Header.{DataPort, input_port, output_port}
use Rattle.st_wrap.specs.declared.columns.Column.{Column}
use Rattle.st_wrap.specs.declared.registers.Part.{Part}
use Rattle.st_wrap.specs.declared.registers.Part.TheVariants.{Held, HeldDriven, Late, LateDriven}
use Rattle.st_wrap.specs.Header.{row_port}
use Rattle.st_wrap.specs.Pace.{samples_late}
use Rattle.st_wrap.specs.inner.Names.{inner_name, held_name, late_name, begin_name, end_name, enable_name}

-- a port with its name and by how many samples it is held back
abbrev pub column_of : ℕ → Port × List ℕ → Column
column_of late named =
    record {
      inner = named.0.name;
      name = named.1;
      signed = named.0.signed;
      width = named.0.width;
      late = late;
    }

-- an input isn't held back
abbrev pub input_column : Port × List ℕ → Column
input_column named = column_of 0 named

-- an output is held back until the latest comes
abbrev pub output_column : ℕ → ℕ → Port × List ℕ → Column
output_column cycles latest named = column_of (latest - samples_late cycles named.0) named

-- a port is an input that carries numbers, or else such an output
abbrev pub is_column : Bool → Bool → Port → Bool
is_column input stalls port =
    if input then is_number_input stalls port else is_number_output stalls port

-- the port of a column
abbrev pub column_port : Column → DataPort
column_port column = row_port column.name column.width column.signed

-- it is an input or an output
abbrev pub port_of : Bool → Column → Port
port_of input column =
    if input then input_port (column_port column) else output_port (column_port column)

-- so many bits without sign
abbrev pub plain : ℕ → ℕ → Sized
plain width bits = record { width = width; signed = false; bits = bits }

-- the row moves, and this is 1
abbrev pub moving : List ℕ → Expr
moving name = Binary Both (Name enable_name) (Name name)

-- the register that holds an input
abbrev pub held_declared : Column → List ModItem
held_declared column = Reg column.signed column.width (held_name column.name) ∷ []

-- the core's input is the port's in a sample's first clock, and then what was held of it
abbrev pub held_driven : Column → List ModItem
held_driven column =
    Assign (inner_name column.inner)
    (Choose (Name begin_name) (Name column.name) (Name (held_name column.name)))
    ∷ Always (held_name column.name) (plain column.width 0) (Some (moving begin_name))
    (Name column.name) ∷ []

-- an output of so many samples ago
abbrev pub stage_name : Column → ℕ → List ℕ
stage_name column samples =
    if samples == 0 then inner_name column.inner else late_name column.name samples

-- the register of a place in an output's chain
abbrev pub stage_declared : Column → ℕ → ModItem
stage_declared column place = Reg column.signed column.width (late_name column.name (place + 1))

-- it takes the one before at a sample's last clock
abbrev pub stage_driven : Column → ℕ → ModItem
stage_driven column place =
    Always (late_name column.name (place + 1)) (plain column.width 0) (Some (moving end_name))
    (Name (stage_name column place))

abbrev pub late_declared : Column → List ModItem
late_declared column = map (stage_declared column) (range_with_len 0 column.late)

-- the chain of an output, and the output's port
abbrev pub late_driven : Column → List ModItem
late_driven column =
    map (stage_driven column) (range_with_len 0 column.late)
    ++ Assign column.name (Name (stage_name column column.late)) ∷ []

-- a part of a column
abbrev pub items_for : Part → Column → List ModItem
items_for Held = held_declared
items_for HeldDriven = held_driven
items_for Late = late_declared
items_for LateDriven = late_driven
