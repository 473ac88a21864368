-- The module with valid and ready round a core (own).
use Rattle.std.specs.Prelude.{◌≡◌, ℕ, List, [], ◌∷◌, ◌++◌, flat_map, map, codes}
use Rattle.vl_ast.specs.declared.modules.ModItem.{ModItem}
use Rattle.vl_ast.specs.declared.modules.Port.{Port}
use Rattle.vl_ast.specs.declared.modules.Module.{Module}
use Rattle.vl_ast.specs.Header.{attribute_of, bit_input, input_port, output_port}
use Rattle.vl_ast.specs.Attributes.{clocks_of}
use Rattle.st_wrap.specs.declared.columns.Column.{Column}
use Rattle.st_wrap.specs.declared.pace.Counters.{Counters}
use Rattle.st_wrap.specs.Header.{flag, named_inputs, named_outputs}
use Rattle.st_wrap.specs.Pace.{latest_in}
use Rattle.st_wrap.specs.inner.Columns.{column_port, held_declared, held_driven, input_column, late_declared, late_driven, output_column}
use Rattle.st_wrap.specs.inner.Control.{CountFor, control_declared, control_driven}
use Rattle.st_wrap.specs.inner.CoreNames.{core_items, wires_of}

-- what is declared beside the core's own
abbrev pub declared_items : Module → Counters → List Column → List Column → List ModItem
declared_items core counters inputs outputs =
    wires_of core
    ++ (control_declared counters
    ++ (flat_map held_declared inputs ++ flat_map late_declared outputs))

-- what drives it
abbrev pub driven_items : Counters → List Column → List Column → List ModItem
driven_items counters inputs outputs =
    control_driven counters ++ (flat_map held_driven inputs ++ flat_map late_driven outputs)

abbrev pub items_of : Module → Counters → List Column → List Column → List ModItem
items_of core counters inputs outputs =
    declared_items core counters inputs outputs
    ++ (core_items core ++ driven_items counters inputs outputs)

abbrev pub ports_of : List Column → List Column → List Port
ports_of inputs outputs =
    bit_input (codes "clk") ∷ bit_input (codes "reset") ∷ input_port (flag (codes "in_valid"))
    ∷ (map (λ column. input_port (column_port column)) inputs
    ++ input_port (flag (codes "out_ready")) ∷ output_port (flag (codes "in_ready"))
    ∷ output_port (flag (codes "out_valid"))
    ∷ map (λ column. output_port (column_port column)) outputs)

-- the columns by their names
abbrev pub inputs_of : Module → List (List ℕ) → List Column
inputs_of core names = map input_column (named_inputs core names)

abbrev pub outputs_of : Module → List (List ℕ) → List Column
outputs_of core names =
    map (output_column (clocks_of core) (latest_in core)) (named_outputs core names)

abbrev pub made_of : Module → Counters → List Column → List Column → Module
made_of core counters inputs outputs = record {
  name = codes "fx_stream";
  attrs = attribute_of (codes "fx_cycles") 1 ∷ [];
  ports = ports_of inputs outputs;
  items = items_of core counters inputs outputs;
}

abbrev pub wrapped : Module → List (List ℕ) → Counters → Module
wrapped core names counters = made_of core counters (inputs_of core names) (outputs_of core names)

-- the module with counters that count for the core
pub record IsWrapped (core : Module) (names : List (List ℕ)) (m : Module) : Type 0 where
  pub counters : Counters
  pub counted : CountFor core counters
  pub is : m ≡ wrapped core names counters
