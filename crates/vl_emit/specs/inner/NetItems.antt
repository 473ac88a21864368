-- The items of each net.
use Rattle.std.specs.Prelude.{length, codes, unwrap_or, ℕ, ◌+◌, ◌-◌, ◌*◌, nat_lt, true, false}
use Rattle.std.specs.Prelude.{if◌then◌else◌, List, [], ◌∷◌, ◌++◌, map, flat_map, get_or, Some, None}
use Rattle.std.specs.Prelude.{ℤ, pos}
use Rattle.vl_ast.specs.declared.expressions.BinOp.{BinOp}
use Rattle.vl_ast.specs.declared.expressions.BinOp.TheVariants as binary
use Rattle.vl_ast.specs.declared.expressions.Sized.{Sized}
use Rattle.vl_ast.specs.declared.expressions.Expr.{Expr}
use Rattle.vl_ast.specs.declared.expressions.Expr.TheVariants as expression
use Rattle.vl_ast.specs.declared.modules.ModItem.{ModItem}
use Rattle.vl_ast.specs.declared.modules.ModItem.TheVariants as item
use Rattle.vl_ast.specs.Value.{bits_of}
use Rattle.hw_net.specs.declared.netlist.Frame.{Frame}
use Rattle.hw_net.specs.declared.netlist.Net.{Net}
use Rattle.hw_net.specs.declared.netlist.NetPort.{NetPort}
use Rattle.hw_net.specs.declared.netlist.NetKind.{NetKind}
use Rattle.hw_net.specs.declared.netlist.NetKind.TheVariants.{Comb, Reg, EnReg, Acc, Bridge}
use Rattle.hw_net.specs.declared.netlist.NetKind.TheVariants.{Unit, Counter}
use Rattle.vl_emit.specs.Names.{Wire}
use Rattle.vl_emit.specs.inner.Pieces.{zeros}
use Rattle.vl_emit.specs.inner.Operators.{test_of, product, expression_of}
use Rattle.vl_emit.specs.Names.{name_of, hold_name, net_wire, input_wire}
use Rattle.hw_net.specs.Products.{places, net_at}
use Rattle.vl_ast.specs.Header.{attribute_of, bit_input}
use Rattle.vl_emit.specs.Header.{input_ports, output_ports, ports_of}
use Rattle.hw_net.specs.Circuit.{Circuit}
use Rattle.hw_net.specs.Frames.{counter_of}
use Rattle.vl_ast.specs.declared.modules.Module.{Module}
use Rattle.vl_ast.specs.declared.modules.Port.{Port}
use Rattle.vl_ast.specs.Gated.{gated, gated_item, shows_enable}

-- how the parts of a netlist are named: the ports of its inputs, its nets, the registers that
-- bridges hold their values in, and the net that counts a frame
pub record Naming : Type 0 where
  pub port : ℕ → Wire
  pub net : ℕ → List ℕ
  pub hold : ℕ → List ℕ
  pub counter : Frame → ℕ

abbrev pub wire_of : Naming → (ℕ → Net) → ℕ → Wire
wire_of naming net k =
    record { name = naming.net k; width = (net k).width; signed = (net k).signed }

abbrev pub plain_number : ℕ → ℕ → Sized
plain_number width bits = record { width = width; signed = false; bits = bits }

abbrev pub constant : ℕ → ℤ → Sized
constant width number = plain_number width (bits_of width number)

-- a frame's counter beside a number
abbrev pub compares : BinOp → Wire → ℕ → Expr
compares op counter number =
    expression.Binary op (expression.Name counter.name)
    (expression.Literal (plain_number counter.width number))

-- whether it has this number
abbrev pub counts : Wire → ℕ → Expr
counts counter number = compares binary.Equal counter number

-- whether a clock is that of a slot; a slot past the frame never comes
abbrev pub slot_test : ℕ → Frame → Wire → ℕ → Expr
slot_test cycles frame counter slot =
    if nat_lt slot (frame.period * cycles) then counts counter
    (frame.period * cycles - 1 - slot) else zeros 1

abbrev pub live_test : ℕ → Frame → Wire → ℕ → Expr
live_test cycles frame counter live =
    compares binary.GreaterEqual counter ((frame.period - live) * cycles)

-- what drives net k
abbrev pub drivers : ℕ → Naming → (ℕ → Net) → ℕ → NetKind → List ModItem
drivers cycles naming net k (Comb op args) =
    item.Assign (naming.net k) (expression_of op naming.port
    (λ j. wire_of naming net (get_or args j 0)) (net k).width) ∷ []
drivers cycles naming net k (Unit left right) =
    item.Assign (naming.net k)
    (product (net k).width (wire_of naming net left) (wire_of naming net right)) ∷ []
drivers cycles naming net k (Counter frame) =
    item.Always (naming.net k) (plain_number (net k).width
    (frame.latency * cycles + (frame.period * cycles - 1))) None
    (expression.Choose (test_of (wire_of naming net k))
    (expression.Binary binary.Subtract (expression.Name (naming.net k))
    (expression.Literal (plain_number (net k).width 1)))
    (expression.Literal (plain_number (net k).width (frame.period * cycles - 1)))) ∷ []
drivers cycles naming net k (Reg frame slot first from) =
    item.Always (naming.net k) (constant (net k).width first)
    (Some (slot_test cycles frame (wire_of naming net (naming.counter frame)) slot))
    (expression.Name (naming.net from)) ∷ []
drivers cycles naming net k (EnReg frame enable true first from) =
    item.Always (naming.net k) (constant (net k).width first)
    (Some (slot_test cycles frame (wire_of naming net (naming.counter frame))
    (frame.period * cycles - 1)))
    (expression.Choose (test_of (wire_of naming net enable)) (expression.Name (naming.net from))
    (expression.Literal (constant (net k).width first))) ∷ []
drivers cycles naming net k (EnReg frame enable false first from) =
    item.Always (naming.net k) (constant (net k).width first)
    (Some (expression.Binary binary.Both (slot_test cycles frame
    (wire_of naming net (naming.counter frame)) (frame.period * cycles - 1))
    (test_of (wire_of naming net enable))))
    (expression.Name (naming.net from)) ∷ []
drivers cycles naming net k (Acc frame enable from) =
    item.Always (naming.net k) (constant (net k).width (pos 0))
    (Some (expression.Binary binary.Either (slot_test cycles frame
    (wire_of naming net (naming.counter frame)) (frame.period * cycles - 1))
    (test_of (wire_of naming net enable))))
    (expression.Choose (slot_test cycles frame (wire_of naming net (naming.counter frame))
    (frame.period * cycles - 1))
    (expression.Literal (constant (net k).width (pos 0)))
    (expression.Binary binary.Add (expression.Name (naming.net k))
    (expression.Name (naming.net from)))) ∷ []
drivers cycles naming net k (Bridge frame live from) =
    item.Assign (naming.net k) (expression.Choose
    (live_test cycles frame (wire_of naming net (naming.counter frame)) live)
    (expression.Name (naming.net from)) (expression.Name (naming.hold k)))
    ∷ item.Always (naming.hold k) (plain_number (net k).width 0) None
    (expression.Name (naming.net k)) ∷ []

-- what declares net k
abbrev pub declarers : Naming → (ℕ → Net) → ℕ → NetKind → List ModItem
declarers naming net k (Comb op args) = item.Wire (net k).signed (net k).width (naming.net k) ∷ []
declarers naming net k (Unit left right) =
    item.Wire (net k).signed (net k).width (naming.net k) ∷ []
declarers naming net k (Counter frame) = item.Reg (net k).signed (net k).width (naming.net k) ∷ []
declarers naming net k (Reg frame slot first from) =
    item.Reg (net k).signed (net k).width (naming.net k) ∷ []
declarers naming net k (EnReg frame enable reset first from) =
    item.Reg (net k).signed (net k).width (naming.net k) ∷ []
declarers naming net k (Acc frame enable from) =
    item.Reg (net k).signed (net k).width (naming.net k) ∷ []
declarers naming net k (Bridge frame live from) =
    item.Wire (net k).signed (net k).width (naming.net k)
    ∷ item.Reg (net k).signed (net k).width (naming.hold k) ∷ []

-- the drivers of units stand before the others, so that theirs are the first multiplications
abbrev pub unit_drivers : ℕ → Naming → (ℕ → Net) → ℕ → NetKind → List ModItem
unit_drivers cycles naming net k (Comb op args) = []
unit_drivers cycles naming net k (Unit left right) = drivers cycles naming net k (Unit left right)
unit_drivers cycles naming net k (Counter frame) = []
unit_drivers cycles naming net k (Reg frame slot first from) = []
unit_drivers cycles naming net k (EnReg frame enable reset first from) = []
unit_drivers cycles naming net k (Acc frame enable from) = []
unit_drivers cycles naming net k (Bridge frame live from) = []

abbrev pub other_drivers : ℕ → Naming → (ℕ → Net) → ℕ → NetKind → List ModItem
other_drivers cycles naming net k (Comb op args) = drivers cycles naming net k (Comb op args)
other_drivers cycles naming net k (Unit left right) = []
other_drivers cycles naming net k (Counter frame) = drivers cycles naming net k (Counter frame)
other_drivers cycles naming net k (Reg frame slot first from) =
    drivers cycles naming net k (Reg frame slot first from)
other_drivers cycles naming net k (EnReg frame enable reset first from) =
    drivers cycles naming net k (EnReg frame enable reset first from)
other_drivers cycles naming net k (Acc frame enable from) =
    drivers cycles naming net k (Acc frame enable from)
other_drivers cycles naming net k (Bridge frame live from) =
    drivers cycles naming net k (Bridge frame live from)

-- an output port shows its net
abbrev pub output_item : Naming → NetPort → ModItem
output_item naming port = item.Assign port.name (expression.Name (naming.net port.net))

-- declarations, then the drivers of units, then the other drivers, then the output ports
abbrev pub module_items : ℕ → ℕ → Naming → (ℕ → Net) → List NetPort → List ModItem
module_items cycles count naming net outputs =
    flat_map (λ k. declarers naming net k (net k).kind) (places count)
    ++ (flat_map (λ k. unit_drivers cycles naming net k (net k).kind) (places count)
    ++ (flat_map (λ k. other_drivers cycles naming net k (net k).kind) (places count)
    ++ map (output_item naming) outputs))

-- the names of a netlist
abbrev pub naming_of : Circuit → Naming
naming_of netlist = record {
  port = input_wire netlist;
  net = name_of netlist;
  hold = hold_name;
  counter = λ frame. unwrap_or (counter_of netlist.nets frame) 0;
}

-- the Counter of a frame
abbrev pub counter_wire : Circuit → Frame → Wire
counter_wire netlist frame = net_wire netlist (unwrap_or (counter_of netlist.nets frame) 0)

abbrev pub declarers_at : Circuit → ℕ → NetKind → List ModItem
declarers_at netlist k kind = declarers (naming_of netlist) (net_at netlist.nets) k kind

abbrev pub drivers_at : Circuit → ℕ → NetKind → List ModItem
drivers_at netlist k kind = drivers netlist.cycles (naming_of netlist) (net_at netlist.nets) k kind

abbrev pub units_at : Circuit → ℕ → NetKind → List ModItem
units_at netlist k kind =
    unit_drivers netlist.cycles (naming_of netlist) (net_at netlist.nets) k kind

abbrev pub others_at : Circuit → ℕ → NetKind → List ModItem
others_at netlist k kind =
    other_drivers netlist.cycles (naming_of netlist) (net_at netlist.nets) k kind

-- those of the first nets
abbrev pub first_declared : Circuit → ℕ → List ModItem
first_declared netlist n =
    flat_map (λ k. declarers_at netlist k (net_at netlist.nets k).kind) (places n)

abbrev pub first_units : Circuit → ℕ → List ModItem
first_units netlist n = flat_map (λ k. units_at netlist k (net_at netlist.nets k).kind) (places n)

abbrev pub items_of : Circuit → List ModItem
items_of netlist =
    module_items netlist.cycles (length netlist.nets) (naming_of netlist)
    (net_at netlist.nets) netlist.outputs

-- the ports but those of the clock enable
abbrev pub plain_ports : Circuit → List Port
plain_ports netlist =
    bit_input (codes "clk") ∷ bit_input (codes "reset")
    ∷ (input_ports netlist ++ output_ports netlist)

-- the module whose registers take their values in every clock
abbrev pub plain_module : Circuit → Module
plain_module netlist = record {
  name = codes "fx_model";
  attrs = attribute_of (codes "fx_cycles") netlist.cycles ∷ [];
  ports = plain_ports netlist;
  items = items_of netlist;
}

-- the same with the ports of the clock enable
abbrev pub opened_module : Circuit → Module
opened_module netlist = record {
  name = codes "fx_model";
  attrs = attribute_of (codes "fx_cycles") netlist.cycles ∷ [];
  ports = ports_of netlist;
  items = items_of netlist ++ shows_enable ∷ [];
}

-- the module whose registers stand still without the clock enable
abbrev pub module_of : Circuit → Module
module_of netlist = gated (opened_module netlist)

-- the drivers of the first nets, where they take their values with the clock enable alone
abbrev pub first_gated : Circuit → ℕ → List ModItem
first_gated netlist n =
    flat_map (λ k. map gated_item (others_at netlist k (net_at netlist.nets k).kind)) (places n)
