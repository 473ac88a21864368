use Rattle.std.proofs.Common.{◌++◌, refl, subst, sym}
use Rattle.vl_ast.specs.declared.modules.ModItem.{ModItem}
use Rattle.vl_ast.specs.Nets.{Declared, PlainWire, Register}
use Rattle.vl_hier.specs.inner.Nets.{AreNets, item_declared}
use Rattle.vl_hier.proofs.NetKeys.{ok-weaker}
use Rattle.vl_hier.proofs.nets.Nets.add_item.Goals as goal

pub returns-in-Wire : goal.returns-in-Wire
returns-in-Wire c = ok-weaker c.add.result
    (λ step declared are.
    let next : Declared = record { name = c.in-Wire.name; kind = PlainWire; net = record { width = c.in-Wire.width; signed = c.in-Wire.signed } } in
    subst (λ (i : ModItem). AreNets (declared ++ item_declared i) c.add.new.self) (sym c.in-Wire.is)
    (step declared next (sym c.bytes.ensures) refl refl are))
    c.add.ensures

pub returns-in-Reg : goal.returns-in-Reg
returns-in-Reg c = ok-weaker c.add-in-Reg.result
    (λ step declared are.
    let next : Declared = record { name = c.in-Reg.name; kind = Register; net = record { width = c.in-Reg.width; signed = c.in-Reg.signed } } in
    subst (λ (i : ModItem). AreNets (declared ++ item_declared i) c.add-in-Reg.new.self) (sym c.in-Reg.is)
    (step declared next (sym c.bytes-in-Reg.ensures) refl refl are))
    c.add-in-Reg.ensures
