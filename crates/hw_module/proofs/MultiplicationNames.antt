-- The multiplications of a built module have their names.
use Rattle.std.proofs.Common.{◌≡◌, ap, ◌∙◌, subst}
use Rattle.std.proofs.lemmas.Option.{get_or_from_slice_get}
use Rattle.dg_model.specs.declared.diagram.Diagram.{Diagram}
use Rattle.dg_model.specs.declared.resolved.Resolved.{Resolved}
use Rattle.vl_ast.specs.declared.modules.Module.{Module}
use Rattle.vl_ast.specs.Items.{IsWire}
use Rattle.hw_build.specs.Multiplied.{multiplication_name, AreMultiplied}
use Rattle.hw_net.specs.declared.netlist.Net.{Net}
use Rattle.hw_net.specs.declared.netlist.NetOp.TheVariants.{Multiply}
use Rattle.hw_net.specs.declared.netlist.NetKind.TheVariants.{Comb}
use Rattle.hw_net.specs.Circuit.{Circuit}
use Rattle.vl_emit.specs.Items.{IsMultiplied}
use Rattle.hw_net.specs.Products.{net_at}
use Rattle.hw_module.specs.Serves.{NamesMultiplications}
use Rattle.hw_module.specs.inner.Emission.{IsEmissionOf}
use Rattle.hw_module.proofs.Lists.{get-below}

pub names-multiplications : {diagram : Diagram} {plan : Resolved} {netlist : Circuit} {m : Module} → AreMultiplied diagram plan netlist → IsEmissionOf netlist m → NamesMultiplications m diagram plan
names-multiplications {diagram} {plan} {netlist} {m} are made block element there multiplies apart below =
    let x = are.each block element there multiplies apart below in
    let same : net_at netlist.nets x.number ≡ x.net = get_or_from_slice_get netlist.nets x.number x.net _ x.is in
    let kind : (net_at netlist.nets x.number).kind ≡ Comb Multiply x.args = ap (λ (net : Net). net.kind) same ∙ x.multiplies in
    let called = made.labels.are (record { net = x.number; name = multiplication_name block element }) x.named in
    let there = get-below netlist.nets x.number x.net x.is in (
      subst (IsWire m) called (record { signed = _; width = _; there = made.items.wires x.number there Multiply x.args kind }),
      subst (IsMultiplied m) called (made.items.products x.number there x.args kind),
    )
