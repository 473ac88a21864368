use Rattle.std.proofs.Common.{rules, ◌^◌, ◌<◌, []}
use Rattle.hw_net.specs.declared.netlist.NetKind.TheVariants.{Comb}
use Rattle.hw_net.specs.declared.netlist.NetOp.TheVariants.{Resize}
use Rattle.hw_build.proofs.ElementEntries.{typed_net}
use Rattle.hw_build.proofs.HubSteps.{fresh_one, fresh_then}
use Rattle.hw_build.proofs.hubs.put_port.Goals as goal

pub loop-element-preserved : goal.loop-element-preserved
loop-element-preserved c =
    let fits : c.in_ok-number.number < 2 ^ 32 = search rules in
    let grown = typed_net c.loop-element.net c.put_comb.new.net c.word_of.result c.args.kind (Comb Resize []) c.word_of.ensures c.in_ok-number.ensures.grown in
    fresh_then c.args.net.now c.loop-element.net c.put_comb.new.net c.loop-element.element 1 c.args.kind
    c.loop-element.invariant (fresh_one c.loop-element.net c.put_comb.new.net c.in_ok-number.number c.args.kind
    c.in_ok-number.ensures.number fits grown)
