use Rattle.std.proofs.lemmas.Result.{on_ok_weaker}
use Rattle.hw_latency.proofs.ArcLists.{control_inside, put_none, put_some}
use Rattle.hw_latency.proofs.arcs.put_control.Goals as goal

pub put_arc-requires-clause-from : goal.put_arc-requires-clause-from
put_arc-requires-clause-from c = control_inside c.args.checked.now.diagram c.args.place c.in-Some.control
    c.block_at-block.result.now c.control_of.result c.keeps_rules.ensures.checked.wired c.block_at-block.ensures
    c.control_of.ensures c.in-Some.is

pub returns-in_default : goal.returns-in_default
returns-in_default c = put_none c.args.checked.now.diagram c.args.plan.now c.args.fed.now c.args.arcs.now.items
    c.args.place c.block_at-block.result.now c.control_of.result c.block_at-block.ensures c.control_of.ensures
    c.in_default.is

pub returns : goal.returns
returns c =
    on_ok_weaker c.put_arc.result
    (λ put. put_some c.args.checked.now.diagram c.args.plan.now c.args.fed.now c.args.arcs.now.items
    c.put_arc.new.arcs.items c.args.place c.in-Some.control c.block_at-block.result.now c.control_of.result
    c.block_at-block.ensures c.control_of.ensures c.in-Some.is put)
    c.put_arc.ensures
