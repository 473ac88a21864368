use Rattle.std.proofs.Common.{rules, of_calls}
use Rattle.std.specs.Prelude.{nat_lt}
use Rattle.std.proofs.lemmas.Fn.{always_returns_same}
use Rattle.dg_model.specs.declared.diagram.Edge.{Edge}
use Rattle.hw_sched.proofs.BlockDepths.{parted, first_is}
use Rattle.hw_sched.proofs.lines.first_into.Goals as goal

pub returns : goal.returns
returns c =
    let point = c.partition_point.ensures.partitioned (λ (edge : Edge). nat_lt edge.to c.args.block)
    (always_returns_same _ _ _ (λ a r f k. search (rules, of_calls)))
    (parted c.args.edges.now c.args.block c.requires) in
    first_is c.args.edges.now c.args.block c.partition_point.result c.partition_point.ensures.bound point
