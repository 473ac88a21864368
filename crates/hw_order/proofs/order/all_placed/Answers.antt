use Rattle.std.proofs.Common.{below_more, arith}
use Rattle.std.proofs.lemmas.Grind.{get_or_default_zero}
use Rattle.hw_order.proofs.order.all_placed.Goals as goal

pub loop-read-preserved : goal.loop-read-preserved
loop-read-preserved c = below_more _ _ c.loop-read.invariant (c.is_placed.ensures.yes c.if-not-is_placed.false)

pub returns-clause-yes : goal.returns-clause-yes
returns-clause-yes c = λ _ k d within. rw (get_or_default_zero c.args.reads.now k d within) (c.loop-read.invariant k (omega arith))
