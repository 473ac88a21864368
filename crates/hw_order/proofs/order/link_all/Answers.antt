use Rattle.std.proofs.Common.{below_more, arith, slice_index}
use Rattle.std.proofs.lemmas.Grind.{get_or_default_zero}
use Rattle.hw_order.proofs.NetOrder.{grows-trans}
use Rattle.hw_order.proofs.order.link_all.Goals as goal

pub loop-read-preserved : goal.loop-read-preserved
loop-read-preserved c = record {
  grows = grows-trans c.args.readers.now c.loop-read.readers c.link.new.readers c.loop-read.invariant.grows c.in_ok-link.ensures.grows;
  knows = below_more _ _ (λ j h. c.in_ok-link.ensures.grows.each (slice_index c.args.reads.now j) c.args.reader (c.loop-read.invariant.knows j h)) c.in_ok-link.ensures.knows;
}

pub returns-clause-knows : goal.returns-clause-knows
returns-clause-knows c = λ k d within. rw (get_or_default_zero c.args.reads.now k d within) (c.loop-read.invariant.knows k (omega arith))
