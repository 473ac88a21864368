use Rattle.dg_types.specs.inner.Build.{all_forms}
use Rattle.dg_types.proofs.WidthRounds.{can_link}
use Rattle.dg_types.proofs.TypeRounds.{are_ready, full_types_are}
use Rattle.dg_types.proofs.typed_round.round_of.Goals as goal

pub width_round-requires-clause-can : goal.width_round-requires-clause-can
width_round-requires-clause-can c = can_link c.args.diagram.now c.requires

pub invariant_of-result : goal.invariant_of-result
invariant_of-result c = record {
  ready = rw c.as_slice.ensures (are_ready c.args.diagram.now
      (all_forms c.in_ok-links.links.blocks.now) c.in_ok-links.links.sources c.requires c.in_ok-links.ensures.size
      c.in_ok-links.ensures.mirrors);
  valid = full_types_are c.full_sum_is_one.ensures c.union_is_one.ensures;
}
