use Rattle.std.proofs.Common.{ℕ, ap, refl, set, ◌∙◌}
use Rattle.vl_eval.specs.inner.Order.{moved}
use Rattle.vl_eval.proofs.LoopLists.{all-moved, one-moved}
use Rattle.vl_eval.proofs.arranging.move_slots.Goals as goal

pub loop-k-init : goal.loop-k-init
loop-k-init c = refl

pub loop-k-preserved : goal.loop-k-preserved
loop-k-preserved c =
    ap (λ (place : ℕ). set c.loop-k.slots c.loop-k.k place) c.new_place.ensures
    ∙ one-moved (moved c.args.base c.args.places.now) c.args.slots.now c.loop-k.slots c.loop-k.k 0 c.loop-k-test.true c.loop-k.invariant

pub returns : goal.returns
returns c = c.loop-k.invariant ∙ all-moved (moved c.args.base c.args.places.now) c.args.slots.now c.loop-k.k c.loop-k-test.false
