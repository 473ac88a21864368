use Rattle.std.proofs.Common.{ap, refl, set, ◌∙◌}
use Rattle.vl_eval.specs.declared.plan.Capture.{Capture}
use Rattle.vl_eval.specs.inner.Order.{moved, moved_capture}
use Rattle.vl_eval.proofs.LoopLists.{all-moved, one-moved}
use Rattle.vl_eval.proofs.arranging.move_captures.Goals as goal

pub loop-k-init : goal.loop-k-init
loop-k-init c = refl

pub loop-k-preserved : goal.loop-k-preserved
loop-k-preserved c =
    let f = moved_capture (moved c.args.base c.args.places.now) in
    ap (λ (capture : Capture). set c.loop-k.captures c.loop-k.k capture) (λ i. record { from = c.new_place.ensures i; to = c.new_place-in-loop-k.ensures i })
    ∙ one-moved f c.args.captures.now c.loop-k.captures c.loop-k.k _ c.loop-k-test.true c.loop-k.invariant

pub returns : goal.returns
returns c = c.loop-k.invariant ∙ all-moved (moved_capture (moved c.args.base c.args.places.now)) c.args.captures.now c.loop-k.k c.loop-k-test.false
