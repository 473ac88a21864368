use Rattle.std.proofs.Common.{◌≡◌, pos, ap, ◌∙◌}
use Rattle.hw_lower.specs.inner.PlanSteps.{bit_of}
use Rattle.hw_lower.proofs.StepChains.{made-map}
use Rattle.hw_lower.proofs.LowBits.{one-bit}
use Rattle.hw_lower.proofs.bits.bit_within.Goals as goal

pub returns : goal.returns
returns c =
    made-map (λ numbers. numbers c.slice.result.place ≡ pos (bit_of (numbers c.args.from.place) c.args.place)) (rw c.bit_word.ensures at c.slice.ensures)
    (λ numbers has p. p ∙ ap pos (one-bit c.args.place (numbers c.args.from.place)))
