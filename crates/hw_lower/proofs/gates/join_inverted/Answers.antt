use Rattle.std.proofs.Common.{◌≡◌, ◌-ℤ◌, ℤ, pos, not, ap, ◌∙◌}
use Rattle.dg_model.specs.Operation.{stored_truth}
use Rattle.hw_lower.specs.inner.Spread.{OfArguments, truth_of}
use Rattle.hw_lower.proofs.StepChains.{made-then}
use Rattle.hw_lower.proofs.Truths.{not-truth}
use Rattle.hw_lower.proofs.gates.join_inverted.Goals as goal

pub returns : goal.returns
returns c =
    made-then (λ numbers. OfArguments c.args.types.now numbers
    (λ values. numbers c.inverse.result.place ≡ stored_truth (not (truth_of c.args.joining values))))
    c.join_all-bit.ensures c.inverse.ensures
    (λ numbers has later p q values are. q ∙ ap (λ (z : ℤ). pos 1 -ℤ z) (p values are) ∙ not-truth (truth_of c.args.joining values))
