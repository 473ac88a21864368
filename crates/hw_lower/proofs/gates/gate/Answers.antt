use Rattle.std.proofs.Common.{◌≡◌, ◌∙◌, ap}
use Rattle.dg_model.specs.Operation.{stored_truth, gate_of}
use Rattle.dg_model.specs.declared.kind.Gate.TheVariants.{Nxor}
use Rattle.hw_lower.specs.inner.Spread.{OfArguments}
use Rattle.hw_lower.proofs.StepChains.{made-map}
use Rattle.hw_lower.proofs.GateArguments.{even-is}
use Rattle.hw_lower.proofs.gates.gate.Goals as goal

pub returns-in-Nxor : goal.returns-in-Nxor
returns-in-Nxor c =
    rw c.in-Nxor.is
    (made-map (λ numbers. OfArguments c.args.types.now numbers (λ values. numbers c.join_inverted-in-Nxor.result.place ≡ stored_truth (gate_of Nxor values))) c.join_inverted-in-Nxor.ensures
    (λ numbers has p values are. p values are ∙ ap stored_truth (even-is values)))
