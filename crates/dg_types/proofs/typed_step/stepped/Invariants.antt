use Rattle.std.proofs.Common.{◌≡◌, drop}
use Rattle.dg_model.specs.TypeRounds.{stepped}
use Rattle.dg_types.proofs.typed_step.stepped.Given as goal

abbrev pub invariant-loop-negative : goal.invariant-loop-negative
invariant-loop-negative l = stepped l.accum (drop l.negative-index l.terms) ≡ stepped l.accum l.terms
