use Rattle.std.proofs.Common.{inl, inr}
use Rattle.mdl_build.proofs.Readings.{differ}
use Rattle.mdl_build.proofs.plain_readers.tap_type.Goals as goal

pub returns-in-None : goal.returns-in-None
returns-in-None c = λ setting given. elim given [
  | inl word ↦ absurd (differ c.args.text.now c.args.default.now c.if-eq.ensures word.0)
  | inr type ↦ c.in-None.ensures type.0 type.1
]
