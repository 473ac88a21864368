use Rattle.std.proofs.Common.{inl, inr}
use Rattle.mdl_build.proofs.list_readers.parts.Goals as goal

pub returns-in-None : goal.returns-in-None
returns-in-None c = λ value given. elim given.1.1 [
  | inl number ↦ c.in_default.ensures given.0 number.0
  | inr sizes ↦ (rw c.in-None.is at c.in_ok-read_sizes.ensures) given.1.0 sizes.0
]
