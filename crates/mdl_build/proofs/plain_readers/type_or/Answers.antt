use Rattle.std.proofs.Common.{inl, inr}
use Rattle.mdl_build.specs.Settings.{IsTypeOr, IsGivenType}
use Rattle.mdl_build.proofs.Readings.{found_same, differ}
use Rattle.mdl_build.proofs.plain_readers.type_or.Goals as goal

pub returns-else-eq : goal.returns-else-eq
returns-else-eq c =
    found_same (IsGivenType c.args.text.now) (IsTypeOr c.args.word.now c.args.choice c.args.text.now) c.type_alone.result
    (λ setting given. inr given)
    (λ setting either. elim either [
      | inl word ↦ absurd (differ c.args.text.now c.args.word.now c.if-eq.ensures word.text_is)
      | inr given ↦ given
    ])
    c.type_alone.ensures
