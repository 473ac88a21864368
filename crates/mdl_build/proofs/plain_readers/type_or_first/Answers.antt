use Rattle.std.proofs.Common.{inl, inr}
use Rattle.fx_type.specs.declared.spec.TypeSpec.TheVariants.{Internal}
use Rattle.mdl_build.specs.Settings.{IsTypeOr, IsTypeOrFirst}
use Rattle.mdl_build.proofs.Readings.{found_same, differ}
use Rattle.mdl_build.proofs.plain_readers.type_or_first.Goals as goal

pub returns-else-eq : goal.returns-else-eq
returns-else-eq c =
    found_same (IsTypeOr c.args.default.now Internal c.args.text.now) (IsTypeOrFirst c.args.default.now c.args.first.now c.args.text.now) c.type_or.result
    (λ setting given. inr given)
    (λ setting either. elim either [
      | inl word ↦ absurd (differ c.args.text.now c.args.first.now c.if-eq.ensures word.text_is)
      | inr given ↦ given
    ])
    c.type_or.ensures
