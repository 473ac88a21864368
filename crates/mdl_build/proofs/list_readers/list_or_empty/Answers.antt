use Rattle.std.proofs.Common.{[], inl, inr, refl, sym, ◌∙◌}
use Rattle.mdl_build.specs.declared.library.Reader.{Reader}
use Rattle.mdl_build.specs.Settings.{ReadsAs}
use Rattle.mdl_build.proofs.Readings.{ok_found_same, differ_by_not, same_by_not}
use Rattle.mdl_build.proofs.Zeros.{zero_alone}
use Rattle.mdl_build.proofs.list_readers.list_or_empty.Goals as goal

pub returns-then-ne : goal.returns-then-ne
returns-then-ne c =
    ok_found_same (ReadsAs [] Reader.List [] c.args.text.now) (ReadsAs [] Reader.ListOrEmpty [] c.args.text.now) c.list.result
    (λ setting given. (given.0, inr given.1, given.2))
    (λ setting given. elim given.1 [
      | inl word ↦ absurd (differ_by_not c.args.text.now c.as_slice.result.now c.if-ne.ensures (word.0 ∙ sym c.as_slice.ensures))
      | inr list ↦ (given.0, list, given.2)
    ])
    c.list.ensures

pub returns : goal.returns
returns c =
    (c.push.new.self, inl (same_by_not c.args.text.now c.as_slice.result.now c.if-ne.ensures ∙ c.as_slice.ensures, c.in_ok-push.ensures.appended ∙ zero_alone _ _ _ _ c.new-zero.ensures), refl)
