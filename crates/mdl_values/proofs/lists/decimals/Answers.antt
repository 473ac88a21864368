use Rattle.std.proofs.Common.{◌≡◌, ℕ, List, [], get_or, subst, sym, ◌∙◌}
use Rattle.std.proofs.lemmas.List.{get_or_default}
use Rattle.fx_round.specs.DecimalText.{IsDecimal}
use Rattle.mdl_values.proofs.ListLemmas.{all_read, one_unread}
use Rattle.mdl_values.proofs.ZipLemmas.{zip_more}
use Rattle.mdl_values.proofs.lists.decimals.Goals as goal

pub returns-in_default : goal.returns-in_default
returns-in_default c =
    one_unread IsDecimal c.as_slice-texts.result.now c.args.elements.now c.loop-element.element-index c.bytes.result.now c.as_slice-texts.ensures c.loop-element-test.true
    (get_or_default c.as_slice-texts.result.now c.loop-element.element-index [] c.element-item.result c.loop-element-test.true ∙ sym c.element-item.is ∙ sym c.bytes.ensures) c.in_default.ensures

pub loop-element-preserved : goal.loop-element-preserved
loop-element-preserved c =
    let here : get_or c.as_slice-texts.result.now c.loop-element.element-index [] ≡ c.bytes.result.now =
    get_or_default c.as_slice-texts.result.now c.loop-element.element-index [] c.element-item.result c.loop-element-test.true ∙ sym c.element-item.is ∙ sym c.bytes.ensures in
    λ more rest. rw c.in_ok-push.ensures.appended
    (zip_more IsDecimal c.as_slice-texts.result.now c.loop-element.list c.loop-element.element-index [] c.in-Some.value c.loop-element-test.true
    (subst (λ (t : List ℕ). IsDecimal t c.in-Some.value) (sym here) c.in-Some.ensures) c.loop-element.invariant more rest)

pub returns : goal.returns
returns c =
    all_read IsDecimal c.as_slice-texts.result.now c.args.elements.now c.loop-element.list c.loop-element.element-index c.as_slice-texts.ensures c.loop-element-test.false c.loop-element.invariant
