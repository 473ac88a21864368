use Rattle.std.proofs.Common.{[], sym, ◌∙◌}
use Rattle.std.proofs.lemmas.List.{get_or_default}
use Rattle.mdl_values.specs.Lists.{IsSizeText}
use Rattle.mdl_values.proofs.ListLemmas.{all_read, one_unread}
use Rattle.mdl_values.proofs.lists.sizes.Goals as goal

pub returns-in_default : goal.returns-in_default
returns-in_default c =
    one_unread IsSizeText c.as_slice-texts.result.now c.args.elements.now c.loop-element.element-index c.bytes.result.now c.as_slice-texts.ensures c.loop-element-test.true
    (get_or_default c.as_slice-texts.result.now c.loop-element.element-index [] c.element-item.result c.loop-element-test.true ∙ sym c.element-item.is ∙ sym c.bytes.ensures) c.in_default.ensures

pub returns : goal.returns
returns c =
    all_read IsSizeText c.as_slice-texts.result.now c.args.elements.now c.loop-element.list c.loop-element.element-index c.as_slice-texts.ensures c.loop-element-test.false c.loop-element.invariant
