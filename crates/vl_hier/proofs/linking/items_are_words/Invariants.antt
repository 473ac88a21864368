use Rattle.std.proofs.Common.{◌≡◌, take}
use Rattle.std.specs.List.{list_all}
use Rattle.vl_hier.specs.inner.Tests.{item_is_word}
use Rattle.vl_hier.proofs.linking.items_are_words.Given as goal

abbrev pub invariant-loop-item : goal.invariant-loop-item
invariant-loop-item l = l.words ≡ list_all (item_is_word l.head) (take l.item-index l.items)
