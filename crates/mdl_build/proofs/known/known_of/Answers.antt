use Rattle.std.proofs.Common.{List, Bool, true, subst, ◌∙◌}
use Rattle.mdl_text.specs.declared.tree.Item.{Item}
use Rattle.mdl_build.specs.inner.ItemFacts.{AreLarge, IsFound}
use Rattle.mdl_build.proofs.known.known_of.Goals as goal

pub find_blocks-requires-clause-none : goal.find_blocks-requires-clause-none
find_blocks-requires-clause-none c = (c.none.ensures c.in_ok-layout.layout.items.now).0

pub find_blocks-requires-clause-numbered : goal.find_blocks-requires-clause-numbered
find_blocks-requires-clause-numbered c = (c.none.ensures c.in_ok-layout.layout.items.now).1

pub returns-in-Ok-true : goal.returns-in-Ok-true
returns-in-Ok-true c =
    subst (λ (its : List Item). IsFound its true c.find_blocks.new.self) c.in_ok-layout.ensures
    (subst (λ (kept : Bool). IsFound c.in_ok-layout.layout.items.now kept c.find_blocks.new.self) c.in-Ok-true.field-0-test c.in-Ok-true.ensures)

pub returns-in-Ok-false : goal.returns-in-Ok-false
returns-in-Ok-false c =
    subst AreLarge c.in_ok-layout.ensures
    (record { extents = c.find_blocks.new.self.extents.items; are_extents = c.in-Ok-false.ensures.extents; not_kept = c.in-Ok-false.ensures.kept_is ∙ c.in-Ok-false.field-0-test })
