-- The sections of a tree, and what stands in each (Simulink reference, model files; which of two
-- counts is own). An item is named by its place in the tree, from 0.
use Rattle.std.specs.Prelude.{ℕ, zero, suc, ◌==◌, ◌&&◌, nat_lt, Bool, true, false, List, [], ◌∷◌, length, drop, Option, Some, None, slice_index_or, bytes_eq, if◌then◌else◌}
use Rattle.std.specs.List.{range_with_len}
use Rattle.mdl_text.specs.declared.tree.Item.{Item}
use Rattle.mdl_text.specs.declared.tree.Value.{Value}
use Rattle.mdl_text.specs.declared.tree.Value.TheVariants.{Section, Bare, List as Brackets, Quoted}

-- the places of all items
abbrev pub places_of : List Item → List ℕ
places_of items = range_with_len 0 (length items)

-- the first, where there is one, else the other
abbrev pub first_of : {A : Type 0} → Option A → Option A → Option A
first_of None other = other
first_of (Some value) other = Some value

-- the content of a parameter, whichever form it has
abbrev pub content_of : Value → Option (List ℕ)
content_of Section = None
content_of (Bare content) = Some content
content_of (Brackets content) = Some content
content_of (Quoted content) = Some content

-- the item at a place; past the end one that is no more than a name of no bytes
abbrev pub item_at : List Item → ℕ → Item
item_at items place = slice_index_or items place (record { depth = 0; name = []; value = Section })

-- the depth of the item at a place
abbrev pub depth_at : List Item → ℕ → ℕ
depth_at items place = (item_at items place).depth

-- whether a value is that of a section
abbrev pub opens : Value → Bool
opens Section = true
opens (Bare content) = false
opens (Brackets content) = false
opens (Quoted content) = false

-- the item at a place is a section of this name
abbrev pub is_section_at : List Item → ℕ → List ℕ → Bool
is_section_at items place name =
    opens (item_at items place).value && bytes_eq (item_at items place).name name

-- of so many items at the front, the last one that is less deep
abbrev pub last_above : List Item → ℕ → ℕ → Option ℕ
last_above items depth zero = None
last_above items depth (suc place) =
    if nat_lt (depth_at items place) depth then Some place else last_above items depth place

-- the last item before a place that is less deep: the section that the item stands in, if that is
-- one less deep
abbrev pub holder_of : List Item → ℕ → Option ℕ
holder_of items place = last_above items (depth_at items place) place

-- what an item says of a parameter, where it stands at this depth and has its name
abbrev pub said_at : ℕ → List ℕ → Item → Option (List ℕ)
said_at depth name item =
    if (item.depth == depth) && bytes_eq item.name name then content_of item.value else None

-- the first value of a parameter among these items, as far as they are deeper than a section
abbrev pub value_within : ℕ → List ℕ → List Item → Option (List ℕ)
value_within depth name [] = None
value_within depth name (item ∷ items) =
    if nat_lt depth item.depth
    then first_of (said_at (suc depth) name item) (value_within depth name items) else None

-- the value of a parameter that stands directly in the section at a place; of two with one name the
-- first counts
abbrev pub value_of : List Item → ℕ → List ℕ → Option (List ℕ)
value_of items place name = value_within (depth_at items place) name (drop (suc place) items)
