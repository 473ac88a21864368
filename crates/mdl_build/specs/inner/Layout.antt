-- What the code keeps of the items of a tree.
use Rattle.std.specs.Prelude.{ℕ, zero, suc, ◌+◌, nat_lt, List, drop, Option, Some, None, map}
use Rattle.std.specs.List.{prefix_len}
use Rattle.mdl_text.specs.declared.tree.Item.{Item}
use Rattle.mdl_build.specs.Sections.{places_of, depth_at, holder_of}

-- of each item the last one before it that is less deep
abbrev pub holders_of : List Item → List (Option ℕ)
holders_of items = map (holder_of items) (places_of items)

-- the first place behind an item of this depth that holds one that isn't deeper
abbrev pub end_behind : List Item → ℕ → ℕ → ℕ
end_behind items depth place =
    place + prefix_len (λ item. nat_lt depth item.depth) (drop place items)

-- the end of what the item at a place holds
abbrev pub end_of : List Item → ℕ → ℕ
end_of items place = end_behind items (depth_at items place) (suc place)

abbrev pub ends_of : List Item → List ℕ
ends_of items = map (end_of items) (places_of items)

-- the depth above one
abbrev pub depth_below : ℕ → Option ℕ
depth_below zero = None
depth_below (suc depth) = Some depth
