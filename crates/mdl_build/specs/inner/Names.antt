-- The blocks of a tree and the numbers of their names, as the code keeps them (own).
use Rattle.std.specs.Prelude.{◌≡◌, ℕ, ◌≤◌, ◌==◌, ◌&&◌, Bool, false, List, Option, Some, None, filter, position, length, bytes_eq}
use Rattle.std.specs.Borrow.{Bor}
use Rattle.std.specs.List.{range_with_len}
use Rattle.std.specs.declared.cmp.Ordering.{Ordering}
use Rattle.std.specs.BTreeMap.{get}
use Rattle.std.specs.Cmp.Lexicographic.{slice_cmp}
use Rattle.std.specs.Ordering.{nat_cmp, then_cmp, on}
use Rattle.dg_model.specs.Limits.{most_blocks}
use Rattle.mdl_text.specs.declared.tree.Item.{Item}
use Rattle.mdl_build.specs.declared.names.Blocks.{Blocks}
use Rattle.mdl_build.specs.Blocks.{is_named_in}
use Rattle.mdl_build.specs.Roles.{role_of, is_block, blocks_of}

-- the place of a System, and a name in it
abbrev pub Key : Type 0
Key = ℕ × Bor (List ℕ)

-- the key has this name in the System at a place
abbrev pub matches : ℕ → List ℕ → Option Key → Bool
matches system name None = false
matches system name (Some key) = (key.0 == system) && bytes_eq key.1.now name

-- the key of the block at a place
abbrev pub IsKeyAt : List Item → ℕ → Option Key → Type 0
IsKeyAt items place key =
    (system : ℕ) (name : List ℕ) → is_named_in items system name place ≡ matches system name key

-- two keys are equal
abbrev pub key_eq : Key → Key → Bool
key_eq key other = (key.0 == other.0) && bytes_eq key.1.now other.1.now

-- the order in which a map has its keys
abbrev pub compare_keys : Key → Key → Ordering
compare_keys =
    then_cmp (on (λ (key : Key). key.0) nat_cmp)
    (on (λ (key : Key). key.1) (λ one other. slice_cmp nat_cmp one.now other.now))

-- of each name the number of the first block that has it
abbrev pub AreNumbered : List Item → Blocks → Type 0
AreNumbered items blocks =
    (key : Key)
    → get compare_keys blocks.numbers key
    ≡ position (is_named_in items key.0 key.1.now) blocks.places.items

-- the blocks before a place
abbrev pub blocks_before : List Item → ℕ → List ℕ
blocks_before items place =
    filter (λ other. is_block (role_of items other)) (range_with_len 0 place)

-- the blocks of the tree, and the numbers of their names
pub record AreBlocks (items : List Item) (blocks : Blocks) : Type 0 where
  pub places : blocks.places.items ≡ blocks_of items
  pub numbers : AreNumbered items blocks
  pub few : length (blocks_of items) ≤ most_blocks
