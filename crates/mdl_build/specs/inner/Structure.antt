-- How many Systems stand in each section, and what is known of a block, as the code finds them
-- (own).
use Rattle.std.specs.Prelude.{◌≡◌, ℕ, ◌<◌, List, length, count_by, slice_index}
use Rattle.std.specs.List.{range_with_len}
use Rattle.mdl_text.specs.declared.tree.Item.{Item}
use Rattle.mdl_build.specs.declared.roles.Role.{Role}
use Rattle.mdl_build.specs.Blocks.{number_at}
use Rattle.mdl_build.specs.Roles.{role_of}
use Rattle.mdl_build.specs.Rules.{is_system_in}
use Rattle.mdl_build.specs.Sections.{places_of}

-- of each section how many Systems before a place stand directly in it
pub record AreCounts (items : List Item) (counts : List ℕ) (place : ℕ) : Type 0 where
  pub long : length counts ≡ length items
  pub each : (holder : ℕ) → holder < length items
      → slice_index counts holder ≡ count_by (is_system_in items holder) (range_with_len 0 place)

-- of the block of this number its place, what it is, and how many Systems stand directly in it
pub record IsFoundBlock (items : List Item) (number place : ℕ) (role : Role)
    (systems : ℕ) : Type 0 where
  pub within : place < length items
  pub number_is : number_at items place ≡ number
  pub role_is : role_of items place ≡ role
  pub systems_are : systems ≡ count_by (is_system_in items place) (places_of items)
