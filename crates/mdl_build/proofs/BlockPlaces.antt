-- The places of blocks, and their numbers.
use Rattle.std.proofs.Common.{◌≡◌, ℕ, ◌<◌, true, List, length, Option, Some, get_or, sym, ap, ◌∙◌, arith}
use Rattle.std.specs.Prelude.{slice_get}
use Rattle.std.specs.Option.{unwrap_or}
use Rattle.std.proofs.lemmas.Option.{slice_get-get_or}
use Rattle.mdl_text.specs.declared.tree.Item.{Item}
use Rattle.mdl_build.specs.Blocks.{number_at}
use Rattle.mdl_build.specs.Roles.{role_of, is_block, blocks_of}
use Rattle.mdl_build.proofs.Ranges.{kept_within, place_found}

-- the block of a number
pub record IsBlockOf (items : List Item) (number place : ℕ) : Type 0 where
  pub within : place < length items
  pub counts : is_block (role_of items place) ≡ true
  pub number_is : number_at items place ≡ number

pub block_of : (items : List Item) (number place : ℕ) → slice_get (blocks_of items) number ≡ Some place → IsBlockOf items number place
block_of items number place at =
    let h = kept_within (λ (other : ℕ). is_block (role_of items other)) 0 (length items) number place at in
    record {
      within = omega (arith, h.1);
      counts = h.2;
      number_is = ap (λ (found : Option ℕ). unwrap_or found 0) (place_found (λ (other : ℕ). is_block (role_of items other)) (length items) number place at);
    }

-- the same, of the list that the code keeps
pub listed : (items : List Item) (places : List ℕ) (number d : ℕ) → places ≡ blocks_of items → number < length places → slice_get (blocks_of items) number ≡ Some (get_or places number d)
listed items places number d e below = ap (λ (list : List ℕ). slice_get list number) (sym e) ∙ slice_get-get_or places number d below

pub block_here : (items : List Item) (places : List ℕ) (number d : ℕ) → places ≡ blocks_of items → number < length places → IsBlockOf items number (get_or places number d)
block_here items places number d e below = block_of items number (get_or places number d) (listed items places number d e below)
