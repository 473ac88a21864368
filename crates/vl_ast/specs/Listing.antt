-- A list that grows at its end (own).
use Rattle.std.specs.Prelude.{◌≡◌, false, List, ◌++◌}
use Rattle.vl_ast.specs.declared.making.Listing.{Listing}

-- these stand behind what was there, unless memory was wanting
pub record Lists {A : Type 0} (before after : Listing A) (more : List A) : Type 0 where
  pub whole : after.wanting ≡ false → (before.wanting ≡ false)
      × (after.list ≡ before.list ++ more)

-- this is all that is there, unless memory was wanting
pub record Holds {A : Type 0} (listing : Listing A) (all : List A) : Type 0 where
  pub whole : listing.wanting ≡ false → listing.list ≡ all
