-- How many elements a value has (own).
use Rattle.std.specs.Prelude.{◌≡◌, ℕ, List, Option, Some, length}
use Rattle.dg_model.specs.KindRow.{IsBetween}

-- these elements, of which there are so many
pub record AreSized (elements : Option (List (List ℕ))) (least most : ℕ)
    (texts : List (List ℕ)) : Type 0 where
  pub are : elements ≡ Some texts
  pub size : IsBetween least most (length texts)
