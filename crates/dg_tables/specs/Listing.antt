-- The blocks of root elements (own).
use Rattle.std.specs.Prelude.{◌≡◌, ℕ, List, map}
use Rattle.dg_model.specs.RootElements.{RootElement}

-- these are the blocks of the elements, one for each
abbrev pub AreBlocksOf : List RootElement → List ℕ → Type 0
AreBlocksOf elements blocks = blocks ≡ map (λ element. element.block) elements
