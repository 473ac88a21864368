-- Blocks that are marked one after another along an order (own).
use Rattle.std.specs.Prelude.{◌≡◌, ◌⊎◌, ℕ, ◌<◌, Bool, true, false, List, length, Some, slice_get}
use Rattle.dg_model.specs.declared.diagram.Diagram.{Diagram}
use Rattle.dg_model.specs.declared.resolved.Resolved.{Resolved}
use Rattle.dg_model.specs.Attributes.{attributes_of}
use Rattle.dg_model.specs.Loop.{IsOrder}
use Rattle.dg_model.specs.Signals.{Attributes}
use Rattle.hw_latency.specs.Cone.{IsFed, is_marked}
use Rattle.hw_latency.specs.Shared.{is_shared}

-- a block of the row is marked
pub record IsAnyMarked (marks : List Bool) (row : List ℕ) : Type 0 where
  pub place : ℕ
  pub source : ℕ
  pub at : slice_get row place ≡ Some source
  pub marked : is_marked marks source ≡ true

-- none of the first ones is
pub record AreUnmarked (marks : List Bool) (row : List ℕ) (count : ℕ) : Type 0 where
  pub unmarked : (place source : ℕ) → place < count → slice_get row place ≡ Some source
      → is_marked marks source ≡ false

-- the marks are right of the first blocks of an order
pub record AreFedTo (diagram : Diagram) (attributes : Attributes) (plan : Resolved) (order : List ℕ)
    (count : ℕ) (fed : List Bool) : Type 0 where
  pub size : length fed ≡ length diagram.blocks
  pub sound : (place : ℕ) → is_marked fed place ≡ true → IsFed diagram attributes plan place
  pub whole : (k place : ℕ) → k < count → slice_get order k ≡ Some place
      → IsFed diagram attributes plan place → is_marked fed place ≡ true

-- each is below a count
pub record AreBelow (row : List ℕ) (count : ℕ) : Type 0 where
  pub below : (place source : ℕ) → slice_get row place ≡ Some source → source < count

-- the mark of a block that reads those of a row
pub record IsMark (diagram : Diagram) (plan : Resolved) (marks : List Bool) (row : List ℕ)
    (place : ℕ) (mark : Bool) : Type 0 where
  pub yes : mark ≡ true → (is_shared diagram (attributes_of diagram) plan place ≡ true)
      ⊎ IsAnyMarked marks row
  pub own : mark ≡ false → is_shared diagram (attributes_of diagram) plan place ≡ false
  pub none : mark ≡ false → AreUnmarked marks row (length row)

-- the same of a diagram
abbrev pub AreFedUpTo : Diagram → Resolved → List ℕ → ℕ → List Bool → Type 0
AreFedUpTo diagram plan order count fed =
    AreFedTo diagram (attributes_of diagram) plan order count fed

-- a block stands at this place of an order
pub record IsNext (diagram : Diagram) (order : List ℕ) (i place : ℕ) : Type 0 where
  pub ordered : IsOrder diagram (attributes_of diagram) order
  pub at : slice_get order i ≡ Some place
