-- How many shared blocks stand one behind another on instant paths (own).
use Rattle.std.specs.Prelude.{◌≡◌, ℕ, suc, ◌≤◌, ◌<◌, ◌&&◌, ◌==◌, Bool, true, false, List, length, count_by, Option, Some, None, slice_get, slice_index}
use Rattle.dg_model.specs.declared.diagram.Diagram.{Diagram}
use Rattle.dg_model.specs.declared.resolved.Resolved.{Resolved}
use Rattle.dg_model.specs.Loop.{IsInstantPath}
use Rattle.dg_model.specs.Signals.{Attributes}
use Rattle.hw_latency.specs.Shared.{is_shared}

-- two periods are the same
abbrev pub is_same_period : Option ℕ → Option ℕ → Bool
is_same_period None None = true
is_same_period None (Some other) = false
is_same_period (Some period) None = false
is_same_period (Some period) (Some other) = period == other

-- the shared blocks of this period among the blocks of a list
abbrev pub shared_on : Diagram → Attributes → Resolved → Option ℕ → List ℕ → ℕ
shared_on diagram attributes plan period path =
    count_by (λ place. is_shared diagram attributes plan place
    && is_same_period (attributes.period_at place) period) path

-- an instant path that ends with a block
pub record EndsWith (diagram : Diagram) (attributes : Attributes) (path : List ℕ)
    (place : ℕ) : Type 0 where
  pub leads : IsInstantPath diagram attributes path
  pub last : ℕ
  pub size : length path ≡ suc last
  pub ends : slice_get path last ≡ Some place

-- the greatest number of shared blocks of its own period on an instant path that ends with a block,
-- it included
pub record IsDepth (diagram : Diagram) (attributes : Attributes) (plan : Resolved)
    (place depth : ℕ) : Type 0 where
  pub path : List ℕ
  pub ends : EndsWith diagram attributes path place
  pub reached : shared_on diagram attributes plan (attributes.period_at place) path ≡ depth
  pub most : (other : List ℕ) → EndsWith diagram attributes other place
      → shared_on diagram attributes plan (attributes.period_at place) other ≤ depth

-- what a list of depths says of a block
abbrev pub depth_at : List ℕ → ℕ → ℕ
depth_at depths place = slice_index depths place

-- the depths are those of the blocks
pub record AreDepths (diagram : Diagram) (attributes : Attributes) (plan : Resolved)
    (depths : List ℕ) : Type 0 where
  pub size : length depths ≡ length diagram.blocks
  pub are : (place : ℕ) → place < length diagram.blocks
      → IsDepth diagram attributes plan place (depth_at depths place)
