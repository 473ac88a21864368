-- The multiplications of a block that share no multiplier (own).
use Rattle.std.specs.Prelude.{◌≡◌, ℕ, ◌<◌, ◌+◌, ◌⊎◌, not, ◌&&◌, if◌then◌else◌, List, slice_index}
use Rattle.dg_model.specs.declared.diagram.Diagram.{Diagram}
use Rattle.dg_model.specs.declared.resolved.Resolved.{Resolved}
use Rattle.dg_model.specs.Attributes.{attributes_of}
use Rattle.hw_latency.specs.Shared.{multiplies, is_shared}

-- each of its elements, or none
abbrev pub own_at : Diagram → Resolved → ℕ → ℕ
own_at diagram plan place =
    if multiplies diagram place && not (is_shared diagram (attributes_of diagram) plan place)
    then (attributes_of diagram).width_at place 1 else 0

-- so many as one of the first numbers says and one more, and no number is more
pub record IsCount (units : List ℕ) (upto count : ℕ) : Type 0 where
  pub most : (k : ℕ) → k < upto → slice_index units k < count
  pub reached : (count ≡ 0) ⊎ ((k : ℕ) × ((k < upto) × (count ≡ slice_index units k + 1)))
