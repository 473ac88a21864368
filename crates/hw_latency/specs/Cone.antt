-- Behind which blocks shared operations stand in the instant cone (own).
use Rattle.std.specs.Prelude.{◌≡◌, ℕ, ◌<◌, Bool, true, false, List, length, slice_index_or}
use Rattle.dg_model.specs.declared.diagram.Diagram.{Diagram}
use Rattle.dg_model.specs.declared.resolved.Resolved.{Resolved}
use Rattle.dg_model.specs.Loop.{IsInCone}
use Rattle.dg_model.specs.Signals.{Attributes}
use Rattle.hw_latency.specs.Shared.{is_shared}

-- a shared operation stands in the instant cone of the block, which holds the block itself
pub record IsFed (diagram : Diagram) (attributes : Attributes) (plan : Resolved)
    (place : ℕ) : Type 0 where
  pub source : ℕ
  pub cone : IsInCone diagram attributes source place
  pub shared : is_shared diagram attributes plan source ≡ true

-- what a list of marks says of a block
abbrev pub is_marked : List Bool → ℕ → Bool
is_marked marks place = slice_index_or marks place false

-- the marks say of each block whether one does
pub record AreFed (diagram : Diagram) (attributes : Attributes) (plan : Resolved)
    (fed : List Bool) : Type 0 where
  pub size : length fed ≡ length diagram.blocks
  pub sound : (place : ℕ) → is_marked fed place ≡ true → IsFed diagram attributes plan place
  pub whole : (place : ℕ) → place < length diagram.blocks → IsFed diagram attributes plan place
      → is_marked fed place ≡ true
