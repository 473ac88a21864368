-- The two ways in which fixed places change at an edge, and the values of row 0.
use Rattle.std.specs.Prelude.{◌≡◌, ◌≢◌, ◌⊎◌, ℕ, ◌<◌, ◌+◌, List, length, take, slice_index, Contains}
use Rattle.vl_eval.specs.declared.ops.Op.{Op}
use Rattle.vl_eval.specs.declared.plan.Capture.{Capture}
use Rattle.vl_eval.specs.inner.Ops.{IsSettled}

-- no capture goes to a place
abbrev pub IsFree : List Capture → ℕ → Type 0
IsFree captures place = (c : Capture) → Contains captures c → c.to ≢ place

-- each place that a capture goes to has what one of them takes, and the others stay
pub record IsTaken (captures : List Capture) (before after : List ℕ) : Type 0 where
  pub long : length after ≡ length before
  pub each : (place : ℕ)
      → (IsFree captures place × (slice_index after place ≡ slice_index before place))
      ⊎ ((c : Capture) × Contains captures c × (c.to ≡ place)
      × (slice_index after place ≡ slice_index before c.from))

-- each of these places has its bits, and the others stay
pub record IsPut (places bits before after : List ℕ) : Type 0 where
  pub long : length after ≡ length before
  pub each : (k : ℕ) → k < length places
      → slice_index after (slice_index places k) ≡ slice_index bits k
  pub others : (place : ℕ) → ((k : ℕ) → k < length places → slice_index places k ≢ place)
      → slice_index after place ≡ slice_index before place

-- every fixed place has 0, and each operation its value
pub record IsFirst (base : ℕ) (ops : List Op) (values : List ℕ) : Type 0 where
  pub long : length values ≡ base + length ops
  pub zeros : List ℕ
  pub none : (k : ℕ) → slice_index zeros k ≡ 0
  pub kept : take base values ≡ take base zeros
  pub settled : IsSettled base ops (λ k. slice_index values k)
