-- Operations without those that do what an earlier one does.
use Rattle.std.specs.Prelude.{◌≡◌, ℕ, ◌+◌, ◌-◌, ◌<◌, ◌≤◌, List, length, slice_index, slice_index_or}
use Rattle.vl_eval.specs.declared.ops.Op.{Op}
use Rattle.vl_eval.specs.declared.ops.Op.TheVariants.{Constant}
use Rattle.vl_eval.specs.inner.Ops.{IsOrdered, reads_below}
use Rattle.vl_eval.specs.inner.Order.{moved, renamed}

-- an operation has a place behind others, which stay
pub record IsPutOnce (base : ℕ) (before after : List Op) (op : Op) (place : ℕ) : Type 0 where
  pub above : base ≤ place
  pub below : place < base + length after
  pub is : slice_index_or after (place - base) (Constant 0) ≡ op
  pub longer : length before ≤ length after
  pub few : length after ≤ length before + 1
  pub kept : (k : ℕ) (d : Op) → k < length before
      → slice_index_or after k d ≡ slice_index_or before k d
  pub ordered : reads_below op (base + length before) → IsOrdered base before
      → IsOrdered base after

-- the operation of a number stands at its place, over the places of those that it reads
pub record IsMerged (base : ℕ) (ops merged : List Op) (places : List ℕ) (k : ℕ) : Type 0 where
  pub above : base ≤ slice_index places k
  pub below : slice_index places k < base + length merged
  pub is : slice_index_or merged (slice_index places k - base) (Constant 0)
      ≡ renamed (moved base places) (slice_index_or ops k (Constant 0))

-- so do the first so many
pub record AreMerged (base count : ℕ) (ops merged : List Op) (places : List ℕ) : Type 0 where
  pub long : length places ≡ count
  pub few : length merged ≤ count
  pub ordered : IsOrdered base merged
  pub each : (k : ℕ) → k < count → IsMerged base ops merged places k
