-- How the values of a row become those of the next.
use Rattle.std.specs.Prelude.{◌≡◌, ◌≢◌, ℕ, ◌+◌, ◌^◌, ◌<◌, ◌≤◌, List, length, take, slice_index, Contains}
use Rattle.vl_eval.specs.declared.plan.Capture.{Capture}
use Rattle.vl_eval.specs.declared.plan.Plan.{Plan}
use Rattle.vl_eval.specs.declared.watching.Watch.{Watch}
use Rattle.vl_eval.specs.inner.Edges.{IsPut, IsTaken}
use Rattle.vl_eval.specs.inner.Ops.{IsOrdered, IsSettled}
use Rattle.vl_eval.specs.inner.Reading.{AreReaders, HaveMarks}
use Rattle.vl_eval.specs.inner.Steps.{AreConstants}

-- a row of a plan, and bits for its inputs
pub record CanMove (plan : Plan) (bits values : List ℕ) : Type 0 where
  pub room : length values ≡ plan.base + length plan.arranged.ops
  pub ordered : IsOrdered plan.base plan.arranged.ops
  pub constants : AreConstants plan.constants plan.arranged.ops
  pub settled : IsSettled plan.base plan.arranged.ops (λ k. slice_index values k)
  pub captures : (c : Capture) → Contains plan.arranged.captures.items c
      → (plan.base ≤ c.from) × (c.from < length values) × (c.to < plan.base)
  pub count : length bits ≡ length plan.inputs.items
  pub inputs : (k : ℕ) → k < length plan.inputs.items
      → slice_index plan.inputs.items k < plan.base
  pub apart : (i j : ℕ) → i < j → j < length plan.inputs.items
      → slice_index plan.inputs.items i ≢ slice_index plan.inputs.items j

-- registers took their next values, the bits were put in, and operations have their values
pub record IsMoved (plan : Plan) (bits before after : List ℕ) : Type 0 where
  pub captured : List ℕ
  pub entered : List ℕ
  pub taken : IsTaken plan.arranged.captures.items before captured
  pub put : IsPut plan.inputs.items bits captured entered
  pub long : length after ≡ length before
  pub kept : take plan.base after ≡ take plan.base entered
  pub settled : IsSettled plan.base plan.arranged.ops (λ k. slice_index after k)

-- readers and marks of the operations of a plan
pub record IsWatch (plan : Plan) (watch : Watch) : Type 0 where
  pub few : length plan.arranged.ops ≤ 2 ^ 20
  pub readers : AreReaders plan.base (length plan.arranged.ops) plan.arranged.ops watch.readers
  pub marks : HaveMarks (length plan.arranged.ops) watch.marks
