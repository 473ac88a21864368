use Rattle.std.proofs.Common.{◌⊎◌, ◌≤◌, ℕ, length}
use Rattle.vl_eval.specs.inner.Reading.{AreAdded, IsChained, IsReader, IsUnmarked}
use Rattle.vl_eval.proofs.readers.mark_readers.Given as goal

abbrev pub invariant-loop-at : goal.invariant-loop-at
invariant-loop-at l = record {
  low : l.at ≤ length l.readers.links.items;
  added : AreAdded l.fn.marks l.marks;
  marked : (reader : ℕ) → IsReader l.readers l.place reader → (IsUnmarked l.marks reader → ⊥) ⊎ IsChained l.readers.links.items reader l.at;
}

abbrev pub decreases-loop-at : goal.decreases-loop-at
decreases-loop-at l = l.at
