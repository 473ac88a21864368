-- Registers and inputs stand before the operations, which nothing of them changes.
use Rattle.std.proofs.Common.{◌≡◌, ◌<◌, ◌≤◌, ◌⊎◌, inl, inr, ℕ, List, length, slice_index, Contains, ◌∙◌, arith}
use Rattle.vl_eval.specs.declared.plan.Capture.{Capture}
use Rattle.vl_eval.specs.inner.Edges.{IsFree, IsPut, IsTaken}

pub ops-kept : (base : ℕ) (captures : List Capture) (places bits v0 v1 v2 : List ℕ) → IsTaken captures v0 v1 → IsPut places bits v1 v2 → ((c : Capture) → Contains captures c → c.to < base)
    → ((k : ℕ) → k < length places → slice_index places k < base) → (place : ℕ) → base ≤ place → slice_index v2 place ≡ slice_index v0 place
ops-kept base captures places bits v0 v1 v2 taken put low inputs place high =
    put.others place (λ k less same. let b = inputs k less in absurd (omega (arith, b, same, high))) ∙ by (taken.each place)
  where
    by : (IsFree captures place × (slice_index v1 place ≡ slice_index v0 place)) ⊎ ((c : Capture) × Contains captures c × (c.to ≡ place) × (slice_index v1 place ≡ slice_index v0 c.from))
        → slice_index v1 place ≡ slice_index v0 place
    by (inl (free, same)) = same
    by (inr (c, inside, to, same)) = let b = low c inside in absurd (omega (arith, b, to, high))
