-- Blocks that no arc asks anything of.
use Rattle.std.proofs.Common.{◌≡◌, ℕ, ◌<◌, ◌≤◌, List, length, ⊎_elim, refl, sym, arith}
use Rattle.std.specs.Prelude.{slice_get, slice_set, Some, true}
use Rattle.std.proofs.lemmas.Bool.{cases_eq, cases_lt}
use Rattle.std.proofs.lemmas.List.{get_or_past}
use Rattle.hw_arcs.specs.declared.arc.Arc.{Arc}
use Rattle.hw_arcs.specs.Latencies.{latency_at, IsFeasible, IsLeast}
use Rattle.hw_arcs.proofs.Moves.{set_moves}

pub zero_there : (arcs : List Arc) (lat : List ℕ) (block : ℕ) → IsLeast arcs lat
    → ((number : ℕ) (arc : Arc) → slice_get arcs number ≡ Some arc → arc.counts ≡ true → arc.to ≡ block → ⊥)
    → latency_at lat block ≡ 0
zero_there arcs lat block least none = ⊎_elim
    (λ (inside : block < length lat).
    let moved = set_moves lat block 0 0 inside in
    let feasible : IsFeasible arcs (slice_set lat block 0) = record {
      keeps = λ number arc at counts.
          let keeps = least.feasible.keeps number arc at counts in
          let to = moved.other arc.to (λ e. none number arc at counts (sym e)) in
          ⊎_elim
          (λ (e : block ≡ arc.from). let from = moved.same arc.from e in omega (arith, keeps, to, from))
          (λ (differs : block ≡ arc.from → ⊥). let from = moved.other arc.from differs in omega (arith, keeps, to, from))
          (cases_eq block arc.from);
    } in
    let low = least.least (slice_set lat block 0) feasible block in
    let here = moved.same block refl in
    omega (arith, low, here))
    (λ (past : length lat ≤ block). get_or_past lat block 0 past)
    (cases_lt block (length lat))
