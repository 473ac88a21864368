-- Memories move one after another.
use Rattle.std.proofs.Common.{◌≡◌, ℕ, zero, suc, ◌<◌, ◌≤◌, ◌⊎◌, inl, inr, ℤ, List, [], ◌∷◌, length, Some, slice_get, set, ap, sym, ◌∙◌, refl, arith, eq-or-lt_of_le, le_of_suc-le-suc}
use Rattle.std.proofs.lemmas.Option.{same_Some}
use Rattle.dg_model.specs.Hits.{is_hit}
use Rattle.dg_sim.specs.declared.program.Memory.{Memory}
use Rattle.dg_sim.specs.declared.program.Program.{Program}
use Rattle.dg_sim.specs.Ring.{PastValues}
use Rattle.dg_sim.specs.Program.{value_at, is_on, move_of}
use Rattle.dg_sim.specs.Sim.{past_moved}
use Rattle.math_list.proofs.Places.{set_same}

-- what a memory keeps after the sample
abbrev pub after : Memory → ℕ → List ℤ → PastValues → PastValues
after memory t row past = past_moved (move_of (is_hit memory.period t) (is_on (value_at row) memory.control) memory.reset) (value_at row memory.from) past

-- the memories before m have moved
abbrev pub AreMoved : Program → ℕ → List ℤ → List PastValues → ℕ → List PastValues → Type 0
AreMoved program t row old m pasts = (j : ℕ) (memory : Memory) (past : PastValues) → j < m
    → slice_get program.memories j ≡ Some memory → slice_get old j ≡ Some past
    → slice_get pasts j ≡ Some (after memory t row past)

pub get-set_other : {X : Type 0} (xs : List X) (i j : ℕ) (x : X) → (j ≡ i → ⊥) → slice_get (set xs i x) j ≡ slice_get xs j
get-set_other [] i j x h = refl
get-set_other (y ∷ ys) zero zero x h = absurd (h refl)
get-set_other (y ∷ ys) zero (suc j) x h = refl
get-set_other (y ∷ ys) (suc i) zero x h = refl
get-set_other (y ∷ ys) (suc i) (suc j) x h = get-set_other ys i j x (λ e. h (ap suc e))

pub moved_more : (program : Program) (t : ℕ) (row : List ℤ) (old pasts : List PastValues) (m : ℕ) (memory : Memory)
    (past : PastValues) → m < length pasts → slice_get program.memories m ≡ Some memory
    → slice_get pasts m ≡ Some past
    → ((j : ℕ) → m ≤ j → slice_get pasts j ≡ slice_get old j) → AreMoved program t row old m pasts → AreMoved program t row old (suc m) (set pasts m (after memory t row past))
moved_more program t row old pasts m memory past inside here is later done j one other below at from = go (eq-or-lt_of_le (le_of_suc-le-suc below))
  where
    go : (j ≡ m) ⊎ (j < m) → slice_get (set pasts m (after memory t row past)) j ≡ Some (after one t row other)
    go (inl e) =
        let same_memory : memory ≡ one = same_Some memory one (sym here ∙ ap (slice_get program.memories) (sym e) ∙ at) in
        let same_past : past ≡ other = same_Some past other (sym is ∙ later m (omega arith) ∙ ap (slice_get old) (sym e) ∙ from) in
        ap (slice_get (set pasts m (after memory t row past))) e ∙ set_same pasts m (after memory t row past) inside
        ∙ ap (λ (one : Memory). Some (after one t row past)) same_memory ∙ ap (λ (p : PastValues). Some (after one t row p)) same_past
    go (inr l) = get-set_other pasts m j (after memory t row past) (λ e. absurd (omega (arith, e, l))) ∙ done j one other l at from
