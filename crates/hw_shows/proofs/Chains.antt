-- What registers in series show: the pipeline of a block, and the states of a Delay.
use Rattle.std.proofs.Common.{◌≡◌, ℕ, zero, suc, ◌+◌, ◌-◌, ◌*◌, ◌/◌, ◌<◌, ◌≤◌, ℤ, List, [], ◌∷◌, slice_get, Option, Some, MatchOption, ap, sym, ◌∙◌, subst, refl, arith}
use Rattle.hw_net.specs.Registers.{Wave, Span}
use Rattle.hw_net.specs.Closed.{frame_start, RegShows}
use Rattle.dg_tables.specs.State.{Move}
use Rattle.hw_shows.specs.Shows.{Shows}
use Rattle.hw_lines.proofs.Hits.{hit-number}
use Rattle.hw_shows.proofs.Hits.{moved_hits}

abbrev pub span_from : ℕ → ℕ → ℕ → Span
span_from cycles period latency = record { start = latency * cycles; length = period * cycles }

-- the last clock of a frame
abbrev pub frame_end : Span → ℕ → ℕ
frame_end span i = frame_start span (i + 1) - 1

-- ---- a pipeline
module _ (clocks k n cycles p l r : ℕ) (entry : ℕ → ℤ) (stages : ℕ) (first : ℤ) (stage : ℕ → Wave) (within : suc k ≤ clocks) (ready : r < p * cycles)
    (shows : Shows k n cycles (Some p) l r entry (stage 0))
    (steps : (j : ℕ) → j < stages → RegShows clocks (span_from cycles p l) (p * cycles - 1) first (stage j) (stage (suc j)))
  where
    pub stage_shows : (j : ℕ) → j < stages → Shows (suc k) n cycles (Some p) (l + suc j * p) 0 entry (stage (suc j))
    stage_shows zero below = record {
      at = λ t c less early seen.
          let i : ℕ = t / p in
          let e : t ≡ i * p = hit-number t p seen.is_hit in
          let from : (t + (l + 1 * p)) * cycles + 0 ≤ c = seen.from in
          let until : c < (t + (l + 1 * p) + p) * cycles = seen.until in
          let start : t * cycles ≡ i * (p * cycles) = ap (λ (x : ℕ). x * cycles) e ∙ omega arith in
          (steps 0 below).taken i c (omega arith) (omega arith) (omega arith)
          ∙ shows.at t (frame_start (span_from cycles p l) i + (p * cycles - 1)) less (omega arith) (record { is_hit = seen.is_hit; from = omega arith; until = omega arith });
    }
    stage_shows (suc j) below = record {
      at = λ t c less early seen.
          let i : ℕ = t / p in
          let e : t ≡ i * p = hit-number t p seen.is_hit in
          let from : (t + (l + suc (suc j) * p)) * cycles + 0 ≤ c = seen.from in
          let until : c < (t + (l + suc (suc j) * p) + p) * cycles = seen.until in
          let start : t * cycles ≡ i * (p * cycles) = ap (λ (x : ℕ). x * cycles) e ∙ omega arith in
          let a : ℕ = frame_start (span_from cycles p l) (i + suc j) + (p * cycles - 1) in
          (steps (suc j) below).taken (i + suc j) c (omega arith) (omega arith) (omega arith)
          ∙ (stage_shows j (omega arith)).at t a less (omega arith) (record { is_hit = seen.is_hit; from = omega arith; until = omega arith });
    }

-- ---- states

-- the number at a hit, or else one that P says of
abbrev pub IsAt : (ℤ → Type 0) → (ℕ → ℤ) → Option ℕ → ℤ → Type 0
IsAt P input hit v = MatchOption hit (P v) (λ h. v ≡ input h)

-- what a hit leaves in a register, from what that before it and the register itself had
abbrev pub IsMoved : Move → ℤ → ℤ → ℤ → ℤ → Type 0
IsMoved Move.Stay first before own now = now ≡ own
IsMoved Move.Count first before own now = now ≡ before
IsMoved Move.Forget first before own now = now ≡ first

-- up to clock k the registers move so at the ends of the frames
pub record AreMoved (k n : ℕ) (span : Span) (p count : ℕ) (first : ℤ) (input : ℕ → ℤ) (move : ℕ → Move) (state : ℕ → Wave) : Type 0 where
  pub begins : (j c : ℕ) → j < count → c < suc k → c < frame_start span 1 → state (suc j) c ≡ first
  pub steps : (i j c : ℕ) → j < count → suc i * p < n → c < suc k → frame_start span (i + 1) ≤ c → c < frame_start span (i + 1) + span.length
      → IsMoved (move i) first (state j (frame_end span i)) (state (suc j) (frame_end span i)) (state (suc j) c)
  pub source : (i : ℕ) → suc i * p < n → frame_end span i < k → move i ≡ Move.Count → state 0 (frame_end span i) ≡ input (i * p)

module _ (k n : ℕ) (span : Span) (p count : ℕ) (first : ℤ) (input : ℕ → ℤ) (move : ℕ → Move) (state : ℕ → Wave) (P : ℤ → Type 0) (hits : ℕ → List ℕ)
    (some : 0 < span.length) (begun : P first) (moved : AreMoved k n span p count first input move state)
    (none : hits 0 ≡ []) (next : (i : ℕ) → hits (suc i) ≡ moved_hits (move i) (i * p) (hits i))
  where
    fresh : (i j : ℕ) (v : ℤ) → hits i ≡ [] → v ≡ first → IsAt P input (slice_get (hits i) j) v
    fresh i j v e is = subst (λ (list : List ℕ). IsAt P input (slice_get list j) v) (sym e) (subst P (sym is) begun)

    -- what frame i + 1 has, from what frame i had at its end
    after_frame : (i j c : ℕ) → j < count → suc i * p < n → frame_end span i < k
        → ((o : ℕ) → o < count → IsAt P input (slice_get (hits i) o) (state (suc o) (frame_end span i)))
        → IsMoved (move i) first (state j (frame_end span i)) (state (suc j) (frame_end span i)) (state (suc j) c) → IsAt P input (slice_get (hits (suc i)) j) (state (suc j) c)
    after_frame i j c below less early held is = go (move i) refl is
      where
        counted : (o : ℕ) → o < count → move i ≡ Move.Count → state (suc o) c ≡ state o (frame_end span i) → IsAt P input (slice_get (i * p ∷ hits i) o) (state (suc o) c)
        counted zero l e is = is ∙ moved.source i less early e
        counted (suc o) l e is = subst (λ (v : ℤ). IsAt P input (slice_get (hits i) o) v) (sym is) (held o (omega arith))

        go : (m : Move) → move i ≡ m → IsMoved m first (state j (frame_end span i)) (state (suc j) (frame_end span i)) (state (suc j) c) → IsAt P input (slice_get (hits (suc i)) j) (state (suc j) c)
        go Move.Stay e is =
            let same : hits (suc i) ≡ hits i = next i ∙ ap (λ (m : Move). moved_hits m (i * p) (hits i)) e in
            subst (λ (list : List ℕ). IsAt P input (slice_get list j) (state (suc j) c)) (sym same) (subst (λ (v : ℤ). IsAt P input (slice_get (hits i) j) v) (sym is) (held j below))
        go Move.Count e is =
            let same : hits (suc i) ≡ i * p ∷ hits i = next i ∙ ap (λ (m : Move). moved_hits m (i * p) (hits i)) e in
            subst (λ (list : List ℕ). IsAt P input (slice_get list j) (state (suc j) c)) (sym same) (counted j below e is)
        go Move.Forget e is = fresh (suc i) j (state (suc j) c) (next i ∙ ap (λ (m : Move). moved_hits m (i * p) (hits i)) e) is

    -- at each clock of frame i the registers have the inputs of the hits that were counted before it
    pub states_hold : (i j c : ℕ) → j < count → i * p < n → c < suc k → (0 < i → frame_start span i ≤ c) → c < frame_start span i + span.length → IsAt P input (slice_get (hits i) j) (state (suc j) c)
    states_hold zero j c below less early from until = fresh 0 j (state (suc j) c) none (moved.begins j c below early (omega arith))
    states_hold (suc i) j c below less early from until =
        let begun : frame_start span (suc i) ≤ c = from (omega arith) in
        after_frame i j c below less (omega arith)
        (λ o l. states_hold i o (frame_end span i) l (omega arith) (omega arith) (λ pos. omega arith) (omega arith))
        (moved.steps i j c below less early (omega arith) (omega arith))
