-- Registers in series move as the counted hits do.
use Rattle.std.proofs.Common.{◌≡◌, ◌≢◌, ℕ, suc, ◌+◌, ◌-◌, ◌*◌, ◌<◌, ◌≤◌, ℤ, pos, Bool, true, false, ap, sym, ◌∙◌, subst, refl, arith}
use Rattle.std.specs.Ordering.{int_eq}
use Rattle.std.proofs.lemmas.Int.{ints}
use Rattle.hw_net.specs.Registers.{Wave, Span}
use Rattle.hw_net.specs.Closed.{frame_start, RegShows, EnRegShows, RegisterIsClosed, EnRegIsClosed}
use Rattle.dg_tables.specs.State.{Move}
use Rattle.hw_shows.specs.Series.{IsSeries, IsEnabledSeries}
use Rattle.hw_shows.proofs.Hits.{move_of}
use Rattle.hw_shows.proofs.Chains.{frame_end, IsMoved, AreMoved}

-- registers that always take
module _ (clocks k n : ℕ) (span : Span) (p count : ℕ) (first : ℤ) (input : ℕ → ℤ) (source : Wave) (state : ℕ → Wave) (within : suc k ≤ clocks) (some : 0 < span.length)
    (closed : RegisterIsClosed) (series : IsSeries clocks span count first source state)
    (shows : (i : ℕ) → suc i * p < n → frame_end span i < k → source (frame_end span i) ≡ input (i * p))
  where
    register : (j : ℕ) → j < count → RegShows clocks span (span.length - 1) first (state j) (state (suc j))
    register j below = closed clocks span (span.length - 1) first (state j) (state (suc j)) (omega arith) (series.takes j below)

    pub series_moves : AreMoved k n span p count first input (λ i. Move.Count) state
    series_moves = record {
      begins = λ j c below early until. (register j below).at_first c (omega arith) (omega arith);
      steps = λ i j c below less early from until.
          let e : frame_start span i + (span.length - 1) ≡ frame_end span i = omega arith in
          (register j below).taken i c (omega arith) (omega arith) (omega arith) ∙ ap (state j) e;
      source = λ i less early is. series.begins.at (frame_end span i) (omega arith) ∙ shows i less early;
    }

-- a truth as a number
pub data IsTruth (v : ℤ) : Type 0 where
  IsOff : v ≡ pos 0 → IsTruth v
  IsOn : v ≡ pos 1 → IsTruth v

-- registers that take where they are enabled
module _ (clocks k n : ℕ) (span : Span) (p count : ℕ) (reset : Bool) (first : ℤ) (input control : ℕ → ℤ) (enable source : Wave) (state : ℕ → Wave) (within : suc k ≤ clocks) (some : 0 < span.length)
    (closed : EnRegIsClosed) (series : IsEnabledSeries clocks span count reset first enable source state)
    (shows : (i : ℕ) → suc i * p < n → frame_end span i < k → source (frame_end span i) ≡ input (i * p))
    (enables : (i : ℕ) → suc i * p < n → frame_end span i < k → enable (frame_end span i) ≡ control (i * p))
    (truths : (i : ℕ) → suc i * p < n → IsTruth (control (i * p)))
  where
    held : (j : ℕ) → j < count → EnRegShows clocks span reset first enable (state j) (state (suc j))
    held j below = closed clocks span reset first enable (state j) (state (suc j)) some (series.takes j below)

    abbrev pub move_at : ℕ → Move
    move_at i = move_of reset (int_eq (control (i * p)) (pos 1))

    moved_if : (i j c : ℕ) → j < count → c < clocks → frame_start span (i + 1) ≤ c → c < frame_start span (i + 1) + span.length
        → enable (frame_end span i) ≡ control (i * p) → IsTruth (control (i * p))
        → IsMoved (move_at i) first (state j (frame_end span i)) (state (suc j) (frame_end span i)) (state (suc j) c)
    moved_if i j c below early from until same (IsOff off) =
        subst (λ (v : ℤ). IsMoved (move_of reset (int_eq v (pos 1))) first (state j (frame_end span i)) (state (suc j) (frame_end span i)) (state (suc j) c)) (sym off) (go reset refl)
      where
        go : (b : Bool) → reset ≡ b → IsMoved (move_of b false) first (state j (frame_end span i)) (state (suc j) (frame_end span i)) (state (suc j) c)
        go true e = (held j below).begun i c early from until (same ∙ off) e
        go false e = (held j below).held i c early from until (same ∙ off) e
    moved_if i j c below early from until same (IsOn on) =
        subst (λ (v : ℤ). IsMoved (move_of reset (int_eq v (pos 1))) first (state j (frame_end span i)) (state (suc j) (frame_end span i)) (state (suc j) c)) (sym on)
        (taken (held j below))
      where
        one : pos 1 ≢ pos 0
        one e = absurd (omega (arith, ints, e))

        taken : EnRegShows clocks span reset first enable (state j) (state (suc j))
            → IsMoved (move_of reset true) first (state j (frame_end span i)) (state (suc j) (frame_end span i))
            (state (suc j) c)
        taken h = go reset
          where
            now : state (suc j) c ≡ state j (frame_end span i)
            now = h.taken i c early from until (λ e. one (sym on ∙ sym same ∙ e))

            go : (b : Bool) → IsMoved (move_of b true) first (state j (frame_end span i)) (state (suc j) (frame_end span i)) (state (suc j) c)
            go true = now
            go false = now

    pub enabled_moves : AreMoved k n span p count first input move_at state
    enabled_moves = record {
      begins = λ j c below early until. (held j below).at_first c (omega arith) (omega arith);
      steps = λ i j c below less early from until. moved_if i j c below (omega arith) from until (enables i less (omega arith)) (truths i less);
      source = λ i less early is. series.begins.at (frame_end span i) (omega arith) ∙ shows i less early;
    }
