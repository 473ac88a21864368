-- What an end of a block is offered of the entries of its source.
use Rattle.std.proofs.Common.{◌≡◌, ℕ, zero, suc, ◌+◌, ◌-◌, ◌*◌, ◌/◌, ◌%◌, ◌<◌, ◌≤◌, inl, inr, ℤ, Option, Some, None, sym, ◌∙◌, subst, refl, arith, mul-le-mul_right}
use Rattle.hw_net.specs.Registers.{Wave}
use Rattle.hw_lines.specs.Line.{IsLine}
use Rattle.hw_shows.specs.Shows.{Shows}
use Rattle.hw_shows.specs.Timing.{Timing, latency_after, latency_behind, ready_behind, ready_after, IsPlainEdge, IsLateEdge}
use Rattle.hw_shows.specs.Series.{AreSame, IsLineInto, IsOffered}
use Rattle.std.proofs.lemmas.Bool.{cases_lt}
use Rattle.hw_lines.proofs.Hits.{hit-number}
use Rattle.hw_shows.proofs.Edges.{line_of, plain_shows, plain_ends}

-- a pipeline is ready no later than its block
behind_less : (stages ready : ℕ) → ready_behind stages ready ≤ ready
behind_less zero ready = omega arith
behind_less (suc stages) ready = omega arith

pub after_less : (timing : Timing) (block : ℕ) → ready_after timing block ≤ timing.ready block
after_less timing block = behind_less (timing.stages block) (timing.ready block)

-- a source whose entry never changes
abbrev pub IsStill : ℕ → Option ℕ → (ℕ → ℤ) → Type 0
IsStill n period entry = period ≡ None → (t : ℕ) → t < n → entry t ≡ entry 0

-- an end without registers, where both blocks have periods
pub record IsPlainOffer (timing : Timing) (from block : ℕ) (source own : Option ℕ) (lag : ℕ → Option ℕ) : Type 0 where
  pub moves : (p : ℕ) → source ≡ Some p → ¬ (own ≡ None)
  pub plain : (p : ℕ) → source ≡ Some p → lag p ≡ None
  pub edge : (p q : ℕ) → source ≡ Some p → own ≡ Some q → IsPlainEdge timing from p block q
  pub ready : (p : ℕ) → source ≡ Some p → timing.ready from < p * timing.cycles

module _ (clocks k n : ℕ) (timing : Timing) (from block : ℕ) (lag : ℕ → Option ℕ) (first : ℤ) (entry : ℕ → ℤ) (wave line : Wave) (within : k ≤ clocks) where
  still_offered : (t c : ℕ) → t < n → c < k → AreSame clocks line wave
      → Shows k n timing.cycles None (timing.latency from) (ready_after timing from) entry wave
      → IsStill n None entry → line c ≡ entry t
  still_offered t c below early same shows still = same.at c (omega arith) ∙ shows.at 0 c (omega arith) early refl ∙ sym (still refl t below)

  line_is : (p q : ℕ) (o : Option ℕ) → o ≡ None → IsLineInto clocks timing from p block q o first wave line
      → IsLine clocks (line_of timing.cycles p (latency_after timing p from) q (timing.latency block)) wave line
  line_is p q o e is = subst (λ (o : Option ℕ). IsLineInto clocks timing from p block q o first wave line) e is

  -- in the reader's frame, from where the source is ready
  pub offer_shows : (source own : Option ℕ) (x : ℕ) → IsOffered clocks timing from source block own lag first wave line
      → Shows k n timing.cycles source (latency_behind timing source from) (ready_after timing from) entry wave → IsStill n source entry
      → IsPlainOffer timing from block source own lag → ((p : ℕ) → source ≡ Some p → timing.ready from ≤ x) → Shows k n timing.cycles own (timing.latency block) x entry line
  offer_shows None own x offered shows still plain early = record { at = λ t c below soon seen. still_offered t c below soon offered shows still }
  offer_shows (Some p) None x offered shows still plain early = absurd (plain.moves p refl refl)
  offer_shows (Some p) (Some q) x offered shows still plain early =
      let edge = plain.edge p q refl refl in
      let ready = plain.ready p refl in
      let sooner : timing.ready from ≤ x = early p refl in
      let less = after_less timing from in
      let later : latency_after timing p from * timing.cycles ≤ timing.latency block * timing.cycles = mul-le-mul_right timing.cycles edge.behind in
      plain_shows clocks k n timing.cycles p (latency_after timing p from) q (timing.latency block) (ready_after timing from) entry wave line within edge.divides (omega arith) shows
      (line_is p q (lag p) (plain.plain p refl) offered) x (omega arith)

  -- at the last clock of the reader's frame
  pub offer_ends : (source : Option ℕ) (q : ℕ) → IsOffered clocks timing from source block (Some q) lag first wave line
      → Shows k n timing.cycles source (latency_behind timing source from) (ready_after timing from) entry wave → IsStill n source entry
      → IsPlainOffer timing from block source (Some q) lag → 0 < q → (t : ℕ) → t < n → t % q ≡ 0 → (t + timing.latency block + q) * timing.cycles - 1 < k
      → line ((t + timing.latency block + q) * timing.cycles - 1) ≡ entry t
  offer_ends None q offered shows still plain some t below hit early = still_offered t ((t + timing.latency block + q) * timing.cycles - 1) below early offered shows still
  offer_ends (Some p) q offered shows still plain some t below hit early =
      let edge = plain.edge p q refl refl in
      let ready = plain.ready p refl in
      let less = after_less timing from in
      plain_ends clocks k n timing.cycles p (latency_after timing p from) q (timing.latency block) (ready_after timing from) entry wave line within edge.divides (omega arith) shows
      (line_is p q (lag p) (plain.plain p refl) offered) edge.behind some t below hit early

-- ---- registered ends

some_cycles : (p cycles r : ℕ) → r < p * cycles → 0 < cycles
some_cycles p zero r h = absurd (omega arith)
some_cycles p (suc cycles) r h = omega arith

-- the register takes after the source was ready
pub late_ready : (timing : Timing) (from source block own lag : ℕ) → IsLateEdge timing from source block own lag → timing.ready from < source * timing.cycles
    → latency_after timing source from * timing.cycles + ready_after timing from < (timing.latency block + lag) * timing.cycles
late_ready timing from source block own lag edge ready = go (timing.ready from) (after_less timing from) ready edge.whole
  where
    go : (r : ℕ) → ready_after timing from ≤ r → r < source * timing.cycles → (0 < r → latency_after timing source from + source ≤ timing.latency block + lag)
        → latency_after timing source from * timing.cycles + ready_after timing from < (timing.latency block + lag) * timing.cycles
    go zero less below whole =
        let some = some_cycles source timing.cycles 0 below in
        let far : suc (latency_after timing source from) * timing.cycles ≤ (timing.latency block + lag) * timing.cycles = mul-le-mul_right timing.cycles edge.behind in
        omega arith
    go (suc r) less below whole =
        let far : (latency_after timing source from + source) * timing.cycles ≤ (timing.latency block + lag) * timing.cycles = mul-le-mul_right timing.cycles (whole (omega arith)) in
        omega arith

-- of two multiples the lesser is a whole period less
pub next_multiple : (q t m : ℕ) → t % q ≡ 0 → m % q ≡ 0 → t < m → t + q ≤ m
next_multiple q t m e f below =
    let a : t ≡ t / q * q = hit-number t q e in
    let b : m ≡ m / q * q = hit-number m q f in
    elim (cases_lt (t / q) (m / q)) [
      | inl less ↦ let more : suc (t / q) * q ≤ m / q * q = mul-le-mul_right q less in omega arith
      | inr least ↦ let more : m / q * q ≤ t / q * q = mul-le-mul_right q least in absurd (omega arith)
    ]
