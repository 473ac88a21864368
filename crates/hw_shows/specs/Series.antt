-- Waves that follow others: lines, registers in series, and shared products (own).
use Rattle.std.specs.Prelude.{◌≡◌, ◌≢◌, ℕ, suc, ◌+◌, ◌-◌, ◌<◌, ℤ, pos, ◌*ℤ◌, Bool, Option, None, Some, ⊤}
use Rattle.hw_net.specs.Registers.{Wave, Span, IsReg, IsEnReg}
use Rattle.hw_net.specs.NetRows.{span_of}
use Rattle.hw_net.specs.Closed.{frame_start}
use Rattle.hw_lines.specs.Line.{IsLine, IsRegistered}
use Rattle.hw_shows.specs.Timing.{Timing, latency_after}

-- two waves are the same at the first clocks
pub record AreSame (clocks : ℕ) (wave other : Wave) : Type 0 where
  pub at : (c : ℕ) → c < clocks → wave c ≡ other c

-- the wave never changes
abbrev pub steady : ℤ → Wave
steady v = λ c. v

-- the frames of a block of this period
abbrev pub span_at : Timing → ℕ → ℕ → Span
span_at timing period block =
    span_of timing.cycles (record { period = period; latency = timing.latency block })

-- registers in series, each of which takes at the end of a frame what the one before it has, from a
-- source on
pub record IsSeries (clocks : ℕ) (span : Span) (count : ℕ) (first : ℤ) (source : Wave)
    (register : ℕ → Wave) : Type 0 where
  pub begins : AreSame clocks (register 0) source
  pub takes : (k : ℕ) → k < count
      → IsReg clocks span (span.length - 1) first (register k) (register (suc k))

-- the same where they take only if they are enabled, and else keep what they have or begin anew
pub record IsEnabledSeries (clocks : ℕ) (span : Span) (count : ℕ) (reset : Bool) (first : ℤ)
    (enable source : Wave) (register : ℕ → Wave) : Type 0 where
  pub begins : AreSame clocks (register 0) source
  pub takes : (k : ℕ) → k < count
      → IsEnReg clocks span reset first enable (register k) (register (suc k))

-- from the clock after its slot to the end of a frame the wave is the product of what the operands
-- had there
pub record IsProductAt (clocks : ℕ) (span : Span) (slot : ℕ)
    (left right product : Wave) : Type 0 where
  pub holds : (k c : ℕ) → c < clocks → frame_start span k + slot < c
      → c < frame_start span k + span.length → product c
      ≡ left (frame_start span k + slot) *ℤ right (frame_start span k + slot)

-- what is chosen at each clock: one wave where it is enabled, else the other
pub record IsChosen (clocks : ℕ) (enable enabled other wave : Wave) : Type 0 where
  pub on : (c : ℕ) → c < clocks → enable c ≢ pos 0 → wave c ≡ enabled c
  pub off : (c : ℕ) → c < clocks → enable c ≡ pos 0 → wave c ≡ other c

-- the line from a source of one period to a reader of another, where both have periods
abbrev pub IsLineInto : ℕ → Timing → ℕ → ℕ → ℕ → ℕ → Option ℕ → ℤ → Wave → Wave → Type 0
IsLineInto clocks timing from source block own None first wave line =
    IsLine clocks (record {
      cycles = timing.cycles;
      own = record { period = source; latency = latency_after timing source from };
      reader = record
          { period = own; latency = timing.latency block };
    }) wave line
IsLineInto clocks timing from source block own (Some lag) first wave line =
    IsRegistered clocks (record {
      cycles = timing.cycles;
      own = record { period = source; latency = latency_after timing source from };
      reader = record
          { period = source; latency = timing.latency block + lag };
    }) first wave line

-- what an end of a block is offered of a source: the source itself where that never changes
abbrev pub IsOffered : ℕ → Timing → ℕ → Option ℕ → ℕ → Option ℕ → (ℕ → Option ℕ) → ℤ → Wave → Wave
    → Type 0
IsOffered clocks timing from None block own lag first wave line = AreSame clocks line wave
IsOffered clocks timing from (Some source) block None lag first wave line = ⊤
IsOffered clocks timing from (Some source) block (Some own) lag first wave line =
    IsLineInto clocks timing from source block own (lag source) first wave line
