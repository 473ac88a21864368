-- The registers of a chain, by the frames of the source (own).
use Rattle.std.specs.Prelude.{◌≡◌, ℕ, ◌+◌, ◌-◌, ◌*◌, ◌%◌, ◌<◌, ◌≤◌, ℤ, min}
use Rattle.hw_net.specs.NetRows.{span_of}
use Rattle.hw_net.specs.Registers.{Wave, Span, IsReg, IsBridge}
use Rattle.hw_net.specs.Closed.{frame_start}
use Rattle.hw_lines.specs.Line.{Line, IsLine, IsRegistered}

-- below clock n the wave shows the source k frames later, and `first` before
pub record IsTap (n : ℕ) (span : Span) (k : ℕ) (first : ℤ) (source wave : Wave) : Type 0 where
  pub shows : (i c : ℕ) → c < n → frame_start span (i + k) ≤ c
      → c < frame_start span (i + k) + span.length
      → wave c ≡ source (min c (frame_start span i + span.length - 1))
  pub begins : (c : ℕ) → 0 < k → c < n → c < frame_start span k → wave c ≡ first

-- the reader's frame is `shift` base samples behind the source's, and of as many of its periods
pub record IsShifted (line : Line) (shift : ℕ) : Type 0 where
  pub cycles : 0 < line.cycles
  pub own : 0 < line.own.period
  pub reader : 0 < line.reader.period
  pub divides : line.reader.period % line.own.period ≡ 0
  pub behind : line.reader.latency ≡ line.own.latency + shift

-- the source is its own tap 0, and a register of the source's frame makes the next tap of a tap
abbrev pub TapSteps : Type 0
TapSteps = (n : ℕ) (span : Span) (first : ℤ) (source : Wave) → 0 < span.length
    → IsTap n span 0 first source source
    × ((k : ℕ) (wave next : Wave) → IsTap n span k first source wave
    → IsReg n span (span.length - 1) first wave next → IsTap n span (k + 1) first source next)

-- a tap is a plain line of whole periods, for readers of the source's period
abbrev pub TapMeets : Type 0
TapMeets =
    (n : ℕ) (line : Line) (k : ℕ) (first : ℤ) (source wave : Wave)
    → IsShifted line (k * line.own.period) → line.reader.period ≡ line.own.period
    → IsTap n (span_of line.cycles line.own) k first source wave → IsLine n line source wave

-- a tap behind a register is a registered line, too
abbrev pub TapHolds : Type 0
TapHolds =
    (n : ℕ) (line : Line) (k : ℕ) (first : ℤ) (source wave : Wave)
    → IsShifted line (k * line.own.period) → line.reader.period ≡ line.own.period → 0 < k
    → IsTap n (span_of line.cycles line.own) k first source wave
    → IsRegistered n line first source wave

-- a register behind a tap, with a slot of its own, is a registered line
abbrev pub PhaseRegisterMeets : Type 0
PhaseRegisterMeets =
    (n : ℕ) (line : Line) (k r : ℕ) (first : ℤ) (source wave result : Wave)
    → IsShifted line (k * line.own.period + r) → line.reader.period ≡ line.own.period → 1 ≤ r
    → r ≤ line.own.period
    → IsTap n (span_of line.cycles line.own) k first source wave
    → IsReg n (span_of line.cycles line.own) (r * line.cycles - 1) first wave result
    → IsRegistered n line first source result

-- a bridge behind a tap is a plain line
abbrev pub BridgeMeets : Type 0
BridgeMeets =
    (n : ℕ) (line : Line) (k r : ℕ) (first : ℤ) (source wave result : Wave)
    → IsShifted line (k * line.own.period + r) → r < line.own.period
    → IsTap n (span_of line.cycles line.own) k first source wave
    → IsBridge n (span_of line.cycles line.reader)
    ((line.own.period - r) * line.cycles) wave result → IsLine n line source result
