-- From hits in base samples to frames in clocks.
use Rattle.std.proofs.Common.{◌≡◌, ℕ, zero, suc, ◌+◌, ◌-◌, ◌*◌, ◌/◌, ◌%◌, ◌<◌, ◌≤◌, ℤ, ap, ◌∙◌, arith, subst, mul-le-mul_right}
use Rattle.std.proofs.lemmas.Nat.{div-add-mod', mul-lt}
use Rattle.hw_net.specs.Registers.{Wave, Span, IsReg, IsBridge}
use Rattle.hw_net.specs.Closed.{frame_start, BridgeShows, RegisterIsClosed, BridgeIsClosed}
use Rattle.hw_net.specs.NetRows.{span_of}
use Rattle.hw_lines.specs.Line.{Line, IsLine, IsRegistered}
use Rattle.hw_lines.specs.Taps.{IsTap, IsShifted}
use Rattle.hw_lines.proofs.Taps.{reg-shows, reg-begins, bridge-shows}

-- the number of a hit's frame
pub hit-number : (t p : ℕ) → t % p ≡ 0 → t ≡ t / p * p
hit-number t p e = omega (arith, div-add-mod' t p)

seen-frame : (t L R F p i k r : ℕ) → t ≡ i * p → R ≡ L + (k * p + r) → (t + R) * F ≡ L * F + (i + k) * (p * F) + r * F
seen-frame t L R F p i k r e f = rw (e, f) (omega arith)

end-frame : (t L F p i : ℕ) → t ≡ i * p → (t + L + p) * F ≡ L * F + i * (p * F) + p * F
end-frame t L F p i e = rw e (omega arith)

-- a period above 0 has at least one of its parts
frames-some : (period p g : ℕ) → period ≡ g * p → 0 < period → 1 ≤ g
frames-some period p zero e h = absurd (omega arith)
frames-some period p (suc g) e h = omega arith

span-some : (line : Line) (shift : ℕ) → IsShifted line shift → 0 < line.own.period * line.cycles
span-some line shift well = mul-lt 0 0 line.own.period line.cycles well.own well.cycles

module _ (n : ℕ) (line : Line) (k : ℕ) (first : ℤ) (source wave : Wave) (well : IsShifted line (k * line.own.period)) (same : line.reader.period ≡ line.own.period) where
  whole : line.reader.latency ≡ line.own.latency + (k * line.own.period + 0)
  whole = well.behind ∙ omega arith

  pub tap-meets : IsTap n (span_of line.cycles line.own) k first source wave → IsLine n line source wave
  tap-meets tap = record {
    shows = λ t c sees.
        let i : ℕ = t / line.own.period in
        let hit : t % line.own.period ≡ 0 = rw same at sees.is_hit in
        let e : t ≡ i * line.own.period = hit-number t line.own.period hit in
        let s = seen-frame t line.own.latency line.reader.latency line.cycles line.own.period i k 0 e whole in
        let f = end-frame t line.own.latency line.cycles line.own.period i e in
        let w : line.reader.period * line.cycles ≡ line.own.period * line.cycles = ap (λ (x : ℕ). x * line.cycles) same in
        tap.shows i c sees.below (omega (arith, sees.from)) (omega (arith, sees.until)) ∙ ap source (omega arith);
  }

  pub tap-holds : 0 < k → IsTap n (span_of line.cycles line.own) k first source wave → IsRegistered n line first source wave
  tap-holds some tap = record {
    shows = λ t c sees.
        let later : 1 * line.own.period ≤ k * line.own.period = mul-le-mul_right line.own.period some in
        let order : t + line.own.latency + line.own.period ≤ t + line.reader.latency = omega (arith, later, whole) in
        let past : (t + line.own.latency + line.own.period) * line.cycles ≤ (t + line.reader.latency) * line.cycles = mul-le-mul_right line.cycles order in
        (tap-meets tap).shows t c sees ∙ ap source (omega (arith, past, sees.from));
    begins = λ c h below.
        let s = seen-frame 0 line.own.latency line.reader.latency line.cycles line.own.period 0 k 0 (omega arith) whole in
        tap.begins c some h (omega arith);
  }

module _ (n : ℕ) (line : Line) (k r : ℕ) (first : ℤ) (source wave result : Wave) (well : IsShifted line (k * line.own.period + r)) where
  pub phase-meets : (closed : RegisterIsClosed) → line.reader.period ≡ line.own.period → 1 ≤ r → r ≤ line.own.period
      → IsTap n (span_of line.cycles line.own) k first source wave → IsReg n (span_of line.cycles line.own) (r * line.cycles - 1) first wave result → IsRegistered n line first source result
  phase-meets closed same low high tap reg =
      let span : Span = span_of line.cycles line.own in
      let slot : ℕ = r * line.cycles - 1 in
      let some = span-some line (k * line.own.period + r) well in
      let some-phase : 0 < r * line.cycles = mul-lt 0 0 r line.cycles low well.cycles in
      let most : r * line.cycles ≤ line.own.period * line.cycles = mul-le-mul_right line.cycles high in
      let inside : slot < span.length = omega arith in
      let shown = closed n span slot first wave result inside reg in
      let w : line.reader.period * line.cycles ≡ line.own.period * line.cycles = ap (λ (x : ℕ). x * line.cycles) same in
      record {
        shows = λ t c sees.
            let i : ℕ = t / line.own.period in
            let hit : t % line.own.period ≡ 0 = rw same at sees.is_hit in
            let e : t ≡ i * line.own.period = hit-number t line.own.period hit in
            let s = seen-frame t line.own.latency line.reader.latency line.cycles line.own.period i k r e well.behind in
            let f = end-frame t line.own.latency line.cycles line.own.period i e in
            reg-shows n span slot first source wave result some inside k tap shown i c sees.below (omega (arith, sees.from)) (omega (arith, sees.until)) ∙ ap source (omega arith);
        begins = λ c h below.
            let s = seen-frame 0 line.own.latency line.reader.latency line.cycles line.own.period 0 k r (omega arith) well.behind in
            reg-begins n span slot first source wave result some inside k tap shown c h (omega arith);
      }

  pub bridge-meets : (closed : BridgeIsClosed) → r < line.own.period
      → IsTap n (span_of line.cycles line.own) k first source wave → IsBridge n (span_of line.cycles line.reader) ((line.own.period - r) * line.cycles) wave result → IsLine n line source result
  bridge-meets closed high tap bridge =
      let span : Span = span_of line.cycles line.own in
      let reader : Span = span_of line.cycles line.reader in
      let phase : ℕ = r * line.cycles in
      let g : ℕ = line.reader.period / line.own.period in
      let some = span-some line (k * line.own.period + r) well in
      let whole : line.reader.period ≡ g * line.own.period = hit-number line.reader.period line.own.period well.divides in
      let parts : line.own.period - r + r ≡ line.own.period = omega arith in
      let live : (line.own.period - r) * line.cycles + r * line.cycles ≡ line.own.period * line.cycles = omega (arith, ap (λ (x : ℕ). x * line.cycles) parts) in
      let live-is : (line.own.period - r) * line.cycles ≡ line.own.period * line.cycles - r * line.cycles = omega arith in
      let live-some : 0 < (line.own.period - r) * line.cycles = mul-lt 0 0 (line.own.period - r) line.cycles (omega arith) well.cycles in
      let length : reader.length ≡ g * span.length = ap (λ (x : ℕ). x * line.cycles) whole ∙ omega arith in
      let g-some : 1 ≤ g = frames-some line.reader.period line.own.period g whole well.reader in
      let longer : 1 * span.length ≤ g * span.length = mul-le-mul_right span.length g-some in
      let shown = closed n reader ((line.own.period - r) * line.cycles) wave result live-some (omega arith) bridge in
      let from-zero = seen-frame 0 line.own.latency line.reader.latency line.cycles line.own.period 0 k r (omega arith) well.behind in
      let start : reader.start ≡ frame_start span k + phase = omega arith in
      record {
        shows = λ t c sees.
            let j : ℕ = t / line.reader.period in
            let e : t ≡ j * line.reader.period = hit-number t line.reader.period sees.is_hit in
            let e-frame : t ≡ j * g * line.own.period = e ∙ ap (λ (x : ℕ). j * x) whole ∙ omega arith in
            let s : (t + line.reader.latency) * line.cycles ≡ frame_start reader j = ap (λ (x : ℕ). (x + line.reader.latency) * line.cycles) e ∙ omega arith in
            let f = end-frame t line.own.latency line.cycles line.own.period (j * g) e-frame in
            bridge-shows n span reader phase g first source wave result k tap (omega arith) start length
            (subst (λ (x : ℕ). BridgeShows n reader x wave result) live-is shown) j c sees.below
            (omega (arith, sees.from)) (omega (arith, sees.until)) ∙ ap source (omega arith);
      }
