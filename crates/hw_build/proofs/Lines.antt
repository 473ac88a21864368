-- The answers of chains are what the ends of blocks are offered.
use Rattle.std.proofs.Common.{◌≡◌, ℕ, ◌+◌, ◌<◌, ◌≤◌, ℤ, true, false, Option, Some, None, length, ap, sym, ◌∙◌, subst, arith}
use Rattle.std.specs.Prelude.{max}
use Rattle.hw_net.specs.declared.netlist.Frame.{Frame}
use Rattle.hw_net.specs.Circuit.{Circuit}
use Rattle.hw_net.specs.Registers.{Wave}
use Rattle.hw_net.specs.Growing.{Extends, InRows}
use Rattle.hw_lines.specs.Line.{Line, IsLine, IsRegistered}
use Rattle.hw_lines.specs.Chain.{source_of, reader_of, IsAnswer}
use Rattle.hw_shows.specs.Timing.{Timing, latency_after, IsPlainEdge, IsLateEdge}
use Rattle.hw_shows.specs.Series.{IsLineInto, IsOffered}
use Rattle.hw_build.specs.inner.Growth.{InLater}
use Rattle.hw_build.specs.inner.Lines.{frame_behind, shift_into, use_into}
use Rattle.hw_build.proofs.Growth.{in_call}
use Rattle.hw_lines.proofs.LineEnds.{part-below}

-- the frame of a reader as a chain has it, and as it is
frame_same : (period latency other later : ℕ) → period ≡ other → latency ≡ later → ◌≡◌ {A = Frame} (record { period = period; latency = latency }) (record { period = other; latency = later })
frame_same period latency other later p l = ap (λ (n : ℕ). record { period = n; latency = latency }) p ∙ ap (λ (n : ℕ). record { period = other; latency = n }) l

-- what is offered, where the periods and the registers of the end are known
offered_at : (n : ℕ) (timing : Timing) (from block p own : ℕ) (source reader lag : Option ℕ) (lags : ℕ → Option ℕ) (first : ℤ) (wave line : Wave) → source ≡ Some p → reader ≡ Some own → lags p ≡ lag
    → IsLineInto n timing from p block own lag first wave line → IsOffered n timing from source block reader lags first wave line
offered_at n timing from block p own source reader lag lags first wave line source_is reader_is lag_is is =
    subst (λ (s : Option ℕ). IsOffered n timing from s block reader lags first wave line) (sym source_is)
    (subst (λ (r : Option ℕ). IsOffered n timing from (Some p) block r lags first wave line) (sym reader_is)
    (subst (λ (l : Option ℕ). IsLineInto n timing from p block own l first wave line) (sym lag_is) is))

module _ (closed hubs : ℕ) (before after : Circuit) (small : hubs ≤ length before.nets) (grown : Extends before after) (timing : Timing) (cycles : before.cycles ≡ timing.cycles)
    (from block p own hub number : ℕ) (source reader : Option ℕ) (lags : ℕ → Option ℕ) (source_is : source ≡ Some p) (reader_is : reader ≡ Some own)
  where
    -- an end of either form, seen in a frame that is its own
    end_offered : (Shows : ℕ → Line → Wave → Wave → Type 0) (lag : Option ℕ) (first : ℤ) (seen reader_frame : Frame) → lags p ≡ lag → ◌≡◌ {A = Frame} seen reader_frame
        → ((n : ℕ) (wave line : Wave) → Shows n
        (record { cycles = timing.cycles; own = frame_behind timing p from; reader = reader_frame }) wave line
        → IsLineInto n timing from p block own lag first wave line)
        → InRows before after (λ n rows. Shows n (record { cycles = before.cycles; own = frame_behind timing p from; reader = seen }) (rows hub) (rows number))
        → InLater closed hubs after (λ n rows. IsOffered n timing from source block reader lags first (rows hub) (rows number))
    end_offered Shows lag first seen reader_frame lag_is seen_is into shown =
        in_call closed hubs before after (λ n rows. IsOffered n timing from source block reader lags first (rows hub) (rows number)) small grown
        (record {
          holds = λ later keeps n inputs rows is.
              offered_at n timing from block p own source reader lag lags first (rows hub) (rows number) source_is reader_is lag_is
              (into n (rows hub) (rows number)
              (subst (λ (f : Frame). Shows n (record { cycles = timing.cycles; own = frame_behind timing p from; reader = f }) (rows hub) (rows number)) seen_is
              (subst (λ (c : ℕ). Shows n (record { cycles = c; own = frame_behind timing p from; reader = seen }) (rows hub) (rows number)) cycles
              (shown.holds later keeps n inputs rows is))));
        })

    -- a plain end
    pub plain_offered : (kept first : ℤ) → lags p ≡ None → IsPlainEdge timing from p block own → 0 < own
        → IsAnswer before after (source_of hub (frame_behind timing p from) kept false)
        (reader_of (source_of hub (frame_behind timing p from) kept false)
        (use_into timing from p block own None)) number
        → InLater closed hubs after (λ n rows. IsOffered n timing from source block reader lags first (rows hub) (rows number))
    plain_offered kept first lag_is edge some answer =
        let low = part-below own p edge.divides some in
        let wide : max p own ≡ own = omega (arith, low) in
        let late : latency_after timing p from + shift_into timing from p block None ≡ timing.latency block = omega (arith, edge.behind) in
        end_offered IsLine None first (reader_of (source_of hub (frame_behind timing p from) kept false)
        (use_into timing from p block own None))
        (record { period = own; latency = timing.latency block }) lag_is
        (frame_same (max p own) (latency_after timing p from + shift_into timing from p block None) own (timing.latency block) wide late) (λ n wave line is. is) answer.shows

    -- an end with registers
    pub late_offered : (lag : ℕ) (first : ℤ) → lags p ≡ Some lag → IsLateEdge timing from p block own lag → 0 < p
        → IsAnswer before after (source_of hub (frame_behind timing p from) first true)
        (reader_of (source_of hub (frame_behind timing p from) first true)
        (use_into timing from p block own (Some lag))) number
        → InLater closed hubs after (λ n rows. IsOffered n timing from source block reader lags first (rows hub) (rows number))
    late_offered lag first lag_is edge some answer =
        let low = part-below p own edge.divides some in
        let wide : max p own ≡ p = omega (arith, low) in
        let late : latency_after timing p from + shift_into timing from p block (Some lag) ≡ timing.latency block + lag = omega (arith, edge.behind) in
        end_offered (λ n line source wave. IsRegistered n line first source wave) (Some lag) first
        (reader_of (source_of hub (frame_behind timing p from) first true)
        (use_into timing from p block own (Some lag)))
        (record { period = p; latency = timing.latency block + lag }) lag_is
        (frame_same (max p own) (latency_after timing p from + shift_into timing from p block (Some lag)) p (timing.latency block + lag) wide late) (λ n wave line is. is) answer.shows
