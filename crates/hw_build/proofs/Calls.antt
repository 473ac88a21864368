-- The chains of a schedule may be asked for.
use Rattle.std.proofs.Common.{ℕ, ◌+◌, ◌<◌, ◌≤◌, true, false, ℤ, Some, None, arith}
use Rattle.std.specs.Prelude.{◌^◌}
use Rattle.std.proofs.Common.{true≢false}
use Rattle.std.proofs.lemmas.Bool.{false≢true}
use Rattle.hw_lines.specs.Chain.{source_of, IsUse}
use Rattle.hw_shows.specs.Timing.{Timing, IsPlainEdge, IsLateEdge}
use Rattle.hw_build.specs.inner.Lines.{frame_behind, use_into}

module _ (timing : Timing) (from block p own hub : ℕ) (kept : ℤ) (some : 0 < own) (most : own ≤ 4096) where
  pub plain_use : IsPlainEdge timing from p block own → timing.latency block < 2 ^ 62 → IsUse (source_of hub (frame_behind timing p from) kept false) (use_into timing from p block own None)
  plain_use edge early = record {
    some = some;
    most = most;
    near = omega (arith, early);
    plain = λ e. edge.divides;
    registered = λ e. absurd (false≢true e);
  }

  pub late_use : (lag : ℕ) → IsLateEdge timing from p block own lag → timing.latency block + lag < 2 ^ 62
      → IsUse (source_of hub (frame_behind timing p from) kept true) (use_into timing from p block own (Some lag))
  late_use lag edge early = record {
    some = some;
    most = most;
    near = omega (arith, early);
    plain = λ e. absurd (true≢false e);
    registered = λ e. (edge.divides, let behind = edge.behind in omega (arith, behind));
  }
