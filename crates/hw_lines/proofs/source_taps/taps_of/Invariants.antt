use Rattle.std.proofs.Common.{◌≡◌, ◌+◌, length, Some, slice_get}
use Rattle.hw_net.specs.Frames.{register_count}
use Rattle.hw_lines.specs.Register.{Grows}
use Rattle.hw_lines.specs.inner.Parts.{AreTaps}
use Rattle.hw_lines.proofs.source_taps.taps_of.Given as goal

abbrev pub invariant-loop-step : goal.invariant-loop-step
invariant-loop-step l = record {
  size : length l.taps ≡ l.step + 1;
  are : AreTaps l.fn.net l.net l.source l.taps;
  last_is : slice_get l.taps l.step ≡ Some l.last;
  grown : Grows l.fn.net l.net l.source.from ⊥ (λ other. other ≡ l.source.frame);
  few : register_count l.net.nets ≡ register_count l.fn.net.nets + l.step;
}
