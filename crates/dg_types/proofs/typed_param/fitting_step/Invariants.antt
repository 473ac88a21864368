use Rattle.std.proofs.Common.{◌≡◌, ◌-◌}
use Rattle.std.specs.List.{find, range_with_len}
use Rattle.dg_types.specs.inner.TypeFit.{at_step}
use Rattle.dg_types.proofs.typed_param.fitting_step.Given as goal

abbrev pub invariant-loop-k : goal.invariant-loop-k
invariant-loop-k l = find (at_step l.decimal l.signed l.width) (range_with_len l.k (193 - l.k)) ≡ find (at_step l.decimal l.signed l.width) (range_with_len l.fn.steps (193 - l.fn.steps))
