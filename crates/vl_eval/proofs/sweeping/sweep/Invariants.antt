use Rattle.std.proofs.Common.{◌≡◌, length, take}
use Rattle.vl_eval.specs.inner.Ops.{AreSettled}
use Rattle.vl_eval.specs.inner.Steps.{ops_of}
use Rattle.vl_eval.proofs.sweeping.sweep.Given as goal

abbrev pub invariant-loop-number : goal.invariant-loop-number
invariant-loop-number l = record {
  long : length l.values ≡ length l.initial.values;
  kept : take l.base l.values ≡ take l.base l.initial.values;
  settled : AreSettled l.base l.number (ops_of l.wide l.steps) l.values;
}
