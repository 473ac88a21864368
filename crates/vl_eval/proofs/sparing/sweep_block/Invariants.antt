use Rattle.std.proofs.Common.{◌≡◌, length, take}
use Rattle.vl_eval.specs.inner.Reading.{AreSpared, HaveMarks}
use Rattle.vl_eval.proofs.sparing.sweep_block.Given as goal

abbrev pub invariant-loop-number : goal.invariant-loop-number
invariant-loop-number l = record {
  spared : AreSpared l.base l.number l.code l.marks l.values;
  marks : HaveMarks (length l.code) l.marks;
  kept : take l.base l.values ≡ take l.base l.fn.values;
  long : length l.values ≡ length l.fn.values;
}
