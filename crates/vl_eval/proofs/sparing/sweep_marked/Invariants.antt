use Rattle.std.proofs.Common.{◌≡◌, ◌*◌, length, take}
use Rattle.vl_eval.specs.inner.Reading.{AreSpared, HaveMarks}
use Rattle.vl_eval.proofs.sparing.sweep_marked.Given as goal

abbrev pub invariant-loop-block : goal.invariant-loop-block
invariant-loop-block l = record {
  spared : AreSpared l.base (l.block * 64) l.code l.marks l.values;
  marks : HaveMarks (length l.code) l.marks;
  kept : take l.base l.values ≡ take l.base l.fn.values;
  long : length l.values ≡ length l.fn.values;
}
