use Rattle.std.proofs.Common.{length, take}
use Rattle.vl_eval.specs.inner.Edges.{IsTaken}
use Rattle.vl_eval.specs.inner.Reading.{AreSpared, HaveMarks}
use Rattle.vl_eval.proofs.moving.capture_marked.Given as goal

abbrev pub invariant-loop-capture : goal.invariant-loop-capture
invariant-loop-capture l = record {
  taken : IsTaken (take l.capture-index l.plan.arranged.captures.items) l.fn.values l.values;
  spared : AreSpared l.plan.base 0 l.plan.arranged.ops l.marks l.values;
  marks : HaveMarks (length l.plan.arranged.ops) l.marks;
}
