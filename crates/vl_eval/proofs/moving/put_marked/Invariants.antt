use Rattle.std.proofs.Common.{length, take}
use Rattle.vl_eval.specs.inner.Edges.{IsPut}
use Rattle.vl_eval.specs.inner.Reading.{AreSpared, HaveMarks}
use Rattle.vl_eval.proofs.moving.put_marked.Given as goal

abbrev pub invariant-loop-k : goal.invariant-loop-k
invariant-loop-k l = record {
  put : IsPut (take l.k l.plan.inputs.items) l.bits l.fn.values l.values;
  spared : AreSpared l.plan.base 0 l.plan.arranged.ops l.marks l.values;
  marks : HaveMarks (length l.plan.arranged.ops) l.marks;
}
