use Rattle.std.proofs.Common.{take}
use Rattle.vl_eval.specs.inner.Edges.{IsTaken}
use Rattle.vl_eval.proofs.moving.capture.Given as goal

abbrev pub invariant-loop-capture : goal.invariant-loop-capture
invariant-loop-capture l = IsTaken (take l.capture-index l.captures) l.initial.values l.values
