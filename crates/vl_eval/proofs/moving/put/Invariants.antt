use Rattle.std.proofs.Common.{take}
use Rattle.vl_eval.specs.inner.Edges.{IsPut}
use Rattle.vl_eval.proofs.moving.put.Given as goal

abbrev pub invariant-loop-k : goal.invariant-loop-k
invariant-loop-k l = IsPut (take l.k l.places) l.bits l.initial.values l.values
