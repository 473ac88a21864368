use Rattle.hw_sched.specs.Answer.{timing_of}
use Rattle.hw_sched.specs.inner.Cells.{AreCellsBut}
use Rattle.hw_sched.proofs.CellNumbers.{operations_from}
use Rattle.hw_sched.proofs.cells.cells_of.Given as goal

abbrev pub invariant-loop-place : goal.invariant-loop-place
invariant-loop-place l = AreCellsBut l.checked.diagram l.plan (timing_of l.latencies l.depths) (operations_from l.checked.diagram l.plan (timing_of l.latencies l.depths) l.place) l.cells
