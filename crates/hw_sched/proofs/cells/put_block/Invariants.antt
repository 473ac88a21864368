use Rattle.std.proofs.Common.{List, ◌++◌}
use Rattle.hw_sched.specs.Slots.{Operation}
use Rattle.hw_sched.specs.Answer.{timing_of}
use Rattle.hw_sched.specs.inner.Cells.{AreCellsBut, shared_at}
use Rattle.hw_sched.proofs.CellNumbers.{elements_from}
use Rattle.hw_sched.proofs.cells.put_block.Given as goal

abbrev pub invariant-loop-element : goal.invariant-loop-element
invariant-loop-element l = (rest : List Operation) → AreCellsBut l.checked.diagram l.plan (timing_of l.latencies l.depths) (shared_at l.checked.diagram l.plan l.place ++ rest) l.fn.cells
    → AreCellsBut l.checked.diagram l.plan (timing_of l.latencies l.depths) (elements_from l.checked.diagram l.plan (timing_of l.latencies l.depths) l.place l._element ++ rest) l.cells
