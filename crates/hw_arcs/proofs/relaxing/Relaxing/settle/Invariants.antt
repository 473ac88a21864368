use Rattle.std.proofs.Common.{drop, length}
use Rattle.hw_arcs.specs.inner.State.{seen}
use Rattle.hw_arcs.proofs.Steps.{IsOnRow}
use Rattle.hw_arcs.proofs.relaxing.Relaxing.settle.Given as goal

abbrev pub invariant-loop-number : goal.invariant-loop-number
invariant-loop-number l = IsOnRow l.arcs (length l.fn.self.lat.items) l.limit (seen l.fn.self) (seen l.self) (drop l.number-index l.row)
