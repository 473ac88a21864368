use Rattle.std.proofs.Common.{length}
use Rattle.hw_arcs.specs.inner.Parts.{IsSearch}
use Rattle.hw_arcs.proofs.parts.parts_of.Given as goal

abbrev pub invariant-loop-done : goal.invariant-loop-done
invariant-loop-done l = IsSearch (length l.rows) l.search
