use Rattle.std.proofs.Common.{length}
use Rattle.hw_arcs.specs.inner.Parts.{IsSearch}
use Rattle.hw_arcs.proofs.parts.Search.close.Given as goal

abbrev pub invariant-part : goal.invariant-part
invariant-part l = IsSearch (length l.fn.self.marks.items) l.self

abbrev pub decreases-part : goal.decreases-part
decreases-part l = length l.self.unclosed.items
