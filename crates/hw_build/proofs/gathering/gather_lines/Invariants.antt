use Rattle.std.proofs.Common.{[]}
use Rattle.hw_build.specs.inner.EndAsks.{HaveAsked, lines_left}
use Rattle.hw_build.proofs.gathering.gather_lines.Given as goal

abbrev pub invariant-loop-edge : goal.invariant-loop-edge
invariant-loop-edge l = HaveAsked l.ends l.asks l.lines [] l.edge-index 0 (lines_left l.ends.design.checked.now.diagram l.edge-index)
