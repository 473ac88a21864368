use Rattle.std.specs.Prelude.{[]}
use Rattle.hw_build.specs.inner.Factors.{AreFirsts, GathersFor, first_for}
use Rattle.hw_build.proofs.shared.gather.Given as goal

abbrev pub invariant-loop-place : goal.invariant-loop-place
invariant-loop-place l =
    AreFirsts l.design.checked.now.diagram l.design.plan.now l.firsts.items l.place × GathersFor l.design l.operands l.fn.net l.net [] l.operations.items 0 (first_for l.design l.place)
