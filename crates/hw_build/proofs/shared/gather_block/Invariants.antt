use Rattle.hw_build.specs.inner.Factors.{GathersFor, first_for}
use Rattle.hw_build.proofs.shared.gather_block.Given as goal

abbrev pub invariant-loop-element : goal.invariant-loop-element
invariant-loop-element l = GathersFor l.design l.operands l.fn.net l.net l.fn.operations.items l.operations.items (first_for l.design l.block) l.element
