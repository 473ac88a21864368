use Rattle.std.proofs.Common.{ℕ, [], List}
use Rattle.hw_build.specs.declared.operands.Span.{Span}
use Rattle.hw_build.specs.inner.EndAsks.{HaveAsked, controls_left}
use Rattle.hw_build.proofs.gathering.gather_controls.Given as goal

abbrev pub invariant-loop-block : goal.invariant-loop-block
invariant-loop-block l = (lines : List Span) (lined : ℕ) → HaveAsked l.ends l.fn.asks lines [] lined 0 (controls_left l.ends.design.checked.now.diagram 0)
    → HaveAsked l.ends l.asks lines l.controls lined l.block (controls_left l.ends.design.checked.now.diagram l.block)
