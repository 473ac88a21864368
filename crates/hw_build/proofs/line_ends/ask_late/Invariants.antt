use Rattle.hw_build.specs.inner.EndSearch.{AsksAll, hub_spread, late_want}
use Rattle.hw_build.proofs.line_ends.ask_late.Given as goal

abbrev pub invariant-loop-element : goal.invariant-loop-element
invariant-loop-element l = AsksAll l.fn.asks.list.items l.asks.list.items l.fn.asks.wants.items l.asks.wants.items
    (hub_spread l.first l.width) (late_want l.checked.diagram l.block l.first l.width l.frame l.to) l.element
