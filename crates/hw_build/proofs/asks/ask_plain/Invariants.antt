use Rattle.hw_build.specs.inner.EndSearch.{AsksAll, hub_from, plain_want}
use Rattle.hw_build.proofs.asks.ask_plain.Given as goal

abbrev pub invariant-loop-element : goal.invariant-loop-element
invariant-loop-element l = AsksAll l.fn.asks.list.items l.asks.list.items l.fn.asks.wants.items l.asks.wants.items (hub_from l.first) (plain_want l.first l.frame l.to) l.element
