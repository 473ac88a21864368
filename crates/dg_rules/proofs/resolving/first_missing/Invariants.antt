use Rattle.dg_rules.specs.inner.Standings.{AllFound}
use Rattle.dg_rules.proofs.resolving.first_missing.Given as goal

abbrev pub invariant-loop-number : goal.invariant-loop-number
invariant-loop-number l = AllFound l.standings l.number
