use Rattle.hw_rules.specs.inner.Own.{IsCount}
use Rattle.hw_rules.proofs.owing.multipliers.Given as goal

abbrev pub invariant-loop-unit : goal.invariant-loop-unit
invariant-loop-unit l = IsCount l.units l.unit-index l.count
