use Rattle.std.proofs.Common.{◌≡◌, map, take}
use Rattle.dg_model.specs.Periods.{or_one}
use Rattle.dg_rates.proofs.rounds.PeriodRound.periods.Given as goal

abbrev pub invariant-loop-period : goal.invariant-loop-period
invariant-loop-period l = l.periods ≡ map or_one (take l.period-index l.period-items)
