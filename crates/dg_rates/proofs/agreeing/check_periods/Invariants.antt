use Rattle.dg_model.specs.Rate.{KeepsPeriods}
use Rattle.dg_rates.proofs.FirstFault.{KeepBefore}
use Rattle.dg_rates.proofs.agreeing.check_periods.Given as goal

abbrev pub invariant-loop-place : goal.invariant-loop-place
invariant-loop-place l = KeepBefore l.diagram (KeepsPeriods l.diagram l.periods) l.place
