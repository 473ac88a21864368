use Rattle.std.proofs.Common.{◌≡◌, drop}
use Rattle.std.specs.Prelude.{find, not}
use Rattle.dg_model.specs.Periods.{period_at}
use Rattle.dg_model.specs.Rate.{suits}
use Rattle.dg_rates.proofs.agreeing.disagreeing.Given as goal

abbrev pub invariant-loop-source : goal.invariant-loop-source
invariant-loop-source l =
    find (λ source. not (suits l.joins l.own (period_at l.periods source))) (drop l.source-index l.asked)
    ≡ find (λ source. not (suits l.joins l.own (period_at l.periods source))) l.asked
