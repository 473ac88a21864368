use Rattle.std.proofs.Common.{◌≡◌, drop}
use Rattle.dg_model.specs.Periods.{least_of, least_finite}
use Rattle.dg_rates.specs.inner.Steps.{known_of}
use Rattle.dg_rates.proofs.rounds.least_finite.Given as goal

abbrev pub invariant-loop-source : goal.invariant-loop-source
invariant-loop-source l = least_of l.least (least_finite (known_of l.values (drop l.source-index l.sources))) ≡ least_finite (known_of l.values l.sources)
