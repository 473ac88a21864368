use Rattle.std.proofs.Common.{◌≡◌, drop}
use Rattle.std.specs.List.{list_all}
use Rattle.dg_model.specs.Periods.{is_unchanging}
use Rattle.dg_rates.specs.inner.Steps.{known_of}
use Rattle.dg_rates.proofs.rounds.all_rest.Given as goal

abbrev pub invariant-loop-source : goal.invariant-loop-source
invariant-loop-source l = list_all is_unchanging (known_of l.values (drop l.source-index l.sources)) ≡ list_all is_unchanging (known_of l.values l.sources)
