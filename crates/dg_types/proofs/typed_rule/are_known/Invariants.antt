use Rattle.std.proofs.Common.{ℕ, ◌<◌}
use Rattle.std.specs.Prelude.{IsSome}
use Rattle.dg_model.specs.Periods.{known_at}
use Rattle.dg_types.specs.inner.TypeInputs.{source_types}
use Rattle.dg_types.proofs.typed_rule.are_known.Given as goal

abbrev pub invariant-loop-source : goal.invariant-loop-source
invariant-loop-source l = (k : ℕ) → k < l.source-index → IsSome (known_at (source_types l.values l.sources) k)
