use Rattle.std.proofs.Common.{◌≡◌, ◌<◌, ◌≤ℤ◌, ℕ, get_or}
use Rattle.std.specs.Prelude.{Any}
use Rattle.fx_type.specs.declared.kind.FxType.{FxType}
use Rattle.fx_type.specs.FxType.{frac_of}
use Rattle.dg_blocks.proofs.exact.greatest_frac.Given as goal

abbrev pub invariant-loop-kind : goal.invariant-loop-kind
invariant-loop-kind l = record {
  bound : (k : ℕ) (d : FxType) → k < l.kind-index → frac_of (get_or l.types k d) ≤ℤ l.greatest;
  reached : Any (λ type. frac_of type ≡ l.greatest) l.types;
}
