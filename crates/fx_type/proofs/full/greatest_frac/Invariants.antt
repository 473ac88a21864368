use Rattle.std.proofs.Common.{◌≡◌, ◌≤ℤ◌, All, Any, take}
use Rattle.fx_type.specs.FxType.{frac_of}
use Rattle.fx_type.proofs.full.greatest_frac.Given as goal

abbrev pub invariant-loop-kind : goal.invariant-loop-kind
invariant-loop-kind l = record {
  bound : All (λ term. frac_of term.1 ≤ℤ l.greatest) (take l.kind-index l.terms);
  reached : Any (λ term. frac_of term.1 ≡ l.greatest) l.terms;
}
