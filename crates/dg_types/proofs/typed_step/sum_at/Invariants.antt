use Rattle.std.proofs.Common.{◌≡◌, take, drop, length, All}
use Rattle.fx_type.specs.FxType.{IsType}
use Rattle.dg_types.specs.inner.TypeInputs.{source_types, joined, terms_of}
use Rattle.dg_types.proofs.typed_step.sum_at.Given as goal

abbrev pub invariant-loop-input : goal.invariant-loop-input
invariant-loop-input l = record {
  gathered : joined (take l.input l.terms) (terms_of (drop l.input l.negative) (drop l.input (source_types l.values l.sources))) ≡ terms_of l.negative (source_types l.values l.sources);
  long : length l.terms ≡ 32;
  valid : All (λ term. IsType term.1) (take l.input l.terms);
}
