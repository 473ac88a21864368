use Rattle.std.proofs.Common.{◌≡◌, All, Option, sym, subst}
use Rattle.fx_type.specs.declared.kind.FxType.{FxType}
use Rattle.dg_types.specs.inner.TypeInputs.{source_types}
use Rattle.dg_types.proofs.InputTests.{one_type}
use Rattle.dg_types.proofs.typed_rule.are_one.Goals as goal

pub returns : goal.returns
returns c =
    let types = source_types c.args.values.now c.args.sources.now in (
      (λ yes. (one_type types).0 (subst (λ (o : Option FxType). All (λ other. other ≡ o) types) c.input_at.ensures.value (c.are_all.ensures.0 yes))),
      (λ one. c.are_all.ensures.1 (subst (λ (o : Option FxType). All (λ other. other ≡ o) types) (sym c.input_at.ensures.value) ((one_type types).1 one))),
    )
