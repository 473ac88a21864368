use Rattle.std.proofs.Common.{◌≡◌, Option, Some, None, ap, sym, ◌∙◌}
use Rattle.fx_type.specs.declared.kind.FxType.{FxType}
use Rattle.fx_type.specs.FullTypeOf.{full_product_of}
use Rattle.dg_model.specs.GainParam.{param_type_of}
use Rattle.dg_model.specs.Periods.{known_at}
use Rattle.dg_model.specs.TypeRounds.{with_known}
use Rattle.dg_types.specs.inner.TypeInputs.{source_types}
use Rattle.dg_types.proofs.GreatestFrac.{param_is}
use Rattle.dg_types.proofs.SumTypes.{known_step}
use Rattle.dg_types.proofs.typed_step.scaled_at.Goals as goal

pub returns-in_default-param_type : goal.returns-in_default-param_type
returns-in_default-param_type c =
    let first : known_at (source_types c.args.values.now c.args.sources.now) 0 ≡ Some c.in-Some.input = sym c.input_at.ensures.value ∙ c.in-Some.is in
    let param : param_type_of c.args.value.now c.args.param c.in-Some.input ≡ None =
    sym (param_is c.args.value.now c.args.param c.in-Some.input) ∙ sym c.param_type.ensures.value
    ∙ c.in_default-param_type.is in
    sym (known_step (known_at (source_types c.args.values.now c.args.sources.now) 0) c.in-Some.input
    (λ input. with_known (param_type_of c.args.value.now c.args.param input) (full_product_of input)) first
    ∙ ap (λ (o : Option FxType). with_known o (full_product_of c.in-Some.input)) param)

pub returns : goal.returns
returns c =
    let first : known_at (source_types c.args.values.now c.args.sources.now) 0 ≡ Some c.in-Some.input = sym c.input_at.ensures.value ∙ c.in-Some.is in
    let param : param_type_of c.args.value.now c.args.param c.in-Some.input ≡ Some c.in-Some-param_type.kind =
    sym (param_is c.args.value.now c.args.param c.in-Some.input) ∙ sym c.param_type.ensures.value
    ∙ c.in-Some-param_type.is in
    c.pair_type.ensures
    ∙ sym (known_step (known_at (source_types c.args.values.now c.args.sources.now) 0) c.in-Some.input
    (λ input. with_known (param_type_of c.args.value.now c.args.param input) (full_product_of input)) first
    ∙ ap (λ (o : Option FxType). with_known o (full_product_of c.in-Some.input)) param)
