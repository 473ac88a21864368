use Rattle.std.proofs.Common.{◌≡◌, Some, sym, ap, ◌∙◌, rules}
use Rattle.dg_model.specs.Attributes.{coefficient_type as coefficient_type_of}
use Rattle.dg_model.specs.GainParam.{param_type_of}
use Rattle.dg_model.specs.Library.{row_of}
use Rattle.dg_model.specs.KindRow.{FullRule}
use Rattle.dg_model.specs.Periods.{known_at}
use Rattle.dg_types.specs.inner.TypeInputs.{source_types}
use Rattle.dg_types.proofs.GreatestFrac.{param_is}
use Rattle.dg_types.proofs.SumTypes.{known_step}
use Rattle.dg_types.proofs.typed_step.coefficient_type.Goals as goal

pub returns-in-Some : goal.returns-in-Some
returns-in-Some c =
    let known = known_at (source_types c.args.values.now c.args.sources.now) 0 in
    let first : known ≡ Some c.in-Some.input = sym c.input_at.ensures.value ∙ c.in-Some.is in
    let full : (row_of c.args.kind.now).types.full ≡ FullRule.FullScaled c.in-FullScaled.value.now c.in-FullScaled.param = search rules in
    c.param_type.ensures.value ∙ param_is c.in-FullScaled.value.now c.in-FullScaled.param c.in-Some.input
    ∙ sym (known_step known c.in-Some.input (param_type_of c.in-FullScaled.value.now c.in-FullScaled.param) first)
    ∙ ap (λ (rule : FullRule). coefficient_type_of rule known) (sym full)
