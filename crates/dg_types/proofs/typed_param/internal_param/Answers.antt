use Rattle.std.proofs.Common.{◌≡◌, ◌∙◌, ap, sym, ℤ, Some, FitsSigned, to_z, of_z, rules}
use Rattle.std.specs.Int.{w16}
use Rattle.std.proofs.lemmas.Int.{to_z-of_z}
use Rattle.fx_type.specs.declared.kind.FxType.TheVariants.{Num}
use Rattle.dg_types.proofs.GreatestFrac.{internal_zero, internal_none, internal_some, width_is}
use Rattle.dg_types.proofs.typed_param.internal_param.Goals as goal

pub returns-then-are_zero-clause-value : goal.returns-then-are_zero-clause-value
returns-then-are_zero-clause-value c =
    let s = c.is_param_signed-signed.ensures in
    let w = width_is c.args.value.now c.args.input c.is_param_signed-signed.result c.width.result c.param_width-width.result s c.width.ensures c.param_width-width.ensures in
    internal_zero c.args.value.now c.args.input c.is_param_signed-signed.result c.param_width-width.result s w (sym c.are_zero.ensures ∙ c.if-are_zero.true)

pub returns-in_default-clause-value : goal.returns-in_default-clause-value
returns-in_default-clause-value c =
    let s = c.is_param_signed-signed.ensures in
    let w = width_is c.args.value.now c.args.input c.is_param_signed-signed.result c.width.result c.param_width-width.result s c.width.ensures c.param_width-width.ensures in
    internal_none c.args.value.now c.args.input c.is_param_signed-signed.result c.param_width-width.result s w
    (sym c.are_zero.ensures ∙ c.if-are_zero.false) (sym c.in_default.is ∙ c.greatest_fit.ensures.value)

pub returns-clause-value : goal.returns-clause-value
returns-clause-value c =
    let s = c.is_param_signed-signed.ensures in
    let w = width_is c.args.value.now c.args.input c.is_param_signed-signed.result c.width.result c.param_width-width.result s c.width.ensures c.param_width-width.ensures in
    let fits : FitsSigned w16 c.in-Some.frac = search rules in
    let frac : to_z w16 (of_z w16 c.in-Some.frac) ≡ c.in-Some.frac = to_z-of_z w16 c.in-Some.frac fits in
    ap (λ (z : ℤ). Some (Num c.is_param_signed-signed.result c.param_width-width.result z)) frac
    ∙ internal_some c.args.value.now c.args.input c.is_param_signed-signed.result c.param_width-width.result s w
    c.in-Some.frac (sym c.are_zero.ensures ∙ c.if-are_zero.false)
    (sym c.in-Some.is ∙ c.greatest_fit.ensures.value)
