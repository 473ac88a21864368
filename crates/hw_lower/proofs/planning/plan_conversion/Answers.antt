use Rattle.std.proofs.Common.{ℤ, true, false, subst, arith}
use Rattle.dg_model.specs.declared.op.Op.TheVariants.{Convert}
use Rattle.dg_model.specs.Operation.{operation_of, Gives, IsConverted, type_of, without_frac}
use Rattle.fx_type.specs.Conversion.{Converts}
use Rattle.hw_lower.specs.inner.Spread.{OfArguments}
use Rattle.hw_lower.proofs.StepChains.{made-map}
use Rattle.hw_lower.proofs.planning.plan_conversion.Goals as goal

pub returns-then-stored : goal.returns-then-stored
returns-then-stored c =
    rw c.if-stored.true
    (made-map (λ numbers. OfArguments c.args.call.now.types.now numbers
    (λ values. Gives (Convert true) (operation_of c.args.call.now) c.args.call.now.types.now values
    (numbers c.plan_store.result.place))) c.plan_store.ensures
    (λ numbers has p values are.
    subst (λ (z : ℤ). Converts z (without_frac (type_of c.args.call.now.types.now 0))
    (without_frac c.args.call.now.result) c.args.call.now.rounding c.args.call.now.saturate
    (numbers c.plan_store.result.place)) (are.each 0 (omega (arith, c.requires.single))) p))

pub returns : goal.returns
returns c =
    rw c.if-stored.false
    (made-map (λ numbers. OfArguments c.args.call.now.types.now numbers
    (λ values. Gives (Convert false) (operation_of c.args.call.now) c.args.call.now.types.now values
    (numbers c.convert_argument.result.place))) c.convert_argument.ensures
    (λ numbers has p values are.
    subst (λ (z : ℤ). IsConverted (operation_of c.args.call.now) z (type_of c.args.call.now.types.now 0) (numbers c.convert_argument.result.place)) (are.each 0 (omega (arith, c.requires.single))) p))
