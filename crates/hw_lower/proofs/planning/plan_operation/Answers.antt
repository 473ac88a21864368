use Rattle.std.proofs.Common.{◌≡◌, ◌*ℤ◌, ℕ, ℤ, Bool, List, Some, None, rules, length, subst, to_z, of_z, arith, refl}
use Rattle.std.specs.Int.{w128}
use Rattle.std.proofs.lemmas.Int.{to_z-of_z}
use Rattle.fx_type.specs.declared.kind.FxType.{FxType}
use Rattle.fx_type.specs.declared.kind.FxType.TheVariants.{Logical as LogicalType}
use Rattle.dg_model.specs.declared.op.Op.{Op}
use Rattle.dg_model.specs.declared.op.Op.TheVariants.{Sum, Gain, Product, Switch, Relational, Logic, Convert, Pass}
use Rattle.dg_model.specs.Operation.{operation_of, Gives, HasArity, HasFullType, HasParameters, HasResultType, HasSigns, IsConverted, type_of, value_of}
use Rattle.hw_lower.specs.inner.Spread.{OfArguments}
use Rattle.hw_lower.proofs.Arguments.{plan-of, plan-plain, plan-typed, few-inputs, gate-inputs}
use Rattle.hw_lower.proofs.StepChains.{made-self}
use Rattle.hw_lower.proofs.Multiplies.{made-plain, planned-map}
use Rattle.hw_lower.proofs.planning.plan_operation.Goals as goal

-- Pass has one input
one-passed : (op : Op) (n : ℕ) → op ≡ Pass → HasArity op n → n ≡ 1
one-passed op n is has = subst (λ (o : Op). HasArity o n) is has

-- what a known operation has
arity_of : {op known : Op} (n : ℕ) → op ≡ known → HasArity op n → HasArity known n
arity_of n is has = subst (λ (o : Op). HasArity o n) is has

full_of : {op known : Op} (signs : List Bool) (types : List FxType) → op ≡ known → HasFullType op signs types → HasFullType known signs types
full_of signs types is has = subst (λ (o : Op). HasFullType o signs types) is has

result_of : {op known : Op} (types : List FxType) (result : FxType) → op ≡ known → HasResultType op types result → HasResultType known types result
result_of types result is has = subst (λ (o : Op). HasResultType o types result) is has

pub returns-in-Sum-None : goal.returns-in-Sum-None
returns-in-Sum-None c =
    let is : c.args.call.now.op ≡ Sum None = search rules in
    plan-plain (operation_of c.args.call.now) (Sum None) c.args.call.now.result is refl refl c.plan_sum.ensures

pub returns-in-Sum-Some : goal.returns-in-Sum-Some
returns-in-Sum-Some c =
    let is : c.args.call.now.op ≡ Sum (Some c.in-Sum-Some.accum) = search rules in
    plan-of (operation_of c.args.call.now) (Sum (Some c.in-Sum-Some.accum)) is
    (made-plain (λ numbers. OfArguments c.args.call.now.types.now numbers
    (λ values. Gives (Sum (Some c.in-Sum-Some.accum))
    (operation_of c.args.call.now) c.args.call.now.types.now values
    (numbers c.plan_accumulated.result.place))) c.plan_accumulated.ensures
    (λ numbers p values are. subst (λ (o : Op). Gives o (operation_of c.args.call.now) c.args.call.now.types.now values (numbers c.plan_accumulated.result.place)) is (p values are)))

pub returns-in-Switch : goal.returns-in-Switch
returns-in-Switch c =
    let own : to_z w128 (of_z w128 c.in-Switch.threshold) ≡ c.in-Switch.threshold = to_z-of_z w128 c.in-Switch.threshold (search rules) in
    plan-of (operation_of c.args.call.now) (Switch c.in-Switch.criterion c.in-Switch.threshold) c.in-Switch.is
    (made-plain (λ numbers. OfArguments c.args.call.now.types.now numbers
    (λ values. Gives (Switch c.in-Switch.criterion c.in-Switch.threshold)
    (operation_of c.args.call.now) c.args.call.now.types.now values (numbers c.plan_switch.result.place)))
    c.plan_switch.ensures
    (λ numbers p values are. subst (λ (t : ℤ). Gives (Switch c.in-Switch.criterion t)
    (operation_of c.args.call.now) c.args.call.now.types.now values (numbers c.plan_switch.result.place)) own
    (p values are)))

pub returns-in-Convert : goal.returns-in-Convert
returns-in-Convert c = plan-plain (operation_of c.args.call.now) (Convert c.in-Convert.stored) c.args.call.now.result c.in-Convert.is refl refl c.plan_conversion.ensures

pub returns-in-Gain : goal.returns-in-Gain
returns-in-Gain c =
    let own : to_z w128 (of_z w128 c.in-Gain.coefficient) ≡ c.in-Gain.coefficient = to_z-of_z w128 c.in-Gain.coefficient (search rules) in
    plan-of (operation_of c.args.call.now) (Gain c.in-Gain.coefficient c.in-Gain.param) c.in-Gain.is
    (planned-map (λ numbers. OfArguments c.args.call.now.types.now numbers
    (λ values. Gives (Gain c.in-Gain.coefficient c.in-Gain.param)
    (operation_of c.args.call.now) c.args.call.now.types.now values (numbers c.plan_gain.result.place)))
    c.plan_gain.ensures
    (λ numbers p values are. let is = p values are in
    (is.full, is.is_full, subst (λ (t : ℤ). IsConverted (operation_of c.args.call.now) (value_of values 0 *ℤ t) is.full (numbers c.plan_gain.result.place)) own is.converted)))

pub returns-in-Product : goal.returns-in-Product
returns-in-Product c =
    plan-of (operation_of c.args.call.now) Product c.in-Product.is
    (planned-map (λ numbers. OfArguments c.args.call.now.types.now numbers
    (λ values. Gives Product (operation_of c.args.call.now) c.args.call.now.types.now values
    (numbers c.plan_product.result.place))) c.plan_product.ensures
    (λ numbers p values are. let is = p values are in (is.full, is.is_full, is.converted)))

pub returns-in-Relational : goal.returns-in-Relational
returns-in-Relational c =
    let type : c.args.call.now.result ≡ LogicalType = result_of c.args.call.now.types.now c.args.call.now.result c.in-Relational.is c.requires.prepared.result_type in
    plan-plain (operation_of c.args.call.now) (Relational c.in-Relational.operator) LogicalType c.in-Relational.is type refl c.compare_arguments.ensures

pub returns-in-Logic : goal.returns-in-Logic
returns-in-Logic c =
    let type : c.args.call.now.result ≡ LogicalType = result_of c.args.call.now.types.now c.args.call.now.result c.in-Logic.is c.requires.prepared.result_type in
    plan-plain (operation_of c.args.call.now) (Logic c.in-Logic.operator) LogicalType c.in-Logic.is type refl c.gate.ensures

pub argument_of-requires-clause-inside : goal.argument_of-requires-clause-inside
argument_of-requires-clause-inside c =
    let one = one-passed c.args.call.now.op (length c.args.call.now.types.now) c.in-Pass.is c.requires.prepared.arity in
    omega (arith, one)

pub argument_of-requires-clause-few : goal.argument_of-requires-clause-few
argument_of-requires-clause-few c = few-inputs c.args.call.now.op (length c.args.call.now.types.now) c.requires.prepared.arity

pub returns-in-Pass : goal.returns-in-Pass
returns-in-Pass c =
    let one = one-passed c.args.call.now.op (length c.args.call.now.types.now) c.in-Pass.is c.requires.prepared.arity in
    let type : c.args.call.now.result ≡ (type_of c.args.call.now.types.now 0) =
    subst (λ (op : Op). HasResultType op c.args.call.now.types.now c.args.call.now.result) c.in-Pass.is
    c.requires.prepared.result_type in
    rw c.argument_of.ensures
    (plan-typed (operation_of c.args.call.now) Pass (type_of c.args.call.now.types.now 0) c.in-Pass.is type
    (made-plain (λ numbers. OfArguments c.args.call.now.types.now numbers (λ values. Gives Pass (operation_of c.args.call.now) c.args.call.now.types.now values (numbers 0)))
    (made-self (λ numbers. OfArguments c.args.call.now.types.now numbers (λ values. numbers 0 ≡ value_of values 0))
    (c.requires.arguments.each 0 (omega (arith, one)))
    (λ numbers has values are. are.each 0 (omega (arith, one)))) (λ numbers p. p)))

pub gate-requires : goal.gate-requires
gate-requires c = record {
  arguments = c.requires.arguments;
  some = gate-inputs c.in-Logic.operator (length c.args.call.now.types.now) (subst (λ (op : Op). HasArity op (length c.args.call.now.types.now)) c.in-Logic.is c.requires.prepared.arity);
  few = few-inputs c.args.call.now.op (length c.args.call.now.types.now) c.requires.prepared.arity;
}

pub compare_arguments-requires : goal.compare_arguments-requires
compare_arguments-requires c = record {
  arguments = c.requires.arguments;
  two = arity_of (length c.args.call.now.types.now) c.in-Relational.is c.requires.prepared.arity;
  types = c.requires.prepared.types;
  union = full_of c.args.call.now.signs.now c.args.call.now.types.now c.in-Relational.is c.requires.prepared.full_type;
}

pub plan_sum-requires-clause-can : goal.plan_sum-requires-clause-can
plan_sum-requires-clause-can c = c.requires

pub plan_gain-requires-clause-can : goal.plan_gain-requires-clause-can
plan_gain-requires-clause-can c = c.requires

pub plan_product-requires-clause-can : goal.plan_product-requires-clause-can
plan_product-requires-clause-can c = c.requires

pub plan_switch-requires-clause-can : goal.plan_switch-requires-clause-can
plan_switch-requires-clause-can c = c.requires

pub plan_conversion-requires-clause-can : goal.plan_conversion-requires-clause-can
plan_conversion-requires-clause-can c = c.requires

pub plan_sum-requires-clause-signs : goal.plan_sum-requires-clause-signs
plan_sum-requires-clause-signs c = subst (λ (o : Op). HasSigns o c.args.call.now.signs.now (length c.args.call.now.types.now)) c.in-Sum-None.is c.requires.prepared.signs

pub plan_sum-requires-clause-some : goal.plan_sum-requires-clause-some
plan_sum-requires-clause-some c = (arity_of (length c.args.call.now.types.now) c.in-Sum-None.is c.requires.prepared.arity).0

pub plan_sum-requires-clause-few : goal.plan_sum-requires-clause-few
plan_sum-requires-clause-few c = (arity_of (length c.args.call.now.types.now) c.in-Sum-None.is c.requires.prepared.arity).1

pub plan_sum-requires-clause-full : goal.plan_sum-requires-clause-full
plan_sum-requires-clause-full c =
    let is : c.args.call.now.op ≡ Sum None = search rules in
    full_of {known = Sum None} c.args.call.now.signs.now c.args.call.now.types.now is c.requires.prepared.full_type

pub plan_gain-requires-clause-single : goal.plan_gain-requires-clause-single
plan_gain-requires-clause-single c = arity_of (length c.args.call.now.types.now) c.in-Gain.is c.requires.prepared.arity

pub plan_gain-requires-clause-param : goal.plan_gain-requires-clause-param
plan_gain-requires-clause-param c = (subst (λ (o : Op). HasParameters o c.args.call.now.types.now) c.in-Gain.is c.requires.prepared.parameters).0

pub plan_gain-requires-clause-full : goal.plan_gain-requires-clause-full
plan_gain-requires-clause-full c = full_of c.args.call.now.signs.now c.args.call.now.types.now c.in-Gain.is c.requires.prepared.full_type

pub plan_product-requires-clause-two : goal.plan_product-requires-clause-two
plan_product-requires-clause-two c = arity_of (length c.args.call.now.types.now) c.in-Product.is c.requires.prepared.arity

pub plan_product-requires-clause-full : goal.plan_product-requires-clause-full
plan_product-requires-clause-full c = full_of c.args.call.now.signs.now c.args.call.now.types.now c.in-Product.is c.requires.prepared.full_type

pub plan_switch-requires-clause-three : goal.plan_switch-requires-clause-three
plan_switch-requires-clause-three c = arity_of (length c.args.call.now.types.now) c.in-Switch.is c.requires.prepared.arity

pub plan_conversion-requires-clause-single : goal.plan_conversion-requires-clause-single
plan_conversion-requires-clause-single c = arity_of (length c.args.call.now.types.now) c.in-Convert.is c.requires.prepared.arity
