use Rattle.std.proofs.Common.{◌≡◌, ◌<◌, Bool, true, false, MatchBool, ℕ, ℤ, List, All, length, to_z, of_z, sym, subst, arith}
use Rattle.std.specs.Int.{w128}
use Rattle.std.proofs.lemmas.Int.{to_z-of_z}
use Rattle.fx_type.specs.declared.kind.FxType.{FxType}
use Rattle.fx_type.specs.FxType.{IsType, InRange}
use Rattle.fx_type.proofs.Ranges.{InRange-fits}
use Rattle.dg_model.specs.declared.kind.Criterion.{Criterion}
use Rattle.dg_model.specs.declared.op.Op.{Op}
use Rattle.dg_model.specs.declared.op.Op.TheVariants.{Switch}
use Rattle.dg_model.specs.Operation.{Operation, operation_of, type_of, value_of, HasArity, HasParameters, HasFullType, AreInRange, CanCarryOut, IsConverted, meets, Gives, OpGives}
use Rattle.dg_blocks.proofs.operation.output.Goals as goal

-- an input is the number of the code that stands for it
own : (types : List FxType) (inputs : List ℤ) (input : ℕ) → All IsType types → AreInRange types inputs → input < length types → to_z w128 (of_z w128 (value_of inputs input)) ≡ value_of inputs input
own types inputs input valid values inside = to_z-of_z w128 _ (InRange-fits (type_of types input) (value_of inputs input) (valid input _ inside) (values.in_range input inside))

-- its type and the number itself are those of an input
read : (types : List FxType) (inputs : List ℤ) (input : ℕ) → All IsType types → AreInRange types inputs
    → input < length types → IsType (type_of types input)
    × InRange (type_of types input) (to_z w128 (of_z w128 (value_of inputs input)))
read types inputs input valid values inside = (valid input _ inside, rw (own types inputs input valid values inside) (values.in_range input inside))

pub times-requires : goal.times-requires
times-requires c =
    let one : length c.args.call.now.types.now ≡ 1 = subst (λ (op : Op). HasArity op (length c.args.call.now.types.now)) c.in-Gain.is c.requires.prepared.arity in
    let x = read c.args.call.now.types.now c.args.inputs.now 0 c.requires.prepared.types c.requires.values (omega (arith, one)) in
    let parameters = subst (λ (op : Op). HasParameters op c.args.call.now.types.now) c.in-Gain.is c.requires.prepared.parameters in
    let y = to_z-of_z w128 c.in-Gain.coefficient (InRange-fits c.in-Gain.param c.in-Gain.coefficient parameters.0 parameters.1) in
    record {
      left = x.0;
      right = parameters.0;
      x_in_range = x.1;
      y_in_range = rw y parameters.1;
      full = subst (λ (op : Op). HasFullType op c.args.call.now.signs.now c.args.call.now.types.now) c.in-Gain.is c.requires.prepared.full_type;
      result = c.requires.prepared.result;
    }

pub times-requires-in-Product : goal.times-requires-in-Product
times-requires-in-Product c =
    let two : length c.args.call.now.types.now ≡ 2 = subst (λ (op : Op). HasArity op (length c.args.call.now.types.now)) c.in-Product.is c.requires.prepared.arity in
    let x = read c.args.call.now.types.now c.args.inputs.now 0 c.requires.prepared.types c.requires.values (omega (arith, two)) in
    let y = read c.args.call.now.types.now c.args.inputs.now 1 c.requires.prepared.types c.requires.values (omega (arith, two)) in
    record {
      left = x.0;
      right = y.0;
      x_in_range = x.1;
      y_in_range = y.1;
      full =
          subst (λ (op : Op). HasFullType op c.args.call.now.signs.now c.args.call.now.types.now) c.in-Product.is
          c.requires.prepared.full_type;
      result = c.requires.prepared.result;
    }

pub compares_values-requires : goal.compares_values-requires
compares_values-requires c =
    let two : length c.args.call.now.types.now ≡ 2 = subst (λ (op : Op). HasArity op (length c.args.call.now.types.now)) c.in-Relational.is c.requires.prepared.arity in
    let x = read c.args.call.now.types.now c.args.inputs.now 0 c.requires.prepared.types c.requires.values (omega (arith, two)) in
    let y = read c.args.call.now.types.now c.args.inputs.now 1 c.requires.prepared.types c.requires.values (omega (arith, two)) in
    record {
      left = x.0;
      right = y.0;
      x_in_range = x.1;
      y_in_range = y.1;
      union =
          subst (λ (op : Op). HasFullType op c.args.call.now.signs.now c.args.call.now.types.now) c.in-Relational.is
          c.requires.prepared.full_type;
    }

pub conversion-requires : goal.conversion-requires
conversion-requires c =
    let three : length c.args.call.now.types.now ≡ 3 = subst (λ (op : Op). HasArity op (length c.args.call.now.types.now)) c.in-Switch.is c.requires.prepared.arity in
    let x = read c.args.call.now.types.now c.args.inputs.now 0 c.requires.prepared.types c.requires.values (omega (arith, three)) in
    record { from = x.0; in_range = x.1; result = c.requires.prepared.result }

pub conversion-requires-else-meets : goal.conversion-requires-else-meets
conversion-requires-else-meets c =
    let three : length c.args.call.now.types.now ≡ 3 = subst (λ (op : Op). HasArity op (length c.args.call.now.types.now)) c.in-Switch.is c.requires.prepared.arity in
    let x = read c.args.call.now.types.now c.args.inputs.now 2 c.requires.prepared.types c.requires.values (omega (arith, three)) in
    record { from = x.0; in_range = x.1; result = c.requires.prepared.result }

pub conversion-requires-in-Convert-false : goal.conversion-requires-in-Convert-false
conversion-requires-in-Convert-false c =
    let one : length c.args.call.now.types.now ≡ 1 = subst (λ (op : Op). HasArity op (length c.args.call.now.types.now)) c.in-Convert-false.is c.requires.prepared.arity in
    let x = read c.args.call.now.types.now c.args.inputs.now 0 c.requires.prepared.types c.requires.values (omega (arith, one)) in
    record { from = x.0; in_range = x.1; result = c.requires.prepared.result }

pub stored_converted-requires : goal.stored_converted-requires
stored_converted-requires c =
    let one : length c.args.call.now.types.now ≡ 1 = subst (λ (op : Op). HasArity op (length c.args.call.now.types.now)) c.in-Convert-true.is c.requires.prepared.arity in
    let x = read c.args.call.now.types.now c.args.inputs.now 0 c.requires.prepared.types c.requires.values (omega (arith, one)) in
    record { from = x.0; in_range = x.1; result = c.requires.prepared.result }

pub returns-in-Sum-None : goal.returns-in-Sum-None
returns-in-Sum-None c =
    let r = to_z-of_z w128 c.sum.result (record { sfits = c.sum.type_inv }) in
    rw r c.sum.ensures

pub returns-in-Sum-Some : goal.returns-in-Sum-Some
returns-in-Sum-Some c =
    let r = to_z-of_z w128 c.accumulated.result (record { sfits = c.accumulated.type_inv }) in
    rw r c.accumulated.ensures

pub returns-in-Gain : goal.returns-in-Gain
returns-in-Gain c =
    let types = c.args.call.now.types.now in
    let inputs = c.args.inputs.now in
    let op = c.in-Gain.is in
    let one : length types ≡ 1 = subst (λ (op : Op). HasArity op (length types)) op c.requires.prepared.arity in
    let parameters = subst (λ (op : Op). HasParameters op types) op c.requires.prepared.parameters in
    let x = own types inputs 0 c.requires.prepared.types c.requires.values (omega (arith, one)) in
    let y = to_z-of_z w128 c.in-Gain.coefficient (InRange-fits c.in-Gain.param c.in-Gain.coefficient parameters.0 parameters.1) in
    let r = to_z-of_z w128 c.times.result (record { sfits = c.times.type_inv }) in
    let given = rw (x, y) at c.times.ensures in
    rw r (subst (λ (op : Op). Gives op (operation_of c.args.call.now) types inputs c.times.result) (sym op) given)

-- a Switch gives the input that it takes, converted, and its numbers are those of the codes that stand for them
switched : (operation : Operation) (inputs : List ℤ) (criterion : Criterion) (threshold : ℤ) (first : Bool) (r : ℤ) → CanCarryOut operation inputs → operation.op ≡ Switch criterion threshold
    → first ≡ meets criterion (to_z w128 (of_z w128 threshold)) (to_z w128 (of_z w128 (value_of inputs 1)))
    → MatchBool first (IsConverted operation (to_z w128 (of_z w128 (value_of inputs 0)))
    (type_of operation.types 0) r)
    (IsConverted operation (to_z w128 (of_z w128 (value_of inputs 2))) (type_of operation.types 2) r)
    → OpGives operation inputs r
switched operation inputs criterion threshold first r can op met given =
    let types = operation.types in
    let valid = can.prepared.types in
    let three : length types ≡ 3 = subst (λ (op : Op). HasArity op (length types)) op can.prepared.arity in
    let parameters = subst (λ (op : Op). HasParameters op types) op can.prepared.parameters in
    let stored = to_z-of_z w128 threshold (InRange-fits (type_of types 1) threshold (valid 1 _ (omega (arith, three))) parameters) in
    let chosen : first ≡ meets criterion threshold (value_of inputs 1) = rw (stored, own types inputs 1 valid can.values (omega (arith, three))) at met in
    let read = rw (own types inputs 0 valid can.values (omega (arith, three)), own types inputs 2 valid can.values (omega (arith, three))) at given in
    subst (λ (op : Op). Gives op operation types inputs r) (sym op)
    (subst (λ (b : Bool). MatchBool b (IsConverted operation (value_of inputs 0) (type_of types 0) r) (IsConverted operation (value_of inputs 2) (type_of types 2) r)) chosen read)

pub returns-then-meets : goal.returns-then-meets
returns-then-meets c =
    rw (to_z-of_z w128 c.conversion.result (record { sfits = c.conversion.type_inv }))
    (switched (operation_of c.args.call.now) c.args.inputs.now c.in-Switch.criterion c.in-Switch.threshold true c.conversion.result c.requires c.in-Switch.is c.if-meets.ensures c.conversion.ensures)

pub returns-else-meets : goal.returns-else-meets
returns-else-meets c =
    rw (to_z-of_z w128 c.conversion-else-meets.result (record { sfits = c.conversion-else-meets.type_inv }))
    (switched (operation_of c.args.call.now) c.args.inputs.now c.in-Switch.criterion c.in-Switch.threshold false
    c.conversion-else-meets.result c.requires c.in-Switch.is c.if-meets.ensures c.conversion-else-meets.ensures)

pub returns-in-Product : goal.returns-in-Product
returns-in-Product c =
    let two : length c.args.call.now.types.now ≡ 2 = subst (λ (op : Op). HasArity op (length c.args.call.now.types.now)) c.in-Product.is c.requires.prepared.arity in
    let x = own c.args.call.now.types.now c.args.inputs.now 0 c.requires.prepared.types c.requires.values (omega (arith, two)) in
    let y = own c.args.call.now.types.now c.args.inputs.now 1 c.requires.prepared.types c.requires.values (omega (arith, two)) in
    let r = to_z-of_z w128 c.times-in-Product.result (record { sfits = c.times-in-Product.type_inv }) in
    let given = rw (x, y) at c.times-in-Product.ensures in
    rw r (subst (λ (op : Op). Gives op (operation_of c.args.call.now) c.args.call.now.types.now c.args.inputs.now c.times-in-Product.result) (sym c.in-Product.is) given)
