use Rattle.std.proofs.Common.{◌≡◌, ℤ, ◌*ℤ◌, List, FitsSigned, to_z, of_z, ap, ◌∙◌, subst, arith}
use Rattle.std.specs.Int.{w64, w128}
use Rattle.std.proofs.lemmas.Int.{ints, to_z-of_z}
use Rattle.dg_model.specs.Operation.{Operation, CanCarryOut, value_of, type_of}
use Rattle.dg_blocks.specs.declared.narrow.Narrow.{Narrow}
use Rattle.dg_blocks.specs.declared.prepared.Prepared.{Prepared}
use Rattle.dg_blocks.specs.declared.prepared.Prepared.TheVariants.{Converted, Times, Scaled}
use Rattle.dg_blocks.specs.Prepared.{IsPrepared}
use Rattle.dg_blocks.proofs.Outputs.{converted_fits, converted_room, converted_gives, left_fits, right_fits, times_fits, times_room, times_gives, input_fits, coefficient_fits, scaled_fits}
use Rattle.dg_blocks.proofs.Outputs.{scaled_room, scaled_gives}
use Rattle.dg_blocks.proofs.prepared.Prepared.alone.Goals as goal

-- a number that fits 64 bits, as the code has it
wide : (v : ℤ) → FitsSigned w64 v → to_z w128 (of_z w128 v) ≡ v
wide v f = to_z-of_z w128 v (omega (arith, ints, f))

wide_fits : (v : ℤ) → FitsSigned w64 v → FitsSigned w64 (to_z w128 (of_z w128 v))
wide_fits v f = rw (wide v f) f

short : (v : ℤ) → FitsSigned w64 v → to_z w64 (of_z w64 (to_z w128 (of_z w128 v))) ≡ v
short v f = ap (λ (z : ℤ). to_z w64 (of_z w64 z)) (wide v f) ∙ to_z-of_z w64 v f

-- what is prepared fits the operation, and 64 bits hold what is read: the input of a conversion
record Converts (operation : Operation) (inputs : List ℤ) (narrow : Narrow) : Type 0 where
  is : IsPrepared (Converted narrow) operation
  input : FitsSigned w64 (value_of inputs 0)

converts : (operation : Operation) (inputs : List ℤ) (prepared : Prepared) (narrow : Narrow)
    → IsPrepared prepared operation → CanCarryOut operation inputs → prepared ≡ Converted narrow
    → Converts operation inputs narrow
converts operation inputs prepared narrow ready can same =
    let is : IsPrepared (Converted narrow) operation = subst (λ (p : Prepared). IsPrepared p operation) same ready in
    record { is = is; input = converted_fits operation inputs can narrow is }

-- the factors of a product, and the product
record Multiplies (operation : Operation) (inputs : List ℤ) (narrow : Narrow) : Type 0 where
  is : IsPrepared (Times narrow) operation
  left : FitsSigned w64 (value_of inputs 0)
  right : FitsSigned w64 (value_of inputs 1)
  product : FitsSigned w64 (value_of inputs 0 *ℤ value_of inputs 1)

multiplies : (operation : Operation) (inputs : List ℤ) (prepared : Prepared) (narrow : Narrow)
    → IsPrepared prepared operation → CanCarryOut operation inputs → prepared ≡ Times narrow
    → Multiplies operation inputs narrow
multiplies operation inputs prepared narrow ready can same =
    let is : IsPrepared (Times narrow) operation = subst (λ (p : Prepared). IsPrepared p operation) same ready in
    record { is = is; left = left_fits operation inputs can narrow is; right = right_fits operation inputs can narrow is; product = times_fits operation inputs can narrow is }

-- the input of a product with a constant, the constant, and the product
record Scales (operation : Operation) (inputs : List ℤ) (coefficient : ℤ) (narrow : Narrow) : Type 0 where
  is : IsPrepared (Scaled coefficient narrow) operation
  input : FitsSigned w64 (value_of inputs 0)
  constant : FitsSigned w64 coefficient
  product : FitsSigned w64 (value_of inputs 0 *ℤ coefficient)

scales : (operation : Operation) (inputs : List ℤ) (prepared : Prepared) (coefficient : ℤ) (narrow : Narrow)
    → IsPrepared prepared operation → CanCarryOut operation inputs → prepared ≡ Scaled coefficient narrow
    → Scales operation inputs coefficient narrow
scales operation inputs prepared coefficient narrow ready can same =
    let is : IsPrepared (Scaled coefficient narrow) operation = subst (λ (p : Prepared). IsPrepared p operation) same ready in
    record {
      is = is;
      input = input_fits operation inputs can narrow coefficient is;
      constant =
          coefficient_fits operation inputs can narrow coefficient is;
      product =
          scaled_fits operation inputs can narrow coefficient is;
    }

pub overflow_cast-inputs : goal.overflow_cast-inputs
overflow_cast-inputs c = wide_fits _ (converts c.requires.0 c.args.inputs.now _ c.in-Converted.narrow c.requires.1 c.requires.2 c.in-Converted.is).input

pub convert-requires-clause-room : goal.convert-requires-clause-room
convert-requires-clause-room c =
    let all = converts c.requires.0 c.args.inputs.now _ c.in-Converted.narrow c.requires.1 c.requires.2 c.in-Converted.is in
    rw (short (value_of c.args.inputs.now 0) all.input) (converted_room c.requires.0 c.args.inputs.now c.requires.2 c.in-Converted.narrow all.is)

pub overflow_cast-product : goal.overflow_cast-product
overflow_cast-product c = wide_fits _ (multiplies c.requires.0 c.args.inputs.now _ c.in-Times.narrow c.requires.1 c.requires.2 c.in-Times.is).left

pub overflow_cast-product-in-Times : goal.overflow_cast-product-in-Times
overflow_cast-product-in-Times c = wide_fits _ (multiplies c.requires.0 c.args.inputs.now _ c.in-Times.narrow c.requires.1 c.requires.2 c.in-Times.is).right

pub overflow_mul-product : goal.overflow_mul-product
overflow_mul-product c =
    let all = multiplies c.requires.0 c.args.inputs.now _ c.in-Times.narrow c.requires.1 c.requires.2 c.in-Times.is in
    rw (short (value_of c.args.inputs.now 0) all.left, short (value_of c.args.inputs.now 1) all.right) all.product

pub convert-requires-in-Times-clause-room : goal.convert-requires-in-Times-clause-room
convert-requires-in-Times-clause-room c =
    let all = multiplies c.requires.0 c.args.inputs.now _ c.in-Times.narrow c.requires.1 c.requires.2 c.in-Times.is in
    let p = to_z-of_z w64 (value_of c.args.inputs.now 0 *ℤ value_of c.args.inputs.now 1) all.product in
    rw (short (value_of c.args.inputs.now 0) all.left, short (value_of c.args.inputs.now 1) all.right, p) (times_room c.requires.0 c.args.inputs.now c.requires.2 c.in-Times.narrow all.is)

pub returns-in-Converted : goal.returns-in-Converted
returns-in-Converted c operation ready can =
    let all = converts operation c.args.inputs.now _ c.in-Converted.narrow ready can c.in-Converted.is in
    let n : FitsSigned w64 c.convert.result = record { sfits = c.convert.type_inv } in
    let r : to_z w128 (of_z w128 c.from.result) ≡ c.convert.result = omega (arith, ints, c.from.ensures, n) in
    let e = rw (short (value_of c.args.inputs.now 0) all.input) at (c.convert.ensures (type_of operation.types 0) operation.result operation.rounding operation.saturate all.is.1.0) in
    rw r (converted_gives operation c.args.inputs.now can c.in-Converted.narrow all.is c.convert.result e)

pub returns-in-Times : goal.returns-in-Times
returns-in-Times c operation ready can =
    let all = multiplies operation c.args.inputs.now _ c.in-Times.narrow ready can c.in-Times.is in
    let p = to_z-of_z w64 (value_of c.args.inputs.now 0 *ℤ value_of c.args.inputs.now 1) all.product in
    let n : FitsSigned w64 c.convert-in-Times.result = record { sfits = c.convert-in-Times.type_inv } in
    let r : to_z w128 (of_z w128 c.from-in-Times.result) ≡ c.convert-in-Times.result = omega (arith, ints, c.from-in-Times.ensures, n) in
    rw r (times_gives operation c.args.inputs.now can c.in-Times.narrow all.is c.convert-in-Times.result
    (λ from narrow. rw (
      short (value_of c.args.inputs.now 0) all.left,
      short (value_of c.args.inputs.now 1) all.right,
      p,
    ) at
    (c.convert-in-Times.ensures from operation.result operation.rounding operation.saturate narrow)))

pub overflow_cast-scaled : goal.overflow_cast-scaled
overflow_cast-scaled c = wide_fits _ (scales c.requires.0 c.args.inputs.now _ c.in-Scaled.coefficient c.in-Scaled.narrow c.requires.1 c.requires.2 c.in-Scaled.is).input

pub overflow_mul-scaled : goal.overflow_mul-scaled
overflow_mul-scaled c =
    let all = scales c.requires.0 c.args.inputs.now _ c.in-Scaled.coefficient c.in-Scaled.narrow c.requires.1 c.requires.2 c.in-Scaled.is in
    rw (short (value_of c.args.inputs.now 0) all.input, to_z-of_z w64 c.in-Scaled.coefficient all.constant) all.product

pub convert-requires-in-Scaled-clause-room : goal.convert-requires-in-Scaled-clause-room
convert-requires-in-Scaled-clause-room c =
    let all = scales c.requires.0 c.args.inputs.now _ c.in-Scaled.coefficient c.in-Scaled.narrow c.requires.1 c.requires.2 c.in-Scaled.is in
    let p = to_z-of_z w64 (value_of c.args.inputs.now 0 *ℤ c.in-Scaled.coefficient) all.product in
    rw (short (value_of c.args.inputs.now 0) all.input, to_z-of_z w64 c.in-Scaled.coefficient all.constant, p)
    (scaled_room c.requires.0 c.args.inputs.now c.requires.2 c.in-Scaled.narrow c.in-Scaled.coefficient all.is)

pub returns-in-Scaled : goal.returns-in-Scaled
returns-in-Scaled c operation ready can =
    let all = scales operation c.args.inputs.now _ c.in-Scaled.coefficient c.in-Scaled.narrow ready can c.in-Scaled.is in
    let p = to_z-of_z w64 (value_of c.args.inputs.now 0 *ℤ c.in-Scaled.coefficient) all.product in
    let n : FitsSigned w64 c.convert-in-Scaled.result = record { sfits = c.convert-in-Scaled.type_inv } in
    let r : to_z w128 (of_z w128 c.from-in-Scaled.result) ≡ c.convert-in-Scaled.result = omega (arith, ints, c.from-in-Scaled.ensures, n) in
    rw r (scaled_gives operation c.args.inputs.now can c.in-Scaled.narrow c.in-Scaled.coefficient all.is
    c.convert-in-Scaled.result (λ from narrow. rw
    (short (value_of c.args.inputs.now 0) all.input, to_z-of_z w64 c.in-Scaled.coefficient all.constant, p)
    at (c.convert-in-Scaled.ensures from operation.result operation.rounding operation.saturate
    narrow)))
