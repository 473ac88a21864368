-- A prepared operation gives what the operation gives.
use Rattle.std.proofs.Common.{◌≡◌, ℕ, ◌^◌, ◌≤◌, Bool, true, false, cond, ℤ, pos, ◌*ℤ◌, ◌≤ℤ◌, List, length, MatchBool, FitsSigned, sym, ◌∙◌, subst, arith, pow_mono}
use Rattle.std.specs.Prelude.{zip}
use Rattle.std.specs.Int.{w64}
use Rattle.std.proofs.lemmas.Int.{ints}
use Rattle.fx_type.specs.declared.kind.FxType.{FxType}
use Rattle.fx_type.specs.FxType.{frac_of}
use Rattle.fx_type.specs.Conversion.{Converts}
use Rattle.fx_type.proofs.Ranges.{frac_bounds}
use Rattle.dg_model.specs.declared.kind.Criterion.{Criterion}
use Rattle.dg_model.specs.declared.op.Op.{Op}
use Rattle.dg_model.specs.declared.op.Op.TheVariants.{Product, Gain, Switch}
use Rattle.dg_model.specs.Operation.{Operation, HasArity, HasSigns, HasFullType, HasParameters, CanCarryOut, IsConverted, OpGives, Gives, meets, signed_sum, type_of, value_of}
use Rattle.dg_blocks.specs.declared.narrow.Narrow.{Narrow}
use Rattle.dg_blocks.specs.declared.prepared.Prepared.TheVariants.{Converted, Times, Scaled, Summed, Chosen}
use Rattle.dg_blocks.specs.Narrow.{IsNarrow, IsWithin, HasRoom, magnitude_of}
use Rattle.dg_blocks.specs.Prepared.{IsPrepared, IsSummable, product_bits}
use Rattle.dg_blocks.proofs.NarrowWords.{range_within, product_within, whole_fits}
use Rattle.dg_blocks.proofs.Weights.{whole_within}

more_bits : (bits more : ℕ) (v : ℤ) → bits ≤ more → IsWithin bits v → IsWithin more v
more_bits bits more v h w = let p : 2 ^ bits ≤ 2 ^ more = pow_mono h in record { low = omega (arith, ints, p, w.low); high = omega (arith, ints, p, w.high) }

taken_within : (test : Bool) (bits : ℕ) (v w : ℤ) → IsWithin bits v → IsWithin bits w → IsWithin bits (cond test v w)
taken_within true bits v w p q = p
taken_within false bits v w p q = q

-- the conversion of what a Switch takes
taken_gives : (test : Bool) (operation : Operation) (v w r : ℤ) (a b : FxType) (narrow : Narrow)
    → frac_of b ≡ frac_of a → IsNarrow narrow (frac_of a) operation.result operation.rounding operation.saturate
    → ((from : FxType) → IsNarrow narrow (frac_of from) operation.result operation.rounding operation.saturate → Converts (cond test v w) from operation.result operation.rounding operation.saturate r)
    → MatchBool test (IsConverted operation v a r) (IsConverted operation w b r)
taken_gives true operation v w r a b narrow e is h = h a is
taken_gives false operation v w r a b narrow e is h = h b (subst (λ (f : ℤ). IsNarrow narrow f operation.result operation.rounding operation.saturate) (sym e) is)

module _ (operation : Operation) (inputs : List ℤ) (can : CanCarryOut operation inputs) (narrow : Narrow) where
  -- as many bits as the conversion was prepared for
  abbrev pub HasPlace : ℤ → Type 0
  HasPlace v = (bits : ℕ) × HasRoom narrow bits × IsWithin bits v

  module _ (is : IsPrepared (Converted narrow) operation) where
    arity : length operation.types ≡ 1
    arity = subst (λ (op : Op). HasArity op (length operation.types)) is.0 can.prepared.arity

    within : IsWithin (magnitude_of (type_of operation.types 0)) (value_of inputs 0)
    within = range_within (type_of operation.types 0) (value_of inputs 0) (can.prepared.types 0 _ (omega (arith, arity))) (can.values.in_range 0 (omega (arith, arity)))

    pub converted_fits : FitsSigned w64 (value_of inputs 0)
    converted_fits = whole_fits (magnitude_of (type_of operation.types 0)) (value_of inputs 0) is.1.1.bits_below within

    pub converted_room : HasPlace (value_of inputs 0)
    converted_room = (magnitude_of (type_of operation.types 0), is.1.1, within)

    pub converted_gives : (r : ℤ) → Converts (value_of inputs 0) (type_of operation.types 0) operation.result operation.rounding operation.saturate r → OpGives operation inputs r
    converted_gives r h = subst (λ (op : Op). Gives op operation operation.types inputs r) (sym is.0) h

  module _ (is : IsPrepared (Times narrow) operation) where
    pair : length operation.types ≡ 2
    pair = subst (λ (op : Op). HasArity op (length operation.types)) is.0 can.prepared.arity

    left : IsWithin (magnitude_of (type_of operation.types 0)) (value_of inputs 0)
    left = range_within (type_of operation.types 0) (value_of inputs 0) (can.prepared.types 0 _ (omega (arith, pair))) (can.values.in_range 0 (omega (arith, pair)))

    right : IsWithin (magnitude_of (type_of operation.types 1)) (value_of inputs 1)
    right = range_within (type_of operation.types 1) (value_of inputs 1) (can.prepared.types 1 _ (omega (arith, pair))) (can.values.in_range 1 (omega (arith, pair)))

    product : IsWithin (product_bits (type_of operation.types 0) (type_of operation.types 1)) (value_of inputs 0 *ℤ value_of inputs 1)
    product = product_within (magnitude_of (type_of operation.types 0)) (magnitude_of (type_of operation.types 1)) (value_of inputs 0) (value_of inputs 1) left right

    pub left_fits : FitsSigned w64 (value_of inputs 0)
    left_fits = whole_fits (magnitude_of (type_of operation.types 0)) (value_of inputs 0) (omega (arith, is.1.1.bits_below)) left

    pub right_fits : FitsSigned w64 (value_of inputs 1)
    right_fits = whole_fits (magnitude_of (type_of operation.types 1)) (value_of inputs 1) (omega (arith, is.1.1.bits_below)) right

    pub times_fits : FitsSigned w64 (value_of inputs 0 *ℤ value_of inputs 1)
    times_fits = whole_fits _ (value_of inputs 0 *ℤ value_of inputs 1) is.1.1.bits_below product

    pub times_room : HasPlace (value_of inputs 0 *ℤ value_of inputs 1)
    times_room = (product_bits (type_of operation.types 0) (type_of operation.types 1), is.1.1, product)

    full : HasFullType Product operation.signs operation.types
    full = subst (λ (op : Op). HasFullType op operation.signs operation.types) is.0 can.prepared.full_type

    pub times_gives : (r : ℤ) → ((from : FxType)
        → IsNarrow narrow (frac_of from) operation.result operation.rounding operation.saturate
        → Converts (value_of inputs 0 *ℤ value_of inputs 1) from operation.result operation.rounding
        operation.saturate r) → OpGives operation inputs r
    times_gives r h =
        subst (λ (op : Op). Gives op operation operation.types inputs r) (sym is.0)
        (full.0, full.1, h full.0 (subst (λ (f : ℤ). IsNarrow narrow f operation.result operation.rounding operation.saturate) (sym full.1.frac) is.1.0))

  module _ (coefficient : ℤ) (is : IsPrepared (Scaled coefficient narrow) operation) where
    single : length operation.types ≡ 1
    single = subst (λ (op : Op). HasArity op (length operation.types)) is.1 can.prepared.arity

    parameters : HasParameters (Gain coefficient is.0) operation.types
    parameters = subst (λ (op : Op). HasParameters op operation.types) is.1 can.prepared.parameters

    input_within : IsWithin (magnitude_of (type_of operation.types 0)) (value_of inputs 0)
    input_within = range_within (type_of operation.types 0) (value_of inputs 0) (can.prepared.types 0 _ (omega (arith, single))) (can.values.in_range 0 (omega (arith, single)))

    coefficient_within : IsWithin (magnitude_of is.0) coefficient
    coefficient_within = range_within is.0 coefficient parameters.0 parameters.1

    scaled_within : IsWithin (product_bits (type_of operation.types 0) is.0) (value_of inputs 0 *ℤ coefficient)
    scaled_within = product_within (magnitude_of (type_of operation.types 0)) (magnitude_of is.0) (value_of inputs 0) coefficient input_within coefficient_within

    pub input_fits : FitsSigned w64 (value_of inputs 0)
    input_fits = whole_fits (magnitude_of (type_of operation.types 0)) (value_of inputs 0) (omega (arith, is.2.1.bits_below)) input_within

    pub coefficient_fits : FitsSigned w64 coefficient
    coefficient_fits = whole_fits (magnitude_of is.0) coefficient (omega (arith, is.2.1.bits_below)) coefficient_within

    pub scaled_fits : FitsSigned w64 (value_of inputs 0 *ℤ coefficient)
    scaled_fits = whole_fits _ (value_of inputs 0 *ℤ coefficient) is.2.1.bits_below scaled_within

    pub scaled_room : HasPlace (value_of inputs 0 *ℤ coefficient)
    scaled_room = (product_bits (type_of operation.types 0) is.0, is.2.1, scaled_within)

    gain_full : HasFullType (Gain coefficient is.0) operation.signs operation.types
    gain_full = subst (λ (op : Op). HasFullType op operation.signs operation.types) is.1 can.prepared.full_type

    pub scaled_gives : (r : ℤ) → ((from : FxType)
        → IsNarrow narrow (frac_of from) operation.result operation.rounding operation.saturate
        → Converts (value_of inputs 0 *ℤ coefficient) from operation.result operation.rounding
        operation.saturate r) → OpGives operation inputs r
    scaled_gives r h =
        subst (λ (op : Op). Gives op operation operation.types inputs r) (sym is.1)
        (gain_full.0, gain_full.1, h gain_full.0 (subst (λ (f : ℤ). IsNarrow narrow f operation.result operation.rounding operation.saturate) (sym gain_full.1.frac) is.2.0))

  module _ (frac : ℤ) (is : IsPrepared (Summed frac narrow) operation) where
    abbrev pub summable : IsSummable frac operation.signs operation.types inputs
    summable = record {
      signs_length = subst (λ (op : Op). HasSigns op operation.signs (length operation.types)) is.1 can.prepared.signs;
      types_valid = can.prepared.types;
      values = can.values;
      full = is.0;
      is_full = is.2;
      frac_is = is.3;
      bits = is.5.1.bits_below;
      short = is.4;
    }

    pub sum_frac : frac ≤ℤ pos 128
    sum_frac = subst (λ (f : ℤ). f ≤ℤ pos 128) is.3 (frac_bounds is.0 is.2.valid).1

    pub sum_room : HasPlace (signed_sum frac (zip operation.signs operation.types) inputs)
    sum_room = (magnitude_of is.0, is.5.1, whole_within frac operation.signs operation.types inputs summable)

    pub sum_gives : (r : ℤ) → ((from : FxType)
        → IsNarrow narrow (frac_of from) operation.result operation.rounding operation.saturate
        → Converts (signed_sum frac (zip operation.signs operation.types) inputs) from operation.result
        operation.rounding operation.saturate r) → OpGives operation inputs r
    sum_gives r h =
        let narrow_is = subst (λ (f : ℤ). IsNarrow narrow f operation.result operation.rounding operation.saturate) (sym is.3) is.5.0 in
        let converts = subst (λ (f : ℤ). IsConverted operation (signed_sum f (zip operation.signs operation.types) inputs) is.0 r) (sym is.3) (h is.0 narrow_is) in
        subst (λ (op : Op). Gives op operation operation.types inputs r) (sym is.1) (is.0, is.2, converts)

  module _ (is : IsPrepared (Chosen narrow) operation) where
    three : length operation.types ≡ 3
    three = subst (λ (op : Op). HasArity op (length operation.types)) is.2 can.prepared.arity

    pub three_inputs : length inputs ≡ 3
    three_inputs = can.values.count ∙ three

    chosen_within : (test : Bool) → IsWithin is.3 (cond test (value_of inputs 0) (value_of inputs 2))
    chosen_within test =
        taken_within test is.3 (value_of inputs 0) (value_of inputs 2)
        (more_bits (magnitude_of (type_of operation.types 0)) is.3 (value_of inputs 0) is.4
        (range_within (type_of operation.types 0) (value_of inputs 0)
        (can.prepared.types 0 _ (omega (arith, three))) (can.values.in_range 0 (omega (arith, three)))))
        (more_bits (magnitude_of (type_of operation.types 2)) is.3 (value_of inputs 2) is.5
        (range_within (type_of operation.types 2) (value_of inputs 2)
        (can.prepared.types 2 _ (omega (arith, three))) (can.values.in_range 2 (omega (arith, three)))))

    pub chosen_fits : (test : Bool) (v : ℤ) → v ≡ cond test (value_of inputs 0) (value_of inputs 2) → FitsSigned w64 v
    chosen_fits test v e = whole_fits is.3 v is.7.1.bits_below (subst (IsWithin is.3) (sym e) (chosen_within test))

    pub chosen_room : (test : Bool) (v : ℤ) → v ≡ cond test (value_of inputs 0) (value_of inputs 2) → HasPlace v
    chosen_room test v e = (is.3, is.7.1, subst (IsWithin is.3) (sym e) (chosen_within test))

    pub chosen_gives : (op : Op) → operation.op ≡ op → (criterion : Criterion) (threshold r : ℤ) → op ≡ Switch criterion threshold
        → ((from : FxType) → IsNarrow narrow (frac_of from) operation.result operation.rounding operation.saturate
        → Converts (cond (meets criterion threshold (value_of inputs 1)) (value_of inputs 0)
        (value_of inputs 2)) from operation.result operation.rounding operation.saturate r)
        → OpGives operation inputs r
    chosen_gives op is_op criterion threshold r is_switch h =
        subst (λ (own : Op). Gives own operation operation.types inputs r) (sym (is_op ∙ is_switch))
        (taken_gives (meets criterion threshold (value_of inputs 1)) operation (value_of inputs 0) (value_of inputs 2) r (type_of operation.types 0) (type_of operation.types 2) narrow is.6 is.7.0 h)
