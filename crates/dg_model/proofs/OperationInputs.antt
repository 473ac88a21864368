-- What a block hands to its operation: its rounding and saturation, the entries of its lists in their own types, and the elements of vectors.
use Rattle.std.specs.Prelude.{MatchOption}
use Rattle.std.specs.Int.{int_gap}
use Rattle.std.proofs.Common.{◌≡◌, ◌^◌, ℕ, List, [], ◌∷◌, None, Some, ◌*ℤ◌, subst, pos, negsuc, get_or, true, false, ℤ, refl, ap, ◌∙◌, arith}
use lib.Signed.{le_z_yes, lt_z_yes}
use Rattle.std.proofs.lemmas.Int.{ints}
use Rattle.std.proofs.Math.Dec.{lit<, lit≤}
use Rattle.fx_type.specs.declared.kind.FxType.{FxType}
use Rattle.fx_type.specs.declared.kind.FxType.TheVariants.{Num}
use Rattle.fx_type.specs.declared.spec.TypeSpec.TheVariants.{Internal, Fixed}
use Rattle.fx_type.specs.declared.rounding.Rounding.TheVariants.{Ceiling, Nearest}
use Rattle.fx_type.specs.declared.decimal.Decimal.{Decimal}
use Rattle.fx_type.specs.FxType.{IsType}
use Rattle.fx_type.specs.FullType.{IsFullProduct}
use Rattle.fx_type.specs.Conversion.{Converts, Stores, StoresQuotient}
use Rattle.fx_type.specs.StoredOf.{stored_of}
use Rattle.dg_model.specs.declared.diagram.Diagram.{Diagram}
use Rattle.dg_model.specs.declared.diagram.Block.{Block}
use Rattle.dg_model.specs.declared.kind.Criterion.TheVariants.{AtLeast}
use Rattle.dg_model.specs.declared.kind.Kind.TheVariants.{Inport, Constant, Sum, Gain, Switch, Convert, Outport}
use Rattle.dg_model.specs.declared.op.Op.TheVariants.{Sum as OpSum, Gain as OpGain, Switch as OpSwitch, Convert as OpConvert, Pass as OpPass}
use Rattle.dg_model.specs.declared.op.Op.{Op}
use Rattle.dg_model.specs.Operation.{OpGives}
use Rattle.dg_model.specs.Wires.{types_into, values_into, entry_of}
use Rattle.dg_model.specs.Equation.{Equation, signs_of}
use Rattle.dg_model.specs.Signals.{Attributes, Stimulus, Table}
use Rattle.dg_model.proofs.SumTypes.{byte_less_byte_full}
use Rattle.dg_model.proofs.Examples.{int8, block_of, edge_of, decimal_of, fraction_of, table_of_vectors, stores_small, kept, carried_out, stored_as}

abbrev halves : FxType
halves = Num true 8 (pos 1)

-- 1.5 and 2.5, which are 3 and 5 halves
abbrev coefficients : List Decimal
coefficients = fraction_of false 15 (lit< tt) (negsuc 0) tt tt ∷ fraction_of false 25 (lit< tt) (negsuc 0) tt tt ∷ []

abbrev gain_block : Block
gain_block = record (block_of (Gain coefficients (Fixed halves)) 1 1 None) { rounding = Nearest; saturate = true }

abbrev switch_block : Block
switch_block = block_of (Switch AtLeast (decimal_of 1 (lit< tt) ∷ decimal_of 2 (lit< tt) ∷ [])) 3 1 None

abbrev convert_block : Block
convert_block = record (block_of (Convert false) 1 1 None) { rounding = Ceiling }

-- u, c in halves, a Gain of u, a Switch by c between u and the scalar 9, that 9, u less 9, an Outport of the switch, and c rounded up
abbrev diagram : Diagram
diagram = record {
  blocks = block_of (Inport 1 2) 0 1 None ∷ block_of (Inport 2 2) 0 1 None ∷ gain_block ∷ switch_block ∷ block_of (Constant (decimal_of 9 (lit< tt) ∷ [])) 0 1 None
      ∷ block_of (Sum (false ∷ true ∷ []) Internal) 2 1 None ∷ block_of (Outport 1) 1 0 None ∷ convert_block ∷ [];
  edges = edge_of 0 1 2 1 ∷ edge_of 0 1 3 1 ∷ edge_of 1 1 3 2 ∷ edge_of 4 1 3 3 ∷ edge_of 0 1 5 1 ∷ edge_of 4 1 5 2 ∷ edge_of 3 1 6 1 ∷ edge_of 1 1 7 1 ∷ [];
}

abbrev attributes : Attributes
attributes = record {
  width_at = λ block port. get_or (2 ∷ 2 ∷ 2 ∷ 2 ∷ 1 ∷ 2 ∷ 2 ∷ 2 ∷ []) block 0;
  type_at = λ block port. get_or (int8 ∷ halves ∷ int8 ∷ int8 ∷ int8 ∷ int8 ∷ int8 ∷ int8 ∷ []) block halves;
  param_at = λ block. get_or (int8 ∷ int8 ∷ halves ∷ []) block int8;
  period_at = λ block. None;
}

abbrev table : Table
table = table_of_vectors (((pos 3 ∷ pos 100 ∷ []) ∷ []) ∷ ((pos 2 ∷ pos 3 ∷ []) ∷ []) ∷ ((pos 5 ∷ pos 127 ∷ []) ∷ []) ∷ ((pos 3 ∷ pos 9 ∷ []) ∷ []) ∷ ((pos 9 ∷ []) ∷ [])
    ∷ ((negsuc 5 ∷ pos 91 ∷ []) ∷ []) ∷ ((pos 3 ∷ pos 9 ∷ []) ∷ []) ∷ ((pos 1 ∷ pos 2 ∷ []) ∷ []) ∷ [])

abbrev stimulus : Stimulus
stimulus number element t = get_or (get_or ([] ∷ (pos 3 ∷ pos 100 ∷ []) ∷ (pos 2 ∷ pos 3 ∷ []) ∷ []) number []) element (pos 0)

abbrev Allows : ℕ → ℕ → ℤ → Type 0
Allows block element v = Equation diagram attributes stimulus table block 1 element 0 v

inports : Allows 0 0 (pos 3) × Allows 0 1 (pos 100) × Allows 1 0 (pos 2) × Allows 1 1 (pos 3)
inports = (refl, refl, refl, refl)

-- ---- 3 by 1.5 is 4.5, which is 5 to the nearest and would be 4 rounded down; 100 by 2.5 is 250, which is 127 saturated

gain : Allows 2 0 (pos 5) × Allows 2 1 (pos 127)
gain = (
  (
    OpGain (pos 3) halves,
    (
      pos 3,
      record {
        rounded = pos 3;
        rounds = record { above = lt_z_yes tt; at_most = le_z_yes tt };
        settles =
            record { inside = λ h. refl; below = λ h. absurd h.lt; above = λ h. absurd h.lt };
      },
      refl,
    ),
    (
      Num true 16 (pos 1),
      record { valid = ((lit≤ tt, lit≤ tt), le_z_yes tt, le_z_yes tt); number = tt; width = refl; frac = refl; sign = refl },
      record { rounded = pos 5; rounds = record { above = lt_z_yes tt; at_most = le_z_yes tt }; settles = record { inside = λ h. refl; below = λ h. absurd h.lt; above = λ h. absurd h.lt } },
    ),
  ),
  (
    OpGain (pos 5) halves,
    (
      pos 5,
      record {
        rounded = pos 5;
        rounds = record { above = lt_z_yes tt; at_most = le_z_yes tt };
        settles =
            record { inside = λ h. refl; below = λ h. absurd h.lt; above = λ h. absurd h.lt };
      },
      refl,
    ),
    (
      Num true 16 (pos 1),
      record { valid = ((lit≤ tt, lit≤ tt), le_z_yes tt, le_z_yes tt); number = tt; width = refl; frac = refl; sign = refl },
      record { rounded = pos 250; rounds = record { above = lt_z_yes tt; at_most = le_z_yes tt }; settles = record { inside = λ h. absurd h.high.le; below = λ h. absurd h.lt; above = λ h. refl } },
    ),
  ),
)

-- ---- the thresholds 1 and 2 are 2 and 4 halves: 2 halves reach the first, 3 halves don't reach the second

switch : Allows 3 0 (pos 3) × Allows 3 1 (pos 9)
switch = (
  (
    OpSwitch AtLeast (pos 2),
    (
      pos 2,
      record {
        rounded = pos 2;
        rounds =
            record { above = lt_z_yes tt; at_most = le_z_yes tt };
        settles =
            record { inside = λ h. refl; below = λ h. absurd h.lt; above = λ h. absurd h.lt };
      },
      refl,
    ),
    kept (pos 3) tt tt,
  ),
  (
    OpSwitch AtLeast (pos 4),
    (
      pos 4,
      record {
        rounded = pos 4;
        rounds =
            record { above = lt_z_yes tt; at_most = le_z_yes tt };
        settles =
            record { inside = λ h. refl; below = λ h. absurd h.lt; above = λ h. absurd h.lt };
      },
      refl,
    ),
    kept (pos 9) tt tt,
  ),
)

constant : Allows 4 0 (pos 9)
constant = stores_small 9 (lit< tt) (lit< tt)

-- ---- the Outport takes both elements, and 1 half is 1 rounded up

outport : Allows 6 0 (pos 3) × Allows 6 1 (pos 9)
outport = ((OpPass, refl, refl), (OpPass, refl, refl))

convert : Allows 7 0 (pos 1) × Allows 7 1 (pos 2)
convert = (
  (
    OpConvert false,
    refl,
    record {
      rounded = pos 1;
      rounds =
          record { at_least = le_z_yes tt; previous_below = lt_z_yes tt };
      settles =
          record {
            in_word = record { low = le_z_yes tt; high = le_z_yes tt };
            congruent =
                record { turns = pos 0; equal = refl };
          };
    },
  ),
  (
    OpConvert false,
    refl,
    record {
      rounded = pos 2;
      rounds =
          record { at_least = le_z_yes tt; previous_below = lt_z_yes tt };
      settles =
          record {
            in_word = record { low = le_z_yes tt; high = le_z_yes tt };
            congruent =
                record { turns = pos 0; equal = refl };
          };
    },
  ),
)

-- ---- and no other numbers

abbrev given_by : Block → ℕ → ℕ → ℤ → Op → Type 0
given_by b block element v op =
    OpGives (record {
      op = op;
      signs = signs_of b.kind;
      types =
          types_into diagram attributes block b.inputs;
      result = attributes.type_at block 1;
      rounding =
          b.rounding;
      saturate = b.saturate;
    }) (values_into diagram attributes table block b.inputs element 0) v

half_valid : IsType halves
half_valid = ((lit≤ tt, lit≤ tt), le_z_yes tt, le_z_yes tt)

gain_given : (element : ℕ) (v : ℤ) (decimal : Decimal) (coefficient : ℤ)
    → entry_of coefficients element ≡ Some decimal → stored_of decimal halves ≡ coefficient → Allows 2 element v
    → given_by gain_block 2 element v (OpGain coefficient halves)
gain_given element v decimal coefficient at is given =
    carried_out diagram attributes stimulus table gain_block 2 element 0 v (OpGain coefficient halves)
    (λ op is_op.
    let stores : Stores decimal halves (is_op.0) = subst (λ o. MatchOption o ⊥ (λ decimal. Stores decimal halves (is_op.0))) at (is_op.1) in
    is_op.2 ∙ ap (λ c. OpGain c halves) (stored_as decimal halves (is_op.0) coefficient half_valid is stores)) given

-- what the full product of a number of halves is stored as
full_stored : (full : FxType) (n v : ℤ) → IsFullProduct int8 halves full → Converts n full int8 Nearest true v → StoresQuotient (n *ℤ pos 1) 2 int8 Nearest true v
full_stored full n v product converts =
    subst (λ f. StoresQuotient (n *ℤ pos (2 ^ int_gap f (pos 0))) (2 ^ int_gap (pos 0) f) int8 Nearest true v) product.frac converts

not_rounded_down : ¬ Allows 2 0 (pos 4)
not_rounded_down given =
    let of = gain_given 0 (pos 4) (fraction_of false 15 (lit< tt) (negsuc 0) tt tt) (pos 3) refl refl given in
    let stored = full_stored (of.0) (pos 9) (pos 4) (of.1) (of.2) in
    let is : stored.rounded ≡ pos 5 = omega (arith, ints, stored.rounds.above, stored.rounds.at_most) in
    absurd (omega (arith, ints, is, stored.settles.inside (record { low = rw is (le_z_yes tt); high = rw is (le_z_yes tt) })))

not_wrapped : ¬ Allows 2 1 (negsuc 5)
not_wrapped given =
    let of = gain_given 1 (negsuc 5) (fraction_of false 25 (lit< tt) (negsuc 0) tt tt) (pos 5) refl refl given in
    let stored = full_stored (of.0) (pos 500) (negsuc 5) (of.1) (of.2) in
    let is : stored.rounded ≡ pos 250 = omega (arith, ints, stored.rounds.above, stored.rounds.at_most) in
    absurd (omega (arith, ints, stored.settles.above (rw is (lt_z_yes tt))))

threshold_in_its_type : ¬ Allows 3 1 (pos 100)
threshold_in_its_type given =
    let of : given_by switch_block 3 1 (pos 100) (OpSwitch AtLeast (pos 4)) =
    carried_out diagram attributes stimulus table switch_block 3 1 0 (pos 100) (OpSwitch AtLeast (pos 4))
    (λ op is_op. is_op.2 ∙ ap (λ threshold. OpSwitch AtLeast threshold) (stored_as (decimal_of 2 (lit< tt)) halves (is_op.0) (pos 4) half_valid refl (is_op.1))) given in
    absurd (omega (arith, ints, of.rounds.at_most, of.rounds.next_above, of.settles.congruent.equal))

rounded_up : ¬ Allows 7 0 (pos 0)
rounded_up given =
    let of : given_by convert_block 7 0 (pos 0) (OpConvert false) = carried_out diagram attributes stimulus table convert_block 7 0 0 (pos 0) (OpConvert false) (λ op is. is) given in
    absurd (omega (arith, ints, of.rounds.at_least, of.rounds.previous_below, of.settles.congruent.equal))

second_element : ¬ Allows 6 1 (pos 3)
second_element given =
    let e : ◌≡◌ {A = ℤ} (pos 3) (pos 9) = carried_out diagram attributes stimulus table (block_of (Outport 1) 1 0 None) 6 1 0 (pos 3) OpPass (λ op is. is) given in
    cc

-- ---- u less 9

difference : Allows 5 0 (negsuc 5) × Allows 5 1 (pos 91)
difference = ((OpSum None, refl, (Num true 9 (pos 0), byte_less_byte_full, kept (negsuc 5) tt tt)), (OpSum None, refl, (Num true 9 (pos 0), byte_less_byte_full, kept (pos 91) tt tt)))
