-- Operations on numbers worked out by hand: sums, products, gains, relations, gates, switches and conversions.
use Rattle.std.proofs.Common.{Bool, true, false, None, List, [], ◌∷◌, ℤ, pos, negsuc, refl, arith}
use lib.Signed.{le_z_yes, lt_z_yes}
use Rattle.std.proofs.Math.Dec.{lit<, lit≤}
use Rattle.fx_type.specs.declared.kind.FxType.{FxType}
use Rattle.fx_type.specs.declared.kind.FxType.TheVariants.{Num, Logical as Boolean}
use Rattle.fx_type.specs.declared.rounding.Rounding.TheVariants.{Floor}
use Rattle.fx_type.specs.declared.decimal.Decimal.{Decimal}
use Rattle.fx_type.specs.FullType.{IsFullProduct}
use Rattle.dg_model.specs.declared.kind.Criterion.TheVariants.{AtLeast, Above, NotZero}
use Rattle.dg_model.specs.declared.kind.Relation.TheVariants.{Eq, Ne, Lt, Le, Ge, Gt}
use Rattle.dg_model.specs.declared.kind.Gate.TheVariants.{And, Or, Nand, Nor, Xor, Nxor, Not}
use Rattle.dg_model.specs.declared.op.Op.{Op}
use Rattle.dg_model.specs.declared.op.Op.TheVariants.{Sum, Gain, Product, Switch, Relational, Logic, Convert}
use Rattle.dg_model.specs.Equation.{StoresEntry}
use Rattle.dg_model.specs.Operation.{Operation, OpGives}
use Rattle.dg_model.proofs.Examples.{int8, down, wrapped, kept}
use Rattle.dg_model.proofs.SumTypes.{two_bytes_full}

-- an operation that rounds down
abbrev operation_of : Op → List Bool → List FxType → FxType → Bool → Operation
operation_of op signs types result saturate = record { op = op; signs = signs; types = types; result = result; rounding = Floor; saturate = saturate }

-- ---- the sum of int8 127 and 1 in int8

sum_wraps : OpGives (operation_of (Sum None) (false ∷ false ∷ []) (int8 ∷ int8 ∷ []) int8 false) (pos 127 ∷ pos 1 ∷ []) (negsuc 127)
sum_wraps = (Num true 9 (pos 0), two_bytes_full, record { rounded = pos 128; rounds = down tt tt; settles = wrapped true 8 (negsuc 0) tt tt refl })

sum_saturates : OpGives (operation_of (Sum None) (false ∷ false ∷ []) (int8 ∷ int8 ∷ []) int8 true) (pos 127 ∷ pos 1 ∷ []) (pos 127)
sum_saturates = (
  Num true 9 (pos 0),
  two_bytes_full,
  record {
    rounded = pos 128;
    rounds = down tt tt;
    settles = record { inside = λ h. absurd h.high.le; below = λ h. absurd h.lt; above = λ h. refl };
  },
)

-- ---- the product of the least 64 bit number with itself, without loss

wide_full : IsFullProduct (Num true 64 (pos 0)) (Num true 64 (pos 0)) (Num true 128 (pos 0))
wide_full = record { valid = ((lit≤ tt, lit≤ tt), le_z_yes tt, le_z_yes tt); number = tt; width = refl; frac = refl; sign = refl }

wide_product : OpGives (operation_of Product [] (Num true 64 (pos 0) ∷ Num true 64 (pos 0) ∷ [])
    (Num true 128 (pos 0)) false) (negsuc 9223372036854775807 ∷ negsuc 9223372036854775807 ∷ [])
    (pos 85070591730234615865843651857942052864)
wide_product = (Num true 128 (pos 0), wide_full, record { rounded = pos 85070591730234615865843651857942052864; rounds = down tt tt; settles = wrapped true 128 (pos 0) tt tt refl })

-- the product of types of 65 and 64 bits is none
no_wider_product : (type : FxType) → IsFullProduct (Num true 65 (pos 0)) (Num true 64 (pos 0)) type → ⊥
no_wider_product (Num true width frac) full = omega (arith, full.valid.0.1, full.width)
no_wider_product (Num false width frac) full = omega (arith, full.valid.0.1, full.width)
no_wider_product Boolean full = absurd full.number

-- ---- the coefficient 0.1 in 16 bits, 15 of them behind the point, is 3277, and 2 times it is 6554

tenth : Decimal
tenth = record { negative = false; digits = 1; exponent = negsuc 0; eighteen_digits = lit< tt; least_exponent = le_z_yes tt; greatest_exponent = le_z_yes tt }

gain_coefficient : StoresEntry (tenth ∷ []) 3 (Num true 16 (pos 15)) (pos 3277)
unfolding tenth
gain_coefficient = record {
  rounded = pos 3277;
  rounds = record { above = lt_z_yes tt; at_most = le_z_yes tt };
  settles = record { inside = λ h. refl; below = λ h. absurd h.lt; above = λ h. absurd h.lt };
}

gain : OpGives (operation_of (Gain (pos 3277) (Num true 16 (pos 15))) [] (int8 ∷ []) (Num true 24 (pos 15)) false) (pos 2 ∷ []) (pos 6554)
gain = (
  Num true 24 (pos 15),
  record { valid = ((lit≤ tt, lit≤ tt), le_z_yes tt, le_z_yes tt); number = tt; width = refl; frac = refl; sign = refl },
  record { rounded = pos 6554; rounds = down tt tt; settles = wrapped true 24 (pos 0) tt tt refl },
)

-- ---- relations compare real values: -1 is below 255 of another type, and one half below 1

less_than_unsigned : OpGives (operation_of (Relational Lt) [] (int8 ∷ Num false 8 (pos 0) ∷ []) Boolean false) (negsuc 0 ∷ pos 255 ∷ []) (pos 1)
less_than_unsigned = refl

half_is_less : OpGives (operation_of (Relational Lt) [] (Num true 8 (pos 1) ∷ int8 ∷ []) Boolean false) (pos 1 ∷ pos 1 ∷ []) (pos 1)
half_is_less = refl

two_halves_are_one : OpGives (operation_of (Relational Eq) [] (Num true 8 (pos 1) ∷ int8 ∷ []) Boolean false) (pos 2 ∷ pos 1 ∷ []) (pos 1)
two_halves_are_one = refl

at_most_itself : OpGives (operation_of (Relational Le) [] (int8 ∷ int8 ∷ []) Boolean false) (pos 4 ∷ pos 4 ∷ []) (pos 1)
at_most_itself = refl

not_above_itself : OpGives (operation_of (Relational Gt) [] (int8 ∷ int8 ∷ []) Boolean false) (pos 4 ∷ pos 4 ∷ []) (pos 0)
not_above_itself = refl

at_least_less : OpGives (operation_of (Relational Ge) [] (int8 ∷ int8 ∷ []) Boolean false) (pos 5 ∷ pos 4 ∷ []) (pos 1)
at_least_less = refl

different : OpGives (operation_of (Relational Ne) [] (int8 ∷ int8 ∷ []) Boolean false) (pos 4 ∷ pos 4 ∷ []) (pos 0)
different = refl

-- ---- gates over 3, 0 and -1

abbrev three_bytes : List FxType
three_bytes = int8 ∷ int8 ∷ int8 ∷ []

abbrev truths : List ℤ
truths = pos 3 ∷ pos 0 ∷ negsuc 0 ∷ []

gates : OpGives (operation_of (Logic And) [] three_bytes Boolean false) truths (pos 0)
    × OpGives (operation_of (Logic Or) [] three_bytes Boolean false) truths (pos 1)
    × OpGives (operation_of (Logic Nand) [] three_bytes Boolean false) truths (pos 1)
    × OpGives (operation_of (Logic Nor) [] three_bytes Boolean false) truths (pos 0)
    × OpGives (operation_of (Logic Xor) [] three_bytes Boolean false) truths (pos 0)
    × OpGives (operation_of (Logic Nxor) [] three_bytes Boolean false) truths (pos 1)
    × OpGives (operation_of (Logic Not) [] (int8 ∷ []) Boolean false) (pos 3 ∷ []) (pos 0)
gates = (refl, refl, refl, refl, refl, refl, refl)

-- ---- a switch at the threshold takes input 1, and above the threshold alone takes input 3

switch_at_least : OpGives (operation_of (Switch AtLeast (pos 4)) [] three_bytes int8 false) (pos 7 ∷ pos 4 ∷ pos 9 ∷ []) (pos 7)
switch_at_least = kept (pos 7) tt tt

switch_above : OpGives (operation_of (Switch Above (pos 4)) [] three_bytes int8 false) (pos 7 ∷ pos 4 ∷ pos 9 ∷ []) (pos 9)
switch_above = kept (pos 9) tt tt

switch_not_zero : OpGives (operation_of (Switch NotZero (pos 4)) [] three_bytes int8 false) (pos 7 ∷ negsuc 0 ∷ pos 9 ∷ []) (pos 7)
switch_not_zero = kept (pos 7) tt tt

-- ---- a conversion by the stored integer keeps it: 5 halves become 5

convert_stored : OpGives (operation_of (Convert true) [] (Num true 8 (pos 1) ∷ []) int8 false) (pos 5 ∷ []) (pos 5)
convert_stored = kept (pos 5) tt tt

-- to boolean, whatever isn't 0 is 1
convert_to_boolean : OpGives (operation_of (Convert false) [] (int8 ∷ []) Boolean false) (negsuc 3 ∷ []) (pos 1)
convert_to_boolean = record { zero = λ e. cc; one = λ e. refl }
