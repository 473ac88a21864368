use Rattle.std.proofs.Common.{◌≡◌, ℕ, ◌^◌, Bool, ℤ, pos, negsuc, ◌-ℤ◌, ◌*ℤ◌, ◌≤ℤ◌, nat_abs, to_z, of_z, subst, arith}
use Rattle.std.specs.Int.{w16, w128}
use Rattle.std.proofs.lemmas.Int.{ints, to_z-of_z}
use Rattle.math_num.specs.Word.{InWord}
use Rattle.math_num.proofs.Words.{word_width}
use Rattle.fx_type.specs.declared.kind.FxType.{FxType}
use Rattle.fx_type.specs.declared.kind.FxType.TheVariants.{Num, Logical}
use Rattle.fx_type.specs.FxType.{IsType, InRange}
use Rattle.fx_type.specs.Conversion.{Settles, StoresQuotient}
use Rattle.math_num.proofs.Integers.{gap_is, gap_none}
use Rattle.fx_round.proofs.ConversionSteps.{converts_up, converts_down}
use Rattle.fx_round.proofs.conversion.convert.Goals as goal

-- a number type that is valid, and the limits of its frac
number_type : {type : FxType} {signed : Bool} {width : ℕ} {frac : ℤ} → type ≡ Num signed width frac → IsType type → IsType (Num signed width frac)
number_type is valid = subst (λ (t : FxType). IsType t) is valid

limits : {type : FxType} {signed : Bool} {width : ℕ} {frac : ℤ} → type ≡ Num signed width frac → IsType type → (negsuc 63 ≤ℤ frac) × (frac ≤ℤ pos 128)
limits is valid = let parts = number_type is valid in (parts.1, parts.2)

pub overflow_cast-up-else-up-ge0 : goal.overflow_cast-up-else-up-ge0
overflow_cast-up-else-up-ge0 c =
    let to_limits = limits c.in-Num.is c.requires.to in
    let from_limits = limits c.in-Num-from.is c.requires.from in
    (omega (arith, ints, to_limits, from_limits), omega (arith, ints, to_limits, from_limits))

pub returns-then-up-ge0 : goal.returns-then-up-ge0
returns-then-up-ge0 c =
    let from = c.in-Num-from in
    let to = c.in-Num in
    let x = to_z w16 (of_z w16 (to_z w16 (of_z w16 to.frac) -ℤ to_z w16 (of_z w16 from.point))) in
    let difference : x ≡ to.frac -ℤ from.point = omega (arith, ints, limits to.is c.requires.to, limits from.is c.requires.from) in
    let order : from.point ≤ℤ to.frac = omega (arith, ints, difference, c.if-up-ge0.true) in
    let v = to_z-of_z w128 c.args.v c.ranges.v in
    let e = to_z-of_z w128 c.stored_product.result (record { sfits = c.stored_product.type_inv }) in
    let settled : Settles (Num to.signed to.width to.frac) c.args.saturate (c.args.v *ℤ pos (2 ^ nat_abs x)) c.stored_product.result = rw v at (c.stored_product.ensures to.frac) in
    rw (to.is, from.is, e) (converts_up c.args.v (Num from.from_signed from.bits from.point) to.signed to.width to.frac c.args.mode c.args.saturate c.stored_product.result (nat_abs x)
    (gap_is from.point to.frac x order difference) (gap_none to.frac from.point order) settled)

pub returns-else-up-ge0 : goal.returns-else-up-ge0
returns-else-up-ge0 c =
    let from = c.in-Num-from in
    let to = c.in-Num in
    let x = to_z w16 (of_z w16 (pos 0 -ℤ to_z w16 (of_z w16 (to_z w16 (of_z w16 to.frac) -ℤ to_z w16 (of_z w16 from.point))))) in
    let difference : x ≡ from.point -ℤ to.frac = omega (arith, ints, limits to.is c.requires.to, limits from.is c.requires.from) in
    let order : to.frac ≤ℤ from.point = omega (arith, ints, limits to.is c.requires.to, limits from.is c.requires.from, c.if-up-ge0.false) in
    let v = to_z-of_z w128 c.args.v c.ranges.v in
    let e = to_z-of_z w128 c.stored_quotient.result (record { sfits = c.stored_quotient.type_inv }) in
    let stored : StoresQuotient c.args.v (2 ^ nat_abs x) (Num to.signed to.width to.frac) c.args.mode c.args.saturate c.stored_quotient.result = rw v at (c.stored_quotient.ensures to.frac) in
    rw (to.is, from.is, e) (converts_down c.args.v (Num from.from_signed from.bits from.point) to.signed to.width to.frac c.args.mode c.args.saturate c.stored_quotient.result (nat_abs x)
    (gap_is to.frac from.point x order difference) (gap_none from.point to.frac order) stored)

pub returns-in-Logical-from : goal.returns-in-Logical-from
returns-in-Logical-from c =
    let to = c.in-Num in
    let to_limits = limits to.is c.requires.to in
    let x = to_z w16 (of_z w16 to.frac) in
    let difference : x ≡ to.frac -ℤ pos 0 = omega (arith, ints, to_limits) in
    let order : pos 0 ≤ℤ to.frac = omega (arith, ints, difference, c.if-frac-ge0.true) in
    let v = to_z-of_z w128 c.args.v c.ranges.v in
    let e = to_z-of_z w128 c.settled_up.result (record { sfits = c.settled_up.type_inv }) in
    let settled : Settles (Num to.signed to.width to.frac) c.args.saturate (c.args.v *ℤ pos (2 ^ nat_abs x)) c.settled_up.result = rw v at (c.settled_up.ensures to.frac) in
    rw (to.is, c.in-Logical-from.is, e) (converts_up c.args.v Logical to.signed to.width to.frac c.args.mode c.args.saturate c.settled_up.result (nat_abs x)
    (gap_is (pos 0) to.frac x order difference) (gap_none to.frac (pos 0) order) settled)

pub returns-in-Logical-2 : goal.returns-in-Logical-2
returns-in-Logical-2 c =
    let to = c.in-Num in
    let to_limits = limits to.is c.requires.to in
    let x = to_z w16 (of_z w16 (pos 0 -ℤ to_z w16 (of_z w16 to.frac))) in
    let difference : x ≡ pos 0 -ℤ to.frac = omega (arith, ints, to_limits) in
    let order : to.frac ≤ℤ pos 0 = omega (arith, ints, to_limits, c.if-frac-ge0.false) in
    let v = to_z-of_z w128 c.args.v c.ranges.v in
    let e = to_z-of_z w128 c.lowered_far.result (record { sfits = c.lowered_far.type_inv }) in
    let stored : StoresQuotient c.args.v (2 ^ nat_abs x) (Num to.signed to.width to.frac) c.args.mode c.args.saturate c.lowered_far.result = rw v at (c.lowered_far.ensures to.frac) in
    rw (to.is, c.in-Logical-2.is, e) (converts_down c.args.v Logical to.signed to.width to.frac c.args.mode c.args.saturate c.lowered_far.result (nat_abs x)
    (gap_is to.frac (pos 0) x order difference) (gap_none (pos 0) to.frac order) stored)

pub stored_product-requires-clause-number : goal.stored_product-requires-clause-number
stored_product-requires-clause-number c =
    let from = c.in-Num-from in
    let range : InRange (Num from.from_signed from.bits from.point) c.args.v = rw from.is at c.requires.in_range in
    let number : InWord from.bits from.from_signed c.args.v = record { low = range.low; high = range.high } in
    rw (to_z-of_z w128 c.args.v c.ranges.v) number

pub stored_quotient-requires-clause-number : goal.stored_quotient-requires-clause-number
stored_quotient-requires-clause-number c =
    let from = c.in-Num-from in
    let range : InRange (Num from.from_signed from.bits from.point) c.args.v = rw from.is at c.requires.in_range in
    let number : InWord from.bits from.from_signed c.args.v = record { low = range.low; high = range.high } in
    rw (to_z-of_z w128 c.args.v c.ranges.v) (from.from_signed, number)

pub overflow_sub-up : goal.overflow_sub-up
overflow_sub-up c =
    omega (arith, ints, limits c.in-Num.is c.requires.to, limits c.in-Num-from.is c.requires.from)

pub stored_product-requires-clause-some : goal.stored_product-requires-clause-some
stored_product-requires-clause-some c =
    (word_width c.in-Num-from.bits c.in-Num-from.from_signed (number_type c.in-Num-from.is c.requires.from).0).0

pub stored_product-requires-clause-shift : goal.stored_product-requires-clause-shift
stored_product-requires-clause-shift c =
    omega (arith, ints, limits c.in-Num.is c.requires.to, limits c.in-Num-from.is c.requires.from, c.if-up-ge0.true)

pub stored_product-requires-clause-word : goal.stored_product-requires-clause-word
stored_product-requires-clause-word c =
    (number_type c.in-Num.is c.requires.to).0

pub settled_up-requires : goal.settled_up-requires
settled_up-requires c =
    (number_type c.in-Num.is c.requires.to).0

pub stored_quotient-requires-clause-lowering : goal.stored_quotient-requires-clause-lowering
stored_quotient-requires-clause-lowering c = record {
  some = omega (arith, ints, limits c.in-Num.is c.requires.to, limits c.in-Num-from.is c.requires.from, c.if-up-ge0.false);
  word = (number_type c.in-Num.is c.requires.to).0;
}

pub lowered_far-requires : goal.lowered_far-requires
lowered_far-requires c = record {
  some = omega (arith, ints, limits c.in-Num.is c.requires.to, c.if-frac-ge0.false);
  word = (number_type c.in-Num.is c.requires.to).0;
}

pub overflow_cast-up : goal.overflow_cast-up
overflow_cast-up c = omega (arith, ints, limits c.in-Num.is c.requires.to, limits c.in-Num-from.is c.requires.from, c.if-up-ge0.true)

pub overflow_sub-up-else-up-ge0 : goal.overflow_sub-up-else-up-ge0
overflow_sub-up-else-up-ge0 c = omega (arith, ints, limits c.in-Num.is c.requires.to, limits c.in-Num-from.is c.requires.from, c.if-up-ge0.false)

pub overflow_sub-frac : goal.overflow_sub-frac
overflow_sub-frac c = omega (arith, ints, limits c.in-Num.is c.requires.to)

pub overflow_cast-frac : goal.overflow_cast-frac
overflow_cast-frac c = omega (arith, ints, limits c.in-Num.is c.requires.to, c.if-frac-ge0.true)

pub overflow_cast-frac-in-Logical-2 : goal.overflow_cast-frac-in-Logical-2
overflow_cast-frac-in-Logical-2 c = omega (arith, ints, limits c.in-Num.is c.requires.to, c.if-frac-ge0.false)
