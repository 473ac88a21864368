-- A prepared conversion in 64 bits gives the conversion.
use Rattle.std.proofs.Common.{◌≡◌, ℕ, zero, suc, ◌+◌, ◌-◌, ◌^◌, ◌≤◌, Bool, true, false, ℤ, pos, negsuc, neg_ℤ, ◌+ℤ◌, ◌*ℤ◌, ◌≤ℤ◌, FitsSigned, ap, sym, ◌∙◌, refl, subst, subst₂, arith, pow_pos}
use Rattle.std.proofs.Common.{pow_mono, mul-le-mul, div-le_self, unsigned_abs, bit_and, mod-lt, to_z, of_z, ◌*◌, ◌%◌, ◌<◌, ◌-ℤ◌, cond, int_lt}
use Rattle.std.specs.Int.{w64, w128, int_max, int_min}
use Rattle.std.specs.Int.Signed.{shr_z}
use Rattle.std.proofs.lemmas.Nat.{one_shl, pow-add, and_mask}
use Rattle.math_num.proofs.Arithmetic.{scaled-mono, scaled-neg, double, unit_apart, IsCongruent-trans, IsCongruent-part}
use Rattle.math_num.proofs.Shifts.{bits_congruent, remainder_congruent}
use Rattle.std.proofs.lemmas.Int.{ints, clamps, to_z-of_z, to_z_pos, unsigned_abs-mul}
use Rattle.math_num.specs.Word.{IsCongruent, word_lowest, word_highest}
use Rattle.fx_type.specs.declared.kind.FxType.{FxType}
use Rattle.fx_type.specs.declared.kind.FxType.TheVariants.{Num, Logical}
use Rattle.fx_type.specs.declared.rounding.Rounding.{Rounding}
use Rattle.fx_type.specs.declared.rounding.Rounding.TheVariants.{Floor, Ceiling, Zero, Nearest, Round, Convergent}
use Rattle.fx_type.specs.FxType.{IsType, IsNumber, InRange, width_of, frac_of, lowest_of, highest_of}
use Rattle.fx_type.specs.Conversion.{twice, Rounds, RoundsDown, Settles, StoresQuotient, Converts}
use Rattle.dg_blocks.specs.declared.narrow.Narrow.{Narrow}
use Rattle.dg_blocks.specs.declared.narrow.Way.{Way}
use Rattle.dg_blocks.specs.declared.narrow.Way.TheVariants.{Exact, Wraps, Ends, Any}
use Rattle.dg_blocks.specs.Narrow.{bias_for, IsBias, IsSmall, IsModest, IsWithin, IsShifted, HasShifts, HasOneBias, IsWay, IsNarrow, ReachesBelow, magnitude_of}
use Rattle.dg_blocks.proofs.Shifts.{floor_mode, mode_rounds, no_tie}

pub inside : (to : FxType) (saturate : Bool) (r : ℤ) → IsNumber to → lowest_of to ≤ℤ r → r ≤ℤ highest_of to → Settles to saturate r r
inside to true r number low high = record { inside = λ _. refl; below = λ h. absurd (omega (arith, ints, h, low)); above = λ h. absurd (omega (arith, ints, h, high)) }
inside (Num s w f) false r number low high = record { in_word = record { low = low; high = high }; congruent = record { turns = pos 0; equal = omega (arith, ints) } }
inside Logical false r number low high = elim number [ ]

-- the nearest number of the range
pub nearest_settles : (to : FxType) (r : ℤ) → lowest_of to ≤ℤ highest_of to → Settles to true r (int_min (int_max r (lowest_of to)) (highest_of to))
nearest_settles to r ends = record {
  inside = λ i. omega (arith, ints, clamps, i.low, i.high);
  below = λ h. omega (arith, ints, clamps, h, ends);
  above = λ h. omega (arith, ints, clamps, h, ends);
}

-- how many numbers there are from end to end
pub ends_apart : (to : FxType) → IsType to → IsNumber to → highest_of to -ℤ lowest_of to +ℤ pos 1 ≡ pos (2 ^ width_of to)
ends_apart (Num true w f) valid number = omega (arith, ints, pow_pos (w - 1), double w (omega (arith, valid.0.0)))
ends_apart (Num false w f) valid number = omega (arith, ints, pow_pos w)
ends_apart Logical valid number = elim number [ ]

pub ends_near : (to : FxType) → IsType to → IsNumber to → width_of to ≤ 60 → (neg_ℤ (pos (2 ^ 60)) ≤ℤ lowest_of to) × (lowest_of to ≤ℤ pos 0) × (highest_of to ≤ℤ pos (2 ^ 60))
ends_near (Num true w f) valid number few = let k : w - 1 ≤ 60 = omega (arith, few) in
    let p : 2 ^ (w - 1) ≤ 2 ^ 60 = pow_mono k in
    (omega (arith, ints, p), omega (arith, ints, p), omega (arith, ints, p))
ends_near (Num false w f) valid number few = let p : 2 ^ w ≤ 2 ^ 60 = pow_mono few in (omega (arith, ints, p), omega (arith, ints, p), omega (arith, ints, p))
ends_near Logical valid number few = elim number [ ]

-- ---- the lowest bits

-- a number of so many bits in all that is congruent to x
record IsLowest (x : ℤ) (width : ℕ) (n : ℕ) : Type 0 where
  below : n < 2 ^ width
  congruent : IsCongruent (pos n) x (2 ^ width)

lowest_bits : (x : ℤ) (width : ℕ) → FitsSigned w64 x → width ≤ 60 → IsLowest x width (bit_and (of_z w64 x) (2 ^ width - 1))
lowest_bits x width fits few =
    let m = of_z w64 x in
    let e : bit_and m (2 ^ width - 1) ≡ m % 2 ^ width = and_mask m width in
    let k : (64 - width) + width ≡ 64 = omega (arith, few) in
    let turn : 2 ^ 64 ≡ 2 ^ (64 - width) * 2 ^ width = ap (λ (n : ℕ). 2 ^ n) (sym k) ∙ pow-add 2 (64 - width) width in
    let whole : IsCongruent (pos m) x (2 ^ 64) = bits_congruent w64 x fits in
    let part : IsCongruent (pos m) x (2 ^ width) = IsCongruent-part (2 ^ (64 - width)) (2 ^ width) (subst (IsCongruent (pos m) x) turn whole) in
    rw e (record { below = mod-lt m (pow_pos width); congruent = IsCongruent-trans (2 ^ width) (remainder_congruent m (2 ^ width)) part })

settles_lowest : (to : FxType) (r : ℤ) (n : ℕ) → IsType to → IsNumber to → IsLowest (r -ℤ lowest_of to) (width_of to) n → Settles to false r (pos n +ℤ lowest_of to)
settles_lowest (Num s w f) r n valid number is =
    let apart = ends_apart (Num s w f) valid number in
    record {
      in_word = record { low = omega (arith, ints); high = omega (arith, ints, apart, is.below) };
      congruent = record { turns = is.congruent.turns; equal = omega (arith, ints, is.congruent.equal) };
    }
settles_lowest Logical r n valid number is = elim number [ ]

-- the number with the same lowest bits as r, as the code has it
pub record IsCut (to : FxType) (r : ℤ) (n : ℕ) : Type 0 where
  pub above : FitsSigned w64 (r -ℤ lowest_of to)
  pub mask : FitsSigned w64 (highest_of to -ℤ lowest_of to)
  pub whole : to_z w64 n ≡ pos n
  pub fits : FitsSigned w64 (pos n +ℤ lowest_of to)
  pub settles : Settles to false r (pos n +ℤ lowest_of to)

pub cut_is : (to : FxType) (r : ℤ) → IsType to → IsNumber to → width_of to ≤ 60 → IsModest r → IsCut to r (bit_and (of_z w64 (r -ℤ lowest_of to)) (of_z w64 (highest_of to -ℤ lowest_of to)))
cut_is to r valid number few modest =
    let near = ends_near to valid number few in
    let apart = ends_apart to valid number in
    let p : 2 ^ width_of to ≤ 2 ^ 60 = pow_mono few in
    let above : FitsSigned w64 (r -ℤ lowest_of to) = omega (arith, ints, near.0, near.1, modest.low, modest.high) in
    let mask : highest_of to -ℤ lowest_of to ≡ pos (2 ^ width_of to - 1) = omega (arith, ints, apart, pow_pos (width_of to)) in
    let is = lowest_bits (r -ℤ lowest_of to) (width_of to) above few in
    let small : bit_and (of_z w64 (r -ℤ lowest_of to)) (2 ^ width_of to - 1) < 2 ^ 60 = omega (arith, is.below, p) in
    let whole : to_z w64 (bit_and (of_z w64 (r -ℤ lowest_of to)) (2 ^ width_of to - 1)) ≡ pos (bit_and (of_z w64 (r -ℤ lowest_of to)) (2 ^ width_of to - 1)) = to_z_pos w64 _ (omega (arith, small)) in
    rw mask (record {
      above = above;
      mask = omega (arith, ints, p);
      whole = whole;
      fits = omega (arith, ints, near.0, near.1, small);
      settles = settles_lowest to r _ valid number is;
    })

-- a shift down makes no number larger
pub shifted_modest : (v : ℤ) (by : ℕ) → IsModest v → IsModest (shr_z v (2 ^ by))
shifted_modest (pos n) by h = let q = div-le_self n (2 ^ by) in record { low = omega (arith, ints); high = omega (arith, ints, q, h.high) }
shifted_modest (negsuc n) by h = let q = div-le_self n (2 ^ by) in record { low = omega (arith, ints, q, h.low); high = omega (arith, ints) }

-- a whole number is rounded to itself
exact_one : (mode : Rounding) (r : ℤ) → Rounds mode (r *ℤ pos 1) 1 r
exact_one Floor r = record { at_most = omega (arith, ints); next_above = omega (arith, ints) }
exact_one Ceiling r = record { at_least = omega (arith, ints); previous_below = omega (arith, ints) }
exact_one Zero r = record {
  not_negative =
      λ _. record { at_most = omega (arith, ints); next_above = omega (arith, ints) };
  negative =
      λ _. record { at_least = omega (arith, ints); previous_below = omega (arith, ints) };
}
exact_one Nearest r = record { above = omega (arith, ints); at_most = omega (arith, ints) }
exact_one Round r = record {
  not_negative =
      λ _. record { above = omega (arith, ints); at_most = omega (arith, ints) };
  negative =
      λ _. record { at_least = omega (arith, ints); below = omega (arith, ints) };
}
exact_one Convergent r = record { at_least = omega (arith, ints); at_most = omega (arith, ints); even_below = λ e. absurd (omega (arith, ints, e)); even_above = λ e. absurd (omega (arith, ints, e)) }

whole_mode : (mode : Rounding) (n r : ℤ) → RoundsDown n 1 r → Rounds mode n 1 r
whole_mode mode n r h =
    let e : r *ℤ pos 1 ≡ n = omega (arith, ints, h.at_most, h.next_above) in
    subst (λ (z : ℤ). Rounds mode z 1 r) e (exact_one mode r)

module _ (narrow : Narrow) (frac : ℤ) (to : FxType) (mode : Rounding) (shifts : HasShifts narrow frac to mode) where
  no_bias : (v : ℤ) → narrow.down ≡ 0 → bias_for v narrow.bias narrow.below ≡ pos 0
  no_bias v e = go (int_lt v (pos 0))
    where
      go : (negative : Bool) → cond negative narrow.below narrow.bias ≡ pos 0
      go true = (shifts.whole e).1
      go false = (shifts.whole e).0

  pub narrow_rounds : (n r : ℤ) → IsShifted n (bias_for n narrow.bias narrow.below) narrow.even (2 ^ narrow.down) r → Rounds mode n (2 ^ narrow.down) r
  narrow_rounds n r h = go narrow.down refl
    where
      go : (by : ℕ) → narrow.down ≡ by → Rounds mode n (2 ^ narrow.down) r
      go zero e =
          subst (λ (k : ℕ). Rounds mode n (2 ^ k) r) (sym e)
          (whole_mode mode n r (subst (λ (k : ℕ). RoundsDown n (2 ^ k) r) e (floor_mode n (bias_for n narrow.bias narrow.below) narrow.even (2 ^ narrow.down) r h (no_bias n e) (shifts.whole e).2)))
      go (suc by) e = mode_rounds n narrow.bias narrow.below narrow.even (2 ^ narrow.down) r (int_lt n (pos 0)) refl h mode (shifts.parts (omega (arith, e)))

pub narrow_converts : (narrow : Narrow) (from to : FxType) (mode : Rounding) (saturate : Bool) (v r result : ℤ) → IsNarrow narrow (frac_of from) to mode saturate
    → IsShifted (v *ℤ narrow.scale) (bias_for (v *ℤ narrow.scale) narrow.bias narrow.below) narrow.even (2 ^ narrow.down) r → Settles to saturate r result → Converts v from to mode saturate result
narrow_converts narrow from Logical mode saturate v r result is shifted settles = elim is.ends.number [ ]
narrow_converts narrow from (Num s w f) mode saturate v r result is shifted settles =
    subst₂ (λ (scale : ℤ) (down : ℕ). StoresQuotient (v *ℤ scale) (2 ^ down) (Num s w f) mode saturate result) is.shifts.scale is.shifts.down
    (record { rounded = r; rounds = narrow_rounds narrow (frac_of from) (Num s w f) mode is.shifts (v *ℤ narrow.scale) r shifted; settles = settles })

pub ordered : (to : FxType) → IsType to → lowest_of to ≤ℤ highest_of to
ordered (Num true w f) t = omega (arith, ints, pow_pos (w - 1))
ordered (Num false w f) t = omega (arith, ints, pow_pos w)
ordered Logical t = omega (arith, ints)

-- one, shifted up in 64 bits
pub one_shifted : (by : ℕ) → by ≤ 61 → to_z w64 (1 * 2 ^ by % 18446744073709551616) ≡ pos (2 ^ by)
one_shifted by h =
    let small : 2 ^ by ≤ 2 ^ 61 = pow_mono h in
    let e : 1 * 2 ^ by % 18446744073709551616 ≡ 2 ^ by = one_shl by 64 (omega arith) in
    ap (to_z w64) e ∙ to_z_pos w64 (2 ^ by) (omega (arith, small))

pub half_bounds : (down : ℕ) → 1 ≤ down → down ≤ 60 → (2 ^ down ≡ 2 * 2 ^ (down - 1)) × (2 ^ (down - 1) ≤ 2 ^ 60)
half_bounds down low high = let k : down - 1 ≤ 60 = omega arith in (double down low, pow_mono k)

-- the ends of a word of at most 60 bits
pub ends_fit : (w : ℕ) (s : Bool) → w ≤ 60 → FitsSigned w64 (word_lowest w s) × FitsSigned w64 (word_highest w s)
ends_fit w true h = let k : w - 1 ≤ 60 = omega arith in let p : 2 ^ (w - 1) ≤ 2 ^ 60 = pow_mono k in (omega (arith, ints, p), omega (arith, ints, p))
ends_fit w false h = let p : 2 ^ w ≤ 2 ^ 60 = pow_mono h in (omega (arith, ints, p), omega (arith, ints, p))

-- and stay what they are there
pub ends_kept : (width : ℕ) (signed : Bool) (low high : ℤ) → width ≤ 60 → FitsSigned w128 low → FitsSigned w128 high → low ≡ word_lowest width signed → high ≡ word_highest width signed
    → (to_z w64 (of_z w64 (to_z w128 (of_z w128 low))) ≡ word_lowest width signed) × (to_z w64 (of_z w64 (to_z w128 (of_z w128 high))) ≡ word_highest width signed)
ends_kept width signed low high small low_fits high_fits low_is high_is =
    let fits = ends_fit width signed small in (
      ap (λ (z : ℤ). to_z w64 (of_z w64 z)) (to_z-of_z w128 low low_fits ∙ low_is) ∙ to_z-of_z w64 (word_lowest width signed) fits.0,
      ap (λ (z : ℤ). to_z w64 (of_z w64 z)) (to_z-of_z w128 high high_fits ∙ high_is) ∙ to_z-of_z w64 (word_highest width signed) fits.1,
    )

-- a way of a conversion with the same shifts and bias
pub same_way : (way : Way) (narrow other : Narrow) → other.scale ≡ narrow.scale → other.down ≡ narrow.down
    → other.bias ≡ narrow.bias → other.below ≡ narrow.below → other.even ≡ narrow.even
    → other.saturate ≡ narrow.saturate
    → IsWay way narrow → IsWay way other
same_way Exact narrow other scale down bias below even saturate is = down ∙ is
same_way Wraps narrow other scale down bias below even saturate is = (record { scale = scale ∙ is.0.scale; below = below ∙ is.0.below ∙ sym bias; even = even ∙ is.0.even }, saturate ∙ is.1)
same_way Ends narrow other scale down bias below even saturate is = (record { scale = scale ∙ is.0.scale; below = below ∙ is.0.below ∙ sym bias; even = even ∙ is.0.even }, saturate ∙ is.1)
same_way Any narrow other scale down bias below even saturate is = tt

-- where no bit falls away the number stays
pub exact_converts : (narrow : Narrow) (from to : FxType) (mode : Rounding) (saturate : Bool) (v : ℤ) → IsNarrow narrow (frac_of from) to mode saturate → narrow.down ≡ 0
    → (narrow.low ≤ℤ (v *ℤ narrow.scale)) × ((v *ℤ narrow.scale) ≤ℤ narrow.high) → Converts v from to mode saturate (v *ℤ narrow.scale)
exact_converts narrow from to mode saturate v is whole range =
    let n = v *ℤ narrow.scale in
    let bias = no_bias narrow (frac_of from) to mode is.shifts n whole in
    let plain : IsShifted n (pos 0) false (2 ^ 0) n = record {
      lower = n;
      floors = record { at_most = omega (arith, ints); next_above = omega (arith, ints) };
      tie = pos 0;
      is_tie = no_tie n;
      rounds = record { at_most = omega (arith, ints); next_above = omega (arith, ints) };
    } in
    narrow_converts narrow from to mode saturate v n n is (rw (whole, bias, (is.shifts.whole whole).2) plain)
    (inside to saturate n is.ends.number (omega (arith, ints, range.0, is.ends.low_is)) (omega (arith, ints, range.1, is.ends.high_is)))

-- where one bias serves both signs
pub plain_converts : (narrow : Narrow) (from to : FxType) (mode : Rounding) (saturate : Bool) (v r result : ℤ) → IsNarrow narrow (frac_of from) to mode saturate → HasOneBias narrow
    → IsShifted v narrow.bias false (2 ^ narrow.down) r → Settles to saturate r result → Converts v from to mode saturate result
plain_converts narrow from to mode saturate v r result is one shifted settles =
    let n : v *ℤ narrow.scale ≡ v = ap (λ (z : ℤ). v *ℤ z) one.scale ∙ omega (arith, ints) in
    let bias : bias_for v narrow.bias narrow.below ≡ narrow.bias = same_bias (int_lt v (pos 0)) in
    narrow_converts narrow from to mode saturate v r result is (rw (n, bias, one.even) shifted) settles
  where
    same_bias : (negative : Bool) → cond negative narrow.below narrow.bias ≡ narrow.bias
    same_bias true = one.below
    same_bias false = refl

pub plain_small : (narrow : Narrow) (v : ℤ) → HasOneBias narrow → IsSmall (v *ℤ narrow.scale) → IsSmall v
plain_small narrow v one small =
    let n : v *ℤ narrow.scale ≡ v = ap (λ (z : ℤ). v *ℤ z) one.scale ∙ omega (arith, ints) in
    subst IsSmall n small

-- ---- room
pub room_up : (bits up : ℕ) (v : ℤ) → bits + up ≤ 61 → IsWithin bits v → IsSmall (v *ℤ pos (2 ^ up))
room_up bits up v h within =
    let p : 2 ^ (bits + up) ≤ 2 ^ 61 = pow_mono h in
    let e : 2 ^ (bits + up) ≡ 2 ^ bits * 2 ^ up = pow-add 2 bits up in
    let n : neg_ℤ (pos (2 ^ bits)) *ℤ pos (2 ^ up) ≡ neg_ℤ (pos (2 ^ bits) *ℤ pos (2 ^ up)) = scaled-neg (pos (2 ^ bits)) (2 ^ up) in
    record {
      low = omega (arith, ints, p, e, n, scaled-mono (neg_ℤ (pos (2 ^ bits))) v (2 ^ up) within.low);
      high = omega (arith, ints, p, e, scaled-mono v (pos (2 ^ bits)) (2 ^ up) (omega (arith, ints, within.high)));
    }

-- a number that a shift up leaves in range
pub reached : (to : FxType) (bits up : ℕ) (low high v : ℤ) → IsType to → IsNumber to → low ≡ lowest_of to
    → high ≡ highest_of to → ReachesBelow low (bits + up) → IsWithin bits v
    → (low ≤ℤ (v *ℤ pos (2 ^ up))) × ((v *ℤ pos (2 ^ up)) ≤ℤ high)
reached (Num true w f) bits up low high v valid number low_is high_is reaches within =
    let e : 2 ^ (bits + up) ≡ 2 ^ bits * 2 ^ up = pow-add 2 bits up in
    let n : neg_ℤ (pos (2 ^ bits)) *ℤ pos (2 ^ up) ≡ neg_ℤ (pos (2 ^ bits) *ℤ pos (2 ^ up)) = scaled-neg (pos (2 ^ bits)) (2 ^ up) in (
      omega (arith, ints, e, n, reaches, scaled-mono (neg_ℤ (pos (2 ^ bits))) v (2 ^ up) within.low),
      omega (arith, ints, e, reaches, low_is, high_is, pow_pos (w - 1), pow_pos up, unit_apart v (pos (2 ^ bits)) (2 ^ up) within.high),
    )
reached (Num false w f) bits up low high v valid number low_is high_is reaches within = absurd (omega (arith, ints, reaches, low_is, pow_pos (bits + up)))
reached Logical bits up low high v valid number low_is high_is reaches within = elim number [ ]

pub room_down : (bits : ℕ) (v : ℤ) → bits ≤ 61 → IsWithin bits v → IsSmall (v *ℤ pos 1)
room_down bits v h within = let p : 2 ^ bits ≤ 2 ^ 61 = pow_mono h in record { low = omega (arith, ints, p, within.low); high = omega (arith, ints, p, within.high) }

-- ---- how large stored integers and their products are
pub range_within : (type : FxType) (v : ℤ) → IsType type → InRange type v → IsWithin (magnitude_of type) v
range_within (Num true w f) v t r = record { low = omega (arith, ints, r.low); high = omega (arith, ints, pow_pos (w - 1), r.high) }
range_within (Num false w f) v t r = record { low = omega (arith, ints, r.low); high = omega (arith, ints, pow_pos w, r.high) }
range_within Logical v t r = record { low = omega (arith, ints, r.low); high = omega (arith, ints, r.high) }

within_fits : (bits : ℕ) (v : ℤ) → bits ≤ 61 → IsWithin bits v → FitsSigned w64 v
within_fits bits v h within = let p : 2 ^ bits ≤ 2 ^ 61 = pow_mono h in omega (arith, ints, p, within.low, within.high)

abs_of : (n : ℕ) (v : ℤ) → neg_ℤ (pos n) ≤ℤ v → v ≤ℤ pos n → unsigned_abs v ≤ n
abs_of n (pos k) low high = omega (arith, ints, high)
abs_of n (negsuc k) low high = omega (arith, ints, low)

of_abs : (n : ℕ) (v : ℤ) → unsigned_abs v ≤ n → (neg_ℤ (pos n) ≤ℤ v) × (v ≤ℤ pos n)
of_abs n (pos k) h = (omega (arith, ints, h), omega (arith, ints, h))
of_abs n (negsuc k) h = (omega (arith, ints, h), omega (arith, ints, h))

pub product_within : (i j : ℕ) (x y : ℤ) → IsWithin i x → IsWithin j y → IsWithin (i + j + 1) (x *ℤ y)
product_within i j x y p q =
    let m : unsigned_abs x * unsigned_abs y ≤ 2 ^ i * 2 ^ j = mul-le-mul (abs_of (2 ^ i) x p.low (omega (arith, ints, p.high))) (abs_of (2 ^ j) y q.low (omega (arith, ints, q.high))) in
    let b = of_abs (2 ^ (i + j)) (x *ℤ y) (omega (arith, m, unsigned_abs-mul x y, pow-add 2 i j)) in
    let e : 2 ^ (i + j + 1) ≡ 2 ^ (i + j) * 2 = pow-add 2 (i + j) 1 in
    record { low = omega (arith, ints, e, b.0); high = omega (arith, ints, e, pow_pos (i + j), b.1) }

pub whole_fits : (bits : ℕ) (v : ℤ) → bits ≤ 61 → IsWithin bits v → FitsSigned w64 v
whole_fits bits v h within = within_fits bits v h within

-- a type has no more bits beside the sign than in all
pub short_magnitude : (type : FxType) → width_of type ≤ 61 → magnitude_of type ≤ 61
short_magnitude (Num true w f) h = omega (arith, h)
short_magnitude (Num false w f) h = h
short_magnitude Logical h = h

-- ---- a bias before a shift down by at most 60 bits
module _ (d : ℕ) (some : 2 ≤ d) (few : d ≤ 2 ^ 60) where
  abbrev Within : ℤ → Type 0
  Within bias = (pos 0 ≤ℤ bias) × (bias ≤ℤ pos (2 ^ 60))

  none : (bias : ℤ) → bias ≡ pos 0 → Within bias
  none bias is = (omega (arith, ints, is), omega (arith, ints, is))

  one_less : (bias : ℤ) → bias +ℤ pos 1 ≡ pos d → Within bias
  one_less bias is = (omega (arith, ints, some, is), omega (arith, ints, few, is))

  half : (bias : ℤ) → twice bias ≡ pos d → Within bias
  half bias is = (omega (arith, ints, is), omega (arith, ints, few, is))

  less_than_half : (bias : ℤ) → twice bias +ℤ pos 2 ≡ pos d → Within bias
  less_than_half bias is = (omega (arith, ints, some, is), omega (arith, ints, few, is))

  by_mode : (mode : Rounding) (bias below : ℤ) (even : Bool) → IsBias mode d bias below even → Within bias × Within below
  by_mode Floor bias below even is = (none bias is.0, none below is.1)
  by_mode Ceiling bias below even is = (one_less bias is.0, one_less below is.1)
  by_mode Zero bias below even is = (none bias is.0, one_less below is.1)
  by_mode Nearest bias below even is = (half bias is.0, half below is.1)
  by_mode Round bias below even is = (half bias is.0, less_than_half below is.1)
  by_mode Convergent bias below even is = (less_than_half bias is.0, less_than_half below is.1)

pub bias_within : (mode : Rounding) (down : ℕ) (bias below : ℤ) (even : Bool) → 1 ≤ down → down ≤ 60 → IsBias mode (2 ^ down) bias below even
    → ((pos 0 ≤ℤ bias) × (bias ≤ℤ pos (2 ^ 60))) × ((pos 0 ≤ℤ below) × (below ≤ℤ pos (2 ^ 60)))
bias_within mode down bias below even low high is =
    let two = (half_bounds down low high).0 in
    let some = pow_pos (down - 1) in
    by_mode (2 ^ down) (omega (arith, two, some)) (pow_mono high) mode bias below even is

pub bias_range : (narrow : Narrow) (frac : ℤ) (to : FxType) (mode : Rounding) (v : ℤ)
    → HasShifts narrow frac to mode → (pos 0 ≤ℤ bias_for v narrow.bias narrow.below)
    × (bias_for v narrow.bias narrow.below ≤ℤ pos (2 ^ 60))
bias_range narrow frac to mode v shifts = go (int_lt v (pos 0))
  where
    go : (negative : Bool) → (pos 0 ≤ℤ cond negative narrow.below narrow.bias) × (cond negative narrow.below narrow.bias ≤ℤ pos (2 ^ 60))
    go true = (shifts.below_low, shifts.below_high)
    go false = (shifts.bias_low, shifts.bias_high)
