-- A number shifted up into a word that has room for it.
use mathlib.Core.Bool.{beq}
use Rattle.std.proofs.Common.{◌≡◌, ℕ, ◌+◌, ◌-◌, ◌^◌, ◌≤◌, Bool, true, false, ℤ, pos, ◌+ℤ◌, ◌*ℤ◌, ◌≤ℤ◌, refl, arith, pow_mono, pow_pos}
use Rattle.std.proofs.lemmas.Int.{ints}
use Rattle.std.proofs.lemmas.Bool.{false≢true}
use Rattle.std.proofs.lemmas.Nat.{pow-add}
use Rattle.math_num.specs.Word.{InWord}
use Rattle.math_num.proofs.Arithmetic.{next-scaled, scaled-mono, scaled-neg, scaled-at_least, IsCongruent-refl}
use Rattle.fx_type.specs.declared.kind.FxType.TheVariants.{Num}
use Rattle.fx_type.specs.Conversion.{Settles}

-- no more than a power of two, shifted up
below_power : (v : ℤ) (bits by most : ℕ) → bits + by ≤ most → (v +ℤ pos 1) ≤ℤ pos (2 ^ bits) → (v *ℤ pos (2 ^ by) +ℤ pos 1) ≤ℤ pos (2 ^ most)
below_power v bits by most h high =
    let p : 2 ^ (bits + by) ≤ 2 ^ most = pow_mono h in
    let scaled = scaled-mono (v +ℤ pos 1) (pos (2 ^ bits)) (2 ^ by) high in
    omega (arith, ints, p, pow-add 2 bits by, next-scaled v (2 ^ by), scaled, pow_pos by)

-- it stays a number of the word
pub raised_stays : (signed : Bool) (v : ℤ) (bits by width : ℕ) → 1 ≤ bits → bits + by ≤ width → InWord bits signed v → InWord width signed (v *ℤ pos (2 ^ by))
raised_stays true v bits by width some h number =
    let p : 2 ^ (bits - 1 + by) ≤ 2 ^ (width - 1) = pow_mono (omega arith) in
    let low = scaled-mono _ v (2 ^ by) number.low in
    let n = scaled-neg (pos (2 ^ (bits - 1))) (2 ^ by) in
    record {
      low = omega (arith, ints, p, pow-add 2 (bits - 1) by, low, n);
      high = omega (arith, ints, below_power v (bits - 1) by (width - 1) (omega arith) (omega (arith, ints, number.high, pow_pos (bits - 1))), pow_pos (width - 1));
    }
raised_stays false v bits by width some h number = record {
  low = scaled-at_least v (2 ^ by) number.low;
  high = omega (arith, ints, below_power v bits by width h (omega (arith, ints, number.high, pow_pos bits)), pow_pos width);
}

-- the same where the signs are found equal
pub raised_stays_in : (from_signed signed : Bool) (v : ℤ) (bits by width : ℕ) → beq from_signed signed ≡ true
    → 1 ≤ bits → bits + by ≤ width → InWord bits from_signed v → InWord width signed (v *ℤ pos (2 ^ by))
raised_stays_in true true v bits by width e some h number = raised_stays true v bits by width some h number
raised_stays_in true false v bits by width e some h number = absurd (false≢true e)
raised_stays_in false true v bits by width e some h number = absurd (false≢true e)
raised_stays_in false false v bits by width e some h number = raised_stays false v bits by width some h number

-- a number of the word is settled as it is
pub settles_itself : (signed : Bool) (width : ℕ) (frac : ℤ) (saturate : Bool) (v : ℤ) → InWord width signed v → Settles (Num signed width frac) saturate v v
settles_itself signed width frac true v number = record {
  inside = λ _. refl;
  below = λ l. absurd (omega (arith, ints, l, number.low));
  above = λ g. absurd (omega (arith, ints, g, number.high));
}
settles_itself signed width frac false v number = record { in_word = number; congruent = IsCongruent-refl v (2 ^ width) }
