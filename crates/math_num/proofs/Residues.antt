-- Numbers of 128 bits and their bits, modulo 2 to the power 128.
use Rattle.std.proofs.Common.{◌≡◌, ℕ, zero, suc, ◌+◌, ◌-◌, ◌*◌, ◌/◌, ◌%◌, ◌^◌, ◌<◌, ◌≤◌, ◌<ℤ◌, ◌≤ℤ◌, ◌≢◌, int_lt, not, if◌then◌else◌, Bool, true, false, ℤ, pos, negsuc, ◌+ℤ◌, ◌-ℤ◌, ◌*ℤ◌, neg_ℤ, ap}
use Rattle.std.proofs.Common.{sym, ◌∙◌, subst, arith, refl, of_z, to_z, FitsSigned, bit_and, bit_or, bit_xor, mod-lt, inl, inr, pow_pos, pow_mono}
use Rattle.std.specs.Int.{w128}
use Rattle.std.proofs.lemmas.Int.{ints, to_z-of_z}
use Rattle.std.proofs.lemmas.Nat.{pow-add, div-add-mod', mod-mul-add, and_le_l, or_lt, xor_lt, shl-shr, shr-shr, shr_le, div_below}
use Rattle.std.proofs.lemmas.Bool.{cases_lt}
use Rattle.std.proofs.lemmas.Bool.Decides.{Decides-int_eq}
use Rattle.std.proofs.Math.Nat.{div-eq_of_lt, mul-lt-mul_of_pos_right}
use Rattle.math_num.specs.Word.{IsWord, InWord, IsCongruent, IsWrapped}
use Rattle.math_num.proofs.Arithmetic.{double, add-scaled, IsCongruent-trans, scaled-neg, mul-scaled, IsCongruent-refl, IsCongruent-times, IsCongruent-part}
use Rattle.std.proofs.Math.IntN.{*ℤ_comm, *ℤ-negsuc}
use Rattle.std.specs.Ordering.{int_eq}
use Rattle.math_num.specs.Bits.{low_bits, shifted_down, truth}
use Rattle.math_num.proofs.Shifts.{remainder_congruent}

congruent-same : {a b c d : ℤ} (m : ℕ) → a ≡ c → b ≡ d → IsCongruent a b m → IsCongruent c d m
congruent-same m p q h = record { turns = h.turns; equal = sym p ∙ h.equal ∙ ap (λ (z : ℤ). z +ℤ h.turns *ℤ pos m) q }

pub congruent-neg : {a b : ℤ} (m : ℕ) → IsCongruent a b m → IsCongruent (neg_ℤ a) (neg_ℤ b) m
congruent-neg {a} {b} m h = record {
  turns = neg_ℤ h.turns;
  equal = let e = scaled-neg h.turns m in omega (arith, ints, h.equal, e);
}

-- bits read as a number with a sign
pub read-congruent : (n : ℕ) → n < 340282366920938463463374607431768211456 → IsCongruent (to_z w128 n) (pos n) 340282366920938463463374607431768211456
read-congruent n h = elim (cases_lt n 170141183460469231731687303715884105728) [
  | inl l ↦ record { turns = pos 0; equal = omega (arith, ints) }
  | inr g ↦ (let k = 340282366920938463463374607431768211456 - suc n in
      let f : FitsSigned w128 (negsuc k) = omega (arith, ints) in
      let b : n ≡ 340282366920938463463374607431768211456 - suc k = omega arith in
      let e : to_z w128 n ≡ negsuc k = ap (to_z w128) b ∙ to_z-of_z w128 (negsuc k) f in
      record { turns = negsuc 0; equal = e ∙ omega (arith, ints) })
]

-- a remainder read so
pub cut-congruent : (n : ℕ) → IsCongruent (to_z w128 (n % 340282366920938463463374607431768211456)) (pos n) 340282366920938463463374607431768211456
cut-congruent n =
    IsCongruent-trans 340282366920938463463374607431768211456
    (read-congruent (n % 340282366920938463463374607431768211456) (mod-lt n (omega arith)))
    (remainder_congruent n 340282366920938463463374607431768211456)

bits-congruent : (v : ℤ) → FitsSigned w128 v → IsCongruent (pos (of_z w128 v)) v 340282366920938463463374607431768211456
bits-congruent (pos n) f = record { turns = pos 0; equal = omega (arith, ints) }
bits-congruent (negsuc n) f = record { turns = pos 1; equal = omega (arith, ints, f.sfits) }

sum-of-bits : (a b : ℤ) → FitsSigned w128 a → FitsSigned w128 b → IsCongruent (pos (of_z w128 a + of_z w128 b)) (a +ℤ b) 340282366920938463463374607431768211456
sum-of-bits (pos m) (pos n) f g = record { turns = pos 0; equal = omega (arith, ints) }
sum-of-bits (pos m) (negsuc n) f g = record { turns = pos 1; equal = omega (arith, ints, g.sfits) }
sum-of-bits (negsuc m) (pos n) f g = record { turns = pos 1; equal = omega (arith, ints, f.sfits) }
sum-of-bits (negsuc m) (negsuc n) f g = record { turns = pos 2; equal = omega (arith, ints, f.sfits, g.sfits) }

difference-of-bits : (a b : ℤ) → FitsSigned w128 a → FitsSigned w128 b
    → IsCongruent (pos (of_z w128 a + (340282366920938463463374607431768211456 - of_z w128 b)))
    (a -ℤ b) 340282366920938463463374607431768211456
difference-of-bits (pos m) (pos n) f g = record { turns = pos 1; equal = omega (arith, ints, f.sfits, g.sfits) }
difference-of-bits (pos m) (negsuc n) f g = record { turns = pos 0; equal = omega (arith, ints, f.sfits, g.sfits) }
difference-of-bits (negsuc m) (pos n) f g = record { turns = pos 2; equal = omega (arith, ints, f.sfits, g.sfits) }
difference-of-bits (negsuc m) (negsuc n) f g = record { turns = pos 1; equal = omega (arith, ints, f.sfits, g.sfits) }

-- a product with a number of either sign
times-bits : (a b : ℤ) → FitsSigned w128 b → IsCongruent (a *ℤ pos (of_z w128 b)) (a *ℤ b) 340282366920938463463374607431768211456
times-bits (pos n) b f =
    congruent-same 340282366920938463463374607431768211456 (*ℤ_comm (pos (of_z w128 b)) (pos n)) (*ℤ_comm b (pos n)) (IsCongruent-times 340282366920938463463374607431768211456 n (bits-congruent b f))
times-bits (negsuc n) b f =
    congruent-same 340282366920938463463374607431768211456
    (sym (*ℤ-negsuc (pos (of_z w128 b)) n) ∙ *ℤ_comm (pos (of_z w128 b)) (negsuc n)) (sym (*ℤ-negsuc b n) ∙ *ℤ_comm b (negsuc n))
    (congruent-neg 340282366920938463463374607431768211456 (IsCongruent-times 340282366920938463463374607431768211456 (suc n) (bits-congruent b f)))

product-of-bits : (a b : ℤ) → FitsSigned w128 a → FitsSigned w128 b → IsCongruent (pos (of_z w128 a * of_z w128 b)) (a *ℤ b) 340282366920938463463374607431768211456
product-of-bits a b f g =
    IsCongruent-trans 340282366920938463463374607431768211456 (IsCongruent-times 340282366920938463463374607431768211456 (of_z w128 b) (bits-congruent a f)) (times-bits a b g)

pub sum-congruent : (a b : ℤ) → FitsSigned w128 a → FitsSigned w128 b
    → IsCongruent (to_z w128 ((of_z w128 a + of_z w128 b) % 340282366920938463463374607431768211456))
    (a +ℤ b) 340282366920938463463374607431768211456
sum-congruent a b f g = IsCongruent-trans 340282366920938463463374607431768211456 (cut-congruent (of_z w128 a + of_z w128 b)) (sum-of-bits a b f g)

pub difference-congruent : (a b : ℤ) → FitsSigned w128 a → FitsSigned w128 b
    → IsCongruent (to_z w128 ((of_z w128 a + (340282366920938463463374607431768211456 - of_z w128 b)) %
    340282366920938463463374607431768211456)) (a -ℤ b) 340282366920938463463374607431768211456
difference-congruent a b f g = IsCongruent-trans 340282366920938463463374607431768211456
    (cut-congruent (of_z w128 a + (340282366920938463463374607431768211456 - of_z w128 b)))
    (difference-of-bits a b f g)

pub product-congruent : (a b : ℤ) → FitsSigned w128 a → FitsSigned w128 b
    → IsCongruent (to_z w128 ((of_z w128 a * of_z w128 b) % 340282366920938463463374607431768211456))
    (a *ℤ b) 340282366920938463463374607431768211456
product-congruent a b f g = IsCongruent-trans 340282366920938463463374607431768211456 (cut-congruent (of_z w128 a * of_z w128 b)) (product-of-bits a b f g)

pub inverted-congruent : (a : ℤ) → FitsSigned w128 a → IsCongruent (to_z w128 (340282366920938463463374607431768211455 - of_z w128 a)) (negsuc 0 -ℤ a) 340282366920938463463374607431768211456
inverted-congruent a f = IsCongruent-trans 340282366920938463463374607431768211456 (read-congruent (340282366920938463463374607431768211455 - of_z w128 a) (omega arith)) (left a f)
  where
    left : (z : ℤ) → FitsSigned w128 z → IsCongruent (pos (340282366920938463463374607431768211455 - of_z w128 z)) (negsuc 0 -ℤ z) 340282366920938463463374607431768211456
    left (pos n) h = record { turns = pos 1; equal = omega (arith, ints, h.sfits) }
    left (negsuc n) h = record { turns = pos 0; equal = omega (arith, ints, h.sfits) }

-- the bits of a number of 128 bits
pub bits-are : (v : ℤ) → FitsSigned w128 v → of_z w128 v ≡ low_bits 128 v
bits-are (pos n) f = omega (arith, f.sfits)
bits-are (negsuc n) f = omega (arith, f.sfits)

pub bits-below : (v : ℤ) → FitsSigned w128 v → of_z w128 v < 340282366920938463463374607431768211456
bits-below (pos n) f = omega (arith, f.sfits)
bits-below (negsuc n) f = omega (arith, f.sfits)

pub and-congruent : (a b : ℤ) → FitsSigned w128 a → FitsSigned w128 b
    → IsCongruent (to_z w128 (bit_and (of_z w128 a) (of_z w128 b)))
    (pos (bit_and (low_bits 128 a) (low_bits 128 b))) 340282366920938463463374607431768211456
and-congruent a b f g =
    rw (← (bits-are a f), ← (bits-are b g)) (read-congruent (bit_and (of_z w128 a) (of_z w128 b)) (omega (arith, and_le_l (of_z w128 a) (of_z w128 b), bits-below a f)))

pub or-congruent : (a b : ℤ) → FitsSigned w128 a → FitsSigned w128 b
    → IsCongruent (to_z w128 (bit_or (of_z w128 a) (of_z w128 b)))
    (pos (bit_or (low_bits 128 a) (low_bits 128 b))) 340282366920938463463374607431768211456
or-congruent a b f g =
    rw (← (bits-are a f), ← (bits-are b g)) (read-congruent (bit_or (of_z w128 a) (of_z w128 b)) (or_lt 128 (of_z w128 a) (of_z w128 b) (bits-below a f) (bits-below b g)))

pub xor-congruent : (a b : ℤ) → FitsSigned w128 a → FitsSigned w128 b
    → IsCongruent (to_z w128 (bit_xor (of_z w128 a) (of_z w128 b)))
    (pos (bit_xor (low_bits 128 a) (low_bits 128 b))) 340282366920938463463374607431768211456
xor-congruent a b f g =
    rw (← (bits-are a f), ← (bits-are b g)) (read-congruent (bit_xor (of_z w128 a) (of_z w128 b)) (xor_lt 128 (of_z w128 a) (of_z w128 b) (bits-below a f) (bits-below b g)))

-- a shift by all of its bits, but the sign
pub far-down : (v : ℤ) (places : ℕ) → FitsSigned w128 v → 127 ≤ places → (v <ℤ pos 0 → negsuc 0 ≡ shifted_down v places) × (pos 0 ≤ℤ v → pos 0 ≡ shifted_down v places)
far-down (pos n) places f h =
    let p : 2 ^ 127 ≤ 2 ^ places = pow_mono h in
    let e : n / 2 ^ places ≡ 0 = div-eq_of_lt (omega (arith, f.sfits)) in
    (λ below. absurd (omega (arith, ints, below)), λ _. ap pos (sym e))
far-down (negsuc n) places f h =
    let p : 2 ^ 127 ≤ 2 ^ places = pow_mono h in
    let e : n / 2 ^ places ≡ 0 = div-eq_of_lt (omega (arith, f.sfits)) in
    (λ _. ap negsuc (sym e), λ above. absurd (omega (arith, ints, above)))

pub up-congruent : (v : ℤ) (places : ℕ) → FitsSigned w128 v
    → IsCongruent (to_z w128 (of_z w128 v * 2 ^ places % 340282366920938463463374607431768211456))
    (v *ℤ pos (2 ^ places)) 340282366920938463463374607431768211456
up-congruent v places f =
    IsCongruent-trans 340282366920938463463374607431768211456 (cut-congruent (of_z w128 v * 2 ^ places)) (IsCongruent-times 340282366920938463463374607431768211456 (2 ^ places) (bits-congruent v f))

pub far-up : (v : ℤ) (places : ℕ) → 128 ≤ places → IsCongruent (pos 0) (v *ℤ pos (2 ^ places)) 340282366920938463463374607431768211456
far-up v places h =
    let k : places - 128 + 128 ≡ places = omega arith in
    let p : 2 ^ (places - 128) * 2 ^ 128 ≡ 2 ^ places = sym (pow-add 2 (places - 128) 128) ∙ ap (λ (n : ℕ). 2 ^ n) k in
    let z : ℤ = v *ℤ pos (2 ^ (places - 128)) in
    let e : z *ℤ pos 340282366920938463463374607431768211456 ≡ v *ℤ pos (2 ^ places) = mul-scaled v (2 ^ (places - 128)) 340282366920938463463374607431768211456 ∙ ap (λ (n : ℕ). v *ℤ pos n) p in
    let n = scaled-neg z 340282366920938463463374607431768211456 in
    record { turns = neg_ℤ z; equal = omega (arith, ints, e, n) }

-- what is congruent modulo 2 to the power 128 is cut to the same number of a word
pub cut-through : (value exact result : ℤ) (width : ℕ) (signed : Bool) → width ≤ 128
    → IsCongruent value exact 340282366920938463463374607431768211456 → IsWrapped value width signed result
    → IsWrapped exact width signed result
cut-through value exact result width signed h same is =
    let k : 128 - width + width ≡ 128 = omega arith in
    let p : 2 ^ (128 - width) * 2 ^ width ≡ 340282366920938463463374607431768211456 = sym (pow-add 2 (128 - width) width) ∙ ap (λ (n : ℕ). 2 ^ n) k in
    record {
      in_word = is.in_word;
      congruent = IsCongruent-trans (2 ^ width) is.congruent (IsCongruent-part (2 ^ (128 - width)) (2 ^ width) (subst (λ (m : ℕ). IsCongruent value exact m) (sym p) same));
    }

-- the lowest bits, from all
pub low-of-bits : (v : ℤ) (h : ℕ) → h ≤ 128 → FitsSigned w128 v → of_z w128 v % 2 ^ h ≡ low_bits h v
low-of-bits (pos n) h k f = refl
low-of-bits (negsuc n) h k f =
    let e : 128 - h + h ≡ 128 = omega arith in
    let p : 2 ^ (128 - h) * 2 ^ h ≡ 340282366920938463463374607431768211456 = sym (pow-add 2 (128 - h) h) ∙ ap (λ (i : ℕ). 2 ^ i) e in
    let some = pow_pos h in
    let split = div-add-mod' n (2 ^ h) in
    let q : ℕ = n / 2 ^ h in
    let below : q < 2 ^ (128 - h) = div_below n (2 ^ h) (2 ^ (128 - h)) some (omega (arith, f.sfits)) in
    let parts : (2 ^ (128 - h) - 1 - q + (q + 1)) * 2 ^ h ≡ 2 ^ (128 - h) * 2 ^ h = ap (λ (i : ℕ). i * 2 ^ h) (omega arith) in
    let whole : 340282366920938463463374607431768211456 - suc n ≡ (2 ^ (128 - h) - 1 - q) * 2 ^ h + (2 ^ h - 1 - n % 2 ^ h) = omega (arith, mod-lt n some, f.sfits) in
    ap (λ (i : ℕ). i % 2 ^ h) whole ∙ mod-mul-add (2 ^ (128 - h) - 1 - q) (2 ^ h) (2 ^ h - 1 - n % 2 ^ h) (omega arith)

-- shifted up and down again, the bits between are left
pub between : (bits high low : ℕ) → low ≤ high → high < 128 → (bits * 2 ^ (127 - high)) % 340282366920938463463374607431768211456 / 2 ^ (127 - high + low) ≡ bits % 2 ^ (high + 1) / 2 ^ low
between bits high low order within =
    let k : ℕ = 127 - high in
    let some = pow_pos (high + 1) in
    let e : high + 1 + k ≡ 128 = omega arith in
    let p : 2 ^ (high + 1) * 2 ^ k ≡ 340282366920938463463374607431768211456 = sym (pow-add 2 (high + 1) k) ∙ ap (λ (i : ℕ). 2 ^ i) e in
    let split = div-add-mod' bits (2 ^ (high + 1)) in
    let q : ℕ = bits / 2 ^ (high + 1) in
    let r : ℕ = bits % 2 ^ (high + 1) in
    let below : r * 2 ^ k < 2 ^ (high + 1) * 2 ^ k = mul-lt-mul_of_pos_right (mod-lt bits some) (pow_pos k) in
    let turned : bits * 2 ^ k ≡ q * (2 ^ (high + 1) * 2 ^ k) + r * 2 ^ k = ap (λ (i : ℕ). i * 2 ^ k) (sym split) ∙ omega arith in
    let cut : (bits * 2 ^ k) % (2 ^ (high + 1) * 2 ^ k) ≡ r * 2 ^ k = ap (λ (i : ℕ). i % (2 ^ (high + 1) * 2 ^ k)) turned ∙ mod-mul-add q (2 ^ (high + 1) * 2 ^ k) (r * 2 ^ k) below in
    ap (λ (m : ℕ). (bits * 2 ^ k) % m / 2 ^ (k + low)) (sym p) ∙ ap (λ (i : ℕ). i / 2 ^ (k + low)) cut ∙ sym (shr-shr (r * 2 ^ k) k low) ∙ ap (λ (i : ℕ). i / 2 ^ low) (shl-shr r k)

pub slice-congruent : (v : ℤ) (high low : ℕ) → high < 128 → FitsSigned w128 v → (part : ℕ)
    → part ≡ of_z w128 v % 2 ^ (high + 1) / 2 ^ low
    → IsCongruent (to_z w128 part)
    (pos (low_bits (high + 1) v / 2 ^ low)) 340282366920938463463374607431768211456
slice-congruent v high low within f part is =
    let e : part ≡ low_bits (high + 1) v / 2 ^ low = is ∙ ap (λ (i : ℕ). i / 2 ^ low) (low-of-bits v (high + 1) (omega arith) f) in
    let some = pow_pos (high + 1) in
    let few : high + 1 ≤ 128 = omega arith in
    let most : 2 ^ (high + 1) ≤ 2 ^ 128 = pow_mono few in
    let less : of_z w128 v % 2 ^ (high + 1) / 2 ^ low ≤ of_z w128 v % 2 ^ (high + 1) = shr_le (of_z w128 v % 2 ^ (high + 1)) low in
    subst (λ (i : ℕ). IsCongruent (to_z w128 part) (pos i) 340282366920938463463374607431768211456) e (read-congruent part (omega (arith, mod-lt (of_z w128 v) some)))

pub kept-congruent : (v : ℤ) → FitsSigned w128 v → IsCongruent (to_z w128 (of_z w128 v)) v 340282366920938463463374607431768211456
kept-congruent v f = congruent-same 340282366920938463463374607431768211456 (sym (to_z-of_z w128 v f)) refl (IsCongruent-refl v 340282366920938463463374607431768211456)

-- a number that is handed on, where it is the number asked for
pub kept-as : (v exact : ℤ) → FitsSigned w128 v → v ≡ exact → IsCongruent (to_z w128 (of_z w128 v)) exact 340282366920938463463374607431768211456
kept-as v exact f e = congruent-same 340282366920938463463374607431768211456 (sym (to_z-of_z w128 v f)) e (IsCongruent-refl v 340282366920938463463374607431768211456)

-- what the code's tests say of signed numbers
same-number : (a b : ℤ) → FitsSigned w128 a → FitsSigned w128 b → of_z w128 a ≡ of_z w128 b → a ≡ b
same-number a b f g e = sym (to_z-of_z w128 a f) ∙ ap (to_z w128) e ∙ to_z-of_z w128 b g

pub only-false : (b : Bool) → ¬ (b ≡ true) → b ≡ false
only-false true h = absurd (h refl)
only-false false h = refl

pub is-same : (a b : ℤ) → a ≡ b → int_eq a b ≡ true
is-same a b h = (Decides-int_eq a b).1 h

pub not-same : (a b : ℤ) → a ≢ b → int_eq a b ≡ false
not-same a b h = only-false (int_eq a b) (λ e. h ((Decides-int_eq a b).0 e))

truth-congruent : (holds value : Bool) → holds ≡ value → IsCongruent (truth value) (truth holds) 340282366920938463463374607431768211456
truth-congruent holds value e = rw e (IsCongruent-refl (truth value) 340282366920938463463374607431768211456)

pub below-congruent : (a b : ℤ) (value : Bool) → FitsSigned w128 a → FitsSigned w128 b
    → int_lt (to_z w128 (of_z w128 a)) (to_z w128 (of_z w128 b)) ≡ value
    → IsCongruent (truth value) (truth (int_lt a b)) 340282366920938463463374607431768211456
below-congruent a b value f g e = truth-congruent (int_lt a b) value (rw (to_z-of_z w128 a f, to_z-of_z w128 b g) at e)

pub same-congruent : (a b : ℤ) → FitsSigned w128 a → FitsSigned w128 b
    → (of_z w128 a ≡ of_z w128 b → IsCongruent (pos 1) (truth (int_eq a b)) 340282366920938463463374607431768211456)
    × (of_z w128 a ≢ of_z w128 b
    → IsCongruent (pos 0) (truth (int_eq a b)) 340282366920938463463374607431768211456)
same-congruent a b f g =
    (λ h. truth-congruent (int_eq a b) true (is-same a b (same-number a b f g h)), λ h. truth-congruent (int_eq a b) false (not-same a b (λ e. h (ap (of_z w128) e))))

pub choice : (a b c : ℤ) → FitsSigned w128 a → (of_z w128 a ≡ 0 → c ≡ (if not (int_eq a (pos 0)) then b else c)) × (of_z w128 a ≢ 0 → b ≡ (if not (int_eq a (pos 0)) then b else c))
choice a b c f =
    (λ h. rw (is-same a (pos 0) (same-number a (pos 0) f (omega (arith, ints)) h)) refl, λ h. rw (not-same a (pos 0) (λ e. h (ap (of_z w128) e))) refl)

-- a number is cut to one number of a word
in-width : (width : ℕ) (signed : Bool) (a b : ℤ) → IsWord width signed → InWord width signed a → InWord width signed b → (t : ℤ) → a ≡ b +ℤ t *ℤ pos (2 ^ width) → t ≡ pos 0
in-width width signed a b word p q (pos zero) e = refl
in-width width true a b word p q (pos (suc t)) e = absurd (omega (arith, ints, p.high, q.low, e, double width (omega (arith, word.0)), pow_pos (width - 1)))
in-width width false a b word p q (pos (suc t)) e = absurd (omega (arith, ints, p.high, q.low, e, pow_pos width))
in-width width true a b word p q (negsuc t) e = absurd (omega (arith, ints, p.low, q.high, e, double width (omega (arith, word.0)), pow_pos (width - 1)))
in-width width false a b word p q (negsuc t) e = absurd (omega (arith, ints, p.low, q.high, e, pow_pos width))

pub one-wrapped : (v : ℤ) (width : ℕ) (signed : Bool) (a b : ℤ) → IsWord width signed → IsWrapped v width signed a → IsWrapped v width signed b → a ≡ b
one-wrapped v width signed a b word p q =
    let t : ℤ = p.congruent.turns in
    let u : ℤ = q.congruent.turns in
    let parts : (t +ℤ neg_ℤ u) *ℤ pos (2 ^ width) ≡ t *ℤ pos (2 ^ width) +ℤ neg_ℤ (u *ℤ pos (2 ^ width)) =
    add-scaled t (neg_ℤ u) (2 ^ width) ∙ ap (λ (z : ℤ). t *ℤ pos (2 ^ width) +ℤ z) (scaled-neg u (2 ^ width)) in
    let apart : a ≡ b +ℤ (t +ℤ neg_ℤ u) *ℤ pos (2 ^ width) = omega (arith, ints, p.congruent.equal, q.congruent.equal, parts) in
    let none : t +ℤ neg_ℤ u ≡ pos 0 = in-width width signed a b word p.in_word q.in_word (t +ℤ neg_ℤ u) apart in
    let zero-turns : (t +ℤ neg_ℤ u) *ℤ pos (2 ^ width) ≡ pos 0 = ap (λ (z : ℤ). z *ℤ pos (2 ^ width)) none ∙ omega (arith, ints) in
    omega (arith, ints, apart, zero-turns)
