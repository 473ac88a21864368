-- Numbers of words: what is cut to a word, and products by how large their factors are.
use Rattle.std.proofs.Common.{◌≡◌, ℕ, suc, ◌+◌, ◌-◌, ◌*◌, ◌/◌, ◌%◌, ◌^◌, ◌<◌, ◌≤◌, true, false, ℤ, pos, negsuc, ◌+ℤ◌, ◌*ℤ◌, ap, sym, ◌∙◌, arith, mul_comm, pow_pos, pow_mono, to_z, of_z, zero, Bool}
use Rattle.std.proofs.Common.{neg_ℤ, bit_and, div-add-mod', FitsSigned, refl, ◌<ℤ◌, ◌≤ℤ◌, unsigned_abs}
use Rattle.std.proofs.lemmas.Nat.{and_mask, pow-add, shr_high}
use Rattle.std.proofs.Math.Arith.{mul_pred}
use Rattle.std.specs.Int.{w128}
use Rattle.std.proofs.lemmas.Int.{to_z-of_z, ints}
use Rattle.math_num.specs.Word.{IsWord, IsCongruent, IsWrapped, InWord}
use Rattle.math_num.proofs.Arithmetic.{double, add-scaled, scaled-neg, IsCongruent-refl, near_congruent}

-- the mask of b bits, and one more
pub mask-suc : (a b : ℕ) → (2 ^ (a + b) - 1) / 2 ^ a + 1 ≡ 2 ^ b
mask-suc a b =
    let e : 2 ^ (a + b) ≡ 2 ^ b * 2 ^ a = pow-add 2 a b ∙ mul_comm (2 ^ a) (2 ^ b) in
    let f : 2 ^ (a + b) - 1 ≡ (2 ^ b - 1) * 2 ^ a + (2 ^ a - 1) = ap (λ (n : ℕ). n - 1) e ∙ mul_pred (pow_pos b) (pow_pos a) in
    let h : 2 ^ a - 1 < 2 ^ a = omega (arith, pow_pos a) in
    omega (arith, ap (λ (n : ℕ). n / 2 ^ a) f, shr_high (2 ^ b - 1) a (2 ^ a - 1) h, pow_pos b)

-- half of a mask
pub half_mask : (w m : ℕ) → 1 ≤ w → m + 1 ≡ 2 ^ w → m / 2 ≡ 2 ^ (w - 1) - 1
half_mask w m h e = omega (arith, double w h, pow_pos (w - 1))

pub unsigned_bits : (w n : ℕ) → n < 2 ^ w → IsWrapped (pos n) w false (pos n)
unsigned_bits w n h = record { in_word = record { low = omega (arith, ints); high = omega (arith, ints) }; congruent = IsCongruent-refl (pos n) (2 ^ w) }

pub small_bits : (w n : ℕ) → n ≤ 2 ^ (w - 1) - 1 → IsWrapped (pos n) w true (pos n)
small_bits w n h = record { in_word = record { low = omega (arith, ints, pow_pos (w - 1)); high = omega (arith, ints) }; congruent = IsCongruent-refl (pos n) (2 ^ w) }

pub large_bits : (w m n : ℕ) → 1 ≤ w → m + 1 ≡ 2 ^ w → 2 ^ (w - 1) - 1 < n → n ≤ m → IsWrapped (pos n) w true (negsuc (m - n))
large_bits w m n k e p q = record {
  in_word = record { low = omega (arith, ints, double w k); high = omega (arith, ints, pow_pos (w - 1)) };
  congruent = record { turns = negsuc 0; equal = omega (arith, ints) };
}

-- the number that the highest bits of 128 stand for
pub read_top : (k : ℕ) → k < 2 ^ 127 → to_z w128 (340282366920938463463374607431768211455 - k) ≡ negsuc k
read_top k h =
    let e : 340282366920938463463374607431768211455 - k ≡ 340282366920938463463374607431768211456 - suc k = omega arith in
    ap (to_z w128) e ∙ to_z-of_z w128 (negsuc k) (record { sfits = h })

-- the width of a word, whatever its sign
pub word_width : (w : ℕ) (s : Bool) → IsWord w s → (1 ≤ w) × (w ≤ 128)
word_width w true h = (omega (arith, h.0), h.1)
word_width w false h = (h.0, omega (arith, h.1))

-- the low bits of a number of 128 bits, in two's complement
pub low_bits : (v : ℤ) (w m : ℕ) → w ≤ 128 → m + 1 ≡ 2 ^ w → FitsSigned w128 v → IsCongruent (pos (bit_and (of_z w128 v) m)) v (2 ^ w)
low_bits (pos n) w m h e f =
    let p : bit_and n m ≡ n % 2 ^ w = ap (bit_and n) (omega arith) ∙ and_mask n w in
    record { turns = neg_ℤ (pos (n / 2 ^ w)); equal = omega (arith, ints, p, div-add-mod' n (2 ^ w), scaled-neg (pos (n / 2 ^ w)) (2 ^ w)) }
low_bits (negsuc n) w m h e f =
    let u : ℕ = 340282366920938463463374607431768211456 - suc n in
    let p : bit_and u m ≡ u % 2 ^ w = ap (bit_and u) (omega arith) ∙ and_mask u w in
    let k : 128 - w + w ≡ 128 = omega arith in
    let q : 2 ^ (128 - w) * 2 ^ w ≡ 340282366920938463463374607431768211456 = sym (pow-add 2 (128 - w) w) ∙ ap (λ (i : ℕ). 2 ^ i) k in
    record {
      turns = pos (2 ^ (128 - w)) +ℤ neg_ℤ (pos (u / 2 ^ w));
      equal = omega (arith, ints, p, q, div-add-mod' u (2 ^ w), add-scaled (pos (2 ^ (128 - w))) (neg_ℤ (pos (u / 2 ^ w))) (2 ^ w), scaled-neg (pos (u / 2 ^ w)) (2 ^ w), f.sfits);
    }

-- shifted up by 128 or more, only 0 fits
pub too_far : (v : ℤ) (by : ℕ) → 128 ≤ by → ¬ (v ≡ pos 0) → ¬ FitsSigned w128 (v *ℤ pos (2 ^ by))
too_far (pos zero) by h z f = z refl
too_far (pos (suc a)) by h z f = let p : 2 ^ 128 ≤ 2 ^ by = pow_mono h in omega (arith, f.sfits)
too_far (negsuc a) by h z f = let p : 2 ^ 128 ≤ 2 ^ by = pow_mono h in omega (arith, ints, f)

-- a mask below 128 bits is a number of 128 bits with a sign
pub small_mask : (w m : ℕ) → w ≤ 127 → m + 1 ≡ 2 ^ w → (m < 2 ^ 127) × (m ≡ 2 ^ w - 1)
small_mask w m h e = let p : 2 ^ w ≤ 2 ^ 127 = pow_mono h in omega arith

pub unsigned_word : (s : Bool) (w : ℕ) → s ≡ false → IsWord w s → w ≤ 127
unsigned_word s w e h = (rw e at h).1

pub signed_word : (s : Bool) (w : ℕ) → s ≡ true → IsWord w s → (2 ≤ w) × (w ≤ 128)
signed_word s w e h = rw e at h

pub word-width : (width : ℕ) (signed : Bool) → IsWord width signed → width ≤ 128
word-width width true h = h.1
word-width width false h = omega (arith, h.1)

-- a number of a word has 128 bits
pub word-fits : (width : ℕ) (signed : Bool) (v : ℤ) → IsWord width signed → InWord width signed v → FitsSigned w128 v
word-fits width true v word is =
    let few : width - 1 ≤ 127 = omega (arith, word.1) in
    let most : 2 ^ (width - 1) ≤ 2 ^ 127 = pow_mono few in
    omega (arith, ints, most, is.low, is.high)
word-fits width false v word is =
    let most : 2 ^ width ≤ 2 ^ 127 = pow_mono word.1 in
    omega (arith, ints, most, is.low, is.high)

-- the sign: -1 or 0
abbrev pub sign_of : ℤ → ℤ
sign_of (pos n) = pos 0
sign_of (negsuc n) = negsuc 0

-- the absolute value, or one less below 0
abbrev pub size_of : ℤ → ℕ
size_of (pos n) = n
size_of (negsuc n) = n

pub size-below : (width : ℕ) (signed : Bool) (z : ℤ) → IsWord width signed → InWord width signed z → size_of z < 2 ^ width
size-below width true (pos n) w r = omega (arith, ints, r.high, pow_pos (width - 1), double width (omega (arith, w.0)))
size-below width true (negsuc n) w r = omega (arith, ints, r.low, pow_pos (width - 1), double width (omega (arith, w.0)))
size-below width false (pos n) w r = omega (arith, ints, r.high, pow_pos width)
size-below width false (negsuc n) w r = absurd (omega (arith, ints, r.low))

pub size-half : (width : ℕ) (z : ℤ) → InWord width true z → size_of z < 2 ^ (width - 1)
size-half width (pos n) r = omega (arith, ints, r.high, pow_pos (width - 1))
size-half width (negsuc n) r = omega (arith, ints, r.low, pow_pos (width - 1))

-- two numbers of one word are less than 2 to the width apart
pub apart : (width : ℕ) (signed : Bool) (a b : ℤ) → IsWord width signed → InWord width signed a → InWord width signed b → a <ℤ (b +ℤ pos (2 ^ width))
apart width true a b word p q = omega (arith, ints, p.high, q.low, double width (omega (arith, word.0)), pow_pos (width - 1))
apart width false a b word p q = omega (arith, ints, p.high, q.low, pow_pos width)

-- a number of the word is cut to itself
pub wrapped-is : (v : ℤ) (width : ℕ) (signed : Bool) (r : ℤ) → IsWord width signed → InWord width signed v → IsWrapped v width signed r → r ≡ v
wrapped-is v width signed r word has is =
    near_congruent r v (2 ^ width) is.congruent (apart width signed r v word is.in_word has) (apart width signed v r word has is.in_word)

-- a product from how large its factors are
pub signed-product : (x y : ℤ) (width : ℕ) → unsigned_abs x * unsigned_abs y < 2 ^ (width - 1) → InWord width true (x *ℤ y)
signed-product (pos a) (pos b) width h = record { low = omega (arith, ints, h); high = omega (arith, ints, h) }
signed-product (pos a) (negsuc b) width h = record { low = omega (arith, ints, h); high = omega (arith, ints, h) }
signed-product (negsuc a) (pos b) width h = record { low = omega (arith, ints, h); high = omega (arith, ints, h) }
signed-product (negsuc a) (negsuc b) width h = record { low = omega (arith, ints, h); high = omega (arith, ints, h) }

pub unsigned-product : (x y : ℤ) (width : ℕ) → pos 0 ≤ℤ x → pos 0 ≤ℤ y → unsigned_abs x * unsigned_abs y < 2 ^ width → InWord width false (x *ℤ y)
unsigned-product (pos a) (pos b) width p q h = record { low = omega (arith, ints, h); high = omega (arith, ints, h) }
unsigned-product (pos a) (negsuc b) width p q h = absurd q.le
unsigned-product (negsuc a) y width p q h = absurd p.le
