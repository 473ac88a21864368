-- Products of a whole number and a natural, division with a rest, congruence, and powers of two.
use Rattle.std.proofs.Common.{◌≡◌, ℕ, zero, suc, ◌+◌, ◌-◌, ◌*◌, ◌/◌, ◌%◌, ◌^◌, ◌<◌, ◌≤◌, ℤ, pos, negsuc, ◌+ℤ◌, ◌*ℤ◌, neg_ℤ, ◌≤ℤ◌, ◌<ℤ◌, ap, sym, ◌∙◌, arith, mul_comm, mul_assoc, mul-le-mul_right}
use Rattle.std.proofs.Common.{pow-suc, mod-lt, div-add-mod', unsigned_abs, pow_pos, inr, inl, ◌⊎◌}
use Rattle.std.specs.Int.{int_div_euclid}
use Rattle.std.proofs.lemmas.Int.{ints, by_lt_z}
use borrow.Author.Differences.{up, down, sum_is_lem, le_out, neg_is}
use Rattle.math_num.specs.Word.{IsCongruent}
use Rattle.std.proofs.Math.Nat.{mul-le-mul}
use Rattle.std.proofs.lemmas.Nat.{pow-add}
use Rattle.std.proofs.Math.Pow.{pow-lt, pow_mono}

-- ---- products with a natural

-- a product shares out over a sum
pub add-scaled : (a b : ℤ) (d : ℕ) → (a +ℤ b) *ℤ pos d ≡ a *ℤ pos d +ℤ b *ℤ pos d
add-scaled a b d =
    let e : (up (a +ℤ b) + down a + down b) * d ≡ (down (a +ℤ b) + up a + up b) * d = ap (λ (n : ℕ). n * d) (sum_is_lem a b) in
    omega (arith, ints)

pub next-scaled : (a : ℤ) (d : ℕ) → (a +ℤ pos 1) *ℤ pos d ≡ a *ℤ pos d +ℤ pos d
next-scaled a d = omega (arith, ints, add-scaled a (pos 1) d)

pub scaled-neg : (a : ℤ) (d : ℕ) → neg_ℤ a *ℤ pos d ≡ neg_ℤ (a *ℤ pos d)
scaled-neg a d =
    let p : up (neg_ℤ a) * d ≡ down a * d = ap (λ (n : ℕ). n * d) (neg_is a).0 in
    let q : down (neg_ℤ a) * d ≡ up a * d = ap (λ (n : ℕ). n * d) (neg_is a).1 in
    omega (arith, ints)

pub mul-scaled : (t : ℤ) (a b : ℕ) → (t *ℤ pos a) *ℤ pos b ≡ t *ℤ pos (a * b)
mul-scaled (pos t) a b = ap pos (mul_assoc t a b)
mul-scaled (negsuc t) a b = scaled-neg (pos (suc t * a)) b ∙ ap (λ (n : ℕ). neg_ℤ (pos n)) (mul_assoc (suc t) a b)

pub scaled-mono : (a b : ℤ) (d : ℕ) → a ≤ℤ b → (a *ℤ pos d) ≤ℤ (b *ℤ pos d)
scaled-mono a b d h =
    let e : (up a + down b) * d ≤ (up b + down a) * d = mul-le-mul_right d (le_out a b h) in
    omega (arith, ints)

pub scaled-at_most : (a : ℤ) (d : ℕ) → a ≤ℤ pos 0 → (a *ℤ pos d) ≤ℤ pos 0
scaled-at_most a d h = let e = scaled-mono a (pos 0) d h in omega (arith, ints, e)

pub scaled-at_least : (a : ℤ) (d : ℕ) → pos 0 ≤ℤ a → pos 0 ≤ℤ (a *ℤ pos d)
scaled-at_least a d h = let e = scaled-mono (pos 0) a d h in omega (arith, ints, e)

pub doubled-scaled : (r : ℤ) (d : ℕ) → r *ℤ pos (2 * d) ≡ r *ℤ pos d +ℤ r *ℤ pos d
doubled-scaled r d = omega (arith, ints, mul-scaled r d 2, ap (λ (n : ℕ). r *ℤ pos n) (mul_comm d 2))

-- a lesser whole number is a whole unit less
pub unit_apart : (s r : ℤ) (d : ℕ) → s <ℤ r → (s *ℤ pos d +ℤ pos d) ≤ℤ (r *ℤ pos d)
unit_apart s r d h =
    let k : (s +ℤ pos 1) ≤ℤ r = omega (arith, ints, h) in
    omega (arith, ints, scaled-mono (s +ℤ pos 1) r d k, next-scaled s d)

-- ---- division

-- n is so many times d, and a rest
pub record IsDivided (n : ℤ) (d : ℕ) (floor : ℤ) : Type 0 where
  pub rest : ℕ
  pub whole : n ≡ floor *ℤ pos d +ℤ pos rest
  pub below : rest < d

-- the quotient by a natural is the greatest whole number that is not above
pub divided : (n : ℤ) (d : ℕ) → 0 < d → IsDivided n d (int_div_euclid n (pos d))
divided (pos k) d h = record { rest = k % d; whole = omega (arith, ints, div-add-mod' k d); below = mod-lt k h }
divided (negsuc k) d h = record {
  rest = d - suc (k % d);
  whole =
      let e : neg_ℤ (pos (k / d + 1)) *ℤ pos d ≡ neg_ℤ (pos (k / d + 1) *ℤ pos d) = scaled-neg (pos (k / d + 1)) d in
      let f : (k / d + 1) * d ≡ k / d * d + d = omega arith in
      let l : k % d < d = mod-lt k h in
      let g : neg_ℤ (pos (k / d + 1)) ≡ negsuc (k / d) = omega (arith, ints) in
      let i : negsuc (k / d) *ℤ pos d ≡ neg_ℤ (pos (k / d + 1)) *ℤ pos d = ap (λ (z : ℤ). z *ℤ pos d) (sym g) in
      omega (arith, ints, e, f, l, i, div-add-mod' k d);
  below = omega arith;
}

-- ---- congruence
pub IsCongruent-refl : (a : ℤ) (m : ℕ) → IsCongruent a a m
IsCongruent-refl a m = record { turns = pos 0; equal = omega (arith, ints) }

pub IsCongruent-sym : {a b : ℤ} (m : ℕ) → IsCongruent a b m → IsCongruent b a m
IsCongruent-sym m p = record { turns = neg_ℤ p.turns; equal = omega (arith, ints, p.equal, scaled-neg p.turns m) }

pub IsCongruent-trans : {a b c : ℤ} (m : ℕ) → IsCongruent a b m → IsCongruent b c m → IsCongruent a c m
IsCongruent-trans m p q = record {
  turns = p.turns +ℤ q.turns;
  equal = let e = add-scaled p.turns q.turns m in omega (arith, ints, p.equal, q.equal, e);
}

pub IsCongruent-times : {a b : ℤ} (m d : ℕ) → IsCongruent a b m → IsCongruent (a *ℤ pos d) (b *ℤ pos d) m
IsCongruent-times {a} {b} m d h = record {
  turns = h.turns *ℤ pos d;
  equal =
      let e = mul-scaled h.turns m d ∙ ap (λ (n : ℕ). h.turns *ℤ pos n) (mul_comm m d) ∙ sym (mul-scaled h.turns d m) in
      ap (λ (z : ℤ). z *ℤ pos d) h.equal ∙ add-scaled b (h.turns *ℤ pos m) d ∙ ap (λ (z : ℤ). b *ℤ pos d +ℤ z) e;
}

pub IsCongruent-part : {a b : ℤ} (k m : ℕ) → IsCongruent a b (k * m) → IsCongruent a b m
IsCongruent-part {a} {b} k m h = record {
  turns = h.turns *ℤ pos k;
  equal = h.equal ∙ ap (λ (z : ℤ). b +ℤ z) (sym (mul-scaled h.turns k m));
}

-- congruent numbers less than a turn apart are equal
pub near_congruent : (a b : ℤ) (m : ℕ) → IsCongruent a b m → a <ℤ (b +ℤ pos m) → b <ℤ (a +ℤ pos m) → a ≡ b
near_congruent a b m c p q = by_lt_z c.turns (pos 0)
    (λ s. absurd (let k : c.turns ≤ℤ negsuc 0 = omega (arith, ints, s) in omega (arith, ints, c.equal, q, scaled-mono c.turns (negsuc 0) m k)))
    (λ s. by_lt_z (pos 0) c.turns
    (λ u. absurd (let k : pos 1 ≤ℤ c.turns = omega (arith, ints, u) in omega (arith, ints, c.equal, p, scaled-mono (pos 1) c.turns m k)))
    (λ u. let z : c.turns ≡ pos 0 = omega (arith, ints, s, u) in let w : c.turns *ℤ pos m ≡ pos 0 *ℤ pos m = ap (λ (x : ℤ). x *ℤ pos m) z in omega (arith, ints, c.equal, w)))

-- ---- powers of two
pub double : (w : ℕ) → 1 ≤ w → 2 ^ w ≡ 2 * 2 ^ (w - 1)
double zero h = absurd (omega arith)
double (suc w) h =
    let e : suc w - 1 ≡ w = omega arith in
    rw e (pow-suc 2 w ∙ mul_comm (2 ^ w) 2)

pub abs-between : (v : ℤ) (n : ℕ) → neg_ℤ (pos n) ≤ℤ v → v ≤ℤ pos n → unsigned_abs v ≤ n
abs-between (pos k) n low high = omega (arith, ints)
abs-between (negsuc k) n low high = omega (arith, ints)

pub abs-below : (v : ℤ) (n : ℕ) → pos 0 ≤ℤ v → v ≤ℤ pos (n - 1) → 0 < n → unsigned_abs v < n
abs-below (pos k) n low high some = omega (arith, ints)
abs-below (negsuc k) n low high some = absurd low.le

pub below-power : (m n i j k : ℕ) → m ≤ 2 ^ i → n ≤ 2 ^ j → i + j < k → m * n < 2 ^ k
below-power m n i j k p q h =
    let both : m * n ≤ 2 ^ i * 2 ^ j = mul-le-mul p q
    in let power : 2 ^ i * 2 ^ j ≡ 2 ^ (i + j) = sym (pow-add 2 i j)
    in let less : 2 ^ (i + j) < 2 ^ k = pow-lt h
    in omega (arith, both, power, less)

pub below-power-strict : (m n i j k : ℕ) → m ≤ 2 ^ i → n < 2 ^ j → i + j ≤ k → m * n < 2 ^ k
below-power-strict zero n i j k p q h = omega (arith, pow_pos k)
below-power-strict (suc m) n i j k p q h =
    let both : suc m * suc n ≤ 2 ^ i * 2 ^ j = mul-le-mul p q
    in let power : 2 ^ i * 2 ^ j ≡ 2 ^ (i + j) = sym (pow-add 2 i j)
    in let less : 2 ^ (i + j) ≤ 2 ^ k = pow_mono h
    in omega (arith, both, power, less)

-- two numbers are equal or not
pub int_cases : (x y : ℤ) → (x ≡ y) ⊎ (x ≡ y → ⊥)
int_cases x y =
    by_lt_z x y (λ below. inr (λ e. omega (arith, ints)))
    (λ above. by_lt_z y x (λ below. inr (λ e. omega (arith, ints))) (λ at_most. inl (omega (arith, ints))))
