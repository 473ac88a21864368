-- Shifts down and up.
use Rattle.std.proofs.Common.{◌≡◌, ℕ, suc, ◌+◌, ◌-◌, ◌*◌, ◌/◌, ◌%◌, ◌^◌, ◌<◌, ◌≤◌, ℤ, pos, negsuc, ◌+ℤ◌, ◌*ℤ◌, ◌<ℤ◌, ap, sym, ◌∙◌, refl, arith, bit_and, of_z, FitsSigned, pow_pos, pow_mono}
use Rattle.std.proofs.Common.{div-add-mod', mul-le-mul_left, mod-lt, lt_of_le_of_lt, inl, inr}
use Rattle.std.specs.Int.{w128}
use Rattle.std.specs.Int.Signed.{shr_z, mag_shr}
use Rattle.std.proofs.lemmas.Int.{ints}
use Rattle.std.proofs.lemmas.Nat.{and_mask, pow-add, mod_low, shr_below}
use Rattle.std.proofs.lemmas.Bool.{cases_lt}
use Rattle.fx_round.specs.declared.split.Part.TheVariants.{BelowHalf, Half, AboveHalf}
use Rattle.fx_round.specs.inner.Parts.{IsSplit}

-- 2 to the power 128 is a multiple of every lower power
pub whole_turns : (by : ℕ) → by ≤ 128 → 2 ^ (128 - by) * 2 ^ by ≡ 340282366920938463463374607431768211456
whole_turns by h =
    let k : 128 - by + by ≡ 128 = omega arith in
    sym (pow-add 2 (128 - by) by) ∙ ap (λ (i : ℕ). 2 ^ i) k

-- the low bits of a number of 128 bits, in two's complement
low_rest : (n by : ℕ) → by ≤ 127 → n < 2 ^ 127 → (340282366920938463463374607431768211456 - suc n) % 2 ^ by ≡ 2 ^ by - 1 - n % 2 ^ by
low_rest n by h small =
    let m = 2 ^ by in
    let k = 2 ^ (128 - by) in
    let q = n / m in
    let t : k * m ≡ 340282366920938463463374607431768211456 = whole_turns by (omega arith) in
    let d : q * m + n % m ≡ n = div-add-mod' n m in
    let r : n % m < m = mod-lt n (pow_pos by) in
    let kk : 128 - by + by ≡ 128 = omega arith in
    let n' : n < 2 ^ (128 - by + by) = rw kk (omega arith) in
    let b : q < k = shr_below n (128 - by) by n' in
    let j : k - 1 - q + 1 + q ≡ k = omega arith in
    let jm : (k - 1 - q + 1 + q) * m ≡ k * m = ap (λ (x : ℕ). x * m) j in
    let e : 340282366920938463463374607431768211456 - suc n ≡ (k - 1 - q) * m + (m - 1 - n % m) = omega arith in
    ap (λ (x : ℕ). x % m) e ∙ mod_low (k - 1 - q) by (m - 1 - n % m) (omega arith)

pub near_split : (v : ℤ) (by : ℕ) → by ≤ 127 → FitsSigned w128 v → (bit_and (of_z w128 v) (2 ^ by - 1) < 2 ^ by) × (v ≡ shr_z v (2 ^ by) *ℤ pos (2 ^ by) +ℤ pos (bit_and (of_z w128 v) (2 ^ by - 1)))
near_split (pos n) by h f =
    let e = and_mask n by in
    let r : n % 2 ^ by < 2 ^ by = mod-lt n (pow_pos by) in
    (omega (arith, e), omega (arith, ints, e, div-add-mod' n (2 ^ by)))
near_split (negsuc n) by h f =
    let e = and_mask (340282366920938463463374607431768211456 - suc n) by in
    let l = low_rest n by h f.sfits in
    let r : n % 2 ^ by < 2 ^ by = mod-lt n (pow_pos by) in
    (omega (arith, e, l), omega (arith, ints, e, l, div-add-mod' n (2 ^ by)))

pub near_room : (v : ℤ) (by : ℕ) → 1 ≤ by → FitsSigned w128 v → shr_z v (2 ^ by) <ℤ pos (2 ^ 126)
near_room (pos n) by h f =
    let two : 2 ^ 1 ≤ 2 ^ by = pow_mono h in
    let p : n / 2 ^ by * 2 ≤ n / 2 ^ by * 2 ^ by = mul-le-mul_left (n / 2 ^ by) two in
    omega (arith, ints, p, div-add-mod' n (2 ^ by), f.sfits)
near_room (negsuc n) by h f = omega (arith, ints)

-- shifted down past every bit
pub far_positive : (v : ℤ) (by : ℕ) → 128 ≤ by → FitsSigned w128 v → pos 0 <ℤ v → IsSplit v (2 ^ by) (pos 0) BelowHalf
far_positive (pos n) by h f s =
    let p : 2 ^ 128 ≤ 2 ^ by = pow_mono h in
    record { rest = n; whole = omega (arith, ints); below = omega (arith, f.sfits); is_part = (omega (arith, ints, s), omega (arith, f.sfits)) }
far_positive (negsuc n) by h f s = absurd (omega (arith, ints, s))

pub far_half : (v : ℤ) → v ≡ negsuc 170141183460469231731687303715884105727 → IsSplit v (2 ^ 128) (negsuc 0) Half
far_half v e = record { rest = 170141183460469231731687303715884105728; whole = omega (arith, ints, e); below = omega arith; is_part = refl }

far_part : (n by : ℕ) → 128 ≤ by → n < 2 ^ 127 → (n ≡ 170141183460469231731687303715884105727 → ¬ (by ≡ 128)) → 2 ^ by < 2 * (2 ^ by - suc n)
far_part n by h f m = elim (cases_lt by 129) [
  | inl l ↦ (let b : by ≡ 128 = omega arith in let k : ¬ (n ≡ 170141183460469231731687303715884105727) = λ e. m e b in let p : 2 ^ 128 ≤ 2 ^ by = pow_mono h in omega arith)
  | inr g ↦ (let p : 2 ^ 129 ≤ 2 ^ by = pow_mono g in omega arith)
]

pub far_negative : (v : ℤ) (by : ℕ) → 128 ≤ by → FitsSigned w128 v → v <ℤ pos 0 → (v ≡ negsuc 170141183460469231731687303715884105727 → ¬ (by ≡ 128)) → IsSplit v (2 ^ by) (negsuc 0) AboveHalf
far_negative (pos n) by h f s m = absurd (omega (arith, ints, s))
far_negative (negsuc n) by h f s m =
    let p : 2 ^ 128 ≤ 2 ^ by = pow_mono h in
    record { rest = 2 ^ by - suc n; whole = omega (arith, ints, f.sfits); below = omega (arith, f.sfits); is_part = far_part n by h f.sfits (λ e. m (ap negsuc e)) }

pub shr-fits : (v : ℤ) (m : ℕ) → FitsSigned w128 v → FitsSigned w128 (shr_z v m)
shr-fits v m f = record { sfits = lt_of_le_of_lt (mag_shr v m) f.sfits }
