-- The bits of a number of 128 bits in a width.
use Rattle.std.proofs.Common.{◌≡◌, ◌<◌, ◌≤◌, ◌+◌, ◌-◌, ◌*◌, ◌/◌, ◌%◌, ◌^◌, ℕ, suc, bit_and, nat_le, true, ℤ, pos, negsuc, sym, ap, ◌∙◌, arith, of_z}
use Rattle.std.specs.Prelude.{FitsSigned}
use Rattle.std.specs.Int.{w128}
use Rattle.std.proofs.lemmas.Bool.{and_parts, leb-true}
use Rattle.std.proofs.lemmas.Int.{ints}
use Rattle.std.proofs.lemmas.Nat.{and_mask, div-add-mod', mod_below, mod-mul-add, pow-add, pow_pos}
use Rattle.vl_ast.specs.Conditions.{is_width}
use Rattle.vl_ast.specs.Value.{bits_of}

pub few : (w : ℕ) → is_width w ≡ true → w ≤ 128
few w h = leb-true w 128 (and_parts (nat_le 1 w) (nat_le w 128) h).1

pub some : (w : ℕ) → is_width w ≡ true → 1 ≤ w
some w h = leb-true 1 w (and_parts (nat_le 1 w) (nat_le w 128) h).0

-- the part of a multiple of `unit` that a number of it leaves, in units and a rest
split : (all unit units rest n : ℕ) → n ≡ units * unit + rest → rest < unit → units < all → all * unit - suc n ≡ (all - 1 - units) * unit + (unit - 1 - rest)
split all unit units rest n e less few' =
    let a : all ≡ (all - 1 - units) + 1 + units = omega (arith, few') in
    let m : all * unit ≡ (all - 1 - units) * unit + unit + units * unit = ap (λ k. k * unit) a ∙ regroup (all - 1 - units) units unit in
    omega (arith, e, m, less)
  where
    regroup : (a b c : ℕ) → (a + 1 + b) * c ≡ a * c + c + b * c
    regroup a b c = grind arith

units-below : (n a w : ℕ) → n < a * w → 0 < w → n / w < a
units-below n a w less some' = by (div-add-mod' n w) where
  by : n / w * w + n % w ≡ n → n / w < a
  by e = grind (arith, e, less, some')

pub number-bits : (z : ℤ) (w m : ℕ) → w ≤ 128 → m + 1 ≡ 2 ^ w → FitsSigned w128 z → bit_and (of_z w128 z) m ≡ bits_of w z
number-bits (pos n) w m h e f = ap (bit_and n) (omega arith) ∙ and_mask n w
number-bits (negsuc n) w m h e f =
    let u : ℕ = 340282366920938463463374607431768211456 - suc n in
    let p : bit_and u m ≡ u % 2 ^ w = ap (bit_and u) (omega arith) ∙ and_mask u w in
    let k : 128 - w + w ≡ 128 = omega arith in
    let q : 2 ^ (128 - w) * 2 ^ w ≡ 340282366920938463463374607431768211456 = sym (pow-add 2 (128 - w) w) ∙ ap (λ (i : ℕ). 2 ^ i) k in
    let low : n < 2 ^ (128 - w) * 2 ^ w = omega (arith, ints, q, f.sfits) in
    let less : n % 2 ^ w < 2 ^ w = mod_below n (2 ^ w) (pow_pos w) in
    let s = split (2 ^ (128 - w)) (2 ^ w) (n / 2 ^ w) (n % 2 ^ w) n (sym (div-add-mod' n (2 ^ w))) less (units-below n (2 ^ (128 - w)) (2 ^ w) low (pow_pos w)) in
    let r : 2 ^ w - 1 - n % 2 ^ w < 2 ^ w = omega (arith, less) in
    p ∙ ap (λ (a : ℕ). (a - suc n) % 2 ^ w) (sym q) ∙ ap (λ a. a % 2 ^ w) s ∙ mod-mul-add (2 ^ (128 - w) - 1 - n / 2 ^ w) (2 ^ w) (2 ^ w - 1 - n % 2 ^ w) r
