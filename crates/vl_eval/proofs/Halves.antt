-- Sums, differences and products of which at most 64 bits are kept, by the low 64 bits of what they are of.
use Rattle.std.proofs.Common.{◌≡◌, ◌<◌, ◌+◌, ◌-◌, ◌*◌, ◌/◌, ◌%◌, ◌^◌, ℕ, bit_and, sym, ap, ◌∙◌, arith}
use Rattle.std.proofs.lemmas.Nat.{and_le_r, and_mod, mod_below, mul-mod}
use Rattle.std.proofs.Math.Nat.{mod-eq_of_lt, add-mod-mod, mod-add-mod, add-mul-mod_self_right, div-add-mod}
use Rattle.std.proofs.Math.Pow.{mod-mod-pow}

-- a mask of 64 bits keeps none of the others
low-masked : (n mask : ℕ) → mask < 2 ^ 64 → bit_and (n % 2 ^ 128) mask ≡ bit_and (n % 2 ^ 64) mask
low-masked n mask low =
    let le = and_le_r (n % 2 ^ 128) mask in
    sym (mod-eq_of_lt (omega (arith, le, low))) ∙ and_mod (n % 2 ^ 128) mask 64
    ∙ (λ i. bit_and (mod-mod-pow n 64 64 i) (mod-eq_of_lt low i))

pub half-sum : (l r mask : ℕ) → mask < 2 ^ 64 → bit_and ((l % 2 ^ 64 + r % 2 ^ 64) % 2 ^ 64) mask ≡ bit_and ((l + r) % 2 ^ 128) mask
half-sum l r mask low = ap (λ n. bit_and n mask) (mod-add-mod l (2 ^ 64) (r % 2 ^ 64) ∙ add-mod-mod l r (2 ^ 64)) ∙ sym (low-masked (l + r) mask low)

pub half-difference : (l r mask : ℕ) → r < 2 ^ 128 → mask < 2 ^ 64 → bit_and ((l % 2 ^ 64 + (2 ^ 64 - r % 2 ^ 64)) % 2 ^ 64) mask ≡ bit_and ((l + (2 ^ 128 - r)) % 2 ^ 128) mask
half-difference l r mask fits low =
    let parts = div-add-mod r (2 ^ 64) in
    let less = mod_below r (2 ^ 64) in
    let e : l + (2 ^ 128 - r) ≡ (l + (2 ^ 64 - r % 2 ^ 64)) + (2 ^ 64 - 1 - r / 2 ^ 64) * 2 ^ 64 = omega (arith, parts, less, fits) in
    ap (λ n. bit_and n mask) (mod-add-mod l (2 ^ 64) (2 ^ 64 - r % 2 ^ 64) ∙ sym (add-mul-mod_self_right (l + (2 ^ 64 - r % 2 ^ 64)) (2 ^ 64 - 1 - r / 2 ^ 64) (2 ^ 64)) ∙ ap (λ n. n % 2 ^ 64) (sym e))
    ∙ sym (low-masked (l + (2 ^ 128 - r)) mask low)

pub half-product : (l r mask : ℕ) → mask < 2 ^ 64 → bit_and (l % 2 ^ 64 * (r % 2 ^ 64) % 2 ^ 64) mask ≡ bit_and (l * r % 2 ^ 128) mask
half-product l r mask low = ap (λ n. bit_and n mask) (sym (mul-mod l r (2 ^ 64))) ∙ sym (low-masked (l * r) mask low)
