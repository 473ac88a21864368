-- The number of a word whose sign bit is set, as the code works it out.
use Rattle.std.proofs.Common.{◌≡◌, SFits, ⊎_elim, ◌<◌, ◌≤◌, ◌-◌, ◌^◌, ℕ, zero, suc, Bool, true, false, if◌then◌else◌, ℤ, pos, negsuc, ◌-ℤ◌, refl, sym, ap, subst, ◌∙◌, arith}
use Rattle.std.proofs.Math.Pow.{pow_mono}
use Rattle.std.specs.Int.{w128}
use Rattle.std.proofs.lemmas.Bool.{cases_eq, false≢true, le-leb, lt-leb}
use Rattle.std.proofs.lemmas.Int.{ints}
use Rattle.vl_ast.specs.Value.{number_of}
use Rattle.vl_eval.proofs.Bias.{double}

pub top-low : (w bits : ℕ) → w ≤ 128 → 2 ^ (w - 1) ≤ bits → bits < 2 ^ w → 2 ^ w - 1 - bits < 2 ^ 127
top-low zero bits most high low = absurd (omega (arith, high, low))
top-low (suc w) bits most high low =
    let d = double (suc w) (omega arith) in
    let m : suc w - 1 ≤ 127 = omega (arith, most) in
    let p = pow_mono m in
    omega (arith, d, p, high, low)

pub low-half : (w bits : ℕ) → w ≤ 128 → bits < 2 ^ (w - 1) → bits < 2 ^ 127
low-half w bits most low = let m : w - 1 ≤ 127 = omega (arith, most) in let p = pow_mono m in omega (arith, p, low)

pub negative-is : (w bits : ℕ) → 2 ^ (w - 1) ≤ bits → number_of (record { width = w; signed = true; bits = bits }) ≡ pos bits -ℤ pos (2 ^ w)
negative-is w bits high = ap (λ t. if t then pos bits -ℤ pos (2 ^ w) else pos bits) (le-leb (2 ^ (w - 1)) bits high)

pub positive-is : (w bits : ℕ) (signed : Bool) → (signed ≡ true → bits < 2 ^ (w - 1)) → number_of (record { width = w; signed = signed; bits = bits }) ≡ pos bits
positive-is w bits true low = ap (λ t. if t then pos bits -ℤ pos (2 ^ w) else pos bits) (lt-leb (2 ^ (w - 1)) bits (low refl))
positive-is w bits false low = refl

-- an unsigned word that isn't 128 bits wide
pub narrow-wide : (w bits : ℕ) (signed : Bool) → w ≤ 128 → bits < 2 ^ w → (w ≡ 128 → signed ≡ true) → signed ≡ false → bits < 2 ^ 127
narrow-wide w bits signed most low wide plain =
    let ne : w ≡ 128 → ⊥ = (λ e. false≢true (sym plain ∙ wide e)) in
    let m : w ≤ 127 = ⊎_elim (λ (e : w ≡ 128). absurd (ne e)) (λ (n : w ≡ 128 → ⊥). omega (arith, most, n)) (cases_eq w 128) in
    let p = pow_mono m in
    omega (arith, p, low)

below-zero : (n : ℕ) → n < 2 ^ 127 → (z : ℤ) → z ≡ negsuc n → SFits w128 z
below-zero n low z e = subst (λ y. SFits w128 y) (sym e) (record { sfits = low })

pub minus-fits : (n : ℕ) → n < 2 ^ 127 → SFits w128 (pos 0 -ℤ pos n)
minus-fits zero low = record { sfits = low }
minus-fits (suc n) low = below-zero n (omega (arith, low)) (pos 0 -ℤ pos (suc n)) (omega (arith, ints))

pub minus-one-fits : (n : ℕ) → n < 2 ^ 127 → SFits w128 (pos 0 -ℤ pos n -ℤ pos 1)
minus-one-fits n low = below-zero n low (pos 0 -ℤ pos n -ℤ pos 1) (omega (arith, ints))

pub minus-is : (w bits : ℕ) → bits < 2 ^ w → pos 0 -ℤ pos (2 ^ w - 1 - bits) -ℤ pos 1 ≡ pos bits -ℤ pos (2 ^ w)
minus-is w bits low = omega (arith, ints, low)
