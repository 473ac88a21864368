use Rattle.std.proofs.Common.{◌≡◌, ℕ, ◌+◌, ◌-◌, ◌*◌, ◌/◌, ◌%◌, ◌^◌, ◌≤◌, false, pos, to_z, of_z, bit_and, ap, sym, ◌∙◌, arith, pow_mono, pow_pos}
use Rattle.std.specs.Int.{w64}
use Rattle.std.specs.Int.Signed.{shr_z}
use Rattle.std.proofs.lemmas.Int.{ints, to_z-of_z}
use Rattle.math_num.specs.Word.{IsWrapped}
use Rattle.math_num.proofs.Shifts.{shr-fits, shl_fits, wrapped_signed}
use Rattle.math_num.proofs.Words.{mask-suc, signed_word, word_width}
use Rattle.fx_round.proofs.Bias.{masked_wrapped}
use Rattle.fx_round.proofs.narrow.residue.Goals as goal
use Rattle.fx_round.proofs.narrow.residue.Goals.{After-cast_unsigned}

-- the bits of the number, and what is left of them
bits_are : (c : After-cast_unsigned) → c.cast_unsigned.result ≡ of_z w64 c.args.r
bits_are c = c.cast_unsigned.ensures ∙ ap (of_z w64) (to_z-of_z w64 c.args.r c.ranges.r)

wrapped : (c : After-cast_unsigned) → IsWrapped c.args.r c.args.width false (pos (bit_and c.cast_unsigned.result (18446744073709551615 / 2 ^ (64 - c.args.width))))
wrapped c =
    let h = word_width c.args.width c.args.signed c.requires.word in
    let all : 64 - c.args.width + c.args.width ≡ 64 = omega (arith, c.requires.few) in
    let mask : 18446744073709551615 / 2 ^ (64 - c.args.width) + 1 ≡ 2 ^ c.args.width =
    ap (λ (n : ℕ). (2 ^ n - 1) / 2 ^ (64 - c.args.width) + 1) (sym all)
    ∙ mask-suc (64 - c.args.width) c.args.width in
    rw (bits_are c) (masked_wrapped c.args.r c.args.width _ (omega (arith, c.requires.few)) mask c.ranges.r)

pub overflow_cast-result-else-signed-2 : goal.overflow_cast-result-else-signed-2
overflow_cast-result-else-signed-2 c =
    let p : 2 ^ c.args.width ≤ 2 ^ 63 = pow_mono c.requires.few in
    omega (arith, ints, p, pow_pos c.args.width, (wrapped c).in_word.high)

pub returns-then-signed : goal.returns-then-signed
returns-then-signed c =
    let h = signed_word _ _ c.if-signed.true c.requires.word in
    let s = 64 - c.args.width in
    let x = to_z w64 (of_z w64 c.args.r * 2 ^ s % 18446744073709551616) in
    let r = to_z-of_z w64 (shr_z x (2 ^ s)) (shr-fits w64 x (2 ^ s) (shl_fits w64 (of_z w64 c.args.r * 2 ^ s))) in
    rw (c.if-signed.true, r) (wrapped_signed w64 c.args.r s c.ranges.r c.args.width (omega arith) (omega (arith, c.requires.few)))

pub returns-else-signed : goal.returns-else-signed
returns-else-signed c =
    let q = wrapped c in
    let p : 2 ^ c.args.width ≤ 2 ^ 63 = pow_mono c.requires.few in
    let n = bit_and c.cast_unsigned.result (18446744073709551615 / 2 ^ (64 - c.args.width)) in
    let e : to_z w64 n ≡ pos n = omega (arith, ints, p, pow_pos c.args.width, q.in_word.high) in
    rw (c.if-signed.false, e) q
