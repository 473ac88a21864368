use Rattle.std.proofs.Common.{◌≡◌, ◌-◌, ◌*◌, ◌/◌, ◌%◌, ◌^◌, ◌≤◌, false, pos, to_z, of_z, ap, ◌∙◌, arith, pow_mono}
use Rattle.std.specs.Int.{w128}
use Rattle.std.specs.Int.Signed.{shr_z}
use Rattle.std.proofs.lemmas.Int.{ints, to_z-of_z}
use Rattle.math_num.specs.Word.{IsWrapped}
use Rattle.math_num.proofs.Shifts.{shr-fits, shl_fits, wrapped_signed, wrapped_unsigned}
use Rattle.math_num.proofs.Words.{signed_word, unsigned_word, word_width}
use Rattle.fx_num.proofs.word.wrap.Goals as goal
use Rattle.fx_num.proofs.word.wrap.Goals.{After-cast_unsigned}

-- the bits of the number, and what is left of them
bits_are : (c : After-cast_unsigned) → c.cast_unsigned.result ≡ of_z w128 c.args.v
bits_are c = c.cast_unsigned.ensures ∙ ap (of_z w128) (to_z-of_z w128 c.args.v c.ranges.v)

wrapped : (c : After-cast_unsigned) → IsWrapped c.args.v c.args.width false
    (pos (c.cast_unsigned.result * 2 ^ (128 - c.args.width) % 340282366920938463463374607431768211456 / 2 ^
    (128 - c.args.width)))
wrapped c =
    let h = word_width c.args.width c.args.signed c.requires in
    rw (bits_are c) (wrapped_unsigned w128 c.args.v (128 - c.args.width) c.ranges.v c.args.width h.0 (omega (arith, h.1)))

pub overflow_cast-result-else-signed-3 : goal.overflow_cast-result-else-signed-3
overflow_cast-result-else-signed-3 c =
    let h = unsigned_word _ _ c.if-signed.false c.requires in
    let p : 2 ^ c.args.width ≤ 2 ^ 127 = pow_mono h in
    omega (arith, ints, p, (wrapped c).in_word.high)

pub returns-then-signed : goal.returns-then-signed
returns-then-signed c =
    let h = signed_word _ _ c.if-signed.true c.requires in
    let s = 128 - c.args.width in
    let x = to_z w128 (of_z w128 c.args.v * 2 ^ s % 340282366920938463463374607431768211456) in
    let r = to_z-of_z w128 (shr_z x (2 ^ s)) (shr-fits w128 x (2 ^ s) (shl_fits w128 (of_z w128 c.args.v * 2 ^ s))) in
    rw (c.if-signed.true, r) (wrapped_signed w128 c.args.v s c.ranges.v c.args.width (omega arith) (omega arith))

pub returns-else-signed : goal.returns-else-signed
returns-else-signed c =
    let h = unsigned_word _ _ c.if-signed.false c.requires in
    let q = wrapped c in
    let p : 2 ^ c.args.width ≤ 2 ^ 127 = pow_mono h in
    let n = c.cast_unsigned.result * 2 ^ (128 - c.args.width) % 340282366920938463463374607431768211456 / 2 ^ (128 - c.args.width) in
    let e : to_z w128 n ≡ pos n = omega (arith, ints, p, q.in_word.high) in
    rw (c.if-signed.false, e) q
