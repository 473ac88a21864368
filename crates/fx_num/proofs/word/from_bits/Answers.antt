use Rattle.std.proofs.Common.{◌≡◌, ◌-◌, ◌/◌, ◌^◌, ◌≤◌, arith, pos, pow_mono, to_z}
use Rattle.std.specs.Int.{w128}
use Rattle.std.proofs.lemmas.Int.{ints}
use Rattle.math_num.proofs.Words.{unsigned_word, signed_word, half_mask, unsigned_bits, small_bits, large_bits, read_top}
use Rattle.fx_num.proofs.word.from_bits.Goals as goal

pub overflow_cast-result : goal.overflow_cast-result
overflow_cast-result c =
    let h : c.args.width ≤ 127 = unsigned_word _ _ c.if-not-signed.true c.requires.word in
    let p : 2 ^ c.args.width ≤ 2 ^ 127 = pow_mono h in
    omega (arith, ints)

pub returns-then-not-signed : goal.returns-then-not-signed
returns-then-not-signed c =
    let h : c.args.width ≤ 127 = unsigned_word _ _ c.if-not-signed.true c.requires.word in
    let p : 2 ^ c.args.width ≤ 2 ^ 127 = pow_mono h in
    let e : to_z w128 c.args.bits ≡ pos c.args.bits = omega (arith, ints) in
    rw (c.if-not-signed.true, e) (unsigned_bits c.args.width c.args.bits c.requires.below)

pub returns-then-bits-highest : goal.returns-then-bits-highest
returns-then-bits-highest c =
    let h = signed_word _ _ c.if-not-signed.false c.requires.word in
    let m : c.mask-highest.result / 2 ≡ 2 ^ (c.args.width - 1) - 1 = half_mask c.args.width c.mask-highest.result (omega arith) c.mask-highest.ensures in
    let e : to_z w128 c.args.bits ≡ pos c.args.bits = omega (arith, ints) in
    rw (c.if-not-signed.false, e) (small_bits c.args.width c.args.bits (omega arith))

pub returns-else-bits-highest : goal.returns-else-bits-highest
returns-else-bits-highest c =
    let h = signed_word _ _ c.if-not-signed.false c.requires.word in
    let m : c.mask-highest.result / 2 ≡ 2 ^ (c.args.width - 1) - 1 = half_mask c.args.width c.mask-highest.result (omega arith) c.mask-highest.ensures in
    let p : 2 ^ c.args.width ≤ 2 ^ 128 = pow_mono h.1 in
    let e = read_top (c.mask-highest.result - c.args.bits) (omega arith) in
    rw (c.if-not-signed.false, e) (large_bits c.args.width c.mask-highest.result c.args.bits (omega arith) c.mask-highest.ensures (omega arith) (omega arith))
