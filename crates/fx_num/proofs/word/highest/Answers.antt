use Rattle.std.proofs.Common.{◌-◌, arith}
use Rattle.std.proofs.lemmas.Int.{ints}
use Rattle.math_num.proofs.Words.{signed_word, unsigned_word, small_mask}
use Rattle.fx_num.proofs.word.highest.Goals as goal

pub overflow_cast-result : goal.overflow_cast-result
overflow_cast-result c =
    let h = signed_word _ _ c.if-signed.true c.requires in
    let s = small_mask (c.args.width - 1) c.mask.result (omega arith) c.mask.ensures in
    omega (arith, ints)

pub overflow_cast-result-else-signed : goal.overflow_cast-result-else-signed
overflow_cast-result-else-signed c =
    let h = unsigned_word _ _ c.if-signed.false c.requires in
    let s = small_mask c.args.width c.mask-else-signed.result h c.mask-else-signed.ensures in
    omega (arith, ints)

pub returns-then-signed : goal.returns-then-signed
returns-then-signed c =
    let h = signed_word _ _ c.if-signed.true c.requires in
    let s = small_mask (c.args.width - 1) c.mask.result (omega arith) c.mask.ensures in
    rw c.if-signed.true (omega (arith, ints))

pub returns-else-signed : goal.returns-else-signed
returns-else-signed c =
    let h = unsigned_word _ _ c.if-signed.false c.requires in
    let s = small_mask c.args.width c.mask-else-signed.result h c.mask-else-signed.ensures in
    rw c.if-signed.false (omega (arith, ints))
