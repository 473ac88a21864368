use Rattle.std.proofs.Common.{◌-◌, arith, pow_pos}
use Rattle.std.proofs.lemmas.Int.{ints}
use Rattle.math_num.proofs.Words.{signed_word, small_mask}
use Rattle.fx_num.proofs.word.lowest.Goals as goal

pub overflow_cast-result : goal.overflow_cast-result
overflow_cast-result c =
    let h = signed_word _ _ c.if-signed.true c.requires in
    let s = small_mask (c.args.width - 1) c.mask.result (omega arith) c.mask.ensures in
    omega (arith, ints)

pub returns-then-signed : goal.returns-then-signed
returns-then-signed c =
    let h = signed_word _ _ c.if-signed.true c.requires in
    let s = small_mask (c.args.width - 1) c.mask.result (omega arith) c.mask.ensures in
    rw c.if-signed.true (omega (arith, ints, pow_pos (c.args.width - 1)))
