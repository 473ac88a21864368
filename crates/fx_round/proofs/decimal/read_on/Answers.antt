use Rattle.std.proofs.Common.{◌≡◌, ◌+◌, get_or, arith}
use Rattle.std.specs.Char.{digit_value}
use Rattle.fx_round.proofs.Digits.{digit_is, digit_range, after_more}
use Rattle.fx_round.proofs.decimal.read_on.Goals as goal

pub loop-byte-preserved : goal.loop-byte-preserved
loop-byte-preserved c =
    let i = c.loop-byte.byte-index in
    let x = get_or c.args.digits.now i 0 in
    let digit = c.requires.digits i 0 c.loop-byte-test.true in
    let range = digit_range x digit in
    let worth : digit_value x + 48 ≡ x = digit_is x digit in
    record {
      value = λ n h. omega (arith, after_more n c.args.digits.now i c.loop-byte-test.true, c.loop-byte.invariant.value n h, worth, range);
      bound = omega arith;
    }
