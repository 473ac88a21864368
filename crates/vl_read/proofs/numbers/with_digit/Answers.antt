use Rattle.std.proofs.Common.{◌<◌, ◌*◌, ◌^◌, ℕ, sym, subst, arith}
use Rattle.std.specs.Char.{digit_value}
use Rattle.vl_read.proofs.Digits.{digit_none}
use Rattle.vl_read.proofs.numbers.with_digit.Goals as goal

pub returns-in-None : goal.returns-in-None
returns-in-None c = digit_none c.args.base c.args.number c.args.byte (λ low small. c.in-None.ensures.value (subst (λ (byte : ℕ). digit_value byte < c.args.base) (sym c.from.ensures) low))

pub returns-in-None-checked_mul : goal.returns-in-None-checked_mul
returns-in-None-checked_mul c = digit_none c.args.base c.args.number c.args.byte
    (λ low small. c.in-None-checked_mul.ensures
    (subst (λ (base : ℕ). c.args.number * base < 2 ^ 128) (sym c.from-in-Some.ensures) (omega (arith, small))))
