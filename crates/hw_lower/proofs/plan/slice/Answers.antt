use Rattle.std.proofs.Common.{◌≡◌, ◌+◌, ◌/◌, ◌^◌, pos}
use Rattle.math_num.specs.Bits.{low_bits}
use Rattle.hw_lower.proofs.StepChains.{made-map}
use Rattle.math_num.proofs.Words.{wrapped-is}
use Rattle.hw_lower.proofs.LowBits.{slice-in-word}
use Rattle.hw_lower.proofs.plan.slice.Goals as goal

pub returns : goal.returns
returns c =
    made-map (λ numbers. numbers c.unary.result.place ≡ pos (low_bits (c.args.high + 1) (numbers c.args.from.place) / 2 ^ c.args.low)) c.unary.ensures
    (λ numbers has p. wrapped-is (pos (low_bits (c.args.high + 1) (numbers c.args.from.place) / 2 ^ c.args.low)) c.args.word.width c.args.word.signed (numbers c.unary.result.place) c.requires.word
    (slice-in-word c.args.high c.args.low c.args.word.width c.args.word.signed (numbers c.args.from.place) c.requires.order c.requires.unsigned c.requires.wide) p)
