use Rattle.std.proofs.Common.{◌≡◌, ◌↔◌, pos}
use Rattle.math_num.specs.Bits.{low_bits}
use Rattle.hw_lower.proofs.StepChains.{made-self}
use Rattle.hw_lower.proofs.LowBits.{low-all}
use Rattle.hw_lower.proofs.bits.lowest.Goals as goal

pub returns-then-count-from : goal.returns-then-count-from
returns-then-count-from c =
    made-self (λ numbers. (numbers c.args.from.place ≡ pos 0) ↔ (low_bits c.args.count (numbers c.args.from.place) ≡ 0)) c.requires.at
    (λ numbers has. low-all c.args.from.word.width c.args.count c.args.from.word.signed (numbers c.args.from.place) c.requires.at.valid (has c.args.from c.requires.at) c.if-count-from.true)
