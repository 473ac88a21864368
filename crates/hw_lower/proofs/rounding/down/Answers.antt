use Rattle.std.proofs.Common.{◌≡◌}
use Rattle.math_num.specs.Bits.{shifted_down}
use Rattle.hw_lower.proofs.StepChains.{made-map}
use Rattle.math_num.proofs.Words.{wrapped-is}
use Rattle.hw_lower.proofs.LowBits.{down-in-word}
use Rattle.hw_lower.proofs.rounding.down.Goals as goal

pub returns : goal.returns
returns c =
    made-map (λ numbers. numbers c.unary.result.place ≡ shifted_down (numbers c.args.from.place) c.args.by) c.unary.ensures
    (λ numbers has p. wrapped-is (shifted_down (numbers c.args.from.place) c.args.by) c.args.from.word.width c.args.from.word.signed (numbers c.unary.result.place) c.requires.valid
    (down-in-word c.args.from.word.width c.args.from.word.signed (numbers c.args.from.place) c.args.by (has c.args.from c.requires)) p)
