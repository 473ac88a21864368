use Rattle.std.proofs.Common.{◌≡◌, pos, ◌-ℤ◌, subst}
use Rattle.math_num.specs.Word.{InWord}
use Rattle.hw_lower.specs.declared.plan.Word.{Word}
use Rattle.hw_lower.proofs.StepChains.{made-map}
use Rattle.hw_lower.proofs.WordRests.{not-bit}
use Rattle.hw_lower.proofs.bits.inverse.Goals as goal

pub returns : goal.returns
returns c =
    made-map (λ numbers. numbers c.unary.result.place ≡ pos 1 -ℤ numbers c.args.bit.place) (rw c.bit_word.ensures at c.unary.ensures)
    (λ numbers has p. not-bit (numbers c.args.bit.place) (numbers c.unary.result.place)
    (subst (λ (w : Word). InWord w.width w.signed (numbers c.args.bit.place)) c.requires.word
    (has c.args.bit c.requires.at)) p)
