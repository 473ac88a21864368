use Rattle.std.proofs.Common.{◌^◌, Bool, false, subst}
use Rattle.math_num.specs.Word.{InWord}
use Rattle.fx_type.specs.Conversion.{Rounds}
use Rattle.fx_type.specs.declared.rounding.Rounding.TheVariants.{Zero}
use Rattle.hw_lower.proofs.StepChains.{made-map}
use Rattle.hw_lower.proofs.Modes.{zero-down}
use Rattle.hw_lower.proofs.rounding.round.Goals as goal

pub returns-else-from : goal.returns-else-from
returns-else-from c =
    rw c.in-Zero.is
    (made-map (λ numbers. Rounds Zero (numbers c.args.from.place) (2 ^ c.args.by) (numbers c.down-else-from.result.place)) c.down-else-from.ensures
    (λ numbers has p.
    let own : InWord c.args.from.word.width false (numbers c.args.from.place) =
    subst (λ (s : Bool). InWord c.args.from.word.width s (numbers c.args.from.place)) c.if-from.false
    (has c.args.from c.requires.at) in
    zero-down (numbers c.args.from.place) c.args.by c.args.from.word.width (numbers c.down-else-from.result.place) own p))
