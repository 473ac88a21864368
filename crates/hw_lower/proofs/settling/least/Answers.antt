use Rattle.std.proofs.Common.{◌^◌, FitsSigned}
use Rattle.std.specs.Int.{w128}
use Rattle.std.specs.Int.Signed.{shr_z}
use Rattle.std.proofs.lemmas.Int.{to_z-of_z}
use Rattle.math_num.proofs.Shifts.{shr-fits}
use Rattle.hw_lower.proofs.Ends.{least-near, least-far}
use Rattle.hw_lower.proofs.settling.least.Goals as goal

pub returns-then-up-word-clause-bound : goal.returns-then-up-word-clause-bound
returns-then-up-word-clause-bound c =
    let fits : FitsSigned w128 c.lowest.result = record { sfits = c.lowest.type_inv } in
    let own = to_z-of_z w128 c.lowest.result fits in
    let down = to_z-of_z w128 (shr_z c.lowest.result (2 ^ c.args.up)) (shr-fits w128 c.lowest.result (2 ^ c.args.up) fits) in
    rw (own, down, c.lowest.ensures) (least-near c.args.word.width c.args.word.signed c.args.up c.if-up-word.true)

pub returns-else-up-word-clause-bound : goal.returns-else-up-word-clause-bound
returns-else-up-word-clause-bound c = least-far c.args.word.width c.args.word.signed c.args.up c.requires c.if-up-word.false
