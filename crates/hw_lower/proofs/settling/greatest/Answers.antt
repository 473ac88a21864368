use Rattle.std.proofs.Common.{◌^◌, FitsSigned}
use Rattle.std.specs.Int.{w128}
use Rattle.std.specs.Int.Signed.{shr_z}
use Rattle.std.proofs.lemmas.Int.{to_z-of_z}
use Rattle.math_num.proofs.Shifts.{shr-fits}
use Rattle.hw_lower.proofs.Ends.{greatest-near, greatest-far}
use Rattle.hw_lower.proofs.settling.greatest.Goals as goal

pub returns-then-up-lt127-clause-bound : goal.returns-then-up-lt127-clause-bound
returns-then-up-lt127-clause-bound c =
    let fits : FitsSigned w128 c.highest.result = record { sfits = c.highest.type_inv } in
    let own = to_z-of_z w128 c.highest.result fits in
    let down = to_z-of_z w128 (shr_z c.highest.result (2 ^ c.args.up)) (shr-fits w128 c.highest.result (2 ^ c.args.up) fits) in
    rw (own, down, c.highest.ensures) (greatest-near c.args.word.width c.args.word.signed c.args.up)

pub returns-else-up-lt127-clause-bound : goal.returns-else-up-lt127-clause-bound
returns-else-up-lt127-clause-bound c = greatest-far c.args.word.width c.args.word.signed c.args.up c.requires c.if-up-lt127.false
