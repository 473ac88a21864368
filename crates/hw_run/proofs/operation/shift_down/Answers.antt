use Rattle.std.proofs.Common.{◌∙◌, ap, ℤ}
use Rattle.std.specs.Int.{w128}
use Rattle.std.proofs.lemmas.Int.{to_z-of_z}
use Rattle.math_num.specs.Bits.{shifted_down}
use Rattle.math_num.proofs.Residues.{kept-as}
use Rattle.hw_run.proofs.operation.shift_down.Goals as goal

pub returns : goal.returns
returns c = kept-as c.floor_quotient.result (shifted_down c.args.v c.args.places)
    (record { sfits = c.floor_quotient.type_inv })
    (c.floor_quotient.ensures
    ∙ ap (λ (z : ℤ). shifted_down z c.args.places) (to_z-of_z w128 c.args.v c.ranges.v))
