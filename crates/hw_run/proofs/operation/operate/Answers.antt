use Rattle.std.specs.Int.{w128}
use Rattle.std.proofs.lemmas.Int.{to_z-of_z}
use Rattle.math_num.proofs.Words.{word-width}
use Rattle.math_num.proofs.Residues.{cut-through}
use Rattle.hw_run.proofs.operation.operate.Goals as goal

pub returns : goal.returns
returns c =
    let e = to_z-of_z w128 c.wrap.result (record { sfits = c.wrap.type_inv }) in
    let f = to_z-of_z w128 c.result_of.result (record { sfits = c.result_of.type_inv }) in
    let given = rw (to_z-of_z w128 c.args.first c.ranges.first, to_z-of_z w128 c.args.second c.ranges.second, to_z-of_z w128 c.args.third c.ranges.third) at c.result_of.ensures in
    rw e (cut-through c.result_of.result _ c.wrap.result c.args.width c.args.signed (word-width c.args.width c.args.signed c.requires.word) given (rw f at c.wrap.ensures))
