use Rattle.std.specs.Int.{w128}
use Rattle.std.proofs.lemmas.Int.{to_z-of_z}
use Rattle.math_num.proofs.Words.{word-width}
use Rattle.math_num.proofs.Residues.{cut-through}
use Rattle.hw_run.proofs.operation.word_sum.Goals as goal

pub returns : goal.returns
returns c =
    let e = to_z-of_z w128 c.wrap.result (record { sfits = c.wrap.type_inv }) in
    let f = to_z-of_z w128 c.sum.result (record { sfits = c.sum.type_inv }) in
    let given = rw (to_z-of_z w128 c.args.left c.ranges.left, to_z-of_z w128 c.args.right c.ranges.right) at c.sum.ensures in
    rw e (cut-through c.sum.result _ c.wrap.result c.args.width c.args.signed (word-width c.args.width c.args.signed c.requires) given (rw f at c.wrap.ensures))
