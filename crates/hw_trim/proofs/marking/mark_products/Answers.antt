use Rattle.std.proofs.Common.{arith}
use Rattle.std.proofs.lemmas.Option.{slice_get_within}
use Rattle.hw_trim.proofs.Marks.{marks-none}
use Rattle.hw_trim.proofs.marking.mark_products.Goals as goal

pub loop-k-init : goal.loop-k-init
loop-k-init c = record { marks = marks-none c.args.marks.now c.args.order.now.items c.requires.marking; marked = λ j net less is multiply. absurd (omega (arith, less)) }

pub returns-clause-marked : goal.returns-clause-marked
returns-clause-marked c = λ k net is multiply. c.loop-k.invariant.marked k net (let within = slice_get_within c.args.nets.now k net is in omega (arith, within)) is multiply
