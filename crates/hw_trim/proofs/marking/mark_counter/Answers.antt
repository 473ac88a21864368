use Rattle.std.proofs.Common.{sym, ◌∙◌, arith}
use Rattle.hw_renumber.proofs.Products.{counter-below}
use Rattle.hw_trim.proofs.marking.mark_counter.Goals as goal

pub mark-requires-clause-there : goal.mark-requires-clause-there
mark-requires-clause-there c =
    let below = counter-below c.args.netlist.now.nets c.in-Some.number c.args.frame (sym c.counter_of.ensures ∙ c.in-Some.is) in
    omega (arith, below, c.requires.size)
