use Rattle.std.proofs.Common.{◌+◌, None, Some, drop, refl, sym, ap, ◌∙◌}
use Rattle.cmd_explore.specs.RangeWord.{ends_of}
use Rattle.cmd_explore.proofs.RangeWord.{ranged}
use Rattle.cmd_explore.proofs.range_word.read_range.Goals as goal

pub returns-in_default-clause-is : goal.returns-in_default-clause-is
returns-in_default-clause-is c =
    let word = c.args.word.now in
    let place = c.first_of-place.result in
    ranged word place None (ends_of (drop (place + 1) word)) c.first_of-place.ensures.is (sym c.in_default.is ∙ c.ends_of.ensures) refl

pub returns-in_default-ends_of-clause-is : goal.returns-in_default-ends_of-clause-is
returns-in_default-ends_of-clause-is c =
    ranged c.args.word.now c.first_of-place.result (Some c.in-Some.cycles) None c.first_of-place.ensures.is
    (sym c.in-Some.is ∙ c.ends_of.ensures) (sym c.in_default-ends_of.is ∙ c.ends_of-2.ensures ∙ ap ends_of c.behind.ensures)

pub returns-clause-is : goal.returns-clause-is
returns-clause-is c =
    c.between.ensures.is
    ∙ ranged c.args.word.now c.first_of-place.result (Some c.in-Some.cycles) (Some c.in-Some-ends_of.multipliers) c.first_of-place.ensures.is
    (sym c.in-Some.is ∙ c.ends_of.ensures) (sym c.in-Some-ends_of.is ∙ c.ends_of-2.ensures ∙ ap ends_of c.behind.ensures)
