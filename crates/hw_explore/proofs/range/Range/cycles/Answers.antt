use Rattle.std.proofs.Common.{arith}
use Rattle.hw_explore.proofs.Ranges.{few_cycles}
use Rattle.hw_explore.proofs.range.Range.cycles.Goals as goal

pub overflow_add-result : goal.overflow_add-result
overflow_add-result c =
    let few = few_cycles c.args.self.now c.args.place c.choices.result c.requires.range c.choices.ensures.is c.choices.ensures.some c.requires.there in
    omega (arith, few)

pub returns-clause-few : goal.returns-clause-few
returns-clause-few c = few_cycles c.args.self.now c.args.place c.choices.result c.requires.range c.choices.ensures.is c.choices.ensures.some c.requires.there
