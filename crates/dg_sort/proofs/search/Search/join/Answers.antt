use Rattle.dg_sort.proofs.Join.{joins}
use Rattle.dg_sort.proofs.search.Search.join.Goals as goal

pub returns-clause-groups : goal.returns-clause-groups
returns-clause-groups c =
    joins c.args.self.now.groups.items c.truncate.new.self.items c.loop-last.last c.args.place c.index.result.now
    c.index_mut.result.now c.truncate.ensures.items c.loop-last.invariant.inside c.index.ensures
    c.index_mut.ensures.value
    c.loop-last-test.false c.loop-last.invariant.above
