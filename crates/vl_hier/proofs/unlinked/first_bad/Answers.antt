use Rattle.vl_hier.proofs.unlinked.first_bad.Goals as goal

pub returns : goal.returns
returns c = c.first_among.ensures c.args.below.now c.args.top.now c.in_ok-tables.ensures
