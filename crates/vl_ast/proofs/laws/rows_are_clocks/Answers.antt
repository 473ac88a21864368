use Rattle.vl_ast.proofs.FullCounts.{enabled-count, place-clock, unstallable-count}
use Rattle.vl_ast.proofs.laws.rows_are_clocks.Goals as goal

pub returns-clause-enabled : goal.returns-clause-enabled
returns-clause-enabled c m window inputs on = place-clock m window inputs (enabled-count m window inputs on)

pub returns-clause-plain : goal.returns-clause-plain
returns-clause-plain c m window inputs plain = place-clock m window inputs (unstallable-count m window inputs plain)
