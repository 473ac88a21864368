use Rattle.vl_ast.proofs.FullCounts.{thinned-driven, thinned-shows}
use Rattle.vl_ast.proofs.laws.counted_rows_show.Goals as goal

pub returns-clause-driven : goal.returns-clause-driven
returns-clause-driven c = thinned-driven

pub returns-clause-shows : goal.returns-clause-shows
returns-clause-shows c = thinned-shows
