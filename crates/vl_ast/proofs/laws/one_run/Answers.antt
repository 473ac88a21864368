use Rattle.vl_ast.proofs.Alone.{rows-are-one}
use Rattle.vl_ast.proofs.OneRun.{rows-run}
use Rattle.vl_ast.proofs.laws.one_run.Goals as goal

pub returns-clause-some : goal.returns-clause-some
returns-clause-some c m count start inputs b room =
    rows-run c.meaning_by_layer.ensures.value m b.acyclic.driven b.acyclic.once b.acyclic.acyclic count start inputs room

pub returns-clause-one : goal.returns-clause-one
returns-clause-one c m count start inputs rows other b one two =
    rows-are-one c.meaning_by_layer.ensures.value m b.acyclic.driven b.acyclic.once b.acyclic.acyclic b.clocked count start inputs rows other one two
