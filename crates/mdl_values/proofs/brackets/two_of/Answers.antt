use Rattle.mdl_values.proofs.BracketLemmas.{two_refused}
use Rattle.mdl_values.proofs.brackets.two_of.Goals as goal

pub returns-in-Some-more : goal.returns-in-Some-more
returns-in-Some-more c =
    two_refused c.args.separator c.args.text.now c.cut.result.0.now c.cut-2.result.0.now c.cut.result.1 c.cut-2.result.1 c.in-Some.rest c.in-Some-more.field-0
    c.in-Some.is c.cut.ensures.pieces c.in-Some-more.is c.cut-2.ensures.pieces
