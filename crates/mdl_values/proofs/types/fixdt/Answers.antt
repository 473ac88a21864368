use Rattle.mdl_values.proofs.TypeLemmas.{fixdt_found}
use Rattle.mdl_values.proofs.types.fixdt.Goals as goal

pub returns-in_default : goal.returns-in_default
returns-in_default c = λ type is. c.in_default.ensures is.inside is.call

pub returns : goal.returns
returns c =
    fixdt_found c.args.text.now c.in-Some.inside.now c.cut.result.0.now c.in-Some-two_of.second.now c.in-Some-two_of.third.now c.cut.result.1 c.in-Some-behind.rest c.word_of.result
    c.in-Some.ensures c.in-Some-behind.is c.cut.ensures.pieces c.in-Some-two_of.ensures c.word_of.ensures
