use Rattle.std.proofs.Common.{string_bytes, length, ap, sym, ◌∙◌, arith}
use Rattle.std.proofs.lemmas.Bool.{eqb-true}
use Rattle.fx_top.proofs.Commands.{more_asked, none_asked, three_asked, two_asked}
use Rattle.fx_top.proofs.command.Command.of_words.Goals as goal

pub returns-in_default-clause-is : goal.returns-in_default-clause-is
returns-in_default-clause-is c =
    let none = c.in_default.ensures.cases in
    none_asked string_bytes c.args.words.now (λ two. omega (arith, none, two)) (λ three. omega (arith, none, three))

pub returns-in_default-split_first-clause-is : goal.returns-in_default-split_first-clause-is
returns-in_default-split_first-clause-is c =
    let none = c.in_default-split_first.ensures.cases in
    let one = ap length c.in-Some.ensures.cases.0 in
    none_asked string_bytes c.args.words.now (λ two. omega (arith, one, none, two)) (λ three. omega (arith, one, none, three))

pub returns-in_default-split_first-2-clause-is : goal.returns-in_default-split_first-2-clause-is
returns-in_default-split_first-2-clause-is c =
    c.over_one.ensures.is
    ∙ two_asked string_bytes c.args.words.now c.in-Some.more.now c.in-Some-split_first.others.now c.in-Some.verb.now
    c.in-Some-split_first.first.now c.as_str.result.now c.as_str-in_default-split_first-2.result.now
    c.in-Some.ensures.cases.0 c.in-Some-split_first.ensures.cases.0 c.in_default-split_first-2.ensures.cases c.as_str.ensures.value c.as_str-in_default-split_first-2.ensures.value

pub returns-then-not-is_empty-clause-is : goal.returns-then-not-is_empty-clause-is
returns-then-not-is_empty-clause-is c =
    more_asked string_bytes c.args.words.now c.in-Some.more.now c.in-Some-split_first.others.now
    c.in-Some-split_first-2.rest.now c.in-Some.verb.now c.in-Some-split_first.first.now
    c.in-Some-split_first-2.second.now
    c.in-Some.ensures.cases.0 c.in-Some-split_first.ensures.cases.0 c.in-Some-split_first-2.ensures.cases.0 (sym c.is_empty.ensures ∙ c.if-not-is_empty.true)

pub returns-clause-is : goal.returns-clause-is
returns-clause-is c =
    c.over_two.ensures.is
    ∙ three_asked string_bytes c.args.words.now c.in-Some.more.now c.in-Some-split_first.others.now
    c.in-Some-split_first-2.rest.now c.in-Some.verb.now c.in-Some-split_first.first.now
    c.in-Some-split_first-2.second.now
    c.as_str-2.result.now c.as_str-3.result.now c.as_str-4.result.now c.in-Some.ensures.cases.0 c.in-Some-split_first.ensures.cases.0 c.in-Some-split_first-2.ensures.cases.0
    (eqb-true (length c.in-Some-split_first-2.rest.now) 0 (sym c.is_empty.ensures ∙ c.if-not-is_empty.false)) c.as_str-2.ensures.value c.as_str-3.ensures.value c.as_str-4.ensures.value
