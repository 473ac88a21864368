use Rattle.std.proofs.Common.{◌+◌, None, Some, drop, refl, sym, ap, ◌∙◌}
use Rattle.std.proofs.lemmas.List.{take_rest}
use Rattle.cmd_explore.specs.RangeWord.{plain_number}
use Rattle.cmd_explore.proofs.RangeWord.{no_points, ended}
use Rattle.cmd_explore.proofs.range_word.ends_of.Goals as goal

pub returns-then-not-starts_with : goal.returns-then-not-starts_with
returns-then-not-starts_with c =
    let place = c.first_of-place.result in
    no_points c.args.word.now _ place c.first_of-place.ensures.is (take_rest c.args.word.now place) (sym c.starts_with.ensures.value ∙ c.if-not-starts_with.true)

pub returns-in_default : goal.returns-in_default
returns-in_default c =
    let word = c.args.word.now in
    let place = c.first_of-place.result in
    ended word _ place c.first_of-place.ensures.is (take_rest word place) None (plain_number (drop (place + 2) word)) (sym c.starts_with.ensures.value ∙ c.if-not-starts_with.false)
    (sym c.in_default.is ∙ c.plain_number.ensures) refl

pub returns-in_default-plain_number : goal.returns-in_default-plain_number
returns-in_default-plain_number c =
    let word = c.args.word.now in
    let place = c.first_of-place.result in
    ended word _ place c.first_of-place.ensures.is (take_rest word place) (Some c.in-Some.low) None (sym c.starts_with.ensures.value ∙ c.if-not-starts_with.false)
    (sym c.in-Some.is ∙ c.plain_number.ensures) (sym c.in_default-plain_number.is ∙ c.plain_number-2.ensures ∙ ap plain_number (take_rest word (place + 2)))

pub returns : goal.returns
returns c =
    let word = c.args.word.now in
    let place = c.first_of-place.result in
    ended word _ place c.first_of-place.ensures.is (take_rest word place) (Some c.in-Some.low) (Some c.in-Some-plain_number.high) (sym c.starts_with.ensures.value ∙ c.if-not-starts_with.false)
    (sym c.in-Some.is ∙ c.plain_number.ensures) (sym c.in-Some-plain_number.is ∙ c.plain_number-2.ensures ∙ ap plain_number (take_rest word (place + 2)))
