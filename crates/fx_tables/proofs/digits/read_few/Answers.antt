use Rattle.std.proofs.Common.{◌∙◌, sym}
use Rattle.fx_tables.proofs.DigitsLemmas.{run_of_few}
use Rattle.fx_tables.proofs.digits.read_few.Goals as goal

pub returns : goal.returns
returns c =
    let blank = rw (c.from.ensures, c.from-2.ensures) at (sym c.is_blank.ensures ∙ c.if-not-is_blank.false) in
    let rest = rw (c.from.ensures, c.from-2.ensures) at c.behind_blank.ensures in
    rw (c.with_digit.ensures.value, c.with_digit-two.ensures.value, c.from-one.ensures)
    (run_of_few c.args.text.now c.behind_blank.result.now c.is_ascii_digit-second.result c.is_ascii_digit-2.result c.if-text-lt4.false
    (sym c.is_ascii_digit.ensures.value ∙ c.if-not-is_ascii_digit.false)
    (λ is. sym c.is_ascii_digit-second.ensures.value ∙ is) (λ is. sym c.is_ascii_digit-2.ensures.value ∙ is) blank rest)
