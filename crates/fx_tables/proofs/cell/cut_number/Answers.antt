use Rattle.std.proofs.Common.{ap, drop, w64, to_z-of_z, ◌∙◌}
use Rattle.std.proofs.lemmas.List.{take_rest}
use Rattle.fx_tables.proofs.DigitsLemmas.{first_number, first_number-of}
use Rattle.fx_tables.proofs.cell.cut_number.Goals as goal

pub returns : goal.returns
returns c =
    let field = c.first_field-field in
    let minus = c.has_minus-minus in
    let digits = c.in_ok-digits.digits in
    first_number-of c.args.line.now field.result.now digits.tail.now _ _ field.ensures
    (to_z-of_z {w = w64} (record { sfits = c.with_sign.type_inv }) ∙ c.with_sign.ensures)
    (first_number minus.result field.result.now _ digits.tail.now digits.value minus.ensures.value
    (take_rest field.result.now c.from.result ∙ ap (λ n. drop n field.result.now) c.from.ensures) c.in_ok-digits.ensures)
