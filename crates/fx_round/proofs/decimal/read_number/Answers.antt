use Rattle.std.proofs.Common.{◌≡◌, ℕ, ◌+◌, ◌≤◌, min, length, List, Some, ap, ap₂, sym, ◌∙◌, arith, rules}
use Rattle.std.specs.Int.{w16}
use Rattle.std.proofs.lemmas.Int.{to_z-of_z}
use Rattle.std.specs.Str.Parse.{digits_value_after}
use Rattle.fx_round.specs.inner.PlainDecimals.{whole_digits, fraction_of, all_digits, front_digits, after_digits, after_sign, fraction_digits, after_fraction, exponent_of}
use Rattle.fx_round.proofs.Digits.{front_pass, fraction_pass}
use Rattle.fx_round.proofs.NumeralForms.{no_digit, no_exponent, read_known}
use Rattle.fx_round.proofs.decimal.read_number.Goals as goal

pub read_on-requires-clause-digits : goal.read_on-requires-clause-digits
read_on-requires-clause-digits c = rw c.split_digits.ensures.front (front_pass c.after_sign.result.now)

pub read_on-digits-requires-clause-digits : goal.read_on-digits-requires-clause-digits
read_on-digits-requires-clause-digits c = rw c.split_fraction.ensures.front (fraction_pass c.split_digits.result.1.now)

pub returns-in-Some : goal.returns-in-Some
returns-in-Some c =
    let text = c.args.text.now in
    let w = to_z-of_z w16 c.in-Some.written (search rules) in
    let whole : c.split_digits.result.0.now ≡ whole_digits text = c.split_digits.ensures.front ∙ ap front_digits c.after_sign.ensures in
    let rest : c.split_digits.result.1.now ≡ after_digits (after_sign text) = c.split_digits.ensures.back ∙ ap after_digits c.after_sign.ensures in
    let fraction : c.split_fraction.result.0.now ≡ fraction_of text = c.split_fraction.ensures.front ∙ ap fraction_digits rest in
    let tail : c.split_fraction.result.1.now ≡ after_fraction (after_digits (after_sign text)) = c.split_fraction.ensures.back ∙ ap after_fraction rest in
    let first = c.read_on.ensures.value 0 (omega arith) in
    let both = c.read_on-digits.ensures.value _ first in
    let digits : c.read_on-digits.result ≡ min (all_digits text) 1000000000000000000 =
    both ∙ ap₂ (λ (a b : List ℕ). min (digits_value_after 10 (digits_value_after 10 0 a) b) 1000000000000000000) whole fraction in
    let some : 1 ≤ length (whole_digits text) + length (fraction_of text) = omega (arith, c.if-whole-fraction-eq0.false, ap length whole, ap length fraction) in
    let e : exponent_of (after_fraction (after_digits (after_sign text))) ≡ Some c.in-Some.written = ap exponent_of (sym tail) ∙ sym c.exponent_of.ensures ∙ c.in-Some.is in
    read_known text c.decimal_of.result c.read_on-digits.result (length c.split_fraction.result.0.now) c.in-Some.written c.is_minus.result
    (rw w at c.decimal_of.ensures) c.is_minus.ensures digits (ap length fraction) some e

pub returns-then-whole-fraction-eq0 : goal.returns-then-whole-fraction-eq0
returns-then-whole-fraction-eq0 c =
    let text = c.args.text.now in
    let whole : c.split_digits.result.0.now ≡ whole_digits text = c.split_digits.ensures.front ∙ ap front_digits c.after_sign.ensures in
    let rest : c.split_digits.result.1.now ≡ after_digits (after_sign text) = c.split_digits.ensures.back ∙ ap after_digits c.after_sign.ensures in
    let fraction : c.split_fraction.result.0.now ≡ fraction_of text = c.split_fraction.ensures.front ∙ ap fraction_digits rest in
    no_digit text (omega (arith, c.if-whole-fraction-eq0.true, ap length whole, ap length fraction))

pub returns-in-None : goal.returns-in-None
returns-in-None c =
    let text = c.args.text.now in
    let rest : c.split_digits.result.1.now ≡ after_digits (after_sign text) = c.split_digits.ensures.back ∙ ap after_digits c.after_sign.ensures in
    let tail : c.split_fraction.result.1.now ≡ after_fraction (after_digits (after_sign text)) = c.split_fraction.ensures.back ∙ ap after_fraction rest in
    no_exponent text (ap exponent_of (sym tail) ∙ sym c.exponent_of.ensures ∙ c.in-None.is)
