use Rattle.std.proofs.Common.{◌≡◌, ℕ, ◌^◌, ◌<◌, ◌≤◌, ◌∙◌, true, List, length, get_or, take, drop, sym, ap, arith, rules}
use Rattle.std.specs.List.{list_all}
use Rattle.std.specs.Char.{is_ascii_digit}
use Rattle.std.specs.Str.Parse.{digits_value}
use Rattle.std.proofs.lemmas.List.{take_rest}
use Rattle.std.proofs.lemmas.Bool.Decides.{nat_tests}
use Rattle.fx_tables.specs.Fields.{is_blank, fields_of}
use Rattle.fx_tables.specs.inner.Digits.{IsRunOfDigits}
use Rattle.std.proofs.lemmas.Grind.{common_steps}
use Rattle.std.proofs.lemmas.Int.Digits.{digits_value_more}
use Rattle.std.proofs.lemmas.List.Folds.{list_all_more}
use Rattle.std.proofs.lemmas.Str.{digit_value_digit}
use Rattle.fx_text.proofs.DigitLemmas.{below_power}
use Rattle.fx_tables.proofs.digits.read_run.Goals as goal

pub overflow_mul-value : goal.overflow_mul-value
overflow_mul-value c = omega (arith, below_power c.loop-length.value c.loop-length.length 17 c.loop-length.invariant.small (omega arith))

pub overflow_add-value : goal.overflow_add-value
overflow_add-value c = omega (arith, below_power c.loop-length.value c.loop-length.length 17 c.loop-length.invariant.small (omega arith))

pub loop-length-preserved : goal.loop-length-preserved
loop-length-preserved c = record {
  number = omega (arith, digits_value_more 10 c.args.text.now c.loop-length.length (omega arith), digit_value_digit _ c.if-not-is_ascii_digit.ensures.cases);
  digits = grind (arith, common_steps, list_all_more);
  small = grind (arith, common_steps);
  few = omega arith;
}

run : (text tail : List ℕ) (count value : ℕ) → 0 < count → count ≤ 18 → count ≤ length text
    → list_all is_ascii_digit (take count text) ≡ true → value ≡ digits_value 10 (take count text)
    → value < 10 ^ count → (count < length text → is_blank (get_or text count 0) ≡ true)
    → fields_of tail ≡ fields_of (drop count text) → IsRunOfDigits text value tail
run text tail count value some few within digits number small ends rest = record {
  count = count;
  some = some;
  few = few;
  within = within;
  digits = digits;
  number = number;
  small = below_power value count 18 small few;
  ends = ends;
  rest = rest;
}

pub returns-then-not-is_ascii_digit : goal.returns-then-not-is_ascii_digit
returns-then-not-is_ascii_digit c =
    let loop = c.loop-length in
    run c.args.text.now c.behind_blank.result.now loop.length loop.value (search rules) loop.invariant.few (omega arith) loop.invariant.digits
    loop.invariant.number loop.invariant.small (λ inside. sym c.is_blank.ensures ∙ c.if-not-is_blank.false) c.behind_blank.ensures

pub returns : goal.returns
returns c =
    let loop = c.loop-length in
    let text = c.args.text.now in
    let some : 0 < length text = grind (arith, nat_tests, c.if-is_empty.ensures) in
    let all : length text ≡ loop.length = omega arith in
    run text _ loop.length loop.value (omega arith) loop.invariant.few (omega arith) loop.invariant.digits loop.invariant.number
    loop.invariant.small (λ inside. absurd (omega arith))
    (ap fields_of (take_rest text (length text)) ∙ ap (λ n. fields_of (drop n text)) all)
