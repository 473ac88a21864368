-- The digits at the start of a field.
use Rattle.std.proofs.Common.{◌≡◌, ℕ, zero, suc, ◌+◌, ◌*◌, ◌-◌, ◌<◌, ◌≤◌, Bool, true, false, ◌&&◌, eqb, List, [], ◌∷◌, length, get_or, take, drop, length-take, refl, sym, ap, subst, ◌∙◌, arith, rules}
use Rattle.std.specs.Prelude.{nat_le, ℤ, pos, neg_ℤ, if◌then◌else◌}
use Rattle.std.specs.Char.{is_ascii_digit, IsAsciiDigit}
use Rattle.std.specs.Int.{from_bool}
use Rattle.std.specs.List.{list_all}
use Rattle.std.specs.Str.Parse.{digits_value, starts_with_minus}
use Rattle.std.proofs.lemmas.Bool.Decides.{nat_tests}
use Rattle.std.proofs.lemmas.Bool.{cond-false, false≢true, and_parts, and_right}
use Rattle.std.proofs.lemmas.Str.{digit_value_digit}
use Rattle.fx_tables.specs.Fields.{is_blank, fields_of}
use Rattle.fx_tables.proofs.FieldsLemmas.{fields_of-field}
use Rattle.fx_tables.specs.inner.Digits.{IsRunOfDigits, IsFirstNumber}
use Rattle.fx_tables.specs.Whole.{digits_of_whole, is_whole, whole_value}
use Rattle.fx_text.specs.Digits.{is_number}
use Rattle.fx_tables.specs.Stimulus.{is_dash}

digit_is : (c : ℕ) → is_ascii_digit c ≡ true → IsAsciiDigit c
digit_is c is = search (rules, nat_tests)

-- the number with one digit more, where it is there
abbrev pub with_digit : ℕ → Bool → ℕ → ℕ
with_digit value is_there digit = if is_there then value * 10 + (digit - 48) else value

-- a run of one to three digits
few_digits : (text tail : List ℕ) (count value : ℕ) → 0 < count → count ≤ 3 → 4 ≤ length text
    → list_all is_ascii_digit (take count text) ≡ true → value ≡ digits_value 10 (take count text) → value < 1000
    → is_blank (get_or text count 0) ≡ true → fields_of tail ≡ fields_of (drop count text) → IsRunOfDigits text value tail
few_digits text tail count value some most long digits number small blank rest_is = record {
  count = count;
  some = some;
  few = omega (arith, most);
  within = omega (arith, most, long);
  digits = digits;
  number = number;
  small = omega (arith, small);
  ends = λ inside. blank;
  rest = rest_is;
}

-- one to three digits, of which it is known which are there
pub run_of_few : (text tail : List ℕ) (second third : Bool) → 4 ≤ length text
    → is_ascii_digit (get_or text 0 0) ≡ true → (second ≡ true → is_ascii_digit (get_or text 1 0) ≡ true)
    → (third ≡ true → is_ascii_digit (get_or text 2 0) ≡ true)
    → is_blank (get_or text (1 + from_bool second + from_bool (second && third)) 0) ≡ true
    → fields_of tail ≡ fields_of (drop (1 + from_bool second + from_bool (second && third)) text)
    → IsRunOfDigits text (with_digit (with_digit (get_or text 0 0 - 48) second (get_or text 1 0))
    (second && third) (get_or text 2 0)) tail
run_of_few [] tail second third long first next last blank rest_is = absurd (omega arith)
run_of_few (a ∷ []) tail second third long first next last blank rest_is = absurd (omega arith)
run_of_few (a ∷ b ∷ []) tail second third long first next last blank rest_is = absurd (omega arith)
run_of_few (a ∷ b ∷ c ∷ []) tail second third long first next last blank rest_is = absurd (omega arith)
run_of_few (a ∷ b ∷ c ∷ d ∷ text) tail false third long first next last blank rest_is =
    few_digits (a ∷ b ∷ c ∷ d ∷ text) tail 1 (a - 48) (omega arith) (omega arith) (omega arith) (rw first)
    (omega (arith, digit_value_digit a (digit_is a first))) (omega (arith, digit_is a first)) blank rest_is
run_of_few (a ∷ b ∷ c ∷ d ∷ text) tail true false long first next last blank rest_is =
    few_digits (a ∷ b ∷ c ∷ d ∷ text) tail 2 ((a - 48) * 10 + (b - 48)) (omega arith) (omega arith) (omega arith) (rw (first, next refl))
    (omega (arith, digit_value_digit a (digit_is a first), digit_value_digit b (digit_is b (next refl))))
    (omega (arith, digit_is a first, digit_is b (next refl))) blank rest_is
run_of_few (a ∷ b ∷ c ∷ d ∷ text) tail true true long first next last blank rest_is =
    few_digits (a ∷ b ∷ c ∷ d ∷ text) tail 3 (((a - 48) * 10 + (b - 48)) * 10 + (c - 48)) (omega arith) (omega arith) (omega arith) (rw (first, next refl, last refl))
    (omega (arith, digit_value_digit a (digit_is a first), digit_value_digit b (digit_is b (next refl)), digit_value_digit c (digit_is c (last refl))))
    (omega (arith, digit_is a first, digit_is b (next refl), digit_is c (last refl))) blank rest_is

-- the number with its sign
abbrev pub signed : Bool → ℕ → ℤ
signed minus value = if minus then neg_ℤ (pos value) else pos value

no_minus : (b : ℕ) → is_ascii_digit b ≡ true → eqb b 45 ≡ false
no_minus b is = grind (arith, nat_tests, digit_is b is)

is_number-digits : (field : List ℕ) → 0 < length field → length field ≤ 18 → list_all is_ascii_digit field ≡ true → is_number 64 field ≡ true
is_number-digits field some few digits =
    let one : nat_le 1 (length field) ≡ true = search (rules, nat_tests) in
    let most : nat_le (length field) 64 ≡ true = search (rules, nat_tests) in
    rw (one, most, digits)

-- a text of digits
plain_field : (field : List ℕ) → 0 < length field → length field ≤ 18 → list_all is_ascii_digit field ≡ true
    → (is_whole field ≡ true) × (is_dash field ≡ false) × (whole_value field ≡ pos (digits_value 10 field))
plain_field [] some few digits = absurd (omega arith)
plain_field (b ∷ field) some few digits =
    let no : eqb b 45 ≡ false = no_minus b (and_parts (is_ascii_digit b) (list_all is_ascii_digit field) digits).0 in
    let same = cond-false (eqb b 45) (drop 1 (b ∷ field)) (b ∷ field) no in (
      ap (is_number 64) same ∙ is_number-digits (b ∷ field) some few digits,
      and_right (eqb (length (b ∷ field)) 1) (eqb b 45) no,
      cond-false (eqb b 45) (neg_ℤ (pos (digits_value 10 (digits_of_whole (b ∷ field))))) (pos (digits_value 10 (digits_of_whole (b ∷ field)))) no
          ∙ ap (λ text. pos (digits_value 10 text)) same,
    )

-- a minus and digits
minus_field : (field : List ℕ) → 0 < length field → length field ≤ 18 → list_all is_ascii_digit field ≡ true
    → (is_whole (45 ∷ field) ≡ true) × (is_dash (45 ∷ field) ≡ false)
    × (whole_value (45 ∷ field) ≡ neg_ℤ (pos (digits_value 10 field)))
minus_field field some few digits =
    let long : eqb (length (45 ∷ field)) 1 ≡ false = search (rules, nat_tests) in
    (is_number-digits field some few digits, ap (λ one. one && true) long, refl)

no_blank : (n k : ℕ) (text : List ℕ) → list_all is_ascii_digit (take n text) ≡ true → n ≤ length text → k < n → is_blank (get_or text k 0) ≡ false
no_blank zero k text digits within below = absurd (omega arith)
no_blank (suc n) k [] digits within below = absurd (omega arith)
no_blank (suc n) zero (b ∷ text) digits within below =
    grind (arith, nat_tests, digit_is b (and_parts (is_ascii_digit b) (list_all is_ascii_digit (take n text)) digits).0)
no_blank (suc n) (suc k) (b ∷ text) digits within below =
    no_blank n k text (and_parts (is_ascii_digit b) (list_all is_ascii_digit (take n text)) digits).1 (omega arith) (omega arith)

no_blank_behind : (n k : ℕ) (text : List ℕ) → list_all is_ascii_digit (take n text) ≡ true → n ≤ length text → k < suc n → is_blank (get_or (45 ∷ text) k 0) ≡ false
no_blank_behind n zero text digits within below = refl
no_blank_behind n (suc k) text digits within below = no_blank n k text digits within (omega arith)

first_plain : (text tail : List ℕ) (value : ℕ) → IsRunOfDigits text value tail → IsFirstNumber text (pos value) tail
first_plain text tail value run =
    let count = run.count in
    let long = length-take count text in
    let field = plain_field (take count text) (omega (arith, run.some, run.within)) (omega (arith, run.few, run.within)) run.digits in
    record {
      field = take count text;
      first =
          fields_of-field count text run.some run.within (λ k below. no_blank count k text run.digits run.within below) run.ends
          ∙ ap (λ fields. take count text ∷ fields) (sym run.rest);
      whole = field.0;
      no_dash = field.1;
      number = field.2 ∙ ap pos (sym run.number);
    }

first_minus : (text tail : List ℕ) (value : ℕ) → IsRunOfDigits text value tail → IsFirstNumber (45 ∷ text) (neg_ℤ (pos value)) tail
first_minus text tail value run =
    let count = run.count in
    let long = length-take count text in
    let field = minus_field (take count text) (omega (arith, run.some, run.within)) (omega (arith, run.few, run.within)) run.digits in
    record {
      field = 45 ∷ take count text;
      first =
          fields_of-field (suc count) (45 ∷ text) (omega arith) (omega (arith, run.within))
          (λ k below. no_blank_behind count k text run.digits run.within below) (λ inside. run.ends (omega arith))
          ∙ ap (λ fields. (45 ∷ take count text) ∷ fields) (sym run.rest);
      whole = field.0;
      no_dash = field.1;
      number = field.2 ∙ ap (λ n. neg_ℤ (pos n)) (sym run.number);
    }

-- the first field from its digits, with no minus before them, or with one
pub first_number : (minus : Bool) (rest text tail : List ℕ) (value : ℕ) → minus ≡ starts_with_minus rest
    → text ≡ drop (from_bool minus) rest → IsRunOfDigits text value tail
    → IsFirstNumber rest (signed minus value) tail
first_number false rest text tail value is behind run = subst (λ (r : List ℕ). IsFirstNumber r (pos value) tail) behind (first_plain text tail value run)
first_number true [] text tail value is behind run = absurd (false≢true (sym is))
first_number true (b ∷ rest) text tail value is behind run =
    let minus : 45 ≡ b = search (rules, nat_tests) in
    subst (λ (r : List ℕ). IsFirstNumber r (neg_ℤ (pos value)) tail) (ap (λ l. 45 ∷ l) behind ∙ ap (λ c. c ∷ rest) minus)
    (first_minus text tail value run)

-- the same of a line with those fields
pub first_number-of : (line rest tail : List ℕ) (value number : ℤ) → fields_of rest ≡ fields_of line → number ≡ value → IsFirstNumber rest value tail → IsFirstNumber line number tail
first_number-of line rest tail value number same is first = record {
  field = first.field;
  first = sym same ∙ first.first;
  whole = first.whole;
  no_dash = first.no_dash;
  number = first.number ∙ sym is;
}
