-- A text has at most one value of each kind.
use Rattle.std.proofs.Common.{◌≡◌, ◌≢◌, ℕ, inl, inr, Bool, true, false, List, [], ◌∷◌, get_or, Option, None, Some, refl, sym, ◌∙◌, ap, subst, arith, true≢false}
use Rattle.std.specs.Prelude.{◌==◌, codes, pos, replicate, MatchBool, bytes_eq, ◌⊎◌}
use Rattle.std.specs.Char.{is_ascii_digit}
use Rattle.std.proofs.lemmas.Bool.Decides.{nat_tests}
use Rattle.fx_type.specs.declared.decimal.Decimal.{Decimal}
use Rattle.fx_round.specs.DecimalText.{IsDecimal, IsDecimalOf, IsNumeral}
use Rattle.dg_model.specs.declared.diagram.PeriodSpec.{PeriodSpec}
use Rattle.dg_model.specs.declared.diagram.PeriodSpec.TheVariants.{Inherit, Constant, Every}
use Rattle.mdl_text.specs.Bytes.{is_blank}
use Rattle.mdl_values.specs.Laws.{ValuesAreOne}
use Rattle.mdl_values.specs.Numbers.{IsNumberText}
use Rattle.mdl_values.specs.Periods.{IsAboveZero, IsWithOffset, IsPeriodText, IsSampleTime, IsConstantTime, IsBracketedNumber, IsWidthNumber, IsWidthText}
use Rattle.mdl_values.specs.Pieces.{opens, bracket_elements, list_elements}
use Rattle.mdl_values.specs.Signs.{IsSignsText, signs_of, is_spacer}
use Rattle.mdl_values.proofs.DecimalForms.{one_numeral, word_is_none}
use Rattle.mdl_values.proofs.ListLemmas.{some_same}
use Rattle.mdl_values.proofs.OneNumber.{one_number, first_digit, no_brackets, same_decimal, one_list}
use Rattle.mdl_values.proofs.OneType.{one_type}
use Rattle.mdl_values.proofs.TypeLemmas.{only_same}

-- ---- periods

one_above : (text : List ℕ) (one other : Decimal) → IsAboveZero text one → IsAboveZero text other → one ≡ other
one_above text one other is too = same_decimal text one other is.read too.read

pub first_same : (a b x y : List ℕ) → a ∷ b ∷ [] ≡ x ∷ y ∷ [] → a ≡ x
first_same a b x y e = cc

one_offset : (text : List ℕ) (one other : Decimal) → IsWithOffset text one → IsWithOffset text other → one ≡ other
one_offset text one other is too =
    let same = first_same is.first is.second too.first too.second (some_same (is.first ∷ is.second ∷ []) (too.first ∷ too.second ∷ []) (sym is.elements ∙ too.elements)) in
    one_above too.first one other (subst (λ (t : List ℕ). IsAboveZero t one) same is.read) too.read

one_period : (text : List ℕ) (one other : Decimal) → IsPeriodText text one → IsPeriodText text other → one ≡ other
one_period text one other is too = by (opens text) is too
  where
    by : (b : Bool) → MatchBool b (IsWithOffset text one) (IsAboveZero text one) → MatchBool b (IsWithOffset text other) (IsAboveZero text other) → one ≡ other
    by true first second = one_offset text one other first second
    by false first second = one_above text one other first second

-- a text that opens no bracket is a decimal above 0
above_of : (text word : List ℕ) (period : Decimal) → text ≡ word → opens word ≡ false → IsPeriodText text period → IsAboveZero word period
above_of text word period is shut read =
    let there : IsPeriodText word period = subst (λ (t : List ℕ). IsPeriodText t period) is read in
    by (opens word) shut there
  where
    by : (b : Bool) → b ≡ false → MatchBool b (IsWithOffset word period) (IsAboveZero word period) → IsAboveZero word period
    by true e first = absurd (true≢false e)
    by false e second = second

abbrev minus_one : IsNumeral (codes "-1")
minus_one = record {
  sign = codes "-";
  negative = true;
  whole = codes "1";
  point = [];
  fraction = [];
  digits = 1;
  written = [];
  exponent = pos 0;
  form = refl;
  is_sign = refl;
  are_digits = refl;
  some_digit = omega arith;
  value = refl;
  is_fraction = inr (refl, refl);
  is_exponent = inr (refl, refl);
}

first_byte : (a b : List ℕ) → a ≡ b → get_or a 0 0 ≡ get_or b 0 0
first_byte a b e = ap (λ (t : List ℕ). get_or t 0 0) e

-- a decimal that begins otherwise than `true` and `false` is a number
as_number : (text : List ℕ) (d : Decimal) → get_or text 0 0 ≢ 116 → get_or text 0 0 ≢ 102 → IsDecimal text d → IsDecimalOf text d
as_number text d no_true no_false (inl (e, w)) = absurd (no_true (first_byte text (codes "true") e))
as_number text d no_true no_false (inr (inl (e, w))) = absurd (no_false (first_byte text (codes "false") e))
as_number text d no_true no_false (inr (inr w)) = w

-- -1 isn't above 0
minus_below : (period : Decimal) → IsAboveZero (codes "-1") period → ⊥
minus_below period is =
    let number = as_number (codes "-1") period (λ e. omega (arith, e)) (λ e. omega (arith, e)) is.read in
    let same = one_numeral (codes "-1") minus_one number.numeral in
    true≢false (sym (number.negative ∙ sym same.negative) ∙ is.above.sign)

-- `inf` is no decimal
inf_none : (period : Decimal) → IsAboveZero (codes "inf") period → ⊥
inf_none period is =
    let number = as_number (codes "inf") period (λ e. omega (arith, e)) (λ e. omega (arith, e)) is.read in
    word_is_none 105 (codes "nf") refl refl refl (codes "inf") refl number.numeral

one_sample : (text : List ℕ) (one other : PeriodSpec) → IsSampleTime text one → IsSampleTime text other → one ≡ other
one_sample text Inherit Inherit is too = refl
one_sample text Inherit Constant is too = absurd too
one_sample text Inherit (Every period) is too = absurd (minus_below period (above_of text (codes "-1") period is refl too))
one_sample text Constant other is too = absurd is
one_sample text (Every period) Inherit is too = absurd (minus_below period (above_of text (codes "-1") period too refl is))
one_sample text (Every period) Constant is too = absurd too
one_sample text (Every period) (Every other) is too = ap Every (one_period text period other is too)

no_constant : (text : List ℕ) (period : Decimal) → (text ≡ codes "inf") ⊎ (text ≡ codes "-1") → IsPeriodText text period → ⊥
no_constant text period (inl is) read = inf_none period (above_of text (codes "inf") period is refl read)
no_constant text period (inr is) read = minus_below period (above_of text (codes "-1") period is refl read)

one_constant : (text : List ℕ) (one other : PeriodSpec) → IsConstantTime text one → IsConstantTime text other → one ≡ other
one_constant text Inherit other is too = absurd is
one_constant text Constant Inherit is too = absurd too
one_constant text Constant Constant is too = refl
one_constant text Constant (Every period) is too = absurd (no_constant text period is too)
one_constant text (Every period) Inherit is too = absurd too
one_constant text (Every period) Constant is too = absurd (no_constant text period too is)
one_constant text (Every period) (Every other) is too = ap Every (one_period text period other is too)

-- ---- widths

one_bracketed : (text : List ℕ) (one other : ℕ) → IsBracketedNumber text one → IsBracketedNumber text other → one ≡ other
one_bracketed text one other is too =
    let same = only_same is.element too.element (some_same (is.element ∷ []) (too.element ∷ []) (sym is.elements ∙ too.elements)) in
    one_number 1 1024 too.element one other (subst (λ (t : List ℕ). IsNumberText 1 1024 t one) same is.read) too.read

one_width_number : (text : List ℕ) (one other : ℕ) → IsWidthNumber text one → IsWidthNumber text other → one ≡ other
one_width_number text one other (inl is) (inl too) = one_number 1 1024 text one other is too
one_width_number text one other (inl is) (inr too) = absurd (no_brackets 1 1024 text one (too.element ∷ []) is too.elements)
one_width_number text one other (inr is) (inl too) = absurd (no_brackets 1 1024 text other (is.element ∷ []) too is.elements)
one_width_number text one other (inr is) (inr too) = one_bracketed text one other is too

one_width : (text : List ℕ) (one other : ℕ) → IsWidthText text one → IsWidthText text other → one ≡ other
one_width text one other is too = by (bytes_eq text (codes "-1")) is too
  where
    by : (b : Bool) → MatchBool b (one ≡ 0) (IsWidthNumber text one) → MatchBool b (other ≡ 0) (IsWidthNumber text other) → one ≡ other
    by true first second = first ∙ sym second
    by false first second = one_width_number text one other first second

-- ---- signs

none_some : (signs : List Bool) → None ≡ Some signs → ⊥
none_some signs e = cc

no_blank : (byte : ℕ) → is_ascii_digit byte ≡ true → is_blank byte ≡ false
unfolding is_blank
no_blank byte digit = grind (arith, nat_tests)

-- a digit is no sign
no_sign : (byte : ℕ) (bytes : List ℕ) → is_ascii_digit byte ≡ true → signs_of (byte ∷ bytes) ≡ None
no_sign byte bytes digit =
    let plus : (byte == 43) ≡ false = grind (arith, nat_tests) in
    let minus : (byte == 45) ≡ false = grind (arith, nat_tests) in
    let blank = no_blank byte digit in
    let spacer : is_spacer byte ≡ false = grind (arith, nat_tests, blank) in
    rw (plus, minus, spacer) refl

no_signs : (text : List ℕ) (count : ℕ) (negative : List Bool) → IsNumberText 2 32 text count → signs_of text ≡ Some negative → ⊥
no_signs [] count negative is e = absurd (omega (arith, is.some_digit))
no_signs (byte ∷ bytes) count negative is e = none_some negative (sym (no_sign byte bytes (first_digit byte bytes 2 32 count is)) ∙ e)

some_signs : (a b : List Bool) → ◌≡◌ {A = Option (List Bool)} (Some a) (Some b) → a ≡ b
some_signs a b e = cc

one_signs : (text : List ℕ) (one other : List Bool) → IsSignsText text one → IsSignsText text other → one ≡ other
one_signs text one other (inl is) (inl too) = is.all_add ∙ ap (λ (n : ℕ). replicate n false) (one_number 2 32 text is.count too.count is.read too.read) ∙ sym too.all_add
one_signs text one other (inl is) (inr too) = absurd (no_signs text is.count other is.read too.read)
one_signs text one other (inr is) (inl too) = absurd (no_signs text too.count one too.read is.read)
one_signs text one other (inr is) (inr too) = some_signs one other (sym is.read ∙ too.read)

-- ---- all of them

pub one_value : ValuesAreOne
one_value = record {
  numbers = one_number;
  lists = λ text. one_list IsDecimal same_decimal (list_elements text);
  sizes = λ text. one_list (IsNumberText 1 1024) (one_number 1 1024) (bracket_elements text);
  types = one_type;
  periods = one_period;
  sample_times = one_sample;
  constant_times = one_constant;
  widths = one_width;
  signs = one_signs;
  apart = λ low high text number sizes is list. no_brackets low high text number list.texts is list.are_elements;
}
