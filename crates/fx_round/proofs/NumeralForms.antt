-- What is read of a decimal has the form of one, and a form is read.
use Rattle.std.proofs.Common.{◌≡◌, ℕ, ◌+◌, ◌-◌, ◌*◌, ◌≤◌, ◌⊎◌, inl, inr, Bool, true, false, cond, ◌&&◌, ◌||◌, Option, Some, None, List, [], ◌∷◌, ◌++◌, length, ap, ap₂, sym, ◌∙◌, refl, subst, arith}
use Rattle.std.proofs.Common.{rules, eqb, length-append, min, ℤ, pos, ◌-ℤ◌, ⊎_elim, Result, Ok, Err, MatchResult}
use Rattle.std.specs.Prelude.{codes}
use Rattle.std.specs.List.{list_all}
use Rattle.std.specs.Char.{is_ascii_digit, digit_value}
use Rattle.std.specs.Str.Parse.{digits_value, digits_value_after}
use Rattle.std.proofs.lemmas.Bool.{and_parts, and_from}
use Rattle.std.proofs.lemmas.Bool.Decides.{nat_tests}
use Rattle.std.proofs.lemmas.List.Folds.{list_all-append}
use Rattle.fx_type.specs.declared.decimal.Decimal.{Decimal}
use Rattle.fx_round.specs.DecimalText.{AreDigits, IsSign, signed, IsFraction, IsExponent, IsNumeral, IsShort, IsDecimalOf, IsLong}
use Rattle.fx_round.specs.inner.PlainDecimals.{front_digits, after_digits, is_minus, after_sign, fraction_digits, after_fraction, one_or_two, signed_some, exponent_of, whole_digits, fraction_of}
use Rattle.fx_round.specs.inner.PlainDecimals.{all_digits, Explains}
use Rattle.fx_round.specs.declared.decimal.DecimalFault.{DecimalFault}
use Rattle.fx_round.specs.declared.decimal.DecimalFault.TheVariants.{NotANumber, TooLong}
use Rattle.fx_round.proofs.Digits.{digit_is}

value_append : (n : ℕ) (front back : List ℕ) → digits_value_after 10 n (front ++ back) ≡ digits_value_after 10 (digits_value_after 10 n front) back
value_append n [] back = refl
value_append n (c ∷ front) back = value_append (n * 10 + digit_value c) front back

-- a text that begins with no byte of this kind
abbrev Stops : (ℕ → Bool) → List ℕ → Type 0
Stops test [] = Unit {0}
Stops test (c ∷ cs) = test c ≡ false

-- the text is read as a number: it has a digit, and what follows its digits is an exponent
record ReadsNumeral (text : List ℕ) : Type 0 where
  pub exponent : ℤ
  pub some_digit : 1 ≤ length (whole_digits text) + length (fraction_of text)
  pub is_exponent : exponent_of (after_fraction (after_digits (after_sign text))) ≡ Some exponent

-- ---- what is read has the form
record Signed (text : List ℕ) : Type 0 where
  pub sign : List ℕ
  pub is_sign : IsSign sign (is_minus text)
  pub form : text ≡ sign ++ after_sign text

sign_form : (text : List ℕ) → Signed text
sign_form [] = record { sign = []; is_sign = inl refl; form = refl }
sign_form (c ∷ cs) = by_minus (eqb c 45) refl (eqb c 43) refl
  where
    by_minus : (minus : Bool) → eqb c 45 ≡ minus → (plus : Bool) → eqb c 43 ≡ plus → Signed (c ∷ cs)
    by_minus true m plus p = record {
      sign = codes "-";
      is_sign = rw m refl;
      form = grind (arith, nat_tests, m);
    }
    by_minus false m true p = record {
      sign = codes "+";
      is_sign = rw m (inr refl);
      form = grind (arith, nat_tests, p);
    }
    by_minus false m false p = record {
      sign = [];
      is_sign = rw m (inl refl);
      form = rw m (rw p refl);
    }

digits_form : (text : List ℕ) → AreDigits (front_digits text) × (text ≡ front_digits text ++ after_digits text)
digits_form [] = (refl, refl)
digits_form (c ∷ cs) = by_test (is_ascii_digit c) refl (digits_form cs)
  where
    by_test : (t : Bool) → is_ascii_digit c ≡ t
        → AreDigits (front_digits cs) × (cs ≡ front_digits cs ++ after_digits cs)
        → AreDigits (cond t (c ∷ front_digits cs) [])
        × (c ∷ cs ≡ cond t (c ∷ front_digits cs) [] ++ cond t (after_digits cs) (c ∷ cs))
    by_test true e more = (and_from (is_ascii_digit c) (list_all is_ascii_digit (front_digits cs)) e more.0, ap (λ l. c ∷ l) more.1)
    by_test false e more = (refl, refl)

record Pointed (text : List ℕ) : Type 0 where
  pub point : List ℕ
  pub is_fraction : IsFraction point (fraction_digits text)
  pub are_digits : AreDigits (fraction_digits text)
  pub form : text ≡ point ++ after_fraction text

point_form : (text : List ℕ) → Pointed text
point_form [] = record { point = []; is_fraction = inr (refl, refl); are_digits = refl; form = refl }
point_form (c ∷ cs) = by_test (eqb c 46) refl
  where
    by_test : (t : Bool) → eqb c 46 ≡ t → Pointed (c ∷ cs)
    by_test true e = record {
      point = codes "." ++ front_digits cs;
      is_fraction = rw e (inl refl);
      are_digits = rw e (digits_form cs).0;
      form = rw e (grind (arith, nat_tests, e, (digits_form cs).1));
    }
    by_test false e = record {
      point = [];
      is_fraction = rw e (inr (refl, refl));
      are_digits = rw e refl;
      form = rw e refl;
    }

record Counted (text : List ℕ) (n : ℕ) : Type 0 where
  pub are_digits : AreDigits text
  pub some_digit : 1 ≤ length text
  pub few_digits : length text ≤ 2
  pub value : n ≡ digits_value 10 text

cond_some : {X : Type 0} (t : Bool) (x : Option X) (z : X) → cond t x None ≡ Some z → (t ≡ true) × (x ≡ Some z)
cond_some true x z h = (refl, h)
cond_some false x z h = cc

some_is : (n m : ℕ) → ◌≡◌ {A = Option ℕ} (Some n) (Some m) → n ≡ m
some_is n m h = cc

count_form : (text : List ℕ) (n : ℕ) → one_or_two text ≡ Some n → Counted text n
count_form [] n h = cc
count_form (a ∷ b ∷ c ∷ cs) n h = cc
count_form (a ∷ []) n h =
    let read = cond_some (is_ascii_digit a) (Some (a - 48)) n h in
    let value = some_is (a - 48) n read.1 in
    let worth = digit_is a read.0 in
    record {
      are_digits = and_from (is_ascii_digit a) true read.0 refl;
      some_digit = omega arith;
      few_digits = omega arith;
      value = omega (arith, value, worth);
    }
count_form (a ∷ b ∷ []) n h =
    let read = cond_some (is_ascii_digit a && is_ascii_digit b) (Some ((a - 48) * 10 + (b - 48))) n h in
    let value = some_is ((a - 48) * 10 + (b - 48)) n read.1 in
    let tests = and_parts (is_ascii_digit a) (is_ascii_digit b) read.0 in
    let front = digit_is a tests.0 in
    let back = digit_is b tests.1 in
    record {
      are_digits = and_from (is_ascii_digit a) (is_ascii_digit b && true) tests.0 (and_from (is_ascii_digit b) true tests.1 refl);
      some_digit = omega arith;
      few_digits = omega arith;
      value = omega (arith, value, front, back);
    }

mark_cases : (c : ℕ) → (eqb c 101 || eqb c 69) ≡ true → (c ≡ 101) ⊎ (c ≡ 69)
mark_cases c h = search (rules, nat_tests)

record Some_signed (negative : Bool) (found : Option ℕ) (exponent : ℤ) : Type 0 where
  pub count : ℕ
  pub is : found ≡ Some count
  pub value : exponent ≡ signed negative count

signed_form : (negative : Bool) (found : Option ℕ) (exponent : ℤ) → signed_some negative found ≡ Some exponent → Some_signed negative found exponent
signed_form negative None exponent h = cc
signed_form negative (Some n) exponent h = record { count = n; is = refl; value = let same : signed negative n ≡ exponent = cc in sym same }

exponent_form : (text : List ℕ) (exponent : ℤ) → exponent_of text ≡ Some exponent → IsExponent text exponent
exponent_form [] exponent h =
    let same : pos 0 ≡ exponent = cc in inr (refl, sym same)
exponent_form (c ∷ cs) exponent h =
    let read = cond_some (eqb c 101 || eqb c 69) (signed_some (is_minus cs) (one_or_two (after_sign cs))) exponent h in
    let found = signed_form (is_minus cs) (one_or_two (after_sign cs)) exponent read.1 in
    let digits = count_form (after_sign cs) found.count found.is in
    let front = sign_form cs in
    inl (record {
      mark = c ∷ [];
      sign = front.sign;
      digits = after_sign cs;
      negative = is_minus cs;
      form = ap (λ l. c ∷ l) front.form;
      is_mark = ⊎_elim (λ small. inl (ap (λ (m : ℕ). m ∷ []) small)) (λ large. inr (ap (λ (m : ℕ). m ∷ []) large)) (mark_cases c read.0);
      is_sign = front.is_sign;
      are_digits = digits.are_digits;
      some_digit = digits.some_digit;
      few_digits = digits.few_digits;
      value = found.value ∙ ap (signed (is_minus cs)) digits.value;
    })

both_digits : (front back : List ℕ) → AreDigits front → AreDigits back → AreDigits (front ++ back)
both_digits front back f b = list_all-append is_ascii_digit front back ∙ and_from (list_all is_ascii_digit front) (list_all is_ascii_digit back) f b

abbrev numeral_form : (text : List ℕ) → ReadsNumeral text → IsNumeral text
numeral_form text read =
    let front = sign_form text in
    let body = digits_form (after_sign text) in
    let behind = point_form (after_digits (after_sign text)) in
    record {
      sign = front.sign;
      negative = is_minus text;
      whole = whole_digits text;
      point = behind.point;
      fraction = fraction_of text;
      digits = all_digits text;
      written = after_fraction (after_digits (after_sign text));
      exponent = read.exponent;
      form = front.form ∙ ap (λ l. front.sign ++ l) (body.1 ∙ ap (λ l. whole_digits text ++ l) behind.form);
      is_sign = front.is_sign;
      are_digits = both_digits (whole_digits text) (fraction_of text) body.0 behind.are_digits;
      some_digit = omega (arith, read.some_digit, length-append (whole_digits text) (fraction_of text));
      value = sym (value_append 0 (whole_digits text) (fraction_of text));
      is_fraction = behind.is_fraction;
      is_exponent = exponent_form (after_fraction (after_digits (after_sign text))) read.exponent read.is_exponent;
    }

-- ---- a form is read
abbrev no_sign : ℕ → Bool
no_sign c = eqb c 43 || eqb c 45

digit_no_sign : (c : ℕ) → is_ascii_digit c ≡ true → no_sign c ≡ false
digit_no_sign c h = search (rules, nat_tests)

sign_read : (sign body : List ℕ) (negative : Bool) → IsSign sign negative → Stops no_sign body → (is_minus (sign ++ body) ≡ negative) × (after_sign (sign ++ body) ≡ body)
sign_read sign body true e stops = rw e (refl, refl)
sign_read sign body false (inr e) stops = rw e (refl, refl)
sign_read sign [] false (inl e) stops = rw e (refl, refl)
sign_read sign (c ∷ cs) false (inl e) stops =
    let none : eqb c 45 ≡ false = search (rules, nat_tests) in
    rw e (none, ap (λ t. cond t cs (c ∷ cs)) stops)

digits_read : (digits tail : List ℕ) → AreDigits digits → Stops is_ascii_digit tail → (front_digits (digits ++ tail) ≡ digits) × (after_digits (digits ++ tail) ≡ tail)
digits_read [] [] all stops = (refl, refl)
digits_read [] (c ∷ cs) all stops = rw stops (refl, refl)
digits_read (c ∷ digits) tail all stops =
    let parts = and_parts (is_ascii_digit c) (list_all is_ascii_digit digits) all in
    let more = digits_read digits tail parts.1 stops in
    rw parts.0 (ap (λ l. c ∷ l) more.0, more.1)

abbrev is_point : ℕ → Bool
is_point c = eqb c 46

fraction_read : (point digits written : List ℕ) → IsFraction point digits → AreDigits digits
    → Stops is_ascii_digit written → Stops is_point written
    → (fraction_digits (point ++ written) ≡ digits) × (after_fraction (point ++ written) ≡ written)
fraction_read point digits written (inl e) all stops no_point = rw e (digits_read digits written all stops)
fraction_read point digits [] (inr (e, none)) all stops no_point = rw e (sym none, refl)
fraction_read point digits (c ∷ cs) (inr (e, none)) all stops no_point = rw e (ap (λ t. cond t (front_digits cs) []) no_point ∙ sym none, ap (λ t. cond t (after_digits cs) (c ∷ cs)) no_point)

-- what an exponent does not begin with
record Stopped (text : List ℕ) : Type 0 where
  pub digit : Stops is_ascii_digit text
  pub point : Stops is_point text
  pub sign : Stops no_sign text

exponent_stops : (text : List ℕ) (exponent : ℤ) → IsExponent text exponent → Stopped text
exponent_stops text exponent (inr (e, v)) = rw e (record { digit = tt; point = tt; sign = tt })
exponent_stops text exponent (inl written) = ⊎_elim
    (λ small. let e = written.form ∙ ap (λ l. l ++ (written.sign ++ written.digits)) small in rw e (record { digit = refl; point = refl; sign = refl }))
    (λ large. let e = written.form ∙ ap (λ l. l ++ (written.sign ++ written.digits)) large in rw e (record { digit = refl; point = refl; sign = refl }))
    written.is_mark

tail_stops : (point digits written : List ℕ) → IsFraction point digits → Stops is_ascii_digit written → Stops is_ascii_digit (point ++ written)
tail_stops point digits written (inl e) stops = rw e refl
tail_stops point digits written (inr (e, none)) stops = rw e stops

tail_no_sign : (point digits written : List ℕ) → IsFraction point digits → Stops no_sign written → Stops no_sign (point ++ written)
tail_no_sign point digits written (inl e) stops = rw e refl
tail_no_sign point digits written (inr (e, none)) stops = rw e stops

body_no_sign : (digits tail : List ℕ) → AreDigits digits → Stops no_sign tail → Stops no_sign (digits ++ tail)
body_no_sign [] tail all stops = stops
body_no_sign (c ∷ digits) tail all stops = digit_no_sign c (and_parts (is_ascii_digit c) (list_all is_ascii_digit digits) all).0

digits_no_sign : (digits : List ℕ) → AreDigits digits → Stops no_sign digits
digits_no_sign [] all = tt
digits_no_sign (c ∷ digits) all = digit_no_sign c (and_parts (is_ascii_digit c) (list_all is_ascii_digit digits) all).0

count_read : (digits : List ℕ) → AreDigits digits → 1 ≤ length digits → length digits ≤ 2 → one_or_two digits ≡ Some (digits_value 10 digits)
count_read [] all some few = absurd (omega arith)
count_read (a ∷ b ∷ c ∷ cs) all some few = absurd (omega arith)
count_read (a ∷ []) all some few =
    let tests = and_parts (is_ascii_digit a) true all in
    let worth = digit_is a tests.0 in
    rw tests.0 (ap Some (omega (arith, worth)))
count_read (a ∷ b ∷ []) all some few =
    let tests = and_parts (is_ascii_digit a) (is_ascii_digit b && true) all in
    let last = and_parts (is_ascii_digit b) true tests.1 in
    let front = digit_is a tests.0 in
    let back = digit_is b last.0 in
    rw tests.0 (rw last.0 (ap Some (omega (arith, front, back))))

exponent_behind : (sign digits : List ℕ) (negative : Bool) → IsSign sign negative → AreDigits digits
    → 1 ≤ length digits → length digits ≤ 2
    → signed_some (is_minus (sign ++ digits)) (one_or_two (after_sign (sign ++ digits)))
    ≡ Some (signed negative (digits_value 10 digits))
exponent_behind sign digits negative is_sign all some few =
    let cut = sign_read sign digits negative is_sign (digits_no_sign digits all) in
    rw cut.0 (rw cut.1 (rw (count_read digits all some few) refl))

exponent_read : (text : List ℕ) (exponent : ℤ) → IsExponent text exponent → exponent_of text ≡ Some exponent
exponent_read text exponent (inr (e, v)) = rw e (ap Some (sym v))
exponent_read text exponent (inl written) =
    let behind = exponent_behind written.sign written.digits written.negative written.is_sign written.are_digits written.some_digit written.few_digits in
    let value = ap Some (sym written.value) in
    ⊎_elim
    (λ small. ap exponent_of (written.form ∙ ap (λ l. l ++ (written.sign ++ written.digits)) small) ∙ behind ∙ value)
    (λ large. ap exponent_of (written.form ∙ ap (λ l. l ++ (written.sign ++ written.digits)) large) ∙ behind ∙ value)
    written.is_mark

-- what is read of a form are its parts
record IsReadAs (text : List ℕ) (numeral : IsNumeral text) : Type 0 where
  pub whole : whole_digits text ≡ numeral.whole
  pub fraction : fraction_of text ≡ numeral.fraction
  pub exponent : exponent_of (after_fraction (after_digits (after_sign text))) ≡ Some numeral.exponent

split_digits : (front back : List ℕ) → AreDigits (front ++ back) → AreDigits front × AreDigits back
split_digits front back all = and_parts (list_all is_ascii_digit front) (list_all is_ascii_digit back) (sym (list_all-append is_ascii_digit front back) ∙ all)

form_read : (text : List ℕ) (numeral : IsNumeral text) → IsReadAs text numeral
form_read text numeral =
    let tail : List ℕ = numeral.point ++ numeral.written in
    let all = split_digits numeral.whole numeral.fraction numeral.are_digits in
    let stopped = exponent_stops numeral.written numeral.exponent numeral.is_exponent in
    let unsigned = tail_no_sign numeral.point numeral.fraction numeral.written numeral.is_fraction stopped.sign in
    let front = sign_read numeral.sign (numeral.whole ++ tail) numeral.negative numeral.is_sign (body_no_sign numeral.whole tail all.0 unsigned) in
    let body : after_sign text ≡ numeral.whole ++ tail = ap after_sign numeral.form ∙ front.1 in
    let digits = digits_read numeral.whole tail all.0 (tail_stops numeral.point numeral.fraction numeral.written numeral.is_fraction stopped.digit) in
    let behind : after_digits (after_sign text) ≡ tail = ap after_digits body ∙ digits.1 in
    let fraction = fraction_read numeral.point numeral.fraction numeral.written numeral.is_fraction all.1 stopped.digit stopped.point in
    record {
      whole = ap front_digits body ∙ digits.0;
      fraction = ap fraction_digits behind ∙ fraction.0;
      exponent = ap exponent_of (ap after_fraction behind ∙ fraction.1) ∙ exponent_read numeral.written numeral.exponent numeral.is_exponent;
    }

-- a text without digits is no number
pub no_digit : (text : List ℕ) → length (whole_digits text) + length (fraction_of text) ≡ 0 → ¬ IsNumeral text
no_digit text none numeral =
    let read = form_read text numeral in
    omega (arith, none, numeral.some_digit, length-append numeral.whole numeral.fraction, ap length read.whole, ap length read.fraction)

-- nor is one with something else behind its digits
pub no_exponent : (text : List ℕ) → exponent_of (after_fraction (after_digits (after_sign text))) ≡ None → ¬ IsNumeral text
no_exponent text none numeral =
    let read = form_read text numeral in
    let bad : ◌≡◌ {A = Option ℤ} None (Some numeral.exponent) = sym none ∙ read.exponent in cc

pub true_is_none : ¬ IsNumeral (codes "true")
true_is_none = no_digit (codes "true") refl

pub false_is_none : ¬ IsNumeral (codes "false")
false_is_none = no_digit (codes "false") refl

-- ---- what was read
pub read_known : (text : List ℕ) (r : Result Decimal DecimalFault) (digits behind : ℕ) (written : ℤ) (negative : Bool)
    → MatchResult r (λ d. IsShort digits behind written × (d.negative ≡ negative) × (d.digits ≡ digits)
    × (d.exponent ≡ written -ℤ pos behind)) (λ fault. (fault ≡ TooLong) × (¬ IsShort digits behind written))
    → negative ≡ is_minus text → digits ≡ min (all_digits text) 1000000000000000000 → behind ≡ length (fraction_of text)
    → 1 ≤ length (whole_digits text) + length (fraction_of text) → exponent_of (after_fraction (after_digits (after_sign text))) ≡ Some written
    → MatchResult r (IsDecimalOf text) (Explains text)
read_known text (Ok d) digits behind written negative (short, n, v, x) en ed eb some e = record {
  numeral = numeral_form text (record { exponent = written; some_digit = some; is_exponent = e });
  short = record { few_digits = omega (arith, ed, short.few_digits); few_behind = omega (arith, eb, short.few_behind); least = short.least; greatest = short.greatest };
  negative = n ∙ en;
  digits = v ∙ omega (arith, ed, short.few_digits);
  exponent = x ∙ ap (λ (k : ℕ). written -ℤ pos k) eb;
}
read_known text (Err fault) digits behind written negative (f, long) en ed eb some e =
    subst (λ (x : DecimalFault). Explains text x) (sym f) (record {
      numeral = numeral_form text (record { exponent = written; some_digit = some; is_exponent = e });
      long = λ s. long (record { few_digits = omega (arith, ed, s.few_digits); few_behind = omega (arith, eb, s.few_behind); least = s.least; greatest = s.greatest });
    })

some_one : (a b : ℤ) → ◌≡◌ {A = Option ℤ} (Some a) (Some b) → a ≡ b
some_one a b h = cc

-- a text is a number in one way, so it is short or long
short_one : (text : List ℕ) (a b : IsNumeral text) → IsShort a.digits (length a.fraction) a.exponent → IsShort b.digits (length b.fraction) b.exponent
short_one text a b short =
    let first = form_read text a in
    let second = form_read text b in
    let whole : a.whole ≡ b.whole = sym first.whole ∙ second.whole in
    let fraction : a.fraction ≡ b.fraction = sym first.fraction ∙ second.fraction in
    let exponent : a.exponent ≡ b.exponent = some_one a.exponent b.exponent (sym first.exponent ∙ second.exponent) in
    let digits : a.digits ≡ b.digits = a.value ∙ ap₂ (λ (x y : List ℕ). digits_value 10 (x ++ y)) whole fraction ∙ sym b.value in
    let behind : length a.fraction ≡ length b.fraction = ap length fraction in
    rw (sym digits, sym behind, sym exponent) short

-- what was read is too long exactly where the text is
pub long_iff : (text : List ℕ) (r : Result Decimal DecimalFault) → MatchResult r (IsDecimalOf text) (Explains text) → (r ≡ Err TooLong → IsLong text) × (IsLong text → r ≡ Err TooLong)
long_iff text (Ok d) is = (λ h. cc, λ long. absurd (long.long (short_one text is.numeral long.numeral is.short)))
long_iff text (Err NotANumber) none = (λ h. cc, λ long. absurd (none long.numeral))
long_iff text (Err TooLong) long = (λ h. long, λ h. refl)
