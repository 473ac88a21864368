-- What a lexeme may be, from how its token is written.
use Rattle.std.proofs.Common.{◌+◌, ◌*◌, subst, ◌≡◌, ℕ, ◌<◌, ◌≤◌, ◌^◌, Bool, true, false, cond, List, [], ◌∷◌, ◌++◌, length, Some, None, refl, sym, ◌∙◌, ap, arith, option_and_then, option_map, inl}
use Rattle.std.proofs.Common.{inr, ne_eqb, lt-ltb}
use Rattle.std.specs.Prelude.{◌==◌, ◌&&◌, ◌||◌, nat_le, nat_lt}
use Rattle.std.specs.List.{list_all}
use Rattle.std.proofs.lemmas.Bool.{and_from, and_left, le-leb, lt-leb, or_from, cond_both}
use Rattle.std.proofs.lemmas.Option.{none-some}
use Rattle.std.proofs.Math.Nat.{mul-le-mul_left, pow-le-pow_right}
use Rattle.std.proofs.lemmas.Int.Digits.{digits_value-lt}
use Rattle.std.specs.Str.Parse.{digits_value_after, AllDigits, IsNumeral, digits_value}
use Rattle.std.specs.Char.{is_ascii_alphabetic, digit_value}
use Rattle.vl_ast.specs.declared.expressions.Sized.{Sized}
use Rattle.vl_ast.specs.Tokens.{IsDec, IsBased, IsSignMark, base_of}
use Rattle.vl_names.specs.Identifiers.{is_identifier}
use Rattle.vl_read.specs.declared.scan.Kind.TheVariants.{Name, Count, Constant}
use Rattle.vl_read.specs.inner.Lexemes.{kind_of, kind_by, dec_of, sized_of, sized_in, sized_after, sized_by, sized_as, number_after, around_quote, is_digit, is_nonempty}
use Rattle.vl_read.proofs.Digits.{around_mark}

pub name_kind : (name : List ℕ) → is_identifier name ≡ true → kind_of name ≡ Name
unfolding kind_of
name_kind name h = ap (λ t. cond t Name (kind_by (dec_of name) (sized_of name))) h

pub all_digits : (base : ℕ) (digits : List ℕ) → AllDigits base digits → list_all (is_digit base) digits ≡ true
all_digits base [] h = refl
all_digits base (d ∷ ds) h = and_from (is_digit base d) (list_all (is_digit base) ds) (lt-ltb _ _ h.0) (all_digits base ds h.1)

pub nonempty : (digits : List ℕ) → 0 < length digits → is_nonempty digits ≡ true
nonempty [] h = absurd (omega arith)
nonempty (d ∷ ds) h = refl

-- the number of digits is read, where it is small enough
after_grows : (base : ℕ) (digits : List ℕ) (n m : ℕ) → n ≤ m → 0 < base → n ≤ digits_value_after base m digits
after_grows base [] n m h positive = h
after_grows base (d ∷ ds) n m h positive = after_grows base ds n (m * base + digit_value d) (more_digits n m base (digit_value d) h positive) positive
  where
    more_digits : (n m base d : ℕ) → n ≤ m → 0 < base → n ≤ m * base + d
    more_digits n m base d h positive = let e : m * 1 ≤ m * base = mul-le-mul_left m positive in omega (arith, e)

pub number_read : (base : ℕ) (digits : List ℕ) (n : ℕ) → 0 < base → AllDigits base digits
    → digits_value_after base n digits < 2 ^ 128
    → number_after base n digits ≡ Some (digits_value_after base n digits)
number_read base [] n positive all fits = refl
number_read base (d ∷ ds) n positive all fits =
    let next : ℕ = n * base + digit_value d in
    let small : next < 2 ^ 128 = omega (arith, after_grows base ds next next (omega arith) positive) in
    ap (λ t. cond t (number_after base next ds) None) (and_from (is_digit base d) (nat_lt next (2 ^ 128)) (lt-ltb _ _ all.0) (lt-ltb _ _ small))
    ∙ number_read base ds next positive all.1 fits

pub dec_read : (number : ℕ) (digits : List ℕ) → IsDec number digits → dec_of digits ≡ Some number
unfolding dec_of
dec_read number digits is =
    let small : digits_value 10 digits < 2 ^ 128 = omega (arith, dec_small digits is.numeral.1 is.short) in
    ap (λ t. cond t (number_after 10 0 digits) None) (and_from (is_nonempty digits) (nat_le (length digits) 9) (nonempty digits is.numeral.0) (le-leb _ _ is.short))
    ∙ number_read 10 digits 0 (omega arith) is.numeral.1 small ∙ ap Some is.value
  where
    dec_small : (digits : List ℕ) → AllDigits 10 digits → length digits ≤ 9 → digits_value 10 digits < 10 ^ 9
    dec_small digits all short =
        let ten : 0 < 10 = omega arith in
        let below : digits_value 10 digits < 10 ^ length digits = digits_value-lt 10 digits all in
        let bound : 10 ^ length digits ≤ 10 ^ 9 = pow-le-pow_right ten short in
        omega (arith, below, bound)

-- a decimal digit lies from 48 to 57
pub digit_range : (d : ℕ) → digit_value d < 10 → (48 ≤ d) × (d < 58)
digit_range d h = grind arith

pub not_letter : (d : ℕ) → d < 58 → (is_ascii_alphabetic d || d == 95) ≡ false
not_letter d h =
    or_from _ _ (or_from _ _ (and_left _ _ (lt-leb 65 d (omega arith))) (and_left _ _ (lt-leb 97 d (omega arith)))) (ne_eqb d 95 (λ e. omega arith))

-- what begins with a digit is no identifier
digit_first : (d : ℕ) (ds : List ℕ) → digit_value d < 10 → is_identifier (d ∷ ds) ≡ false
digit_first d ds h = and_left _ _ (and_left _ _ (not_letter d (digit_range d h).1))

pub dec_kind : (number : ℕ) (digits : List ℕ) → IsDec number digits → kind_of digits ≡ Count number
unfolding kind_of
dec_kind number [] is = absurd (omega (arith, is.numeral.0))
dec_kind number (d ∷ ds) is =
    ap (λ t. cond t Name (kind_by (dec_of (d ∷ ds)) (sized_of (d ∷ ds)))) (digit_first d ds is.numeral.1.0)
    ∙ ap (λ o. kind_by o (sized_of (d ∷ ds))) (dec_read number (d ∷ ds) is)

-- digits have no apostrophe
quote_after : (digits rest : List ℕ) → AllDigits 10 digits → around_quote (digits ++ 39 ∷ rest) ≡ Some (digits, rest)
quote_after [] rest all = refl
quote_after (d ∷ ds) rest all =
    ap (λ t. cond t (Some ([], ds ++ 39 ∷ rest)) (option_map (λ (parts : List ℕ × List ℕ). (d ∷ parts.0, parts.1)) (around_quote (ds ++ 39 ∷ rest))))
    (ne_eqb d 39 (λ e. omega (arith, e, (digit_range d all.0).0)))
    ∙ ap (option_map (λ (parts : List ℕ × List ℕ). (d ∷ parts.0, parts.1))) (quote_after ds rest all.1)

no_number : (digits rest : List ℕ) (n : ℕ) → number_after 10 n (digits ++ 39 ∷ rest) ≡ None
no_number [] rest n = refl
no_number (d ∷ ds) rest n = cond_both (is_digit 10 d && nat_lt (n * 10 + digit_value d) (2 ^ 128))
    (number_after 10 (n * 10 + digit_value d) (ds ++ 39 ∷ rest)) None (λ o. o ≡ None)
    (λ _. no_number ds rest (n * 10 + digit_value d)) (λ _. refl)

no_dec : (digits rest : List ℕ) → dec_of (digits ++ 39 ∷ rest) ≡ None
unfolding dec_of
no_dec digits rest = cond_both (is_nonempty (digits ++ 39 ∷ rest) && nat_le (length (digits ++ 39 ∷ rest)) 9)
    (number_after 10 0 (digits ++ 39 ∷ rest)) None (λ o. o ≡ None) (λ _. no_number digits rest 0) (λ _. refl)

-- the digits of a based number
digits_read : (width : ℕ) (signed : Bool) (base : ℕ) (digits : List ℕ) → 0 < base → IsNumeral base digits → length digits ≤ 128 → digits_value base digits < 2 ^ 128 →
    sized_by width signed base digits ≡ Some (record { width = width; signed = signed; bits = digits_value base digits })
digits_read width signed base digits positive numeral short fits =
    ap (λ t. cond t (sized_as width signed (number_after base 0 digits)) None) (and_from (is_nonempty digits) (nat_le (length digits) 128) (nonempty digits numeral.0) (le-leb _ _ short))
    ∙ ap (sized_as width signed) (number_read base digits 0 positive numeral.1 fits)

base_positive : (a b c : Bool) (base : ℕ) → cond a (Some 2) (cond b (Some 10) (cond c (Some 16) None)) ≡ Some base → 0 < base
base_positive true b c base h = let e : 2 ≡ base = cc in omega arith
base_positive false true c base h = let e : 10 ≡ base = cc in omega arith
base_positive false false true base h = let e : 16 ≡ base = cc in omega arith
base_positive false false false base h = cc

letter_read : (width : ℕ) (signed : Bool) (letter base : ℕ) (digits : List ℕ) → base_of letter ≡ Some base →
    sized_after width signed (letter ∷ digits) ≡ sized_by width signed base digits
letter_read width signed letter base digits h = ap (λ o. option_and_then (λ base. sized_by width signed base digits) o) h

no_mark : (letter base : ℕ) → base_of letter ≡ Some base → (letter == 115 || letter == 83) ≡ false
no_mark letter base h = or_from _ _ (ne_eqb letter 115 (λ e. none-some base (ap base_of (sym e) ∙ h))) (ne_eqb letter 83 (λ e. none-some base (ap base_of (sym e) ∙ h)))

mark_read : (width : ℕ) (signed : Bool) (mark : List ℕ) (letter base : ℕ) (digits : List ℕ) → IsSignMark signed mark → base_of letter ≡ Some base →
    sized_in width (mark ++ letter ∷ digits) ≡ sized_by width signed base digits
mark_read width true mark letter base digits (inl e) h = ap (λ m. sized_in width (m ++ letter ∷ digits)) e ∙ letter_read width true letter base digits h
mark_read width true mark letter base digits (inr e) h = ap (λ m. sized_in width (m ++ letter ∷ digits)) e ∙ letter_read width true letter base digits h
mark_read width false mark letter base digits e h =
    ap (λ m. sized_in width (m ++ letter ∷ digits)) e
    ∙ ap (λ t. cond t (sized_after width true digits) (sized_after width false (letter ∷ digits))) (no_mark letter base h)
    ∙ letter_read width false letter base digits h

pub sized_read : (number : Sized) (bytes : List ℕ) → IsBased number bytes → sized_of bytes ≡ Some number
unfolding sized_of
sized_read number bytes is =
    let tail : List ℕ = is.mark ++ is.letter ∷ is.digits in
    let same : bytes ≡ is.width ++ 39 ∷ tail = is.text ∙ around_mark is.width is.mark (is.letter ∷ is.digits) in
    let value : digits_value is.base is.digits ≡ number.bits = is.value in
    let fits : digits_value is.base is.digits < 2 ^ 128 = subst (λ n. n < 2 ^ 128) (sym value) is.fits in
    ap (λ b. option_and_then (λ (parts : List ℕ × List ℕ). option_and_then (λ width. sized_in width parts.1) (dec_of parts.0)) (around_quote b)) same
    ∙ ap (λ o. option_and_then (λ (parts : List ℕ × List ℕ). option_and_then (λ width. sized_in width parts.1) (dec_of parts.0)) o) (quote_after is.width tail is.width_is.numeral.1)
    ∙ ap (λ o. option_and_then (λ width. sized_in width tail) o) (dec_read number.width is.width is.width_is)
    ∙ mark_read number.width number.signed is.mark is.letter is.base is.digits is.mark_is is.base_is
    ∙ digits_read number.width number.signed is.base is.digits (base_positive _ _ _ is.base is.base_is) is.numeral is.short fits
    ∙ ap (λ (n : ℕ). Some (record { width = number.width; signed = number.signed; bits = n })) value

pub based_kind : (number : Sized) (bytes : List ℕ) → IsBased number bytes → kind_of bytes ≡ Constant number
unfolding kind_of
based_kind number bytes is =
    let tail : List ℕ = is.mark ++ is.letter ∷ is.digits in
    let same : bytes ≡ is.width ++ 39 ∷ tail = is.text ∙ around_mark is.width is.mark (is.letter ∷ is.digits) in
    ap (λ t. cond t Name (kind_by (dec_of bytes) (sized_of bytes))) (ap is_identifier same ∙ digits_first is.width tail is.width_is.numeral)
    ∙ ap (λ o. kind_by o (sized_of bytes)) (ap dec_of same ∙ no_dec is.width tail)
    ∙ ap (λ o. kind_by None o) (sized_read number bytes is)
  where
    digits_first : (width rest : List ℕ) → IsNumeral 10 width → is_identifier (width ++ 39 ∷ rest) ≡ false
    digits_first [] rest h = absurd (omega (arith, h.0))
    digits_first (d ∷ ds) rest h = digit_first d (ds ++ 39 ∷ rest) h.1.0
