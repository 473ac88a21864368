-- Each token that can be written is written by the one text's form of it.
use Rattle.std.proofs.Common.{◌≡◌, ◌≢◌, ℕ, ◌^◌, ◌<◌, ◌≤◌, Bool, true, false, List, [], ◌∷◌, ◌++◌, length, codes, decimal, refl, subst, append_assoc, arith, inl, if◌then◌else◌}
use Rattle.std.specs.Prelude.{nat_eq}
use Rattle.std.specs.Str.Parse.{IsNumeral, AllDigits, digits_value}
use Rattle.std.proofs.Math.Nat.{pow-le-pow_right}
use Rattle.std.proofs.lemmas.Bool.{false≢true}
use Rattle.std.proofs.lemmas.Bool.Decides.{nat_tests}
use Rattle.std.proofs.lemmas.Fmt.{decimal_is_IsNumeral_wide, length-decimal-le_wide}
use Rattle.std.proofs.lemmas.Int.Digits.{digits_value-lt}
use Rattle.std.proofs.lemmas.Str.Parse.{digit_from_value}
use Rattle.vl_ast.specs.declared.expressions.Sized.{Sized}
use Rattle.vl_ast.specs.Spelling.{sized_text}
use Rattle.vl_ast.specs.Tokens.{Token, Key, Sign, Identifier, Number, Based, IsDec, IsBased, IsSignMark, IsWritten, is_longest, IsWritable}
use Rattle.vl_names.specs.Identifiers.{is_identifier}

-- a number of at most so many digits is below that power of ten
below_power : (digits : List ℕ) (k : ℕ) → AllDigits 10 digits → length digits ≤ k → digits_value 10 digits < 10 ^ k
below_power digits k all short =
    let more : 10 ^ length digits ≤ 10 ^ k = pow-le-pow_right {n = 10} (omega arith) short in
    omega (arith, digits_value-lt 10 digits all, more)

dec_small : (number : ℕ) (digits : List ℕ) → IsDec number digits → number < 10 ^ 9
dec_small number digits d = subst (λ (n : ℕ). n < 10 ^ 9) d.value (below_power digits 9 d.numeral.1 d.short)

dec-written : (number : ℕ) → number < 10 ^ 9 → IsDec number (decimal number)
dec-written number small =
    let read = decimal_is_IsNumeral_wide number (omega arith) in
    record { numeral = read.0; short = length-decimal-le_wide 9 number (omega arith) small (omega arith); value = read.1 }

pub number-writable : (number : ℕ) → number < 10 ^ 9 → IsWritable (Number number)
number-writable number small = (decimal number, dec-written number small)

pub IsDec-decimal : (number : ℕ) (digits : List ℕ) → IsDec number digits → IsDec number (decimal number)
IsDec-decimal number digits d = dec-written number (dec_small number digits d)

IsSignMark-mark : (signed : Bool) → IsSignMark signed (if signed then codes "s" else [])
IsSignMark-mark true = inl refl
IsSignMark-mark false = refl

based-written : (number : Sized) → number.width < 10 ^ 9 → number.bits < 2 ^ 128 → IsBased number (sized_text number)
based-written number small fits =
    let read = decimal_is_IsNumeral_wide number.bits (omega arith) in
    record {
      width = decimal number.width;
      mark = if number.signed then codes "s" else [];
      letter = 100;
      base = 10;
      digits = decimal number.bits;
      text = append_assoc _ (codes "d") (decimal number.bits);
      width_is = dec-written number.width small;
      mark_is = IsSignMark-mark number.signed;
      base_is = refl;
      numeral = read.0;
      short = (let few : length (decimal number.bits) ≤ 39 = length-decimal-le_wide 39 number.bits (omega arith) (omega arith) (omega arith) in omega (arith, few));
      value = read.1;
      fits = fits;
    }

pub based-writable : (number : Sized) → number.width < 10 ^ 9 → number.bits < 2 ^ 128 → IsWritable (Based number)
based-writable number small fits = (sized_text number, based-written number small fits)

pub IsBased-sized_text : (number : Sized) (bytes : List ℕ) → IsBased number bytes → IsBased number (sized_text number)
IsBased-sized_text number bytes b = based-written number (dec_small number.width b.width b.width_is) b.fits

-- the text of a token
abbrev pub token_text : Token → List ℕ
token_text (Key word) = word
token_text (Sign sign) = sign
token_text (Identifier name) = name
token_text (Number number) = decimal number
token_text (Based number) = sized_text number

pub IsWritten-token_text : (t : Token) → IsWritable t → IsWritten t (token_text t)
IsWritten-token_text (Key word) w = refl
IsWritten-token_text (Sign sign) w = refl
IsWritten-token_text (Identifier name) w = (refl, w.1.1)
IsWritten-token_text (Number number) w = IsDec-decimal number w.0 w.1
IsWritten-token_text (Based number) w = IsBased-sized_text number w.0 w.1

-- a bracket is the longest sign before what isn't a star
longest_bracket : (first : ℕ) (others : List ℕ) → first ≢ 42 → is_longest (codes "(") (first ∷ others) ≡ true
longest_bracket first others other =
    let e : nat_eq 42 first ≡ false = grind (arith, nat_tests) in rw e refl

pub identifier_opens : (name rest : List ℕ) → is_identifier name ≡ true → is_longest (codes "(") (name ++ rest) ≡ true
identifier_opens [] rest is = absurd (false≢true is)
identifier_opens (first ∷ others) rest is = longest_bracket first (others ++ rest) (λ star. false≢true (rw star at is))

pub numeral_opens : (digits rest : List ℕ) → IsNumeral 10 digits → is_longest (codes "(") (digits ++ rest) ≡ true
numeral_opens [] rest n = absurd (omega (arith, n.0))
numeral_opens (first ∷ others) rest n =
    let range = digit_from_value first n.1.0 in longest_bracket first (others ++ rest) (λ star. absurd (omega (arith, range.0)))
