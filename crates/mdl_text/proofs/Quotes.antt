-- The strings of a line, read a byte at a time, are strings, and give what they say.
use Rattle.std.proofs.Common.{◌≡◌, ℕ, true, cond, not, List, [], ◌∷◌, ◌++◌, Option, Some, None, ◌⊎◌, inl, inr, refl, sym, ◌∙◌, ap, ⊎_elim, append_assoc, append-nil, eqb-true, option_and_then}
use Rattle.std.proofs.Common.{flat_map}
use Rattle.std.specs.Prelude.{◌==◌}
use Rattle.std.specs.List.{list_all, AllByRecursion}
use Rattle.std.proofs.lemmas.Bool.{and_parts, and_from, not-true}
use Rattle.mdl_text.specs.declared.strings.Place.{Place}
use Rattle.mdl_text.specs.declared.strings.Place.TheVariants.{Outside, Inside, Escaped}
use Rattle.mdl_text.specs.Bytes.{is_blank, AreBlanks, Quote, IsQuote, quote_bytes, quote_value}
use Rattle.fx_text.specs.Strings.{Char, is_char, char_bytes, escaped, char_value, quoted}
use Rattle.fx_text.specs.Strings.Char.{Plain, Escape}
use Rattle.mdl_text.specs.inner.Plain.{string_step, strings}
use Rattle.mdl_text.proofs.Classes.{in_string, no_byte, quote_no_blank, two_tests}

-- what follows one byte
abbrev pub after_step : List ℕ → Option (Place × List ℕ) → Option (List ℕ)
after_step bytes step = option_and_then (λ next. strings next.0 next.1 bytes) step

pub plain_step : (said : List ℕ) (b : ℕ) → is_char (Plain b) ≡ true → string_step Inside said b ≡ Some (Inside, said ++ b ∷ [])
unfolding string_step
plain_step said b h =
    let parts = and_parts (not (b == 34)) (not (b == 92)) h in
    ap (λ t. cond t (Some (Outside, said)) (cond (b == 92) (Some (Escaped, said)) (Some (Inside, said ++ b ∷ [])))) (not-true (b == 34) parts.0)
    ∙ ap (λ t. cond t (Some (Escaped, said)) (Some (Inside, said ++ b ∷ []))) (not-true (b == 92) parts.1)

escape_step : (said : List ℕ) → string_step Inside said 92 ≡ Some (Escaped, said)
unfolding string_step
escape_step said = refl

escaped_step : (said : List ℕ) (b : ℕ) → string_step Escaped said b ≡ Some (Inside, said ++ escaped b)
unfolding string_step
escaped_step said b = refl

pub close_step : (said : List ℕ) → string_step Inside said 34 ≡ Some (Outside, said)
unfolding string_step
close_step said = refl

pub open_step : (said : List ℕ) → string_step Outside said 34 ≡ Some (Inside, said)
unfolding string_step
open_step said = refl

blank_step : (said : List ℕ) (b : ℕ) → is_blank b ≡ true → string_step Outside said b ≡ Some (Outside, said)
unfolding string_step
blank_step said b h =
    ap (λ t. cond t (Some (Inside, said)) (cond (is_blank b) (Some (Outside, said)) None)) (no_byte is_blank b 34 h quote_no_blank)
    ∙ ap (λ t. cond t (Some (Outside, said)) None) h

inside_chars : (chars : List Char) (said rest : List ℕ) → list_all is_char chars ≡ true
    → strings Inside said (flat_map char_bytes chars ++ 34 ∷ rest)
    ≡ strings Outside (said ++ flat_map char_value chars) rest
inside_chars [] said rest h = ap (after_step rest) (close_step said) ∙ ap (λ v. strings Outside v rest) (sym (append-nil said))
inside_chars (Plain b ∷ chars) said rest h =
    let parts = and_parts (is_char (Plain b)) (list_all is_char chars) h in
    ap (after_step (flat_map char_bytes chars ++ 34 ∷ rest)) (plain_step said b parts.0)
    ∙ inside_chars chars (said ++ b ∷ []) rest parts.1
    ∙ ap (λ v. strings Outside v rest) (append_assoc said (b ∷ []) (flat_map char_value chars))
inside_chars (Escape b ∷ chars) said rest h =
    ap (after_step (b ∷ (flat_map char_bytes chars ++ 34 ∷ rest))) (escape_step said)
    ∙ ap (after_step (flat_map char_bytes chars ++ 34 ∷ rest)) (escaped_step said b)
    ∙ inside_chars chars (said ++ escaped b) rest h
    ∙ ap (λ v. strings Outside v rest) (append_assoc said (escaped b) (flat_map char_value chars))

pub outside_blanks : (after said rest : List ℕ) → AreBlanks after → strings Outside said (after ++ rest) ≡ strings Outside said rest
outside_blanks [] said rest h = refl
outside_blanks (b ∷ bs) said rest h =
    let parts = and_parts (is_blank b) (list_all is_blank bs) h in
    ap (after_step (bs ++ rest)) (blank_step said b parts.0) ∙ outside_blanks bs said rest parts.1

pub quote_shape : (chars : List Char) (after rest : List ℕ) → (quoted chars ++ after) ++ rest ≡ 34 ∷ (flat_map char_bytes chars ++ 34 ∷ (after ++ rest))
quote_shape chars after rest = ap (λ l. 34 ∷ l) (ap (λ l. l ++ rest) (append_assoc (flat_map char_bytes chars) (34 ∷ []) after) ∙ append_assoc (flat_map char_bytes chars) (34 ∷ after) rest)

-- strings are read as what they say
pub outside_quotes : (quotes : List Quote) (said : List ℕ) → AllByRecursion IsQuote quotes → strings Outside said (flat_map quote_bytes quotes) ≡ Some (said ++ flat_map quote_value quotes)
outside_quotes [] said each = ap Some (sym (append-nil said))
outside_quotes (q ∷ qs) said each =
    let rest : List ℕ = flat_map quote_bytes qs in
    ap (strings Outside said) (quote_shape q.chars q.after rest)
    ∙ ap (after_step (flat_map char_bytes q.chars ++ 34 ∷ (q.after ++ rest))) (open_step said)
    ∙ inside_chars q.chars said (q.after ++ rest) each.0.chars
    ∙ outside_blanks q.after (said ++ quote_value q) rest each.0.after
    ∙ outside_quotes qs (said ++ quote_value q) each.1
    ∙ ap Some (append_assoc said (quote_value q) (flat_map quote_value qs))

-- what stands outside of a string: blanks, and then strings
pub record Outer (said bytes value : List ℕ) : Type 0 where
  pub before : List ℕ
  pub quotes : List Quote
  pub blanks : AreBlanks before
  pub each : AllByRecursion IsQuote quotes
  pub form : bytes ≡ before ++ flat_map quote_bytes quotes
  pub joined : value ≡ said ++ flat_map quote_value quotes

-- what stands in a string: characters, its end, blanks, and then strings
pub record Inner (said bytes value : List ℕ) : Type 0 where
  pub chars : List Char
  pub after : List ℕ
  pub quotes : List Quote
  pub are_chars : list_all is_char chars ≡ true
  pub blanks : AreBlanks after
  pub each : AllByRecursion IsQuote quotes
  pub form : bytes ≡ flat_map char_bytes chars ++ 34 ∷ (after ++ flat_map quote_bytes quotes)
  pub joined : value ≡ said ++ (flat_map char_value chars ++ flat_map quote_value quotes)

pub record Later (said bytes value : List ℕ) : Type 0 where
  pub byte : ℕ
  pub rest : List ℕ
  pub form : bytes ≡ byte ∷ rest
  pub inner : Inner (said ++ escaped byte) rest value

abbrev pub StringForm : Place → List ℕ → List ℕ → List ℕ → Type 0
StringForm Outside said bytes value = Outer said bytes value
StringForm Inside said bytes value = Inner said bytes value
StringForm Escaped said bytes value = Later said bytes value

outside_cases : (said : List ℕ) (b : ℕ)
    → ((b ≡ 34) × (string_step Outside said b ≡ Some (Inside, said)))
    ⊎ (((is_blank b ≡ true) × (string_step Outside said b ≡ Some (Outside, said)))
    ⊎ (string_step Outside said b ≡ None))
unfolding string_step
outside_cases said b =
    let inside : Option (Place × List ℕ) = Some (Inside, said) in
    let outside : Option (Place × List ℕ) = Some (Outside, said) in
    ⊎_elim
    (λ quote. inl (eqb-true b 34 quote.0, quote.1))
    (λ more. inr (⊎_elim (λ blank. inl blank) (λ other. inr other.2) more))
    (two_tests (b == 34) (is_blank b) inside outside None)

inside_cases : (said : List ℕ) (b : ℕ) → ((b ≡ 34) × (string_step Inside said b ≡ Some (Outside, said)))
    ⊎ (((b ≡ 92) × (string_step Inside said b ≡ Some (Escaped, said)))
    ⊎ ((is_char (Plain b) ≡ true) × (string_step Inside said b ≡ Some (Inside, said ++ b ∷ []))))
unfolding string_step
inside_cases said b = in_string {X = Option (Place × List ℕ)} b (Some (Outside, said)) (Some (Escaped, said)) (Some (Inside, said ++ b ∷ []))

-- what is read as strings has their form
pub strings_sound : (place : Place) (bytes said value : List ℕ) → strings place said bytes ≡ Some value → StringForm place said bytes value
strings_sound Outside [] said value h = record { before = []; quotes = []; blanks = refl; each = tt; form = refl; joined = let e : said ≡ value = cc in sym e ∙ sym (append-nil said) }
strings_sound Inside [] said value h = cc
strings_sound Escaped [] said value h = cc
strings_sound Outside (b ∷ bs) said value h = ⊎_elim
    (λ quote. let inner = strings_sound Inside bs said value (ap (after_step bs) (sym quote.1) ∙ h) in record {
      before = [];
      quotes = record { chars = inner.chars; after = inner.after } ∷ inner.quotes;
      blanks = refl;
      each = (record { chars = inner.are_chars; after = inner.blanks }, inner.each);
      form = ap (λ n. n ∷ bs) quote.0 ∙ ap (λ l. 34 ∷ l) inner.form ∙ sym (quote_shape inner.chars inner.after (flat_map quote_bytes inner.quotes));
      joined = inner.joined;
    })
    (⊎_elim
    (λ blank. let outer = strings_sound Outside bs said value (ap (after_step bs) (sym blank.1) ∙ h) in record {
      before = b ∷ outer.before;
      quotes = outer.quotes;
      blanks = and_from (is_blank b) (list_all is_blank outer.before) blank.0 outer.blanks;
      each = outer.each;
      form = ap (λ l. b ∷ l) outer.form;
      joined = outer.joined;
    })
    (λ none. let no : None ≡ Some value = ap (after_step bs) (sym none) ∙ h in cc))
    (outside_cases said b)
strings_sound Inside (b ∷ bs) said value h = ⊎_elim
    (λ quote. let outer = strings_sound Outside bs said value (ap (after_step bs) (sym quote.1) ∙ h) in record {
      chars = [];
      after = outer.before;
      quotes = outer.quotes;
      are_chars = refl;
      blanks = outer.blanks;
      each = outer.each;
      form = ap (λ n. n ∷ bs) quote.0 ∙ ap (λ l. 34 ∷ l) outer.form;
      joined = outer.joined;
    })
    (⊎_elim
    (λ escape. let later = strings_sound Escaped bs said value (ap (after_step bs) (sym escape.1) ∙ h) in record {
      chars = Escape later.byte ∷ later.inner.chars;
      after = later.inner.after;
      quotes = later.inner.quotes;
      are_chars = later.inner.are_chars;
      blanks = later.inner.blanks;
      each = later.inner.each;
      form = ap (λ n. n ∷ bs) escape.0 ∙ ap (λ l. 92 ∷ l) (later.form ∙ ap (λ l. later.byte ∷ l) later.inner.form);
      joined = later.inner.joined ∙ append_assoc said (escaped later.byte) _ ∙ ap (λ l. said ++ l) (sym (append_assoc (escaped later.byte) _ _));
    })
    (λ plain. let inner = strings_sound Inside bs (said ++ b ∷ []) value (ap (after_step bs) (sym plain.1) ∙ h) in record {
      chars = Plain b ∷ inner.chars;
      after = inner.after;
      quotes = inner.quotes;
      are_chars = and_from (is_char (Plain b)) (list_all is_char inner.chars) plain.0 inner.are_chars;
      blanks = inner.blanks;
      each = inner.each;
      form = ap (λ l. b ∷ l) inner.form;
      joined = inner.joined ∙ append_assoc said (b ∷ []) _;
    }))
    (inside_cases said b)
strings_sound Escaped (b ∷ bs) said value h = record {
  byte = b;
  rest = bs;
  form = refl;
  inner = strings_sound Inside bs (said ++ escaped b) value (ap (after_step bs) (sym (escaped_step said b)) ∙ h);
}
