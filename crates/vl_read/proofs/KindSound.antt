-- What the kind of a lexeme says of how its token is written.
use Rattle.std.proofs.Common.{◌+◌, ◌*◌, ◌≡◌, ℕ, ◌<◌, ◌≤◌, ◌^◌, ◌⊎◌, Bool, true, false, cond, subst, List, [], ◌∷◌, ◌++◌, length, Option, Some, None, inl, inr, refl, sym, ◌∙◌, ap, arith, codes}
use Rattle.std.proofs.Common.{option_and_then, option_map, eqb-true}
use Rattle.std.specs.Prelude.{◌==◌, ◌&&◌, ◌||◌, nat_le, nat_lt}
use Rattle.std.proofs.lemmas.Bool.{and_parts, or_cases, cond_both, ltb-true, leb-true}
use Rattle.std.specs.Str.Parse.{IsNumeral, digits_value}
use Rattle.std.specs.Char.{digit_value}
use Rattle.vl_ast.specs.declared.expressions.Sized.{Sized}
use Rattle.vl_ast.specs.Tokens.{IsDec, IsBased, IsSignMark, base_of}
use Rattle.vl_names.specs.Identifiers.{is_identifier}
use Rattle.vl_read.specs.declared.scan.Kind.{Kind}
use Rattle.vl_read.specs.declared.scan.Kind.TheVariants.{Name, Count, Constant, Fixed}
use Rattle.vl_read.specs.inner.Lexemes.{kind_of, kind_by, dec_of, sized_of, sized_in, sized_after, sized_by, sized_as, number_after, around_quote, is_digit, is_nonempty}
use Rattle.vl_read.proofs.Digits.{number_gives, around_mark}
use Rattle.math_list.proofs.Tests.{cond_some}

pub then_some : {A B : Type 0} (o : Option A) (f : A → Option B) (b : B) → option_and_then f o ≡ Some b → (a : A) × (o ≡ Some a) × (f a ≡ Some b)
then_some None f b e = let no : ⊥ = cc in absurd no
then_some (Some a) f b e = (a, refl, e)

as_name : (t : Bool) (o : Option ℕ) (s : Option Sized) → cond t Name (kind_by o s) ≡ Name → t ≡ true
as_name true o s e = refl
as_name false (Some n) s e = cc
as_name false None (Some s) e = cc
as_name false None None e = cc

pub name_sound : (lexeme : List ℕ) → kind_of lexeme ≡ Name → is_identifier lexeme ≡ true
unfolding kind_of
name_sound lexeme e = as_name (is_identifier lexeme) (dec_of lexeme) (sized_of lexeme) e

as_count : (t : Bool) (o : Option ℕ) (s : Option Sized) (n : ℕ) → cond t Name (kind_by o s) ≡ Count n → o ≡ Some n
as_count true o s n e = cc
as_count false (Some m) s n e = cc
as_count false None (Some s) n e = cc
as_count false None None n e = cc

as_constant : (t : Bool) (o : Option ℕ) (s : Option Sized) (n : Sized) → cond t Name (kind_by o s) ≡ Constant n → s ≡ Some n
as_constant true o s n e = cc
as_constant false (Some m) s n e = cc
as_constant false None (Some s) n e = cc
as_constant false None None n e = cc

positive : (digits : List ℕ) → is_nonempty digits ≡ true → 0 < length digits
positive [] h = let no : ⊥ = cc in absurd no
positive (d ∷ ds) h = omega arith

pub dec_sound : (digits : List ℕ) (n : ℕ) → dec_of digits ≡ Some n → IsDec n digits
unfolding dec_of
dec_sound digits n e =
    let r = cond_some (is_nonempty digits && nat_le (length digits) 9) (number_after 10 0 digits) n e in
    let both = and_parts (is_nonempty digits) (nat_le (length digits) 9) r.0 in
    let gives = number_gives 10 digits 0 n r.1 in
    record { numeral = (positive digits both.0, gives.0); short = leb-true (length digits) 9 both.1; value = gives.1 }

pub count_sound : (lexeme : List ℕ) (n : ℕ) → kind_of lexeme ≡ Count n → IsDec n lexeme
unfolding kind_of
count_sound lexeme n e = dec_sound lexeme n (as_count (is_identifier lexeme) (dec_of lexeme) (sized_of lexeme) n e)

-- based numbers
number_fits : (base : ℕ) (digits : List ℕ) (n m : ℕ) → n < 2 ^ 128 → number_after base n digits ≡ Some m → m < 2 ^ 128
number_fits base [] n m h e = let same : n ≡ m = cc in omega (arith, h, same)
number_fits base (d ∷ ds) n m h e =
    let r = cond_some (is_digit base d && nat_lt (n * base + digit_value d) (2 ^ 128)) (number_after base (n * base + digit_value d) ds) m e in
    number_fits base ds (n * base + digit_value d) m (ltb-true (n * base + digit_value d) (2 ^ 128) (and_parts (is_digit base d) (nat_lt (n * base + digit_value d) (2 ^ 128)) r.0).1) r.1

-- what stands after the mark of a signed number
record After (width : ℕ) (signed : Bool) (bytes : List ℕ) (s : Sized) : Type 0 where
  letter : ℕ
  base : ℕ
  digits : List ℕ
  text : bytes ≡ letter ∷ digits
  width_is : s.width ≡ width
  signed_is : s.signed ≡ signed
  base_is : base_of letter ≡ Some base
  numeral : IsNumeral base digits
  short : length digits ≤ 128
  value : digits_value base digits ≡ s.bits
  fits : s.bits < 2 ^ 128

sized_gives : (width : ℕ) (signed : Bool) (o : Option ℕ) (s : Sized) → sized_as width signed o ≡ Some s → (m : ℕ) × (o ≡ Some m) × (record { width = width; signed = signed; bits = m } ≡ s)
sized_gives width signed None s e = let no : ⊥ = cc in absurd no
sized_gives width signed (Some m) s e = (m, refl, cc)

after_sound : (width : ℕ) (signed : Bool) (bytes : List ℕ) (s : Sized) → sized_after width signed bytes ≡ Some s → After width signed bytes s
after_sound width signed [] s e = let no : ⊥ = cc in absurd no
after_sound width signed (letter ∷ digits) s e =
    let b = then_some (base_of letter) (λ base. sized_by width signed base digits) s e in
    let r = cond_some (is_nonempty digits && nat_le (length digits) 128) (sized_as width signed (number_after b.0 0 digits)) s b.2 in
    let both = and_parts (is_nonempty digits) (nat_le (length digits) 128) r.0 in
    let g = sized_gives width signed (number_after b.0 0 digits) s r.1 in
    let gives = number_gives b.0 digits 0 g.0 g.1 in
    let bits : g.0 ≡ s.bits = ap (λ (x : Sized). x.bits) g.2 in
    let small : 0 < 2 ^ 128 = omega arith in
    let below : g.0 < 2 ^ 128 = number_fits b.0 digits 0 g.0 small g.1 in
    record {
      letter = letter;
      base = b.0;
      digits = digits;
      text = refl;
      width_is = sym (ap (λ (x : Sized). x.width) g.2);
      signed_is = sym (ap (λ (x : Sized). x.signed) g.2);
      base_is = b.1;
      numeral = (positive digits both.0, gives.0);
      short = leb-true (length digits) 128 both.1;
      value = gives.1 ∙ bits;
      fits = omega (arith, below, bits);
    }

pub mapped_some : {A B : Type 0} (f : A → B) (o : Option A) (b : B) → option_map f o ≡ Some b → (a : A) × (o ≡ Some a) × (f a ≡ b)
mapped_some f None b e = let no : ⊥ = cc in absurd no
mapped_some f (Some a) b e = (a, refl, cc)

-- what stands before the first apostrophe, and what after it
quote_sound : (bytes : List ℕ) (parts : List ℕ × List ℕ) → around_quote bytes ≡ Some parts → bytes ≡ parts.0 ++ 39 ∷ parts.1
quote_sound [] parts e = let no : ⊥ = cc in absurd no
quote_sound (b ∷ bs) parts e =
    cond_both (b == 39) (Some ([], bs)) (option_map (λ (parts : List ℕ × List ℕ). (b ∷ parts.0, parts.1)) (around_quote bs)) (λ o. o ≡ Some parts → b ∷ bs ≡ parts.0 ++ 39 ∷ parts.1)
    (λ t h. let same : ([], bs) ≡ parts = cc in subst (λ (p : List ℕ × List ℕ). b ∷ bs ≡ p.0 ++ 39 ∷ p.1) same (ap (λ x. x ∷ bs) (eqb-true b 39 t)))
    (λ t h. let r = mapped_some (λ (parts : List ℕ × List ℕ). (b ∷ parts.0, parts.1)) (around_quote bs) parts h in
    subst (λ (p : List ℕ × List ℕ). b ∷ bs ≡ p.0 ++ 39 ∷ p.1) r.2 (ap (λ x. b ∷ x) (quote_sound bs r.0 r.1)))
    e

-- what stands after the apostrophe
record Marked (width : ℕ) (bytes : List ℕ) (s : Sized) : Type 0 where
  mark : List ℕ
  signed : Bool
  rest : List ℕ
  text : bytes ≡ mark ++ rest
  mark_is : IsSignMark signed mark
  after : After width signed rest s

marked_sound : (width : ℕ) (bytes : List ℕ) (s : Sized) → sized_in width bytes ≡ Some s → Marked width bytes s
marked_sound width [] s e = let no : ⊥ = cc in absurd no
marked_sound width (b ∷ bs) s e =
    cond_both (b == 115 || b == 83) (sized_after width true bs) (sized_after width false (b ∷ bs)) (λ o. o ≡ Some s → Marked width (b ∷ bs) s)
    (λ t h. record { mark = b ∷ []; signed = true; rest = bs; text = refl; mark_is = sign_mark t; after = after_sound width true bs s h })
    (λ t h. record { mark = []; signed = false; rest = b ∷ bs; text = refl; mark_is = refl; after = after_sound width false (b ∷ bs) s h })
    e
  where
    sign_mark : (b == 115 || b == 83) ≡ true → (b ∷ [] ≡ codes "s") ⊎ (b ∷ [] ≡ codes "S")
    sign_mark t = elim (or_cases (b == 115) (b == 83) t) as
        (λ x. (b ∷ [] ≡ codes "s") ⊎ (b ∷ [] ≡ codes "S")) [
          | inl h ↦ inl (ap (λ x. x ∷ []) (eqb-true b 115 h))
          | inr h ↦ inr (ap (λ x. x ∷ []) (eqb-true b 83 h))
        ]

based_as : (lexeme : List ℕ) (s : Sized) (parts : List ℕ × List ℕ) (width : ℕ) → lexeme ≡ parts.0 ++ 39 ∷ parts.1 → IsDec width parts.0 → Marked width parts.1 s → IsBased s lexeme
based_as lexeme s parts width text dec marked =
    let after : After width marked.signed marked.rest s = marked.after in
    record {
      width = parts.0;
      mark = marked.mark;
      letter = after.letter;
      base = after.base;
      digits = after.digits;
      text = text ∙ ap (λ t. parts.0 ++ 39 ∷ t) (marked.text ∙ ap (λ t. marked.mark ++ t) after.text) ∙ sym (around_mark parts.0 marked.mark (after.letter ∷ after.digits));
      width_is = subst (λ n. IsDec n parts.0) (sym after.width_is) dec;
      mark_is = subst (λ b. IsSignMark b marked.mark) (sym after.signed_is) marked.mark_is;
      base_is = after.base_is;
      numeral = after.numeral;
      short = after.short;
      value = after.value;
      fits = after.fits;
    }

pub sized_sound : (lexeme : List ℕ) (s : Sized) → sized_of lexeme ≡ Some s → IsBased s lexeme
unfolding sized_of
sized_sound lexeme s is =
    let p = then_some (around_quote lexeme) (λ (parts : List ℕ × List ℕ). option_and_then (λ width. sized_in width parts.1) (dec_of parts.0)) s is in
    let w = then_some (dec_of p.0.0) (λ width. sized_in width p.0.1) s p.2 in
    based_as lexeme s p.0 w.0 (quote_sound lexeme p.0 p.1) (dec_sound p.0.0 w.0 w.1) (marked_sound w.0 p.0.1 s w.2)

pub constant_sound : (lexeme : List ℕ) (s : Sized) → kind_of lexeme ≡ Constant s → IsBased s lexeme
unfolding kind_of
constant_sound lexeme s e = sized_sound lexeme s (as_constant (is_identifier lexeme) (dec_of lexeme) (sized_of lexeme) s e)

-- how a token of the kind may be written
abbrev pub IsOfKind : Kind → List ℕ → Type 0
IsOfKind Name lexeme = is_identifier lexeme ≡ true
IsOfKind (Count n) lexeme = IsDec n lexeme
IsOfKind (Constant s) lexeme = IsBased s lexeme
IsOfKind Fixed lexeme = Unit {0}

pub kind_means : (lexeme : List ℕ) → IsOfKind (kind_of lexeme) lexeme
kind_means lexeme = by_kind (kind_of lexeme) refl
  where
    by_kind : (kind : Kind) → kind_of lexeme ≡ kind → IsOfKind kind lexeme
    by_kind Name e = name_sound lexeme e
    by_kind (Count n) e = count_sound lexeme n e
    by_kind (Constant s) e = constant_sound lexeme s e
    by_kind Fixed e = tt
