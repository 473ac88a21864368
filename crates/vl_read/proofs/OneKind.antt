-- What a lexeme is, read as each kind for itself.
use Rattle.std.proofs.Common.{◌≡◌, ℕ, ◌+◌, ◌*◌, ◌^◌, Bool, true, false, cond, List, [], ◌∷◌, length, Option, Some, None, refl, sym, ◌∙◌, ap, arith, bytes_eq, codes, option_and_then, option_map}
use Rattle.std.specs.Prelude.{◌==◌, ◌&&◌, nat_le, nat_lt}
use Rattle.std.specs.Char.{digit_value, is_ascii_digit}
use Rattle.std.proofs.lemmas.Bool.{and_left, true≢false, cond_both}
use Rattle.std.proofs.lemmas.Slice.Eq.{bytes_eq-Decides}
use Rattle.vl_ast.specs.declared.expressions.Sized.{Sized}
use Rattle.vl_names.specs.Identifiers.{is_identifier}
use Rattle.vl_read.specs.declared.scan.Kind.{Kind}
use Rattle.vl_read.specs.declared.scan.Kind.TheVariants.{Name, Fixed}
use Rattle.vl_read.specs.inner.Lexemes.{begins_number, kind_of, kind_by, dec_of, sized_of, sized_in, is_nonempty, number_after, around_quote}
use Rattle.vl_read.specs.inner.LexemeSteps.{is_name, count_of, constant_of}
use Rattle.vl_read.proofs.LexemeKinds.{not_letter, dec_kind, based_kind}
use Rattle.vl_read.proofs.KindSound.{dec_sound, sized_sound}
use Rattle.vl_read.proofs.ShortNumbers.{digit_range, other_digit}

named : (t : Bool) (o : Option ℕ) (s : Option Sized) → is_name (cond t Name (kind_by o s)) ≡ t
named true o s = refl
named false (Some n) s = refl
named false None (Some s) = refl
named false None None = refl

pub name_is : (lexeme : List ℕ) → is_name (kind_of lexeme) ≡ is_identifier lexeme
unfolding kind_of
name_is lexeme = named (is_identifier lexeme) (dec_of lexeme) (sized_of lexeme)

-- what a number is read as, where there is one and where there is none
read_as : {A : Type 0} (read : Kind → Option A) (kind : Option A → Kind) (o : Option A) → ((x : A) → o ≡ Some x → read (kind o) ≡ Some x) → read (kind None) ≡ None → read (kind o) ≡ o
read_as read kind None some none = none
read_as read kind (Some x) some none = some x refl

uncounted : (t : Bool) (s : Option Sized) → count_of (cond t Name (kind_by None s)) ≡ None
uncounted true s = refl
uncounted false (Some s) = refl
uncounted false None = refl

inconstant : (t : Bool) (o : Option ℕ) → constant_of (cond t Name (kind_by o None)) ≡ None
inconstant true o = refl
inconstant false (Some n) = refl
inconstant false None = refl

pub count_is : (lexeme : List ℕ) → count_of (kind_of lexeme) ≡ dec_of lexeme
unfolding kind_of
count_is lexeme =
    read_as count_of (λ o. cond (is_identifier lexeme) Name (kind_by o (sized_of lexeme))) (dec_of lexeme)
    (λ n e. ap count_of (dec_kind n lexeme (dec_sound lexeme n e))) (uncounted (is_identifier lexeme) (sized_of lexeme))

pub constant_is : (lexeme : List ℕ) → constant_of (kind_of lexeme) ≡ sized_of lexeme
unfolding kind_of
constant_is lexeme =
    read_as constant_of (λ o. cond (is_identifier lexeme) Name (kind_by (dec_of lexeme) o)) (sized_of lexeme)
    (λ s e. ap constant_of (based_kind s lexeme (sized_sound lexeme s e))) (inconstant (is_identifier lexeme) (dec_of lexeme))

-- `signed` is no name
pub signed_is : (lexeme : List ℕ) → bytes_eq lexeme (codes "signed") ≡ true → is_name (kind_of lexeme) ≡ false
signed_is lexeme is =
    let same : lexeme ≡ codes "signed" = (bytes_eq-Decides lexeme (codes "signed")).0 is in
    name_is lexeme ∙ ap is_identifier same

-- what begins with a digit is no name
unnamed : (d : ℕ) (ds : List ℕ) → is_ascii_digit d ≡ true → is_identifier (d ∷ ds) ≡ false
unnamed d ds h =
    let range = digit_range d h in
    and_left _ _ (and_left _ _ (not_letter d (omega (arith, range.1))))

pub number_first : (lexeme : List ℕ) → begins_number lexeme ≡ true → kind_of lexeme ≡ kind_by (dec_of lexeme) (sized_of lexeme)
unfolding kind_of
number_first [] h = absurd (true≢false (sym h))
number_first (d ∷ ds) h = ap (λ t. cond t Name (kind_by (dec_of (d ∷ ds)) (sized_of (d ∷ ds)))) (unnamed d ds h)

-- what begins with another byte is no number
undigited : (d : ℕ) (ds : List ℕ) → is_ascii_digit d ≡ false → dec_of (d ∷ ds) ≡ None
unfolding dec_of
undigited d ds h =
    let none : number_after 10 0 (d ∷ ds) ≡ None =
    ap (λ t. cond (t && nat_lt (0 * 10 + digit_value d) (2 ^ 128)) (number_after 10 (0 * 10 + digit_value d) ds) None) (other_digit d h) in
    cond_both (is_nonempty (d ∷ ds) && nat_le (length (d ∷ ds)) 9) (number_after 10 0 (d ∷ ds)) None (λ o. o ≡ None) (λ _. none) (λ _. refl)

-- the number of these parts
abbrev of_parts : Option (List ℕ × List ℕ) → Option Sized
of_parts = option_and_then (λ (parts : List ℕ × List ℕ). option_and_then (λ width. sized_in width parts.1) (dec_of parts.0))

-- with a byte more before the apostrophe
abbrev longer : ℕ → Option (List ℕ × List ℕ) → Option (List ℕ × List ℕ)
longer d = option_map (λ (parts : List ℕ × List ℕ). (d ∷ parts.0, parts.1))

no_width : (d : ℕ) (o : Option (List ℕ × List ℕ)) → is_ascii_digit d ≡ false → of_parts (longer d o) ≡ None
no_width d None h = refl
no_width d (Some parts) h = ap (option_and_then (λ width. sized_in width parts.1)) (undigited d parts.0 h)

by_quote : (d : ℕ) (ds : List ℕ) (t : Bool) → is_ascii_digit d ≡ false → of_parts (cond t (Some ([], ds)) (longer d (around_quote ds))) ≡ None
unfolding dec_of
by_quote d ds true h = refl
by_quote d ds false h = no_width d (around_quote ds) h

unsized : (d : ℕ) (ds : List ℕ) → is_ascii_digit d ≡ false → sized_of (d ∷ ds) ≡ None
unfolding sized_of
unsized d ds h = by_quote d ds (d == 39) h

empty_fixed : kind_of [] ≡ Fixed
unfolding kind_of dec_of sized_of
empty_fixed = refl

pub other_first : (lexeme : List ℕ) → begins_number lexeme ≡ false → kind_of lexeme ≡ cond (is_identifier lexeme) Name Fixed
unfolding kind_of
other_first [] h = empty_fixed
other_first (d ∷ ds) h =
    ap (λ o. cond (is_identifier (d ∷ ds)) Name (kind_by o (sized_of (d ∷ ds)))) (undigited d ds h)
    ∙ ap (λ o. cond (is_identifier (d ∷ ds)) Name (kind_by None o)) (unsized d ds h)
