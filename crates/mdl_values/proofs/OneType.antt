-- A text is at most one type.
use Rattle.std.proofs.Common.{◌≡◌, ℕ, inl, inr, Bool, true, false, cond, List, Option, None, Some, refl, sym, ◌∙◌, ap, subst, ℤ}
use Rattle.std.specs.Prelude.{bytes_eq, codes, pos, neg_ℤ, if◌then◌else◌}
use Rattle.std.proofs.lemmas.Slice.Eq.{bytes_eq-Decides}
use Rattle.fx_type.specs.declared.kind.FxType.{FxType}
use Rattle.fx_type.specs.declared.kind.FxType.TheVariants.{Num}
use Rattle.mdl_values.specs.Numbers.{IsNumberText}
use Rattle.mdl_values.specs.Pieces.{pieces_at, two_of}
use Rattle.mdl_values.specs.Types.{named_type, signedness_of, three_of, is_negative, behind_first, IsFracText, IsSignPart, IsWidthPart, IsFracPart, IsWordOf, IsFixdtText, IsTypeText}
use Rattle.mdl_values.proofs.OneNumber.{one_number}
use Rattle.mdl_values.proofs.TypeLemmas.{only_same, call_one, triple_one}

-- ---- names

-- where a text is this word, or the choice goes on
by_word : (goal : Type 0) (text word : List ℕ) (type : FxType) (rest : Option FxType) (t : FxType)
    → (text ≡ word → goal) → (rest ≡ Some type → goal) → cond (bytes_eq text word) (Some t) rest ≡ Some type → goal
by_word goal text word type rest t here later e = by (bytes_eq text word) refl e
  where
    by : (b : Bool) → bytes_eq text word ≡ b → cond b (Some t) rest ≡ Some type → goal
    by true is h = here ((bytes_eq-Decides text word).0 is)
    by false is h = later h

none_some : (type : FxType) → None ≡ Some type → ⊥
none_some type e = cc

-- a name has no parenthesis
uncut : List ℕ → Type 0
uncut text = two_of (pieces_at 40 text) ≡ None

named_uncut : (text : List ℕ) (type : FxType) → named_type text ≡ Some type → uncut text
unfolding uncut
named_uncut text type e =
    by_word (uncut text) text (codes "int8") type _ _ (λ is. ap (λ (t : List ℕ). two_of (pieces_at 40 t)) is)
    (by_word (uncut text) text (codes "int16") type _ _ (λ is. ap (λ (t : List ℕ). two_of (pieces_at 40 t)) is)
    (by_word (uncut text) text (codes "int32") type _ _ (λ is. ap (λ (t : List ℕ). two_of (pieces_at 40 t)) is)
    (by_word (uncut text) text (codes "uint8") type _ _ (λ is. ap (λ (t : List ℕ). two_of (pieces_at 40 t)) is)
    (by_word (uncut text) text (codes "uint16") type _ _ (λ is. ap (λ (t : List ℕ). two_of (pieces_at 40 t)) is)
    (by_word (uncut text) text (codes "uint32") type _ _ (λ is. ap (λ (t : List ℕ). two_of (pieces_at 40 t)) is)
    (by_word (uncut text) text (codes "boolean") type _ _ (λ is. ap (λ (t : List ℕ). two_of (pieces_at 40 t)) is)
    (λ h. absurd (none_some type h)))))))) e

-- ---- `fixdt`

some_bool : (a b : Bool) → ◌≡◌ {A = Option Bool} (Some a) (Some b) → a ≡ b
some_bool a b e = cc

pub some_type : (a b : FxType) → ◌≡◌ {A = Option FxType} (Some a) (Some b) → a ≡ b
some_type a b e = cc

one_sign : (part : List ℕ) (one other : Bool) → IsSignPart part one → IsSignPart part other → one ≡ other
one_sign part one other is too = some_bool one other (sym is.read ∙ ap signedness_of (only_same is.word too.word (sym is.alone ∙ too.alone)) ∙ too.read)

one_width : (part : List ℕ) (one other : ℕ) → IsWidthPart part one → IsWidthPart part other → one ≡ other
one_width part one other is too =
    one_number 1 128 too.word one other (subst (λ (word : List ℕ). IsNumberText 1 128 word one) (only_same is.word too.word (sym is.alone ∙ too.alone)) is.read) too.read

one_frac_text : (text : List ℕ) (one other : ℤ) → IsFracText text one → IsFracText text other → one ≡ other
one_frac_text text one other is too =
    let size = one_number 0 128 (if is_negative text then behind_first text else text) is.size too.size is.read too.read in
    is.value ∙ ap (λ (n : ℕ). if is_negative text then neg_ℤ (pos n) else pos n) size ∙ sym too.value

one_frac : (part : List ℕ) (one other : ℤ) → IsFracPart part one → IsFracPart part other → one ≡ other
one_frac part one other is too =
    one_frac_text too.word one other (subst (λ (word : List ℕ). IsFracText word one) (only_same is.word too.word (sym is.alone ∙ too.alone)) is.read) too.read

one_word : (first second third : List ℕ) (one other : FxType) → IsWordOf first second third one → IsWordOf first second third other → one ≡ other
one_word first second third one other is too =
    is.type_is
    ∙ ap (λ (signed : Bool). Num signed is.width is.frac) (one_sign first is.signed too.signed is.sign_is too.sign_is)
    ∙ ap (λ (width : ℕ). Num too.signed width is.frac) (one_width second is.width too.width is.width_is too.width_is)
    ∙ ap (λ (frac : ℤ). Num too.signed too.width frac) (one_frac third is.frac too.frac is.frac_is too.frac_is)
    ∙ sym too.type_is

one_fixdt : (text : List ℕ) (one other : FxType) → IsFixdtText text one → IsFixdtText text other → one ≡ other
one_fixdt text one other is too =
    let inside = call_one text is.inside too.inside is.call too.call in
    let three = triple_one is.first is.second is.third too.first too.second too.third (sym is.parts ∙ ap (λ (t : List ℕ). three_of (pieces_at 44 t)) inside ∙ too.parts) in
    one_word too.first too.second too.third one other
    (subst (λ (a : List ℕ). IsWordOf a too.second too.third one) three.0
    (subst (λ (b : List ℕ). IsWordOf is.first b too.third one) three.1
    (subst (λ (c : List ℕ). IsWordOf is.first is.second c one) three.2 is.word))) too.word

none_pair : (pair : List ℕ × List ℕ) → None ≡ Some pair → ⊥
none_pair pair e = cc

apart : (text : List ℕ) (one other : FxType) → named_type text ≡ Some one → IsFixdtText text other → ⊥
unfolding uncut
apart text one other named fixdt = none_pair (codes "fixdt", fixdt.call.behind) (sym (named_uncut text one named) ∙ fixdt.call.opens)

pub one_type : (text : List ℕ) (one other : FxType) → IsTypeText text one → IsTypeText text other → one ≡ other
one_type text one other (inl is) (inl too) = some_type one other (sym is ∙ too)
one_type text one other (inl is) (inr too) = absurd (apart text one other is too)
one_type text one other (inr is) (inl too) = absurd (apart text other one too is)
one_type text one other (inr is) (inr too) = one_fixdt text one other is too
