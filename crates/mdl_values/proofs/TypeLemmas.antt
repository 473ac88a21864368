-- The parts of a type's text.
use Rattle.std.proofs.Common.{◌≡◌, ℕ, ◌==◌, Bool, true, inl, inr, List, [], ◌∷◌, length, subst, sym, ◌∙◌, ap, refl, arith, eqb-true, Option, None, Some, ℤ, Bor}
use Rattle.std.specs.Prelude.{codes, MatchOption}
use Rattle.fx_type.specs.declared.kind.FxType.{FxType}
use Rattle.mdl_values.specs.Reads.{Finds}
use Rattle.mdl_values.specs.Pieces.{pieces_at, words_of, two_of}
use Rattle.mdl_values.specs.Types.{named_type, three_of, with_first, IsFracText, IsFracPart, IsCall, IsWordOf, IsFixdtText, IsTypeText}

pub only_same : (a b : List ℕ) → a ∷ [] ≡ b ∷ [] → a ≡ b
only_same a b e = cc

-- what the only word says, its part says
pub frac_found : (part word : List ℕ) (found : Option ℤ) → words_of part ≡ word ∷ [] → Finds (IsFracText word) found → Finds (IsFracPart part) found
frac_found part word None alone none = λ frac is.
    none frac (subst (λ (w : List ℕ). IsFracText w frac) (only_same is.word word (sym is.alone ∙ alone)) is.read)
frac_found part word (Some frac) alone read = record { word = word; alone = alone; read = read }

-- a call of `fixdt`
pub is_call : (text name behind inside after : List ℕ) → two_of (pieces_at 40 text) ≡ Some (name, behind) → name ≡ codes "fixdt"
    → two_of (pieces_at 41 behind) ≡ Some (inside, after) → after ≡ [] → IsCall text inside
is_call text name behind inside after cut named closed empty = record {
  behind = behind;
  opens = subst (λ (n : List ℕ). two_of (pieces_at 40 text) ≡ Some (n, behind)) named cut;
  closes = subst (λ (a : List ℕ). two_of (pieces_at 41 behind) ≡ Some (inside, a)) empty closed;
}

pub empty_of : (text : List ℕ) (empty : Bool) → empty ≡ (length text == 0) → empty ≡ true → text ≡ []
empty_of [] empty e is = refl
empty_of (byte ∷ bytes) empty e is = let none = eqb-true (length (byte ∷ bytes)) 0 (sym e ∙ is) in absurd (omega (arith, none))

pub pair_one : (a b c d : List ℕ) → ◌≡◌ {A = Option (List ℕ × List ℕ)} (Some (a, b)) (Some (c, d)) → (a ≡ c) × (b ≡ d)
pair_one a b c d e =
    let same : ◌≡◌ {A = List ℕ × List ℕ} (a, b) (c, d) = cc in
    (ap (λ (p : List ℕ × List ℕ). p.0) same, ap (λ (p : List ℕ × List ℕ). p.1) same)

-- a text is a call of one inside
pub call_one : (text a b : List ℕ) → IsCall text a → IsCall text b → a ≡ b
call_one text a b first second =
    let behind = pair_one (codes "fixdt") first.behind (codes "fixdt") second.behind (sym first.opens ∙ second.opens) in
    let inside = pair_one a [] b [] (sym first.closes ∙ ap (λ (t : List ℕ). two_of (pieces_at 41 t)) behind.1 ∙ second.closes) in
    inside.0

pub triple_one : (a b c x y z : List ℕ) → ◌≡◌ {A = Option (List ℕ × (List ℕ × List ℕ))} (Some (a, (b, c))) (Some (x, (y, z))) → (a ≡ x) × (b ≡ y) × (c ≡ z)
triple_one a b c x y z e =
    let same : ◌≡◌ {A = List ℕ × (List ℕ × List ℕ)} (a, (b, c)) (x, (y, z)) = cc in
    (ap (λ (p : List ℕ × (List ℕ × List ℕ)). p.0) same, ap (λ (p : List ℕ × (List ℕ × List ℕ)). p.1.0) same, ap (λ (p : List ℕ × (List ℕ × List ℕ)). p.1.1) same)

-- the word of the three parts is the type
parts_found : (text inside first second third : List ℕ) (found : Option FxType) → IsCall text inside → three_of (pieces_at 44 inside) ≡ Some (first, (second, third))
    → Finds (IsWordOf first second third) found → Finds (IsFixdtText text) found
parts_found text inside first second third None call parts none = λ type is.
    let same = call_one text is.inside inside is.call call in
    let three = triple_one is.first is.second is.third first second third (sym is.parts ∙ ap (λ (t : List ℕ). three_of (pieces_at 44 t)) same ∙ parts) in
    none type (subst (λ (a : List ℕ). IsWordOf a second third type) three.0
    (subst (λ (b : List ℕ). IsWordOf is.first b third type) three.1
    (subst (λ (c : List ℕ). IsWordOf is.first is.second c type) three.2 is.word)))
parts_found text inside first second third (Some type) call parts word = record {
  inside = inside;
  call = call;
  first = first;
  second = second;
  third = third;
  parts = parts;
  word = word;
}

pub fixdt_found : (text inside first second third : List ℕ) (behind : Option (Bor (List ℕ))) (rest : Bor (List ℕ)) (found : Option FxType) → IsCall text inside → behind ≡ Some rest
    → MatchOption behind (pieces_at 44 inside ≡ first ∷ []) (λ more. pieces_at 44 inside ≡ first ∷ pieces_at 44 more.now)
    → two_of (pieces_at 44 rest.now) ≡ Some (second, third) → Finds (IsWordOf first second third) found → Finds (IsFixdtText text) found
fixdt_found text inside first second third behind rest found call some pieces two word =
    let cut : pieces_at 44 inside ≡ first ∷ pieces_at 44 rest.now =
    subst (λ (o : Option (Bor (List ℕ))). MatchOption o (pieces_at 44 inside ≡ first ∷ [])
    (λ more. pieces_at 44 inside ≡ first ∷ pieces_at 44 more.now)) some pieces in
    parts_found text inside first second third found call (ap three_of cut ∙ ap (with_first first) two) word

no_type : (text : List ℕ) (type : FxType) → named_type text ≡ None → ¬ IsFixdtText text type → ¬ IsTypeText text type
no_type text type none no_fixdt (inl named) = let bad : ◌≡◌ {A = Option FxType} None (Some type) = sym none ∙ named in cc
no_type text type none no_fixdt (inr fixdt) = no_fixdt fixdt

-- a text that is no name is a `fixdt` or no type
pub type_found : (text : List ℕ) (found : Option FxType) → named_type text ≡ None → Finds (IsFixdtText text) found → Finds (IsTypeText text) found
type_found text None none no_fixdt = λ type. no_type text type none (no_fixdt type)
type_found text (Some type) none fixdt = inr fixdt
