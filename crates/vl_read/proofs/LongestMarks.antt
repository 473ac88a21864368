-- A mark before a byte that doesn't go on with it is the longest sign that begins there.
use Rattle.std.proofs.Common.{◌≡◌, ◌≢◌, ⊎_elim, ℕ, ◌≤◌, true, false, not, List, [], ◌∷◌, ◌++◌, length, take, refl, sym, ◌∙◌, ap, subst, arith, append_assoc, append-nil}
use Rattle.std.specs.Prelude.{⊤, ◌==◌, ◌&&◌, ◌||◌, nat_le, nat_eq}
use Rattle.std.specs.List.{list_all, starts_with}
use Rattle.std.specs.Cmp.Lexicographic.{pointwise}
use Rattle.std.proofs.lemmas.Bool.{and_parts, and_from, or_left, or_right, le-leb, eqb-true, both_ways, cases_Bool, not_from_false, false≢true}
use Rattle.vl_ast.specs.Tokens.{long_signs, is_longest}
use Rattle.vl_read.specs.declared.scan.Mode.TheVariants.{Mark}
use Rattle.vl_read.specs.inner.Lexemes.{class_of, extends, continues}
use Rattle.vl_read.proofs.Safe.{is_mark_class, chain, is_mark}
use Rattle.vl_read.proofs.Lexemes.{mark_class}

-- the bytes don't go on with the mark
abbrev pub IsCut : List ℕ → List ℕ → Type 0
IsCut mark [] = ⊤
IsCut mark (byte ∷ bytes) = continues Mark (class_of byte) mark byte ≡ false

goes_on : (mark : List ℕ) (byte : ℕ) → (is_mark_class (class_of byte) && extends mark byte) ≡ true → continues Mark (class_of byte) mark byte ≡ true
goes_on mark byte h =
    let parts = and_parts (is_mark_class (class_of byte)) (extends mark byte) h in
    ap (λ class. continues Mark class mark byte) (mark_class (class_of byte) parts.0) ∙ parts.1

-- a chain of bytes that begins as the mark does and goes on no further than it
within : (before sign mark after : List ℕ) → chain before sign ≡ true → IsCut (before ++ mark) after →
    pointwise nat_eq sign (take (length sign) (mark ++ after)) ≡ true → length sign ≤ length mark
within before [] mark after links cut h = omega arith
within before (z ∷ zs) [] [] links cut h = absurd (false≢true h)
within before (z ∷ zs) [] (b ∷ bs) links cut h =
    let same : z ≡ b = eqb-true z b (and_parts (z == b) _ h).0 in
    let more = (and_parts (is_mark_class (class_of z) && extends before z) _ links).0 in
    absurd (both_ways _ cut (subst (λ l. continues Mark (class_of b) l b ≡ true) (sym (append-nil before)) (subst (λ c. continues Mark (class_of c) before c ≡ true) same (goes_on before z more))))
within before (z ∷ zs) (m ∷ ms) after links cut h =
    let parts = and_parts (z == m) _ h in
    let same : z ≡ m = eqb-true z m parts.0 in
    let lined : (before ++ z ∷ []) ++ ms ≡ before ++ m ∷ ms = append_assoc before (z ∷ []) ms ∙ ap (λ c. before ++ c ∷ ms) same in
    let rest = within (before ++ z ∷ []) zs ms after (and_parts (is_mark_class (class_of z) && extends before z) _ links).1 (subst (λ l. IsCut l after) (sym lined) cut) parts.1 in
    omega (arith, rest)

no_longer : (sign mark after : List ℕ) → is_mark sign ≡ true → mark ≢ [] → IsCut mark after → starts_with nat_eq (mark ++ after) sign ≡ true → length sign ≤ length mark
no_longer [] mark after is some cut h = omega arith
no_longer (z ∷ zs) [] after is some cut h = absurd (some refl)
no_longer (z ∷ zs) (m ∷ ms) after is some cut h =
    let parts = and_parts (z == m) _ h in
    let same : z ≡ m = eqb-true z m parts.0 in
    let rest = within (z ∷ []) zs ms after (and_parts (is_mark_class (class_of z)) _ is).1 (subst (λ c. IsCut (c ∷ ms) after) (sym same) cut) parts.1 in
    omega (arith, rest)

longest_of : (signs : List (List ℕ)) (mark after : List ℕ) → list_all is_mark signs ≡ true → mark ≢ [] → IsCut mark after →
    list_all (λ longer. nat_le (length longer) (length mark) || not (starts_with nat_eq (mark ++ after) longer)) signs ≡ true
longest_of [] mark after are some cut = refl
longest_of (sign ∷ signs) mark after are some cut =
    let parts = and_parts (is_mark sign) (list_all is_mark signs) are in
    and_from _ _
    (⊎_elim (λ e. or_left _ _ (le-leb (length sign) (length mark) (no_longer sign mark after parts.0 some cut e))) (λ e. or_right _ _ (not_from_false _ e))
    (cases_Bool (starts_with nat_eq (mark ++ after) sign)))
    (longest_of signs mark after parts.1 some cut)

marks_long : list_all is_mark long_signs ≡ true
unfolding class_of extends
marks_long = refl

pub longest_here : (mark after : List ℕ) → mark ≢ [] → IsCut mark after → is_longest mark after ≡ true
longest_here mark after some cut = longest_of long_signs mark after marks_long some cut
