-- The names that are given beside those of the handshake are such as the wrapper asks for.
use Rattle.std.proofs.Common.{◌≡◌, ◌≢◌, ℕ, suc, ◌<◌, ⊎_elim, Bool, true, false, not, ◌&&◌, if◌then◌else◌, List, [], ◌∷◌, ◌++◌, length, All, Contains, bytes_eq, codes, decimal, nat_eq, refl, ap, subst}
use Rattle.std.proofs.Common.{◌∙◌, arith}
use Rattle.std.specs.Prelude.{slice_index_or}
use Rattle.std.specs.List.{AllByRecursion, IsDistinct, starts_with}
use Rattle.std.proofs.lemmas.Bool.{cases_Bool}
use Rattle.std.proofs.lemmas.List.Elements.{All-contains_itself, Contains-append_left, Contains-append_right, Contains-append_cases}
use Rattle.std.proofs.lemmas.Slice.Eq.{bytes_eq-Decides}
use Rattle.hw_build.proofs.NameForms.{IsWanted, names_are}
use Rattle.hw_names.specs.Names.{Given, IsGiven, handshake_names, own_names, port_name}
use Rattle.st_wrap.specs.Names.{IsColumnName}
use Rattle.math_list.proofs.Elements.{cons-cases, head-in, none-in, tail-in}
use Rattle.vl_names.specs.Identifiers.{is_identifier}

-- what is taken from the start
abbrev pub taken_names : List (List ℕ)
taken_names = handshake_names ++ own_names

-- no name of a port begins as the module's own
plain-by : (one two : Bool) (name : List ℕ) → two ≡ not (starts_with nat_eq name (codes "fx_")) → starts_with nat_eq (if one && two then name else codes "p_" ++ name) (codes "fx_") ≡ false
plain-by true true name is = by (starts_with nat_eq name (codes "fx_")) refl where
  by : (b : Bool) → starts_with nat_eq name (codes "fx_") ≡ b → starts_with nat_eq name (codes "fx_") ≡ false
  by true s = absurd (let e : true ≡ false = is ∙ ap not s in cc e)
  by false s = s
plain-by true false name is = refl
plain-by false two name is = refl

port-plain : (name : List ℕ) → starts_with nat_eq (port_name name) (codes "fx_") ≡ false
port-plain name = plain-by (is_identifier name) (not (starts_with nat_eq name (codes "fx_"))) name refl

given-plain : (taken : List (List ℕ)) (wanted name : List ℕ) → IsWanted wanted → IsGiven taken wanted name → starts_with nat_eq name (codes "fx_") ≡ false
given-plain taken wanted name want given = ⊎_elim
    (λ same. ap (λ n. starts_with nat_eq n (codes "fx_")) (same ∙ want.2) ∙ port-plain want.0)
    (λ other. ap (λ n. starts_with nat_eq n (codes "fx_")) other.1.is ∙ port-plain (wanted ++ (codes "_" ++ decimal other.1.number)))
    given.is

-- a name is free of what was taken
column-name : (name : List ℕ) → is_identifier name ≡ true → starts_with nat_eq name (codes "fx_") ≡ false → (Contains taken_names name → ⊥) → IsColumnName name
column-name name identifier plain free = record {
  identifier = identifier;
  plain = plain;
  free = λ c. free (⊎_elim
      (λ own. Contains-append_right handshake_names own_names name own)
      (λ shake. Contains-append_left handshake_names own_names name shake)
      (Contains-append_cases own_names handshake_names name c));
}

-- each is one, by the names that were taken before
each-name : (taken wanted names : List (List ℕ)) → ((own : List ℕ) → Contains taken_names own → Contains taken own)
    → All IsWanted wanted → ((j : ℕ) (d : List ℕ) → j < length names → is_identifier (slice_index_or names j d) ≡ true)
    → Given taken wanted names → (n : List ℕ) → Contains names n → IsColumnName n
each-name taken [] [] own are words g n c = absurd (none-in n c)
each-name taken [] (name ∷ names) own are words g n c = absurd g
each-name taken (want ∷ wanted) [] own are words g n c = absurd (none-in n c)
each-name taken (want ∷ wanted) (name ∷ names) own are words g n c = ⊎_elim
    (λ e. subst IsColumnName e (column-name name (words 0 [] (omega arith)) (given-plain taken want name (are 0 [] (omega arith)) g.0) (λ h. g.0.free (own name h))))
    (λ t. each-name (name ∷ taken) wanted names (λ o h. tail-in name o taken (own o h)) (λ j d low. are (suc j) d (omega (arith, low))) (λ j d low. words (suc j) d (omega (arith, low))) g.1 n t)
    (cons-cases name n names c)

-- none is one that was taken
others : (taken wanted names : List (List ℕ)) → Given taken wanted names → (n : List ℕ) → Contains taken n → AllByRecursion (λ y. bytes_eq n y ≡ false) names
others taken [] [] g n c = tt
others taken [] (name ∷ names) g n c = absurd g
others taken (want ∷ wanted) [] g n c = absurd g
others taken (want ∷ wanted) (name ∷ names) g n c =
    (unequal n name (λ e. g.0.free (subst (λ x. Contains taken x) e c)), others (name ∷ taken) wanted names g.1 n (tail-in name n taken c))
  where
    unequal : (a b : List ℕ) → a ≢ b → bytes_eq a b ≡ false
    unequal a b other = ⊎_elim (λ t. absurd (other ((bytes_eq-Decides a b).0 t))) (λ f. f) (cases_Bool (bytes_eq a b))

-- and no two are the same
pub names-apart : (taken wanted names : List (List ℕ)) → Given taken wanted names → IsDistinct bytes_eq names
unfolding IsDistinct
names-apart taken [] [] g = tt
names-apart taken [] (name ∷ names) g = absurd g
names-apart taken (want ∷ wanted) [] g = absurd g
names-apart taken (want ∷ wanted) (name ∷ names) g = (others (name ∷ taken) wanted names g.1 name (head-in name taken), names-apart (name ∷ taken) wanted names g.1)

-- each is a name of a column, where each that is wanted is a name
pub names-each : (wanted names : List (List ℕ)) → All IsWanted wanted → Given taken_names wanted names → All IsColumnName names
names-each wanted names are given = λ k d low.
    each-name taken_names wanted names (λ own c. c) are
    (λ j e less. (names_are taken_names wanted names (λ own c. Contains-append_right handshake_names own_names own c) are given j e less).identifier)
    given _ (All-contains_itself names k d low)
