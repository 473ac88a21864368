-- The names of the whole model's ports.
use Rattle.std.proofs.Common.{◌≡◌, inl, ⊎_elim, ℕ, ◌≤◌, List, [], ◌∷◌, ◌++◌, Contains, codes, refl, sym, ap, subst, ◌∙◌, arith}
use Rattle.std.specs.Prelude.{slice_index}
use Rattle.std.specs.Fmt.{digits}
use Rattle.std.specs.List.{AllByRecursion}
use Rattle.hw_names.specs.Names.{AreNames, AreStreamNames, Given, IsGiven, handshake_names, own_names, wanted_names}
use Rattle.math_list.proofs.ByRecursion.{all_of}
use Rattle.tests_premises.specs.Whole.{diagram, whole_names}

wanted_are : wanted_names diagram ≡ whole_names
unfolding digits
wanted_are = refl

-- ---- none of them is taken
abbrev IsOther : List ℕ → List ℕ → Type 0
IsOther wanted name = name ≡ wanted → ⊥

not_among : (wanted : List ℕ) (taken : List (List ℕ)) → AllByRecursion (IsOther wanted) taken → ¬ Contains taken wanted
not_among wanted taken each (k, below, at) = all_of (IsOther wanted) taken each k wanted below at

-- the names that a module has itself begin with other bytes
not_own : (wanted : List ℕ) → 115 ≤ slice_index wanted 0 → AllByRecursion (IsOther wanted) own_names
not_own wanted high = (
  λ same. let byte : 99 ≡ slice_index wanted 0 = ap (λ (name : List ℕ). slice_index name 0) same in absurd (omega (arith, byte, high)),
  (
    λ same. let byte : 114 ≡ slice_index wanted 0 = ap (λ (name : List ℕ). slice_index name 0) same in absurd (omega (arith, byte, high)),
    (
      λ same. let byte : 99 ≡ slice_index wanted 0 = ap (λ (name : List ℕ). slice_index name 0) same in absurd (omega (arith, byte, high)),
      (
        λ same. let byte : 99 ≡ slice_index wanted 0 = ap (λ (name : List ℕ). slice_index name 0) same in absurd (omega (arith, byte, high)),
        tt,
      ),
    ),
  ),
)

u_y : (u y : List ℕ) → slice_index u 0 ≡ 117 → slice_index y 0 ≡ 121 → IsOther y u
u_y u y a b same = let byte : slice_index u 0 ≡ slice_index y 0 = ap (λ (name : List ℕ). slice_index name 0) same in absurd (omega (arith, byte, a, b))

zero_one : (zero one : List ℕ) → slice_index zero 2 ≡ 48 → slice_index one 2 ≡ 49 → IsOther one zero
zero_one zero one a b same = let byte : slice_index zero 2 ≡ slice_index one 2 = ap (λ (name : List ℕ). slice_index name 2) same in absurd (omega (arith, byte, a, b))

-- so each is given
given_is : (taken : List (List ℕ)) (wanted name : List ℕ) → AllByRecursion (IsOther wanted) taken → IsGiven taken wanted name → name ≡ wanted
given_is taken wanted name each given = ⊎_elim (λ e. e) (λ other. absurd (not_among wanted taken each other.0)) given.is

-- a name of the design is none of these
abbrev AreLow : List (List ℕ) → Type 0
AreLow own = (wanted : List ℕ) → 115 ≤ slice_index wanted 0 → AllByRecursion (IsOther wanted) own

given_are : (own : List (List ℕ)) → AreLow own → (names : List (List ℕ)) → Given own whole_names names → names ≡ whole_names
given_are own low [] given = absurd given
given_are own low (a ∷ []) given = absurd (given.1)
given_are own low (a ∷ b ∷ []) given = absurd (given.1.1)
given_are own low (a ∷ b ∷ c ∷ []) given = absurd (given.1.1.1)
given_are own low (a ∷ b ∷ c ∷ d ∷ []) given =
    let first : a ≡ codes "u_0" = given_is own (codes "u_0") a (low (codes "u_0") (omega arith)) given.0 in
    let second : b ≡ codes "u_1" = given_is (codes "u_0" ∷ own) (codes "u_1") b
    (zero_one (codes "u_0") (codes "u_1") refl refl, low (codes "u_1") (omega arith))
    (subst (λ (x : List ℕ). IsGiven (x ∷ own) (codes "u_1") b) first given.1.0) in
    let third : c ≡ codes "y_0" = given_is (codes "u_1" ∷ codes "u_0" ∷ own) (codes "y_0") c
    (u_y (codes "u_1") (codes "y_0") refl refl, (u_y (codes "u_0") (codes "y_0") refl refl, low (codes "y_0") (omega arith)))
    (subst (λ (y : List ℕ). IsGiven (y ∷ codes "u_0" ∷ own) (codes "y_0") c) second (subst (λ (x : List ℕ). IsGiven (b ∷ x ∷ own) (codes "y_0") c) first given.1.1.0)) in
    let fourth : d ≡ codes "y_1" = given_is (codes "y_0" ∷ codes "u_1" ∷ codes "u_0" ∷ own) (codes "y_1") d
    (zero_one (codes "y_0") (codes "y_1") refl refl, (u_y (codes "u_1") (codes "y_1") refl refl, (u_y (codes "u_0") (codes "y_1") refl refl, low (codes "y_1") (omega arith))))
    (subst (λ (z : List ℕ). IsGiven (z ∷ codes "u_1" ∷ codes "u_0" ∷ own) (codes "y_1") d) third
    (subst (λ (y : List ℕ). IsGiven (c ∷ y ∷ codes "u_0" ∷ own) (codes "y_1") d) second (subst (λ (x : List ℕ). IsGiven (c ∷ b ∷ x ∷ own) (codes "y_1") d) first given.1.1.1.0))) in
    ap (λ (x : List ℕ). x ∷ b ∷ c ∷ d ∷ []) first ∙ ap (λ (x : List ℕ). codes "u_0" ∷ x ∷ c ∷ d ∷ []) second
    ∙ ap (λ (x : List ℕ). codes "u_0" ∷ codes "u_1" ∷ x ∷ d ∷ []) third ∙ ap (λ (x : List ℕ). codes "u_0" ∷ codes "u_1" ∷ codes "y_0" ∷ x ∷ []) fourth
given_are own low (a ∷ b ∷ c ∷ d ∷ e ∷ names) given = absurd (given.1.1.1.1)

pub names_are : (names : List (List ℕ)) → AreNames diagram names → names ≡ whole_names
names_are names is = given_are own_names not_own names (subst (λ (wanted : List (List ℕ)). Given own_names wanted names) wanted_are is.given)

-- ---- and these are given
free_all : (taken : List (List ℕ)) (name : List ℕ) → AllByRecursion (IsOther name) taken → IsGiven taken name name
free_all taken name each = record { free = not_among name taken each; is = inl refl }

given_whole : Given own_names whole_names whole_names
given_whole = (
  free_all own_names (codes "u_0") (not_own (codes "u_0") (omega arith)),
  (
    free_all (codes "u_0" ∷ own_names) (codes "u_1") (zero_one (codes "u_0") (codes "u_1") refl refl, not_own (codes "u_1") (omega arith)),
    (
      free_all (codes "u_1" ∷ codes "u_0" ∷ own_names) (codes "y_0")
          (u_y (codes "u_1") (codes "y_0") refl refl, (u_y (codes "u_0") (codes "y_0") refl refl, not_own (codes "y_0") (omega arith))),
      (
        free_all (codes "y_0" ∷ codes "u_1" ∷ codes "u_0" ∷ own_names) (codes "y_1")
            (zero_one (codes "y_0") (codes "y_1") refl refl, (u_y (codes "u_1") (codes "y_1") refl refl, (u_y (codes "u_0") (codes "y_1") refl refl, not_own (codes "y_1") (omega arith)))),
        tt,
      ),
    ),
  ),
)

pub whole_are_names : AreNames diagram whole_names
whole_are_names = record { given = subst (λ (wanted : List (List ℕ)). Given own_names wanted whole_names) (sym wanted_are) given_whole }

-- ---- a module with valid and ready gives the same
not_shaken : AreLow (handshake_names ++ own_names)
not_shaken wanted high = (
  λ same. let byte : 105 ≡ slice_index wanted 0 = ap (λ (name : List ℕ). slice_index name 0) same in absurd (omega (arith, byte, high)),
  (
    λ same. let byte : 111 ≡ slice_index wanted 0 = ap (λ (name : List ℕ). slice_index name 0) same in absurd (omega (arith, byte, high)),
    (
      λ same. let byte : 105 ≡ slice_index wanted 0 = ap (λ (name : List ℕ). slice_index name 0) same in absurd (omega (arith, byte, high)),
      (
        λ same. let byte : 111 ≡ slice_index wanted 0 = ap (λ (name : List ℕ). slice_index name 0) same in absurd (omega (arith, byte, high)),
        not_own wanted high,
      ),
    ),
  ),
)

pub stream_names_are : (names : List (List ℕ)) → AreStreamNames diagram names → names ≡ whole_names
stream_names_are names is = given_are (handshake_names ++ own_names) not_shaken names (subst (λ (wanted : List (List ℕ)). Given (handshake_names ++ own_names) wanted names) wanted_are is.given)
