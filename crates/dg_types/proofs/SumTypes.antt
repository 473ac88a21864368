-- Functions that give a relation's one answer; the terms of a sum, gathered one by one.
use Rattle.std.proofs.Common.{◌≡◌, ℕ, zero, suc, ◌+◌, ◌<◌, ◌≤◌, Bool, List, [], ◌∷◌, ◌++◌, length, take, drop, set, get_or, Option, Some, None, Result, Ok, Err, ap, sym, ◌∙◌, refl, arith}
use Rattle.std.proofs.Common.{append_assoc}
use Rattle.std.specs.Prelude.{zip, All, IfOk, OnErr}
use Rattle.std.specs.Result.{result_ok}
use Rattle.std.proofs.lemmas.List.{drop_more, drop_all, take_more_set, append-nil}
use Rattle.std.proofs.lemmas.List.Elements.{All-append}
use Rattle.fx_type.specs.declared.kind.FxType.{FxType}
use Rattle.fx_type.specs.FullType.{Terms}
use Rattle.fx_type.specs.declared.spec.TypeSpec.{TypeSpec}
use Rattle.fx_type.specs.FxType.{IsType}
use Rattle.dg_model.specs.KindRow.{FullRule}
use Rattle.dg_model.specs.Periods.{known_at}
use Rattle.dg_model.specs.TypeRounds.{Types, with_known, all_known, sum_named, full_type}
use Rattle.dg_types.specs.inner.TypeInputs.{joined, terms_of}

-- none is given where nothing that is given would do
none_given : (o : Option FxType) (P : FxType → Type 0) → ((type : FxType) → o ≡ Some type → P type) → ((type : FxType) → ¬ P type) → None ≡ o
none_given None P is none = refl
none_given (Some type) P is none = absurd (none type (is type refl))

-- what a function that keeps a relation gives is the relation's one answer, or none
pub given_is : {E : Type 0} (o : Option FxType) (P : FxType → Type 0) (given : Result FxType E)
    → ((type : FxType) → P type → o ≡ Some type) → ((type : FxType) → o ≡ Some type → P type) → IfOk given P
    → OnErr given ((type : FxType) → ¬ P type) → result_ok given ≡ o
given_is o P (Ok type) to is ok none = sym (to type ok)
given_is o P (Err fault) to is ok none = none_given o P is none

-- what follows from a type that is known
pub known_step : {A B : Type 0} (o : Option A) (x : A) (next : A → Option B) → o ≡ Some x → with_known o next ≡ next x
known_step {A} {B} o x next e = ap (λ (p : Option A). with_known p next) e

-- ---- the terms of a sum

joined_on : {A : Type 0} (front : List A) (x : A) (o : Option (List A)) → joined (front ++ x ∷ []) o ≡ joined front (joined (x ∷ []) o)
joined_on front x None = refl
joined_on {A} front x (Some rest) = ap (λ (xs : List A). Some xs) (append_assoc front (x ∷ []) rest)

paired : (n : Bool) (type : FxType) (signs : List Bool) (o : Option (List FxType))
    → with_known (with_known o (λ ys. Some (type ∷ ys))) (λ ks. Some (zip (n ∷ signs) ks))
    ≡ joined ((n, type) ∷ []) (with_known o (λ ks. Some (zip signs ks)))
paired n type signs None = refl
paired n type signs (Some ks) = refl

zip_known : (negative : List Bool) (types : Types) → length negative ≡ length types → with_known (all_known types) (λ ks. Some (zip negative ks)) ≡ terms_of negative types
zip_known [] [] same = refl
zip_known [] (type ∷ types) same = absurd (omega arith)
zip_known (n ∷ signs) [] same = absurd (omega arith)
zip_known (n ∷ signs) (None ∷ types) same = refl
zip_known (n ∷ signs) (Some type ∷ types) same = paired n type signs (all_known types) ∙ ap (joined ((n, type) ∷ [])) (zip_known signs types (omega arith))

through : (accum : TypeSpec) (negative : List Bool) (o : Option (List FxType))
    → with_known o (λ known. sum_named accum (zip negative known))
    ≡ with_known (with_known o (λ ks. Some (zip negative ks))) (sum_named accum)
through accum negative None = refl
through accum negative (Some ks) = refl

-- what a sum names is that of its terms
pub full_of_terms : (accum : TypeSpec) (negative : List Bool) (types : Types) → length negative ≡ length types
    → full_type (FullRule.FullSum negative accum) types ≡ with_known (terms_of negative types) (sum_named accum)
full_of_terms accum negative types same = through accum negative (all_known types) ∙ ap (λ (o : Option Terms). with_known o (sum_named accum)) (zip_known negative types same)

module _ (accum : TypeSpec) (negative : List Bool) (types : Types) (terms : Terms) (i : ℕ) (inside : i < length negative) (same : length negative ≡ length types) where
  left_is : (n : Bool) (d : Bool) → get_or negative i d ≡ n → drop i negative ≡ n ∷ drop (i + 1) negative
  left_is n d e = drop_more negative i d inside ∙ ap (λ (m : Bool). m ∷ drop (i + 1) negative) e

  types_are : (o : Option FxType) → known_at types i ≡ o → drop i types ≡ o ∷ drop (i + 1) types
  types_are o e = drop_more types i None (omega arith) ∙ ap (λ (p : Option FxType). p ∷ drop (i + 1) types) e

  -- one more term
  pub sum_step : (n d : Bool) (type : FxType) → i < length terms → get_or negative i d ≡ n → known_at types i ≡ Some type
      → joined (take i terms) (terms_of (drop i negative) (drop i types)) ≡ terms_of negative types
      → joined (take (i + 1) (set terms i (n, type))) (terms_of (drop (i + 1) negative) (drop (i + 1) types)) ≡ terms_of negative types
  sum_step n d type room is known before =
      let rest = terms_of (drop (i + 1) negative) (drop (i + 1) types) in
      ap (λ (front : Terms). joined front rest) (take_more_set terms i (n, type) room)
      ∙ joined_on (take i terms) (n, type) rest
      ∙ sym (ap (λ (signs : List Bool). joined (take i terms) (terms_of signs (drop i types))) (left_is n d is)
      ∙ ap (λ (ts : Types). joined (take i terms) (terms_of (n ∷ drop (i + 1) negative) ts))
      (types_are (Some type) known))
      ∙ before

  -- a type that isn't known
  pub sum_stops : known_at types i ≡ None → (d : Bool)
      → joined (take i terms) (terms_of (drop i negative) (drop i types)) ≡ terms_of negative types
      → None ≡ full_type (FullRule.FullSum negative accum) types
  sum_stops unknown d before =
      let none : terms_of negative types ≡ None =
      sym before ∙ ap (λ (signs : List Bool). joined (take i terms) (terms_of signs (drop i types)))
      (left_is (get_or negative i d) d refl)
      ∙ ap (λ (ts : Types). joined (take i terms)
      (terms_of (get_or negative i d ∷ drop (i + 1) negative) ts)) (types_are None unknown) in
      sym (full_of_terms accum negative types same ∙ ap (λ (o : Option Terms). with_known o (sum_named accum)) none)

-- all terms
pub sum_ends : (accum : TypeSpec) (negative : List Bool) (types : Types) (front : Terms) (i : ℕ)
    → length negative ≤ i → length negative ≡ length types
    → joined front (terms_of (drop i negative) (drop i types)) ≡ terms_of negative types
    → sum_named accum front ≡ full_type (FullRule.FullSum negative accum) types
sum_ends accum negative types front i past same before =
    let all : terms_of negative types ≡ Some front =
    sym before ∙ ap (λ (signs : List Bool). joined front (terms_of signs (drop i types)))
    (drop_all i negative past) ∙ ap (λ (xs : Terms). Some xs) (append-nil front) in
    sym (full_of_terms accum negative types same ∙ ap (λ (o : Option Terms). with_known o (sum_named accum)) all)

-- valid terms
pub valid_more : (terms : Terms) (i : ℕ) (n : Bool) (type : FxType) → i < length terms → IsType type
    → All (λ term. IsType term.1) (take i terms)
    → All (λ term. IsType term.1) (take (i + 1) (set terms i (n, type)))
valid_more terms i n type room valid before = rw (take_more_set terms i (n, type) room) (All-append (λ (term : Bool × FxType). IsType term.1) (take i terms) ((n, type) ∷ []) before only) where
  only : All (λ (term : Bool × FxType). IsType term.1) ((n, type) ∷ [])
  only zero d inside = valid
  only (suc k) d inside = absurd (omega arith)
