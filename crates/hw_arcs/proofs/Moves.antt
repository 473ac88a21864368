-- Lists in which one element was set.
use Rattle.std.proofs.Common.{◌≡◌, ℕ, zero, suc, ◌<◌, List, [], ◌∷◌, length, get_or, refl, sym, ap, subst, ◌∙◌, arith}
use Rattle.std.specs.Prelude.{slice_get, slice_set, Some}
use Rattle.std.proofs.lemmas.List.{length-set, get_or-set_same, get_or-set_other}
use Rattle.std.proofs.lemmas.Option.{slice_get-get_or}

pub record IsMoved {A : Type 0} (f g : ℕ → A) (place : ℕ) (value : A) : Type 0 where
  pub same : (k : ℕ) → place ≡ k → g k ≡ value
  pub other : (k : ℕ) → (place ≡ k → ⊥) → g k ≡ f k

pub set_moves : {A : Type 0} (xs : List A) (place : ℕ) (value d : A) → place < length xs → IsMoved (λ k. get_or xs k d) (λ k. get_or (slice_set xs place value) k d) place value
set_moves xs place value d inside = record {
  same = λ k e. subst (λ n. get_or (slice_set xs place value) n d ≡ value) e (get_or-set_same xs place value d inside);
  other = λ k differs. get_or-set_other xs place k value d (λ e. differs (sym e));
}

pub set_gets : {A : Type 0} (xs : List A) (place : ℕ) (value : A) → place < length xs → IsMoved (slice_get xs) (slice_get (slice_set xs place value)) place (Some value)
set_gets xs place value inside = record {
  same = λ k e. subst (λ n. slice_get (slice_set xs place value) n ≡ Some value) e
      (slice_get-get_or (slice_set xs place value) place value (let size = length-set xs place value in omega (arith, size, inside)) ∙ ap Some (get_or-set_same xs place value value inside));
  other = λ k differs. other_gets xs place k value differs;
}
  where
    other_gets : {A : Type 0} (xs : List A) (place k : ℕ) (value : A) → (place ≡ k → ⊥) → slice_get (slice_set xs place value) k ≡ slice_get xs k
    other_gets [] place k value differs = refl
    other_gets (x ∷ xs) zero zero value differs = absurd (differs refl)
    other_gets (x ∷ xs) zero (suc k) value differs = refl
    other_gets (x ∷ xs) (suc place) zero value differs = refl
    other_gets (x ∷ xs) (suc place) (suc k) value differs = other_gets xs place k value (λ e. differs (ap suc e))
