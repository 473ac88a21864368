-- Instant cones, a block at a time.
use Rattle.std.proofs.Common.{◌≡◌, ℕ, zero, suc, ◌-◌, ◌≤◌, List, [], ◌∷◌, ◌++◌, length, take, inl, inr, ⊎_elim, refl, sym, ap, subst, ◌∙◌, arith}
use Rattle.std.specs.Prelude.{slice_get, Some, ◌⊎◌}
use Rattle.std.proofs.lemmas.Option.{none-some, same_Some, slice_get_within, slice_get-get_or}
use Rattle.dg_model.specs.declared.diagram.Diagram.{Diagram}
use Rattle.dg_model.specs.Signals.{Attributes}
use Rattle.dg_model.specs.Loop.{LeadsNow, IsInCone}
use Rattle.math_list.proofs.Places.{get_left, get_cases, get_take, get_taken, last_at}

pub cone_self : (diagram : Diagram) (attributes : Attributes) (place : ℕ) → IsInCone diagram attributes place place
cone_self diagram attributes place = record {
  path = place ∷ [];
  leads = λ k from to at next. absurd (none-some to next);
  begins = refl;
  last = 0;
  ends = refl;
}

pub cone_more : (diagram : Diagram) (attributes : Attributes) (from middle to : ℕ)
    → IsInCone diagram attributes from middle → LeadsNow diagram attributes middle to
    → IsInCone diagram attributes from to
cone_more diagram attributes from middle to cone leads =
    let within = slice_get_within cone.path cone.last middle cone.ends in
    let long : length (take (suc cone.last) cone.path) ≡ suc cone.last = length_taken cone.path (suc cone.last) (omega (arith, within)) in
    record {
      path = take (suc cone.last) cone.path ++ to ∷ [];
      leads = λ k x y at next. ⊎_elim
          (λ (old : slice_get (take (suc cone.last) cone.path) (suc k) ≡ Some y).
          let taken = get_take (suc cone.last) cone.path (suc k) y old in
          let below = taken.0 in
          cone.leads k x y (before k x (omega (arith, below)) at) taken.1)
          (λ new.
          let low = new.0 in
          let place : suc k - length (take (suc cone.last) cone.path) ≡ 0 = only (suc k - length (take (suc cone.last) cone.path)) y new.1 in
          let same : to ≡ y = same_Some to y (ap (slice_get (to ∷ [])) (sym place) ∙ new.1) in
          let k_is : k ≡ cone.last = omega (arith, low, place, long) in
          let x_is : middle ≡ x = same_Some middle x (sym cone.ends ∙ ap (slice_get cone.path) (sym k_is) ∙ before k x (omega (arith, k_is)) at) in
          subst (λ b. LeadsNow diagram attributes x b) same (subst (λ b. LeadsNow diagram attributes b to) x_is leads))
          (get_cases (take (suc cone.last) cone.path) (to ∷ []) (suc k) y next);
      begins = get_left (take (suc cone.last) cone.path) (to ∷ []) 0 from (get_taken (suc cone.last) cone.path 0 from (omega arith) cone.begins);
      last = length (take (suc cone.last) cone.path);
      ends = last_at (take (suc cone.last) cone.path) to;
    }
  where
    length_taken : (xs : List ℕ) (n : ℕ) → n ≤ length xs → length (take n xs) ≡ n
    length_taken xs zero below = refl
    length_taken [] (suc n) below = absurd (omega arith)
    length_taken (x ∷ xs) (suc n) below = ap suc (length_taken xs n (omega arith))

    only : (place y : ℕ) → slice_get (to ∷ []) place ≡ Some y → place ≡ 0
    only zero y at = refl
    only (suc place) y at = absurd (none-some y at)

    before : (k x : ℕ) → k ≤ cone.last → slice_get (take (suc cone.last) cone.path ++ to ∷ []) k ≡ Some x → slice_get cone.path k ≡ Some x
    before k x low at = ⊎_elim
        (λ (old : slice_get (take (suc cone.last) cone.path) k ≡ Some x). (get_take (suc cone.last) cone.path k x old).1)
        (λ new. let high = new.0 in let within = slice_get_within cone.path cone.last middle cone.ends in let long =
        length_taken cone.path (suc cone.last) (omega (arith, within)) in
        absurd (omega (arith, high, long, low)))
        (get_cases (take (suc cone.last) cone.path) (to ∷ []) k x at)

-- a block of the cone is the block itself, or lies in the cone of one that leads to it
pub record IsBefore (diagram : Diagram) (attributes : Attributes) (from to : ℕ) : Type 0 where
  pub middle : ℕ
  pub cone : IsInCone diagram attributes from middle
  pub leads : LeadsNow diagram attributes middle to

pub cone_cases : (diagram : Diagram) (attributes : Attributes) (from to : ℕ) → IsInCone diagram attributes from to → (from ≡ to) ⊎ IsBefore diagram attributes from to
cone_cases diagram attributes from to cone = by_last cone.last cone.ends
  where
    by_last : (last : ℕ) → slice_get cone.path last ≡ Some to → (from ≡ to) ⊎ IsBefore diagram attributes from to
    by_last zero ends = inl (same_Some from to (sym cone.begins ∙ ends))
    by_last (suc last) ends =
        let within = slice_get_within cone.path (suc last) to ends in
        let at = slice_get-get_or cone.path last 0 (omega (arith, within)) in
        inr (record {
          middle = _;
          cone = record { path = cone.path; leads = cone.leads; begins = cone.begins; last = last; ends = at };
          leads = cone.leads last _ to at ends;
        })
