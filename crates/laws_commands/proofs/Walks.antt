-- Lists of blocks of which none stands twice, and ways back along instant edges.
use Rattle.std.proofs.Common.{◌≡◌, ℕ, zero, suc, ◌+◌, ◌%◌, ◌<◌, ◌≤◌, ◌⊎◌, inl, inr, ⊎_elim, List, [], ◌∷◌, ◌++◌, length, take, get_or, Some, refl, sym, ap, subst, ◌∙◌, arith, eqb}
use Rattle.std.specs.Prelude.{AllPairs, ◌≢◌, slice_get, slice_index}
use Rattle.std.proofs.Math.Nat.{mod_self, mod-eq_of_lt}
use Rattle.std.proofs.lemmas.Bool.{cases_eq, cases_lt, eqb-true}
use Rattle.std.proofs.lemmas.Bool.Decides.{Decides-eqb}
use Rattle.std.proofs.lemmas.List.{length-take-le}
use Rattle.std.proofs.lemmas.List.Folds.{Any-from_list_any}
use Rattle.std.proofs.lemmas.Map.Made.{IsDistinct-from_AllPairs}
use Rattle.std.proofs.lemmas.Map.Steps.{length-le_from_distinct_below}
use Rattle.std.proofs.lemmas.Option.{none-some, same_Some, slice_get_within, slice_get-get_or}
use Rattle.dg_model.specs.declared.diagram.Diagram.{Diagram}
use Rattle.dg_model.specs.Loop.{IsInstantPath, KeepsLoop, LeadsNow}
use Rattle.dg_model.specs.Signals.{Attributes}
use Rattle.math_list.proofs.Places.{get_take, push_cases}

-- ---- none stands twice

-- it stands somewhere in the list
abbrev pub IsIn : ℕ → List ℕ → Type 0
IsIn x xs = (k : ℕ) × (slice_get xs k ≡ Some x)

abbrev pub AreOnce : List ℕ → Type 0
AreOnce xs = (i j x : ℕ) → slice_get xs i ≡ Some x → slice_get xs j ≡ Some x → i ≡ j

pub in-or : (x : ℕ) (xs : List ℕ) → IsIn x xs ⊎ (IsIn x xs → ⊥)
in-or x [] = inr (λ at. none-some x at.1)
in-or x (y ∷ xs) = ⊎_elim
    (λ (same : x ≡ y). inl (0, ap (λ (n : ℕ). Some n) (sym same)))
    (λ (other : x ≡ y → ⊥). ⊎_elim
    (λ (at : IsIn x xs). inl (suc at.0, at.1))
    (λ (absent : IsIn x xs → ⊥). inr (λ at. out other absent at.0 at.1))
    (in-or x xs))
    (cases_eq x y)
  where
    out : (x ≡ y → ⊥) → (IsIn x xs → ⊥) → (k : ℕ) → slice_get (y ∷ xs) k ≡ Some x → ⊥
    out other absent zero at = other (sym (same_Some y x at))
    out other absent (suc k) at = absent (k, at)

pub once-before : (x : ℕ) (xs : List ℕ) → (IsIn x xs → ⊥) → AreOnce xs → AreOnce (x ∷ xs)
once-before x xs fresh once zero zero y p q = refl
once-before x xs fresh once zero (suc j) y p q = absurd (fresh (j, q ∙ ap (λ (n : ℕ). Some n) (sym (same_Some x y p))))
once-before x xs fresh once (suc i) zero y p q = absurd (fresh (i, p ∙ ap (λ (n : ℕ). Some n) (sym (same_Some x y q))))
once-before x xs fresh once (suc i) (suc j) y p q = ap suc (once i j y p q)

pub once-behind : (x : ℕ) (xs : List ℕ) → (IsIn x xs → ⊥) → AreOnce xs → AreOnce (xs ++ x ∷ [])
once-behind x xs fresh once i j y p q = ⊎_elim
    (λ (old : slice_get xs i ≡ Some y). ⊎_elim
    (λ (other : slice_get xs j ≡ Some y). once i j y old other)
    (λ (new : (j ≡ length xs) × (x ≡ y)). absurd (fresh (i, old ∙ ap (λ (n : ℕ). Some n) (sym new.1))))
    (push_cases xs x j y q))
    (λ (new : (i ≡ length xs) × (x ≡ y)). ⊎_elim
    (λ (old : slice_get xs j ≡ Some y). absurd (fresh (j, old ∙ ap (λ (n : ℕ). Some n) (sym new.1))))
    (λ (last : (j ≡ length xs) × (x ≡ y)). new.0 ∙ sym last.0)
    (push_cases xs x j y q))
    (push_cases xs x i y p)

pub different : (xs : List ℕ) → AreOnce xs → AllPairs (λ block other. block ≢ other) xs
different xs once = λ i j d less below same.
    let e = once i j (get_or xs j d) (slice_get-get_or xs i d (omega (arith, less, below)) ∙ ap (λ (n : ℕ). Some n) same) (slice_get-get_or xs j d below) in
    omega (arith, e, less)

-- so many numbers below a bound are at most as many
pub no-longer : (xs : List ℕ) (n : ℕ) → AreOnce xs → ((k x : ℕ) → slice_get xs k ≡ Some x → x < n) → length xs ≤ n
no-longer xs n once below = length-le_from_distinct_below xs n (IsDistinct-from_AllPairs Decides-eqb xs (different xs once)) (λ q is.
    let found = Any-from_list_any (eqb q) xs is in
    let at : slice_get xs found.0 ≡ Some found.1 = slice_get-get_or xs found.0 found.1 found.2 ∙ ap (λ (n : ℕ). Some n) found.3 in
    subst (λ x. x < n) (sym (eqb-true q found.1 found.4)) (below found.0 found.1 at))

-- ---- ways back

module _ (diagram : Diagram) (attributes : Attributes) (kept : KeepsLoop diagram attributes) where
  -- a way back that comes upon itself is a cycle
  pub closes : (h : ℕ) (w : List ℕ) → AreOnce (h ∷ w) → IsInstantPath diagram attributes (h ∷ w) → (a p : ℕ) → slice_get (h ∷ w) p ≡ Some a → LeadsNow diagram attributes a h → ⊥
  closes h w once leads a p at lead = kept (take (suc p) (h ∷ w)) (record { some = omega (arith, size); different = different (take (suc p) (h ∷ w)) taken; leads = next })
    where
      size : length (take (suc p) (h ∷ w)) ≡ suc p
      size = let inside = slice_get_within (h ∷ w) p a at in length-take-le (suc p) (h ∷ w) (omega (arith, inside))

      taken : AreOnce (take (suc p) (h ∷ w))
      taken i j x one other = once i j x (get_take (suc p) (h ∷ w) i x one).1 (get_take (suc p) (h ∷ w) j x other).1

      -- what stands at a place of it
      here : (k : ℕ) → k < length (take (suc p) (h ∷ w)) → slice_get (h ∷ w) k ≡ Some (slice_index (take (suc p) (h ∷ w)) k)
      here k below = (get_take (suc p) (h ∷ w) k (slice_index (take (suc p) (h ∷ w)) k) (slice_get-get_or (take (suc p) (h ∷ w)) k 0 below)).1

      next : (k : ℕ) → k < length (take (suc p) (h ∷ w))
          → LeadsNow diagram attributes (slice_index (take (suc p) (h ∷ w)) k)
          (slice_index (take (suc p) (h ∷ w)) (suc k % length (take (suc p) (h ∷ w))))
      next k below = ⊎_elim
          (λ (more : suc k < length (take (suc p) (h ∷ w))).
          let m : suc k % length (take (suc p) (h ∷ w)) ≡ suc k = mod-eq_of_lt more in
          subst (λ n. LeadsNow diagram attributes (slice_index (take (suc p) (h ∷ w)) k) (slice_index (take (suc p) (h ∷ w)) n)) (sym m)
          (leads k (slice_index (take (suc p) (h ∷ w)) k) (slice_index (take (suc p) (h ∷ w)) (suc k)) (here k below) (here (suc k) more)))
          (λ (end : length (take (suc p) (h ∷ w)) ≤ suc k).
          let e : suc k ≡ length (take (suc p) (h ∷ w)) = omega (arith, below, end) in
          let last : p ≡ k = omega (arith, e, size) in
          let m : suc k % length (take (suc p) (h ∷ w)) ≡ 0 = ap (λ n. n % length (take (suc p) (h ∷ w))) e ∙ mod_self (length (take (suc p) (h ∷ w))) in
          let from : a ≡ slice_index (take (suc p) (h ∷ w)) k = same_Some a (slice_index (take (suc p) (h ∷ w)) k) (sym at ∙ ap (slice_get (h ∷ w)) last ∙ here k below) in
          let to : h ≡ slice_index (take (suc p) (h ∷ w)) 0 = same_Some h (slice_index (take (suc p) (h ∷ w)) 0) (here 0 (omega (arith, size))) in
          subst (λ n. LeadsNow diagram attributes (slice_index (take (suc p) (h ∷ w)) k) (slice_index (take (suc p) (h ∷ w)) n)) (sym m)
          (subst (λ n. LeadsNow diagram attributes n (slice_index (take (suc p) (h ∷ w)) 0)) from (subst (λ n. LeadsNow diagram attributes a n) to lead)))
          (cases_lt (suc k) (length (take (suc p) (h ∷ w))))

  -- there is no way back on which each block has another one before it
  module _ (n : ℕ) (Left : ℕ → Type 0) (stuck : (b : ℕ) → b < n → Left b → (a : ℕ) × (a < n) × Left a × LeadsNow diagram attributes a b) where
    pub back : (fuel h : ℕ) (w : List ℕ) → AreOnce (h ∷ w) → IsInstantPath diagram attributes (h ∷ w) → ((k x : ℕ) → slice_get (h ∷ w) k ≡ Some x → x < n) → Left h → length (h ∷ w) + fuel ≡ suc n → ⊥
    back zero h w once leads below left size = let few = no-longer (h ∷ w) n once below in omega (arith, few, size)
    back (suc fuel) h w once leads below left size =
        let s = stuck h (below 0 h refl) left in
        ⊎_elim
        (λ (there : IsIn s.0 (h ∷ w)). closes h w once leads s.0 there.0 there.1 s.3)
        (λ (fresh : IsIn s.0 (h ∷ w) → ⊥). back fuel s.0 (h ∷ w) (once-before s.0 (h ∷ w) fresh once) (leads-more s.0 s.3) (below-more s.0 s.1) s.2 (omega (arith, size)))
        (in-or s.0 (h ∷ w))
      where
        leads-more : (a : ℕ) → LeadsNow diagram attributes a h → IsInstantPath diagram attributes (a ∷ h ∷ w)
        leads-more a lead zero from to p q = subst (λ x. LeadsNow diagram attributes x to) (same_Some a from p) (subst (λ x. LeadsNow diagram attributes a x) (same_Some h to q) lead)
        leads-more a lead (suc k) from to p q = leads k from to p q

        below-more : (a : ℕ) → a < n → (k x : ℕ) → slice_get (a ∷ h ∷ w) k ≡ Some x → x < n
        below-more a low zero x at = subst (λ y. y < n) (same_Some a x at) low
        below-more a low (suc k) x at = below k x at
