-- Multiplications that share a multiplier, and those that share none, are counted as the definitions say.
use Rattle.std.proofs.Common.{◌≡◌, ℕ, ◌+◌, ◌<◌, ◌≤◌, max, Bool, true, false, cond, List, [], ◌∷◌, length, map, filter, refl, sym, subst, ◌∙◌, inl, inr, ◌⊎◌, arith}
use Rattle.std.specs.Prelude.{slice_index, not, ◌&&◌}
use Rattle.std.specs.List.{sum}
use Rattle.std.proofs.lemmas.Bool.{cases_lt}
use Rattle.std.proofs.lemmas.Option.{slice_get_cases, slice_get_within, get_or_from_slice_get}
use Rattle.math_list.specs.Numbers.{numbers_from}
use Rattle.dg_model.specs.declared.diagram.Diagram.{Diagram}
use Rattle.dg_model.specs.declared.resolved.Resolved.{Resolved}
use Rattle.dg_model.specs.Attributes.{attributes_of}
use Rattle.hw_latency.specs.Shared.{multiplies, is_shared}
use Rattle.math_list.proofs.Places.{sum-cons}
use Rattle.math_list.proofs.Sums.{sum_below}
use Rattle.hw_sched.specs.Answer.{AreUnits}
use Rattle.hw_sched.specs.Laws.{UnitsAreThere, UnitsAreUsed}
use Rattle.hw_sched.specs.Ready.{units_in_all, unshared}
use Rattle.hw_sched.specs.Slots.{Timing, Operation, shared_operations}
use Rattle.hw_rules.specs.inner.Own.{own_at, IsCount}

-- ---- those that share none

module _ (f : ℕ → ℕ) (test : ℕ → Bool) where
  abbrev chosen : ℕ → ℕ
  chosen place = cond (test place) (f place) 0

  filtered : (xs : List ℕ) → sum (map f (filter test xs)) ≡ sum (map chosen xs)
  filtered [] = refl
  filtered (x ∷ xs) = by (test x) refl (filtered xs) where
    by : (is : Bool) → test x ≡ is → sum (map f (filter test xs)) ≡ sum (map chosen xs) → sum (map f (filter test (x ∷ xs))) ≡ sum (map chosen (x ∷ xs))
    by true is rest =
        let kept : sum (map f (filter test (x ∷ xs))) ≡ sum (map f (x ∷ filter test xs)) = rw is refl in
        let one : sum (map f (x ∷ filter test xs)) ≡ f x + sum (map f (filter test xs)) = sum-cons (f x) (map f (filter test xs)) in
        let all : sum (map chosen (x ∷ xs)) ≡ chosen x + sum (map chosen xs) = sum-cons (chosen x) (map chosen xs) in
        let here : chosen x ≡ f x = rw is refl in
        omega (arith, kept, one, all, here, rest)
    by false is rest =
        let kept : sum (map f (filter test (x ∷ xs))) ≡ sum (map f (filter test xs)) = rw is refl in
        let all : sum (map chosen (x ∷ xs)) ≡ chosen x + sum (map chosen xs) = sum-cons (chosen x) (map chosen xs) in
        let here : chosen x ≡ 0 = rw is refl in
        omega (arith, kept, all, here, rest)

pub unshared_is : (diagram : Diagram) (plan : Resolved) → sum_below (own_at diagram plan) (length diagram.blocks) ≡ unshared diagram (attributes_of diagram) plan
unshared_is diagram plan =
    sym (filtered (λ place. (attributes_of diagram).width_at place 1)
    (λ place. multiplies diagram place && not (is_shared diagram (attributes_of diagram) plan place))
    (numbers_from 0 (length diagram.blocks)))

-- ---- multipliers

pub count_more : (units : List ℕ) (k count one all : ℕ) → one ≡ slice_index units k + 1 → all ≡ max count one → IsCount units k count → IsCount units (k + 1) all
count_more units k count one all one_is all_is is = record {
  most = λ j below. elim (cases_lt j k) [
    | inl before ↦ let less = is.most j before in omega (arith, less, all_is)
    | inr past ↦
        let same : k ≡ j = omega (arith, below, past) in
        subst (λ (i : ℕ). slice_index units i < all) same (omega (arith, one_is, all_is))
  ];
  reached = elim (cases_lt count one) [
    | inl less ↦ inr (k, (omega arith, omega (arith, less, one_is, all_is)))
    | inr more ↦ kept is.reached (omega (arith, more, all_is))
  ];
} where
  kept : ((count ≡ 0) ⊎ ((j : ℕ) × ((j < k) × (count ≡ slice_index units j + 1)))) → all ≡ count → (all ≡ 0) ⊎ ((j : ℕ) × ((j < k + 1) × (all ≡ slice_index units j + 1)))
  kept (inl none) same = inl (same ∙ none)
  kept (inr found) same = inr (found.0, (omega (arith, found.1.0), same ∙ found.1.1))

module _ (there : UnitsAreThere) (used : UnitsAreUsed) (diagram : Diagram) (plan : Resolved) (timing : Timing) (units : List ℕ) (are : AreUnits diagram plan timing units) where
  abbrev all : ℕ
  all = units_in_all diagram (attributes_of diagram) plan timing

  abbrev operations : List Operation
  operations = shared_operations diagram (attributes_of diagram) plan

  unit_below : (k : ℕ) → k < length units → slice_index units k < all
  unit_below k below = elim (slice_get_cases operations k).1 [
    | inl found ↦
        let is = get_or_from_slice_get units k _ 0 (are.are k found.0 found.2) in
        let less = there diagram (attributes_of diagram) plan timing k found.0 found.2 in
        omega (arith, is, less)
    | inr past ↦ absurd (omega (arith, below, are.size, past.0))
  ]

  pub units_are : (count : ℕ) → IsCount units (length units) count → count ≡ all
  units_are count is = elim (cases_lt count all) [
    | inl less ↦
        let found = used diagram (attributes_of diagram) plan timing count less in
        let at = are.are found.0 found.1 found.2 in
        let unit = get_or_from_slice_get units found.0 _ 0 at in
        let same = found.3 in
        let below = is.most found.0 (slice_get_within units found.0 _ at) in
        absurd (omega (arith, unit, same, below))
    | inr more ↦ least is.reached more
  ] where
    least : ((count ≡ 0) ⊎ ((k : ℕ) × ((k < length units) × (count ≡ slice_index units k + 1)))) → all ≤ count → count ≡ all
    least (inl none) more = omega (arith, none, more)
    least (inr found) more = let low = unit_below found.0 found.1.0 in let is = found.1.1 in omega (arith, low, is, more)
