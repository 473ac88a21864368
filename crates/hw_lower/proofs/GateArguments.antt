-- Gates, one argument after another.
use Rattle.std.proofs.Common.{◌≡◌, ◌≢◌, ℕ, ◌+◌, ◌<◌, ◌≤◌, ◌%◌, Bool, true, false, not, ◌&&◌, ◌||◌, true≢false, if◌then◌else◌, List, length, take, ℤ, pos, ◌-ℤ◌, ap, sym, ◌∙◌, subst, arith, refl, inl}
use Rattle.std.proofs.Common.{inr}
use Rattle.std.specs.Prelude.{count_by, ◌==◌}
use Rattle.std.specs.Ordering.{int_eq}
use Rattle.std.proofs.lemmas.Int.{ints}
use Rattle.std.proofs.lemmas.List.{take_all}
use Rattle.std.proofs.lemmas.List.Folds.{list_all_more, list_any_more}
use Rattle.std.proofs.lemmas.List.Sums.{count_by_more_yes, count_by_more_no}
use Rattle.std.proofs.lemmas.Bool.Decides.{Decides-int_eq}
use Rattle.std.proofs.lemmas.Bool.{cases_eq}
use Rattle.fx_type.specs.declared.kind.FxType.{FxType}
use Rattle.fx_type.specs.Conversion.{IsTruthOf}
use Rattle.dg_model.specs.Operation.{is_true, stored_truth, value_of, gate_of}
use Rattle.dg_model.specs.declared.kind.Gate.TheVariants.{Nxor}
use Rattle.hw_lower.specs.inner.PlanSteps.{Numbers, IsChosen}
use Rattle.hw_lower.specs.inner.Spread.{AreArguments, OfArguments, IsJoined, is_odd, truth_of}
use Rattle.hw_lower.specs.declared.gates.Joining.{Joining}
use Rattle.hw_lower.specs.declared.gates.Joining.TheVariants.{Every, Any, Odd}
use Rattle.math_num.proofs.Residues.{is-same}

-- a number is 0 or true
record ByTruth (v : ℤ) (t : Bool) : Type 0 where
  none : t ≡ false → v ≡ pos 0
  some : t ≡ true → v ≢ pos 0

by-truth : (v : ℤ) → ByTruth v (is_true v)
by-truth v = by (int_eq v (pos 0)) refl
  where
    by : (same : Bool) → int_eq v (pos 0) ≡ same → ByTruth v (not same)
    by true e = record { none = λ h. (Decides-int_eq v (pos 0)).0 e; some = λ h. absurd (true≢false (sym h)) }
    by false e = record { none = λ h. absurd (true≢false h); some = λ h z. true≢false (sym (is-same v (pos 0) z) ∙ e) }

truth-stored : (v r : ℤ) → IsTruthOf v r → r ≡ stored_truth (is_true v)
truth-stored v r is = by (is_true v) (by-truth v)
  where
    by : (t : Bool) → ByTruth v t → r ≡ stored_truth t
    by true of = is.one (of.some refl)
    by false of = is.zero (of.none refl)

all-chosen : (b : Bool) (test bit r : ℤ) → bit ≡ stored_truth b → IsChosen test bit (pos 0) r → r ≡ stored_truth (b && is_true test)
all-chosen b test bit r e is = by b (is_true test) e (by-truth test)
  where
    by : (b t : Bool) → bit ≡ stored_truth b → ByTruth test t → r ≡ stored_truth (b && t)
    by true true e of = is.any (of.some refl) ∙ e
    by true false e of = is.zero (of.none refl)
    by false true e of = is.any (of.some refl) ∙ e
    by false false e of = is.zero (of.none refl)

some-chosen : (b : Bool) (test bit r : ℤ) → bit ≡ stored_truth b → IsChosen test (pos 1) bit r → r ≡ stored_truth (b || is_true test)
some-chosen b test bit r e is = by b (is_true test) e (by-truth test)
  where
    by : (b t : Bool) → bit ≡ stored_truth b → ByTruth test t → r ≡ stored_truth (b || t)
    by true true e of = is.any (of.some refl)
    by true false e of = is.zero (of.none refl) ∙ e
    by false true e of = is.any (of.some refl)
    by false false e of = is.zero (of.none refl) ∙ e

abbrev differs : Bool → Bool → Bool
differs b test = if test then not b else b

odd-chosen : (b : Bool) (test bit r : ℤ) → bit ≡ stored_truth b → IsChosen test (pos 1 -ℤ bit) bit r → r ≡ stored_truth (differs b (is_true test))
odd-chosen b test bit r e is = by b (is_true test) e (by-truth test)
  where
    by : (b t : Bool) → bit ≡ stored_truth b → ByTruth test t → r ≡ stored_truth (differs b t)
    by true true e of = is.any (of.some refl) ∙ ap (λ (z : ℤ). pos 1 -ℤ z) e ∙ omega (arith, ints)
    by true false e of = is.zero (of.none refl) ∙ e
    by false true e of = is.any (of.some refl) ∙ ap (λ (z : ℤ). pos 1 -ℤ z) e ∙ omega (arith, ints)
    by false false e of = is.zero (of.none refl) ∙ e

odd-one : (n : ℕ) → n % 2 ≡ 1 → (n % 2 == 1) ≡ true
odd-one n e = ap (λ (k : ℕ). k == 1) e

odd-none : (n : ℕ) → n % 2 ≡ 0 → (n % 2 == 1) ≡ false
odd-none n e = ap (λ (k : ℕ). k == 1) e

even-one : (n : ℕ) → n % 2 ≡ 1 → (n % 2 == 0) ≡ false
even-one n e = ap (λ (k : ℕ). k == 0) e

even-none : (n : ℕ) → n % 2 ≡ 0 → (n % 2 == 0) ≡ true
even-none n e = ap (λ (k : ℕ). k == 0) e

flips : (n : ℕ) → ((n + 1) % 2 == 1) ≡ not (n % 2 == 1)
flips n =
    elim (cases_eq (n % 2) 1) [
      | inl one ↦ odd-none (n + 1) (omega (arith, one)) ∙ ap not (sym (odd-one n one))
      | inr other ↦ odd-one (n + 1) (omega (arith, other)) ∙ ap not (sym (odd-none n (omega (arith, other))))
    ]

pub even-is : (values : List ℤ) → not (is_odd values) ≡ gate_of Nxor values
even-is values =
    let n : ℕ = count_by is_true values in
    elim (cases_eq (n % 2) 1) [
      | inl one ↦ ap not (odd-one n one) ∙ sym (even-one n one)
      | inr other ↦ ap not (odd-none n (omega (arith, other))) ∙ sym (even-none n (omega (arith, other)))
    ]

odd-more : (values : List ℤ) (k : ℕ) → k < length values → is_odd (take (k + 1) values) ≡ differs (is_odd (take k values)) (is_true (value_of values k))
odd-more values k within = by (is_true (value_of values k)) refl
  where
    by : (t : Bool) → is_true (value_of values k) ≡ t → is_odd (take (k + 1) values) ≡ differs (is_odd (take k values)) t
    by true e = ap (λ (n : ℕ). n % 2 == 1) (count_by_more_yes is_true values k (pos 0) within e) ∙ flips (count_by is_true (take k values))
    by false e = ap (λ (n : ℕ). n % 2 == 1) (count_by_more_no is_true values k (pos 0) within e)

odd-first : (values : List ℤ) → 0 < length values → is_odd (take 1 values) ≡ is_true (value_of values 0)
odd-first values some = odd-more values 0 some ∙ by (is_true (value_of values 0))
  where
    by : (t : Bool) → differs false t ≡ t
    by true = refl
    by false = refl

-- a truth with one more, by how they are joined
abbrev one-more : Joining → Bool → Bool → Bool
one-more Every b test = b && test
one-more Any b test = b || test
one-more Odd b test = differs b test

joined-bit : (joining : Joining) (b : Bool) (test bit r : ℤ) → bit ≡ stored_truth b → IsJoined joining test bit r → r ≡ stored_truth (one-more joining b (is_true test))
joined-bit Every b test bit r e is = all-chosen b test bit r e is
joined-bit Any b test bit r e is = some-chosen b test bit r e is
joined-bit Odd b test bit r e is = odd-chosen b test bit r e is

more-truth : (joining : Joining) (values : List ℤ) (k : ℕ) → k < length values
    → truth_of joining (take (k + 1) values)
    ≡ one-more joining (truth_of joining (take k values)) (is_true (value_of values k))
more-truth Every values k within = list_all_more is_true values k (pos 0) within
more-truth Any values k within = list_any_more is_true values k (pos 0) within
more-truth Odd values k within = odd-more values k within

first-truth : (joining : Joining) (values : List ℤ) → 0 < length values → truth_of joining (take 1 values) ≡ is_true (value_of values 0)
first-truth Every values some = list_all_more is_true values 0 (pos 0) some
first-truth Any values some = list_any_more is_true values 0 (pos 0) some
first-truth Odd values some = odd-first values some

module _ (types : List FxType) (numbers : Numbers) where
  count-of : (values : List ℤ) → AreArguments types numbers values → length values ≡ length types
  count-of values are = are.in_range.count

  -- the first argument
  pub joined-first : (joining : Joining) (r : ℤ) → 1 ≤ length types → IsTruthOf (numbers 0) r → OfArguments types numbers (λ values. r ≡ stored_truth (truth_of joining (take 1 values)))
  joined-first joining r some is values are =
      truth-stored (numbers 0) r is ∙ ap (λ (v : ℤ). stored_truth (is_true v)) (are.each 0 (omega (arith, some)))
      ∙ ap stored_truth (sym (first-truth joining values (omega (arith, count-of values are))))

  -- one argument more
  pub joined-more : (joining : Joining) (k : ℕ) (bit r : ℤ) → k < length types → OfArguments types numbers (λ values. bit ≡ stored_truth (truth_of joining (take k values)))
      → IsJoined joining (numbers k) bit r → OfArguments types numbers (λ values. r ≡ stored_truth (truth_of joining (take (k + 1) values)))
  joined-more joining k bit r within before is values are =
      joined-bit joining (truth_of joining (take k values)) (numbers k) bit r (before values are) is
      ∙ ap (λ (v : ℤ). stored_truth (one-more joining (truth_of joining (take k values)) (is_true v))) (are.each k within)
      ∙ ap stored_truth (sym (more-truth joining values k (omega (arith, count-of values are))))

  -- all arguments
  pub of-all : (P : List ℤ → Type 0) (k : ℕ) → length types ≤ k → OfArguments types numbers (λ values. P (take k values)) → OfArguments types numbers P
  of-all P k past before values are =
      subst P (take_all k values (omega (arith, count-of values are))) (before values are)
