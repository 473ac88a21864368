-- Steps stand for the same operations in a longer list.
use Rattle.std.proofs.Common.{[], ◌∷◌, ◌++◌, ◌≡◌, ◌<◌, ◌≤◌, ◌+◌, ⊎_elim, ℕ, suc, List, length, slice_index_or, refl, sym, ap, subst, ◌∙◌, arith}
use Rattle.std.proofs.Math.Seq.{get_or-append_seam}
use Rattle.std.proofs.lemmas.List.{get_or_append_left, length-append, map-append}
use Rattle.std.proofs.lemmas.Bool.{cases_lt}
use Rattle.vl_eval.specs.declared.ops.Op.{Op}
use Rattle.vl_eval.specs.declared.ops.Op.TheVariants.{Constant}
use Rattle.vl_eval.specs.declared.steps.Step.{Step}
use Rattle.vl_eval.specs.declared.steps.Step.TheVariants.{Whole}
use Rattle.vl_eval.specs.inner.Steps.{AreWithin, IsWithin, op_in, ops_of}

within-longer : (step : Step) (count more : ℕ) → count ≤ more → IsWithin count step → IsWithin more step
within-longer (Whole number) count more le w = omega (arith, le, w)
within-longer _ count more le w = tt

held-longer : (step : Step) (wide more : List Op) → IsWithin (length wide) step → op_in (wide ++ more) step ≡ op_in wide step
held-longer (Whole number) wide more w = get_or_append_left wide more (Constant 0) number w
held-longer _ wide more w = refl

all-longer : (wide more : List Op) (steps : List Step) → ((k : ℕ) (d : Step) → k < length steps → IsWithin (length wide) (slice_index_or steps k d)) → ops_of (wide ++ more) steps ≡ ops_of wide steps
all-longer wide more [] at = refl
all-longer wide more (step ∷ steps) at = λ i. held-longer step wide more (at 0 step (omega arith)) i ∷ all-longer wide more steps (λ k d low. at (suc k) d (omega (arith, low))) i

-- the steps stay where the list grows
pub steps-stay : (wide more : List Op) (steps : List Step) → AreWithin (length wide) steps → AreWithin (length (wide ++ more)) steps
steps-stay wide more steps w = record {
  at =
      λ k d low. within-longer (slice_index_or steps k d) (length wide) (length (wide ++ more))
      (let n = length-append wide more in omega (arith, n)) (w.at k d low);
}

pub within-more : (count : ℕ) (steps : List Step) (step : Step) → AreWithin count steps → IsWithin count step → AreWithin count (steps ++ step ∷ [])
within-more count steps step w s = record { at = λ k d low. ⊎_elim (old k d) (new k d (let n = length-append steps (step ∷ []) in omega (arith, low, n))) (cases_lt k (length steps)) } where
  old : (k : ℕ) (d : Step) → k < length steps → IsWithin count (slice_index_or (steps ++ step ∷ []) k d)
  old k d low = subst (IsWithin count) (sym (get_or_append_left steps (step ∷ []) d k low)) (w.at k d low)

  new : (k : ℕ) (d : Step) → k < length steps + 1 → length steps ≤ k → IsWithin count (slice_index_or (steps ++ step ∷ []) k d)
  new k d below above =
      let here : k ≡ length steps = omega arith in
      subst (IsWithin count) (sym (ap (λ j. slice_index_or (steps ++ step ∷ []) j d) here ∙ get_or-append_seam steps step [] d)) s

-- a step was added that holds its operation
pub ops-more : (wide : List Op) (steps : List Step) (step : Step) (op : Op) → op_in wide step ≡ op → ops_of wide (steps ++ step ∷ []) ≡ ops_of wide steps ++ op ∷ []
ops-more wide steps step op is = map-append (op_in wide) steps (step ∷ []) ∙ ap (λ o. ops_of wide steps ++ o ∷ []) is

-- an operation was added that no step holds
pub ops-wider : (wide : List Op) (steps : List Step) (op : Op) → AreWithin (length wide) steps → ops_of (wide ++ op ∷ []) (steps ++ Whole (length wide) ∷ []) ≡ ops_of wide steps ++ op ∷ []
ops-wider wide steps op w =
    ops-more (wide ++ op ∷ []) steps (Whole (length wide)) op (get_or-append_seam wide op [] (Constant 0))
    ∙ ap (λ os. os ++ op ∷ []) (all-longer wide (op ∷ []) steps w.at)

pub within-wider : (wide : List Op) (steps : List Step) (op : Op) → AreWithin (length wide) steps → AreWithin (length (wide ++ op ∷ [])) (steps ++ Whole (length wide) ∷ [])
within-wider wide steps op w =
    let n = length-append wide (op ∷ []) in
    within-more (length (wide ++ op ∷ [])) steps (Whole (length wide)) (steps-stay wide (op ∷ []) steps w) (omega (arith, n))
