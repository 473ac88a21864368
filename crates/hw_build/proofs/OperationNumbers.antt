-- The number of an operation: that of the first of its block, and its element.
use Rattle.std.proofs.Common.{◌≡◌, ℕ, zero, suc, ◌+◌, ◌<◌, inl, inr, Bool, true, false, cond, List, [], ◌∷◌, ◌++◌, map, filter, length, Some, ap, sym, ◌∙◌, refl, arith, append_assoc, length-append}
use Rattle.std.proofs.lemmas.List.{append-nil}
use Rattle.std.specs.Prelude.{slice_get}
use Rattle.std.specs.List.{flat_map}
use Rattle.std.proofs.lemmas.Bool.{cases_lt, cond-true}
use Rattle.math_list.specs.Numbers.{numbers_from}
use Rattle.dg_model.specs.declared.diagram.Diagram.{Diagram}
use Rattle.dg_model.specs.declared.resolved.Resolved.{Resolved}
use Rattle.dg_model.specs.Attributes.{attributes_of}
use Rattle.hw_latency.specs.Shared.{is_shared}
use Rattle.math_list.proofs.Places.{get_left, get_right}
use Rattle.hw_sched.specs.Laws.{IsOperation}
use Rattle.hw_sched.specs.Slots.{Operation, operation, operations_of, shared_operations}
use Rattle.hw_build.specs.inner.ResultNets.{shared_width, first_operation}
use Rattle.hw_build.proofs.Operations.{those_from, element_there}

mapped_count : (block from n : ℕ) → length (map (operation block) (numbers_from from n)) ≡ n
mapped_count block from zero = refl
mapped_count block from (suc n) = ap suc (mapped_count block (suc from) n)

module _ (diagram : Diagram) (plan : Resolved) where
  abbrev those : ℕ → ℕ → List Operation
  those from n = those_from diagram (attributes_of diagram) plan from n

  -- the operations of a block, if they are shared
  abbrev own : ℕ → List Operation
  own block = cond (is_shared diagram (attributes_of diagram) plan block) (operations_of (attributes_of diagram) block) []

  abbrev with_own : Bool → ℕ → List ℕ → List Operation
  with_own b block rest = flat_map (operations_of (attributes_of diagram)) (cond b (block ∷ rest) rest)

  own_first : (b : Bool) (block : ℕ) (rest : List ℕ) → with_own b block rest ≡ cond b (operations_of (attributes_of diagram) block) [] ++ flat_map (operations_of (attributes_of diagram)) rest
  own_first true block rest = refl
  own_first false block rest = refl

  those_first : (from n : ℕ) → those from (suc n) ≡ own from ++ those (suc from) n
  those_first from n = own_first (is_shared diagram (attributes_of diagram) plan from) from (filter (is_shared diagram (attributes_of diagram) plan) (numbers_from (suc from) n))

  those_last : (from n : ℕ) → those from (suc n) ≡ those from n ++ own (from + n)
  those_last from zero =
      let e : from ≡ from + 0 = omega arith in
      those_first from zero ∙ append-nil (own from) ∙ ap own e
  those_last from (suc n) =
      let e : suc from + n ≡ from + suc n = omega arith in
      those_first from (suc n)
      ∙ ap (λ (xs : List Operation). own from ++ xs) (those_last (suc from) n)
      ∙ sym (append_assoc (own from) (those (suc from) n) (own (suc from + n)))
      ∙ ap (λ (xs : List Operation). xs ++ own (suc from + n)) (sym (those_first from n))
      ∙ ap (λ (k : ℕ). those from (suc n) ++ own k) e

  own_count : (b : Bool) (block : ℕ) → length (cond b (operations_of (attributes_of diagram) block) []) ≡ cond b ((attributes_of diagram).width_at block 1) 0
  own_count true block = mapped_count block 0 ((attributes_of diagram).width_at block 1)
  own_count false block = refl

  those_count : (n : ℕ) → length (those 0 n) ≡ first_operation diagram plan n
  those_count zero = refl
  those_count (suc n) =
      let e : 0 + n ≡ n = omega arith in
      let last : those 0 (suc n) ≡ those 0 n ++ own n = those_last 0 n ∙ ap (λ (k : ℕ). those 0 n ++ own k) e in
      let before_it = those_count n in
      let here : length (own n) ≡ shared_width diagram plan n = own_count (is_shared diagram (attributes_of diagram) plan n) n in
      ap (λ (xs : List Operation). length xs) last ∙ length-append (those 0 n) (own n) ∙ omega (arith, before_it, here)

  own_at : (block element : ℕ) → is_shared diagram (attributes_of diagram) plan block ≡ true
      → element < (attributes_of diagram).width_at block 1
      → slice_get (own block) element ≡ Some (operation block element)
  own_at block element shared below =
      let e : 0 + element ≡ element = omega arith in
      ap (λ (xs : List Operation). slice_get xs element) (cond-true {A = List Operation} (is_shared diagram (attributes_of diagram) plan block) (operations_of (attributes_of diagram) block) [] shared)
      ∙ element_there block 0 ((attributes_of diagram).width_at block 1) element below ∙ ap (λ (k : ℕ). Some (operation block k)) e

  there_in : (n block element : ℕ) → block < n → is_shared diagram (attributes_of diagram) plan block ≡ true → element < (attributes_of diagram).width_at block 1
      → slice_get (those 0 n) (first_operation diagram plan block + element) ≡ Some (operation block element)
  there_in zero block element inside shared below = absurd (omega (arith, inside))
  there_in (suc n) block element inside shared below =
      let z : 0 + n ≡ n = omega arith in
      let last : those 0 (suc n) ≡ those 0 n ++ own n = those_last 0 n ∙ ap (λ (k : ℕ). those 0 n ++ own k) z in
      ap (λ (xs : List Operation). slice_get xs (first_operation diagram plan block + element)) last
      ∙ elim (cases_lt block n) [
        | inl less ↦ get_left (those 0 n) (own n) (first_operation diagram plan block + element) (operation block element) (there_in n block element less shared below)
        | inr past ↦
            let same : block ≡ n = omega (arith, inside, past) in
            let place : first_operation diagram plan block + element ≡ length (those 0 n) + element =
            ap (λ (k : ℕ). first_operation diagram plan k + element) same ∙ ap (λ (k : ℕ). k + element) (sym (those_count n)) in
            ap (slice_get (those 0 n ++ own n)) place ∙ get_right (those 0 n) (own n) element
            ∙ ap (λ (k : ℕ). slice_get (own k) element) (sym same) ∙ own_at block element shared below
      ]

  pub operation_there : (block element : ℕ) → block < length diagram.blocks → is_shared diagram (attributes_of diagram) plan block ≡ true → element < (attributes_of diagram).width_at block 1
      → IsOperation diagram (attributes_of diagram) plan (first_operation diagram plan block + element) (operation block element)
  operation_there block element inside shared below = there_in (length diagram.blocks) block element inside shared below

  pub operations_in_all : length (shared_operations diagram (attributes_of diagram) plan) ≡ first_operation diagram plan (length diagram.blocks)
  operations_in_all = those_count (length diagram.blocks)
