-- The slots and multipliers of shared operations are those of the same operations by numbers.
use Rattle.std.proofs.Common.{◌≡◌, ℕ, zero, suc, ◌+◌, ◌-◌, ◌/◌, ◌%◌, ◌<◌, ◌≤◌, min, Bool, true, false, cond, List, [], ◌∷◌, ◌++◌, length, map, take, filter, refl, sym, ap, subst, ◌∙◌, inl, inr, arith}
use Rattle.std.specs.Prelude.{slice_get, Some, count_by, ◌&&◌, ◌==◌, ◌⊎◌, nat_lt, if◌then◌else◌}
use Rattle.std.specs.List.{sum}
use Rattle.std.proofs.lemmas.Bool.{false≢true, cases_Bool, cond-true, cond-false, and_parts, and_from, eqb-true, eqb-false, eq-eqb, ne_eqb, ltb-false}
use Rattle.std.proofs.lemmas.List.Sums.{sum_by-cons}
use Rattle.std.proofs.lemmas.Nat.{div_below}
use Rattle.std.proofs.lemmas.Option.{none-some, same_Some}
use Rattle.math_list.specs.Numbers.{numbers_from, greatest}
use Rattle.dg_model.specs.declared.diagram.Diagram.{Diagram}
use Rattle.dg_model.specs.declared.resolved.Resolved.{Resolved}
use Rattle.dg_model.specs.Signals.{Attributes}
use Rattle.hw_latency.specs.Weight.{samples}
use Rattle.hw_slots.specs.declared.operation.Operation.{Operation as Cell}
use Rattle.hw_slots.specs.Slots.{count_at as count_in, needed, level_width as width_in, level_after, levels_of as levels_in, base_slot as base_in, need_of as need_in, turn_of as turn_in}
use Rattle.hw_slots.specs.Slots.{slot_of as slot_in, beside, most_at_once as most_in, units_of_kind as units_in, unit_of as unit_in}
use Rattle.math_list.proofs.Sums.{greatest_at, sums_same}
use Rattle.hw_sched.specs.Slots.{Timing, Operation, OperationKind, shared_operations, kind_of, is_same_kind, level_of, count_at, shared_out, level_width, start_of, base_slot, levels_of, need_of}
use Rattle.hw_sched.specs.Slots.{turn_of, slot_of, most_at_once, units_of_kind, new_kind, kinds_of, before_kind, unit_of}
use Rattle.hw_sched.specs.Laws.{IsOperation}
use Rattle.hw_sched.specs.Numbered.{OperationsAreNumbered, all_kinds, number_of, cell_of, cells_of}
use Rattle.hw_sched.proofs.Lists.{greatest_within, stands_filtered, passes}
use Rattle.hw_sched.proofs.Bases.{same_kind, own_kind, of_shared}
use Rattle.hw_sched.proofs.Units.{HasKind, own_listed}
use Rattle.math_list.proofs.Places.{map_there, there_map, count_cons}

-- ---- lists

counts_same : {A B : Type 0} (f : A → B) (p : A → Bool) (q : B → Bool) (xs : List A) → ((k : ℕ) (x : A) → slice_get xs k ≡ Some x → q (f x) ≡ p x) → count_by q (map f xs) ≡ count_by p xs
counts_same f p q [] same = refl
counts_same f p q (x ∷ xs) same =
    let more = counts_same f p q xs (λ k y at. same (suc k) y at) in
    let e = ap (λ (b : Bool). cond {A = ℕ} b 1 0) (same 0 x refl) in
    omega (arith, more, e, count_cons p x xs, count_cons q (f x) (map f xs))

mapped_take : {A B : Type 0} (f : A → B) (n : ℕ) (xs : List A) → take n (map f xs) ≡ map f (take n xs)
mapped_take f zero xs = refl
mapped_take f (suc n) [] = refl
mapped_take {A} {B} f (suc n) (x ∷ xs) = ap (λ (ys : List B). f x ∷ ys) (mapped_take f n xs)

pub taken_from : {A : Type 0} (n : ℕ) (xs : List A) (k : ℕ) (x : A) → slice_get (take n xs) k ≡ Some x → slice_get xs k ≡ Some x
taken_from zero xs k x at = absurd (none-some x at)
taken_from (suc n) [] k x at = at
taken_from (suc n) (y ∷ xs) zero x at = at
taken_from (suc n) (y ∷ xs) (suc k) x at = taken_from n xs k x at

found_counted : {A : Type 0} (p : A → Bool) (xs : List A) → 0 < count_by p xs → (k : ℕ) × (x : A) × (slice_get xs k ≡ Some x) × (p x ≡ true)
found_counted p [] some = absurd (omega (arith, some))
found_counted {A} p (x ∷ xs) some = elim (cases_Bool (p x)) [
  | inl is ↦ (0, x, refl, is)
  | inr not ↦
      let e = cond-false {A = ℕ} (p x) 1 0 not in
      let more = found_counted p xs (omega (arith, some, count_cons p x xs, e)) in
      (suc more.0, more.1, more.2, more.3)
]

-- ---- the numbers of kinds

next_same : (a b : ℕ) (x : Bool) → (a == b) ≡ x → (suc a == suc b) ≡ x
next_same a b true e = eq-eqb (suc a) (suc b) (ap (λ (n : ℕ). suc n) (eqb-true a b e))
next_same a b false e = ne_eqb (suc a) (suc b) (λ same. eqb-false a b e (omega (arith, same)))

kind_number : (kinds : List OperationKind) (kind other : OperationKind) → HasKind kinds kind → HasKind kinds other
    → (length (before_kind kind kinds) == length (before_kind other kinds)) ≡ is_same_kind kind other
kind_number [] kind other has too = absurd (omega (arith, has))
kind_number (k ∷ kinds) kind other has too =
    go (λ a b. kind_number kinds kind other a b) (is_same_kind kind k) (is_same_kind other k) refl refl
    (count_cons (is_same_kind kind) k kinds) (count_cons (is_same_kind other) k kinds)
  where
    one : (b : Bool) → is_same_kind kind other ≡ b → is_same_kind kind k ≡ true → is_same_kind other k ≡ true → b ≡ true
    one b e p q = sym e ∙ subst (λ (o : OperationKind). is_same_kind kind o ≡ true) (same_kind kind k p ∙ sym (same_kind other k q)) (own_kind kind)

    apart : (x y b : Bool) → is_same_kind kind k ≡ x → is_same_kind other k ≡ y → is_same_kind kind other ≡ b → x ≡ true → y ≡ false → false ≡ b
    apart x y true p q e t f = absurd (false≢true (sym f ∙ sym q ∙ ap (λ (o : OperationKind). is_same_kind o k) (sym (same_kind kind other e)) ∙ p ∙ t))
    apart x y false p q e t f = refl

    apart_too : (x y b : Bool) → is_same_kind kind k ≡ x → is_same_kind other k ≡ y → is_same_kind kind other ≡ b → x ≡ false → y ≡ true → false ≡ b
    apart_too x y true p q e f t = absurd (false≢true (sym f ∙ sym p ∙ ap (λ (o : OperationKind). is_same_kind o k) (same_kind kind other e) ∙ q ∙ t))
    apart_too x y false p q e f t = refl

    go : (HasKind kinds kind → HasKind kinds other
        → (length (before_kind kind kinds) == length (before_kind other kinds)) ≡ is_same_kind kind other)
        → (x y : Bool) → is_same_kind kind k ≡ x → is_same_kind other k ≡ y
        → count_by (is_same_kind kind) (k ∷ kinds) ≡ cond x 1 0 + count_by (is_same_kind kind) kinds
        → count_by (is_same_kind other) (k ∷ kinds) ≡ cond y 1 0 + count_by (is_same_kind other) kinds
        → (length (cond x [] (k ∷ before_kind kind kinds)) == length (cond y [] (k ∷ before_kind other kinds)))
        ≡ is_same_kind kind other
    go rest true true p q c d = sym (one (is_same_kind kind other) refl p q)
    go rest true false p q c d = ne_eqb 0 (suc (length (before_kind other kinds))) (λ e. absurd (omega (arith, e))) ∙ apart true false (is_same_kind kind other) p q refl refl refl
    go rest false true p q c d = ne_eqb (suc (length (before_kind kind kinds))) 0 (λ e. absurd (omega (arith, e))) ∙ apart_too false true (is_same_kind kind other) p q refl refl refl
    go rest false false p q c d = next_same (length (before_kind kind kinds)) (length (before_kind other kinds)) (is_same_kind kind other) (rest (omega (arith, has, c)) (omega (arith, too, d)))

-- a kind that is new stands behind all others
pub none_before : (kinds : List OperationKind) (kind last : OperationKind) → count_by (is_same_kind kind) kinds ≡ 0
    → is_same_kind kind last ≡ true → length (before_kind kind (kinds ++ last ∷ [])) ≡ length kinds
none_before [] kind last none same = ap (λ (b : Bool). length (cond b [] (last ∷ []))) same
none_before (k ∷ kinds) kind last none same = go (λ none. none_before kinds kind last none same) (is_same_kind kind k) (count_cons (is_same_kind kind) k kinds)
  where
    go : (count_by (is_same_kind kind) kinds ≡ 0 → length (before_kind kind (kinds ++ last ∷ [])) ≡ length kinds)
        → (b : Bool) → count_by (is_same_kind kind) (k ∷ kinds) ≡ cond b 1 0 + count_by (is_same_kind kind) kinds
        → length (cond b [] (k ∷ before_kind kind (kinds ++ last ∷ []))) ≡ suc (length kinds)
    go rest true e = absurd (omega (arith, none, e))
    go rest false e = let more = rest (omega (arith, none, e)) in omega (arith, more)

module _ (diagram : Diagram) (attributes : Attributes) (plan : Resolved) (timing : Timing) where
  abbrev all : List Operation
  all = shared_operations diagram attributes plan

  abbrev kind_at : Operation → OperationKind
  kind_at o = kind_of diagram attributes timing o

  abbrev number : OperationKind → ℕ
  number kind = number_of diagram attributes plan timing kind

  abbrev cell : Operation → Cell
  cell o = cell_of diagram attributes plan timing o

  abbrev cells : List Cell
  cells = cells_of diagram attributes plan timing

  pub numbers_same : (n m : ℕ) (o q : Operation) → slice_get all n ≡ Some o → slice_get all m ≡ Some q → (number (kind_at o) == number (kind_at q)) ≡ is_same_kind (kind_at o) (kind_at q)
  numbers_same n m o q at too = kind_number (all_kinds diagram attributes plan timing) (kind_at o) (kind_at q)
      (own_listed diagram attributes plan timing all [] n o at)
      (own_listed diagram attributes plan timing all [] m q too)

  -- ---- counts and turns

  counts_as : (xs : List Operation) (m : ℕ) (o : Operation) (level : ℕ)
      → ((k : ℕ) (x : Operation) → slice_get xs k ≡ Some x → (n : ℕ) × (slice_get all n ≡ Some x))
      → slice_get all m ≡ Some o → count_in (map cell xs) (number (kind_at o)) level
      ≡ count_at diagram attributes timing xs (kind_at o) level
  counts_as xs m o level inside at = counts_same cell (λ x. is_same_kind (kind_at x) (kind_at o) && (level_of timing x == level)) (λ c. (c.kind == number (kind_at o)) && (c.level == level)) xs
      (λ k x there. let place = inside k x there in ap (λ (b : Bool). b && (level_of timing x == level)) (numbers_same place.0 m x o place.1 at))

  count_all : (m : ℕ) (o : Operation) (level : ℕ) → slice_get all m ≡ Some o → count_in cells (number (kind_at o)) level ≡ count_at diagram attributes timing all (kind_at o) level
  count_all m o level at = counts_as all m o level (λ k x there. (k, there)) at

  pub turns_as : (n : ℕ) (o : Operation) → IsOperation diagram attributes plan n o → turn_in cells n (cell o) ≡ turn_of diagram attributes plan timing n o
  turns_as n o at = ap (λ (xs : List Cell). count_in xs (number (kind_at o)) (level_of timing o))
      (mapped_take cell n all)
      ∙ counts_as (take n all) n o (level_of timing o) (λ k x there. (k, taken_from n all k x there)) at

  -- ---- the widths of levels

  abbrev needs : ℕ → Operation → ℕ
  needs level o = shared_out (count_at diagram attributes timing all (kind_at o) level) plan.multipliers

  abbrev is_of : ℕ → Operation → Bool
  is_of period o = samples (attributes.period_at o.block) == period

  out_of_none : (multipliers : ℕ) → 0 < multipliers → shared_out 0 multipliers ≡ 0
  out_of_none multipliers some = let e = div_below (0 + (multipliers - 1)) multipliers 1 some (omega (arith, some)) in omega (arith, e)

  needed_there : (period level : ℕ) (o : Operation) (n : ℕ) → slice_get all n ≡ Some o → is_of period o ≡ true
      → level_of timing o ≡ level → needed cells plan.multipliers period level (cell o) ≡ needs level o
  needed_there period level o n at is same =
      cond-true ((samples (attributes.period_at o.block) == period) && (level_of timing o == level)) (shared_out (count_in cells (number (kind_at o)) (level_of timing o)) plan.multipliers) 0
      (and_from (is_of period o) (level_of timing o == level) is (eq-eqb (level_of timing o) level same))
      ∙ ap (λ (c : ℕ). shared_out c plan.multipliers) (count_all n o (level_of timing o) at)
      ∙ ap (λ (l : ℕ). needs l o) same

  -- a kind's need at a level is that of an operation there, or none
  needs_within : (period level n : ℕ) (o : Operation) → slice_get all n ≡ Some o → is_of period o ≡ true → needs level o ≤ width_in cells plan.multipliers period level
  needs_within period level n o at is = go (count_at diagram attributes timing all (kind_at o) level) refl
    where
      there : 0 < count_at diagram attributes timing all (kind_at o) level → needs level o ≤ width_in cells plan.multipliers period level
      there some =
          let one = found_counted (λ (x : Operation). is_same_kind (kind_at x) (kind_at o) && (level_of timing x == level)) all some in
          let parts = and_parts (is_same_kind (kind_at one.1) (kind_at o)) (level_of timing one.1 == level) one.3 in
          let kind : ◌≡◌ {A = OperationKind} (kind_at one.1) (kind_at o) = same_kind (kind_at one.1) (kind_at o) parts.0 in
          let period_is : is_of period one.1 ≡ true = ap (λ (k : OperationKind). k.period == period) kind ∙ is in
          let need = needed_there period level one.1 one.0 one.2 period_is (eqb-true (level_of timing one.1) level parts.1) in
          let same : needs level one.1 ≡ needs level o = ap (λ (k : OperationKind). shared_out (count_at diagram attributes timing all k level) plan.multipliers) kind in
          let most = greatest_at (needed cells plan.multipliers period level) cells one.0 (cell one.1) (there_map cell all one.0 one.1 one.2) in
          omega (arith, need, same, most)

      go : (count : ℕ) → count_at diagram attributes timing all (kind_at o) level ≡ count → needs level o ≤ width_in cells plan.multipliers period level
      go zero e =
          let none : needs level o ≡ 0 = ap (λ (c : ℕ). shared_out c plan.multipliers) e ∙ out_of_none plan.multipliers (of_shared diagram attributes plan timing n o at).some in
          omega (arith, none)
      go (suc count) e = there (omega (arith, e))

  width_below : (period level : ℕ) (o : Operation) (n : ℕ) (test : Bool) → slice_get all n ≡ Some o
      → ((samples (attributes.period_at o.block) == period) && (level_of timing o == level)) ≡ test
      → needed cells plan.multipliers period level (cell o)
      ≤ level_width diagram attributes plan timing period level
  width_below period level o n true at e =
      let parts = and_parts (is_of period o) (level_of timing o == level) e in
      let need = needed_there period level o n at parts.0 (eqb-true (level_of timing o) level parts.1) in
      let stands = stands_filtered (is_of period) all n o at parts.0 in
      let most = greatest_at (needs level) (filter (is_of period) all) stands.place o stands.at in
      omega (arith, need, most)
  width_below period level o n false at e =
      let none : needed cells plan.multipliers period level (cell o) ≡ 0 =
      cond-false ((samples (attributes.period_at o.block) == period) && (level_of timing o == level))
      (shared_out (count_in cells (number (kind_at o)) (level_of timing o)) plan.multipliers) 0 e in
      omega (arith, none)

  pub widths_as : (period level : ℕ) → width_in cells plan.multipliers period level ≡ level_width diagram attributes plan timing period level
  widths_as period level =
      let low = greatest_within (needed cells plan.multipliers period level) (level_width diagram attributes plan timing period level) cells
      (λ k c there. let from = map_there cell all k c there in
      subst (λ (d : Cell). needed cells plan.multipliers period level d ≤ level_width diagram attributes plan timing period level) from.2
      (width_below period level from.0 k ((samples (attributes.period_at from.0.block) == period) && (level_of timing from.0 == level)) from.1 refl)) in
      let high = greatest_within (needs level) (width_in cells plan.multipliers period level) (filter (is_of period) all)
      (λ k o there. let left = passes (is_of period) all k o there in needs_within period level left.1.place o left.1.at left.0) in
      omega (arith, low, high)

  -- ---- levels and the first slots of levels

  greatest_mapped : (f : Cell → ℕ) (g : Operation → ℕ) (xs : List Operation) → ((x : Operation) → f (cell x) ≡ g x) → greatest (map f (map cell xs)) ≡ greatest (map g xs)
  greatest_mapped f g [] same = refl
  greatest_mapped f g (x ∷ xs) same = let more = greatest_mapped f g xs same in let one = same x in omega (arith, more, one)

  after_as : (period : ℕ) (x : Operation) → level_after period (cell x) ≡ cond (samples (attributes.period_at x.block) == period) (suc (level_of timing x)) 0
  after_as period x = ap (λ (n : ℕ). cond (samples (attributes.period_at x.block) == period) n 0) (let e : level_of timing x + 1 ≡ suc (level_of timing x) = omega arith in e)

  pub levels_as : (period : ℕ) → levels_in cells period ≡ levels_of diagram attributes plan timing period
  levels_as period = greatest_mapped (level_after period) (λ x. if samples (attributes.period_at x.block) == period then suc (level_of timing x) else 0) all (after_as period)

  pub bases_as : (period level : ℕ) → base_in cells plan.multipliers (start_of diagram attributes plan period) period level ≡ base_slot diagram attributes plan timing period level
  bases_as period level = let e = sums_same (width_in cells plan.multipliers period) (level_width diagram attributes plan timing period) (numbers_from 0 level) (widths_as period) in omega (arith, e)

  pub needs_as : (period : ℕ) → need_in cells plan.multipliers (start_of diagram attributes plan period) period ≡ need_of diagram attributes plan timing period
  needs_as period = bases_as period (levels_in cells period) ∙ ap (base_slot diagram attributes plan timing period) (levels_as period)

  pub slots_as : (n : ℕ) (o : Operation) → IsOperation diagram attributes plan n o
      → slot_in cells plan.multipliers (start_of diagram attributes plan (samples (attributes.period_at o.block))) n
      (cell o) ≡ slot_of diagram attributes plan timing n o
  slots_as n o at =
      let base = bases_as (samples (attributes.period_at o.block)) (level_of timing o) in
      let row = ap (λ (t : ℕ). t / plan.multipliers) (turns_as n o at) in
      omega (arith, base, row)

  -- ---- multipliers

  beside_as : (m : ℕ) (o x : Operation) (n : ℕ) (test : Bool) → slice_get all m ≡ Some o → slice_get all n ≡ Some x
      → (number (kind_at x) == number (kind_at o)) ≡ test
      → beside cells (number (kind_at o)) (cell x)
      ≡ cond test (count_at diagram attributes timing all (kind_at o) (level_of timing x)) 0
  beside_as m o x n true at there e =
      let kind : ◌≡◌ {A = OperationKind} (kind_at x) (kind_at o) = same_kind (kind_at x) (kind_at o) (sym (numbers_same n m x o there at) ∙ e) in
      cond-true (number (kind_at x) == number (kind_at o))
      (count_in cells (number (kind_at x)) (level_of timing x)) 0 e ∙ count_all n x (level_of timing x) there
      ∙ ap (λ (k : OperationKind). count_at diagram attributes timing all k (level_of timing x)) kind
  beside_as m o x n false at there e = cond-false (number (kind_at x) == number (kind_at o)) (count_in cells (number (kind_at x)) (level_of timing x)) 0 e

  abbrev at_once : Operation → Operation → ℕ
  at_once o x = count_at diagram attributes timing all (kind_at o) (level_of timing x)

  at_once_within : (m : ℕ) (o x : Operation) → slice_get all m ≡ Some o → at_once o x ≤ most_in cells (number (kind_at o))
  at_once_within m o x at = go (at_once o x) refl
    where
      there : 0 < at_once o x → at_once o x ≤ most_in cells (number (kind_at o))
      there some =
          let one = found_counted (λ (y : Operation). is_same_kind (kind_at y) (kind_at o) && (level_of timing y == level_of timing x)) all some in
          let parts = and_parts (is_same_kind (kind_at one.1) (kind_at o)) (level_of timing one.1 == level_of timing x) one.3 in
          let level : level_of timing one.1 ≡ level_of timing x = eqb-true (level_of timing one.1) (level_of timing x) parts.1 in
          let is = beside_as m o one.1 one.0 true at one.2 (numbers_same one.0 m one.1 o one.2 at ∙ parts.0) in
          let same : at_once o one.1 ≡ at_once o x = ap (λ (l : ℕ). count_at diagram attributes timing all (kind_at o) l) level in
          let most = greatest_at (beside cells (number (kind_at o))) cells one.0 (cell one.1) (there_map cell all one.0 one.1 one.2) in
          omega (arith, is, same, most)

      go : (count : ℕ) → at_once o x ≡ count → at_once o x ≤ most_in cells (number (kind_at o))
      go zero e = omega (arith, e)
      go (suc count) e = there (omega (arith, e))

  beside_within : (m : ℕ) (o x : Operation) (n : ℕ) (test : Bool) → slice_get all m ≡ Some o
      → slice_get all n ≡ Some x → (number (kind_at x) == number (kind_at o)) ≡ test
      → beside cells (number (kind_at o)) (cell x) ≤ most_at_once diagram attributes plan timing (kind_at o)
  beside_within m o x n true at there e =
      let is = beside_as m o x n true at there e in
      let most = greatest_at (at_once o) all n x there in
      omega (arith, is, most)
  beside_within m o x n false at there e = let is = beside_as m o x n false at there e in omega (arith, is)

  pub most_as : (m : ℕ) (o : Operation) → slice_get all m ≡ Some o → most_in cells (number (kind_at o)) ≡ most_at_once diagram attributes plan timing (kind_at o)
  most_as m o at =
      let low = greatest_within (beside cells (number (kind_at o))) (most_at_once diagram attributes plan timing (kind_at o)) cells
      (λ k c there. let from = map_there cell all k c there in
      subst (λ (d : Cell). beside cells (number (kind_at o)) d ≤ most_at_once diagram attributes plan timing (kind_at o)) from.2
      (beside_within m o from.0 k (number (kind_at from.0) == number (kind_at o)) at from.1 refl)) in
      let high = greatest_within (at_once o) (most_in cells (number (kind_at o))) all (λ k x there. at_once_within m o x at) in
      omega (arith, low, high)

  -- ---- the kinds in a list stand there once, and each is that of an operation

  -- a kind of a list has its place there as its number, and is that of an operation
  record IsListed (kinds : List OperationKind) (k : ℕ) (kind : OperationKind) : Type 0 where
    pub place : length (before_kind kind kinds) ≡ k
    pub n : ℕ
    pub o : Operation
    pub at : slice_get all n ≡ Some o
    pub is : kind ≡ kind_at o

  abbrev AreListed : List OperationKind → Type 0
  AreListed kinds = (k : ℕ) (kind : OperationKind) → slice_get kinds k ≡ Some kind → IsListed kinds k kind

  kept_before : (kinds : List OperationKind) (kind last : OperationKind) (k : ℕ) → k < length kinds → length (before_kind kind kinds) ≡ k → length (before_kind kind (kinds ++ last ∷ [])) ≡ k
  kept_before [] kind last k below e = absurd (omega (arith, below))
  kept_before (x ∷ kinds) kind last k below e = go (λ k below e. kept_before kinds kind last k below e) (is_same_kind kind x) k below e
    where
      go : ((k : ℕ) → k < length kinds → length (before_kind kind kinds) ≡ k
          → length (before_kind kind (kinds ++ last ∷ [])) ≡ k) → (b : Bool) (k : ℕ) → k < suc (length kinds)
          → length (cond b [] (x ∷ before_kind kind kinds)) ≡ k
          → length (cond b [] (x ∷ before_kind kind (kinds ++ last ∷ []))) ≡ k
      go rest true k below e = e
      go rest false zero below e = absurd (omega (arith, e))
      go rest false (suc k) below e = let more = rest k (omega (arith, below)) (omega (arith, e)) in omega (arith, more)

  pushed : (kinds : List OperationKind) (last kind : OperationKind) (k : ℕ)
      → slice_get (kinds ++ last ∷ []) k ≡ Some kind
      → ((k < length kinds) × (slice_get kinds k ≡ Some kind))
      ⊎ ((k ≡ length kinds) × (◌≡◌ {A = OperationKind} last kind))
  pushed [] last kind zero at = inr (refl, same_Some last kind at)
  pushed [] last kind (suc k) at = absurd (none-some kind at)
  pushed (x ∷ kinds) last kind zero at = inl (omega arith, at)
  pushed (x ∷ kinds) last kind (suc k) at = elim (pushed kinds last kind k at) [
    | inl here ↦ let low = here.0 in inl (omega (arith, low), here.1)
    | inr end ↦ let e = end.0 in inr (omega (arith, e), end.1)
  ]

  listed_new : (kinds : List OperationKind) (o : Operation) (n : ℕ) → slice_get all n ≡ Some o → AreListed kinds → AreListed (new_kind diagram attributes timing kinds o)
  listed_new kinds o n there listed = go (nat_lt 0 (count_by (is_same_kind (kind_at o)) kinds)) refl
    where
      go : (b : Bool) → nat_lt 0 (count_by (is_same_kind (kind_at o)) kinds) ≡ b → AreListed (cond b kinds (kinds ++ kind_at o ∷ []))
      go true e = listed
      go false e = λ k kind at. elim (pushed kinds (kind_at o) kind k at) [
        | inl here ↦ let old = listed k kind here.1 in record { place = kept_before kinds kind (kind_at o) k here.0 old.place; n = old.n; o = old.o; at = old.at; is = old.is }
        | inr end ↦
            let none = ltb-false 0 (count_by (is_same_kind (kind_at o)) kinds) e in
            let fresh = none_before kinds (kind_at o) (kind_at o) (omega (arith, none)) (own_kind (kind_at o)) in
            let place = end.0 in
            let moved = ap (λ (q : OperationKind). length (before_kind q (kinds ++ kind_at o ∷ []))) end.1 in
            record { place = omega (arith, fresh, place, moved); n = n; o = o; at = there; is = sym end.1 }
      ]

  listed_all : (operations : List Operation) (kinds : List OperationKind)
      → ((k : ℕ) (x : Operation) → slice_get operations k ≡ Some x → (n : ℕ) × (slice_get all n ≡ Some x))
      → AreListed kinds → AreListed (kinds_of diagram attributes timing kinds operations)
  listed_all [] kinds inside listed = listed
  listed_all (o ∷ operations) kinds inside listed =
      let first = inside 0 o refl in
      listed_all operations (new_kind diagram attributes timing kinds o) (λ k x at. inside (suc k) x at) (listed_new kinds o first.0 first.1 listed)

  listed : AreListed (all_kinds diagram attributes plan timing)
  listed = listed_all all [] (λ k x at. (k, at)) (λ k kind at. absurd (none-some kind at))

  -- ---- the first multiplier of a kind

  units_as : (k : ℕ) (kind : OperationKind) → slice_get (all_kinds diagram attributes plan timing) k ≡ Some kind → units_in cells plan.multipliers k ≡ units_of_kind diagram attributes plan timing kind
  units_as k kind at =
      let one = listed k kind at in
      let e : number (kind_at one.o) ≡ k = ap number (sym one.is) ∙ one.place in
      let most = most_as one.n one.o one.at in
      ap (units_in cells plan.multipliers) (sym e) ∙ ap (min plan.multipliers) most ∙ ap (units_of_kind diagram attributes plan timing) (sym one.is)

  firsts_from : (kinds : List OperationKind) (from : ℕ) (kind : OperationKind)
      → ((k : ℕ) (other : OperationKind) → slice_get kinds k ≡ Some other
      → units_in cells plan.multipliers (from + k) ≡ units_of_kind diagram attributes plan timing other)
      → sum (map (units_in cells plan.multipliers) (numbers_from from (length (before_kind kind kinds)))) ≡ sum (map (units_of_kind diagram attributes plan timing) (before_kind kind kinds))
  firsts_from [] from kind same = refl
  firsts_from (x ∷ kinds) from kind same =
      go (is_same_kind kind x) (let e : from ≡ from + 0 = omega arith in ap (units_in cells plan.multipliers) e ∙ same 0 x refl)
      (firsts_from kinds (suc from) kind (λ k other at. let e : suc from + k ≡ from + suc k = omega arith in ap (units_in cells plan.multipliers) e ∙ same (suc k) other at))
    where
      go : (b : Bool) → units_in cells plan.multipliers from ≡ units_of_kind diagram attributes plan timing x
          → sum (map (units_in cells plan.multipliers) (numbers_from (suc from) (length (before_kind kind kinds)))) ≡ sum (map (units_of_kind diagram attributes plan timing) (before_kind kind kinds))
          → sum (map (units_in cells plan.multipliers)
          (numbers_from from (length (cond b [] (x ∷ before_kind kind kinds)))))
          ≡ sum
          (map (units_of_kind diagram attributes plan timing) (cond b [] (x ∷ before_kind kind kinds)))
      go true one rest = refl
      go false one rest = omega (
        arith,
        one,
        rest,
        sum_by-cons (λ (k : ℕ). k) (units_in cells plan.multipliers from)
            (map (units_in cells plan.multipliers) (numbers_from (suc from) (length (before_kind kind kinds)))),
        sum_by-cons (λ (k : ℕ). k) (units_of_kind diagram attributes plan timing x)
            (map (units_of_kind diagram attributes plan timing) (before_kind kind kinds)),
      )

  pub units_numbered : (n : ℕ) (o : Operation) → IsOperation diagram attributes plan n o → unit_in cells plan.multipliers n (cell o) ≡ unit_of diagram attributes plan timing n o
  units_numbered n o at =
      let first = firsts_from (all_kinds diagram attributes plan timing) 0 (kind_at o)
      (λ k other there. let e : 0 + k ≡ k =
      omega arith in ap (units_in cells plan.multipliers) e ∙ units_as k other there) in
      let place = ap (λ (t : ℕ). t % plan.multipliers) (turns_as n o at) in
      omega (arith, first, place)

pub numbered : OperationsAreNumbered
numbered diagram attributes plan timing = record {
  needs = needs_as diagram attributes plan timing;
  slots = slots_as diagram attributes plan timing;
  units = units_numbered diagram attributes plan timing;
}
