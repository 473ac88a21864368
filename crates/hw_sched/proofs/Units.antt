-- Two operations of one multiplier are of one kind, and have different slots.
use Rattle.std.proofs.Common.{◌≡◌, ℕ, zero, suc, ◌+◌, ◌*◌, ◌/◌, ◌%◌, ◌<◌, Bool, true, false, cond, List, [], ◌∷◌, ◌++◌, map, take, refl, sym, ap, subst, ◌∙◌, inl, inr, arith}
use Rattle.std.specs.Prelude.{slice_get, Some, count_by, ◌&&◌, ◌==◌, nat_lt, ◌≢◌}
use Rattle.std.specs.List.{sum}
use Rattle.std.proofs.Math.Nat.{mod-le}
use Rattle.std.proofs.lemmas.Bool.{cases_order, cond-true, ltb-true}
use Rattle.std.proofs.lemmas.List.Sums.{sum_by_push}
use Rattle.std.proofs.lemmas.Nat.{div-add-mod', mod_below}
use Rattle.std.proofs.lemmas.Option.{none-some, same_Some}
use Rattle.dg_model.specs.declared.diagram.Diagram.{Diagram}
use Rattle.dg_model.specs.declared.resolved.Resolved.{Resolved}
use Rattle.dg_model.specs.Signals.{Attributes}
use Rattle.hw_latency.specs.Weight.{samples}
use Rattle.math_list.proofs.Places.{count_cons, sum-cons}
use Rattle.math_list.proofs.Sums.{greatest_at}
use Rattle.hw_sched.specs.Slots.{Timing, Operation, OperationKind, shared_operations, kind_of, is_same_kind, level_of, count_at, base_slot, turn_of, slot_of, units_of_kind, new_kind, kinds_of}
use Rattle.hw_sched.specs.Slots.{before_kind}
use Rattle.hw_sched.specs.Laws.{IsOperation, SlotsDiffer, UnitsAreThere}
use Rattle.hw_sched.proofs.Lists.{count_rises}
use Rattle.hw_sched.proofs.Bases.{same_kind, own_kind, of_shared, counts_itself, turn_below, slot_within, base_rises}

-- a kind stands in a list
abbrev pub HasKind : List OperationKind → OperationKind → Type 0
HasKind kinds kind = 0 < count_by (is_same_kind kind) kinds

-- ---- the multipliers of different kinds are apart

-- what one number of a list of kinds says
pub record IsOneUnit (units : OperationKind → ℕ) (kinds : List OperationKind) (kind other : OperationKind) (a b : ℕ) : Type 0 where
  pub same : ◌≡◌ {A = OperationKind} kind other
  pub place : a ≡ b

module _ (units : OperationKind → ℕ) (kind other : OperationKind) (a b : ℕ) (below : a < units kind) (under : b < units other) where
  abbrev before : OperationKind → List OperationKind → ℕ
  before k kinds = sum (map units (before_kind k kinds))

  pub one_unit : (kinds : List OperationKind) → HasKind kinds kind → HasKind kinds other → before kind kinds + a ≡ before other kinds + b → IsOneUnit units kinds kind other a b
  one_unit [] has too e = absurd (omega (arith, has))
  one_unit (k ∷ kinds) has too e =
      go (λ has too e. one_unit kinds has too e) (is_same_kind kind k) (is_same_kind other k) refl refl (count_cons (is_same_kind kind) k kinds) (count_cons (is_same_kind other) k kinds) e
    where
      go : (HasKind kinds kind → HasKind kinds other → before kind kinds + a ≡ before other kinds + b
          → IsOneUnit units kinds kind other a b) → (x y : Bool) → is_same_kind kind k ≡ x
          → is_same_kind other k ≡ y → count_by (is_same_kind kind) (k ∷ kinds)
          ≡ cond x 1 0 + count_by (is_same_kind kind) kinds
          → count_by (is_same_kind other) (k ∷ kinds) ≡ cond y 1 0 + count_by (is_same_kind other) kinds
          → sum (map units (cond x [] (k ∷ before_kind kind kinds))) + a ≡ sum (map units (cond y [] (k ∷ before_kind other kinds))) + b → IsOneUnit units (k ∷ kinds) kind other a b
      go rest true true p q c d e = record { same = same_kind kind k p ∙ sym (same_kind other k q); place = omega (arith, e) }
      go rest true false p q c d e =
          let s = sum-cons (units k) (map units (before_kind other kinds)) in
          let u : units kind ≡ units k = ap units (same_kind kind k p) in
          absurd (omega (arith, e, s, u, below))
      go rest false true p q c d e =
          let s = sum-cons (units k) (map units (before_kind kind kinds)) in
          let u : units other ≡ units k = ap units (same_kind other k q) in
          absurd (omega (arith, e, s, u, under))
      go rest false false p q c d e =
          let s = sum-cons (units k) (map units (before_kind kind kinds)) in
          let t = sum-cons (units k) (map units (before_kind other kinds)) in
          let more = rest (omega (arith, has, c)) (omega (arith, too, d)) (omega (arith, e, s, t)) in
          record { same = more.same; place = more.place }

module _ (diagram : Diagram) (attributes : Attributes) (plan : Resolved) (timing : Timing) where
  abbrev all : List Operation
  all = shared_operations diagram attributes plan

  abbrev kind_at : Operation → OperationKind
  kind_at o = kind_of diagram attributes timing o

  -- ---- the kind of each operation is listed

  pub kept_new : (kinds : List OperationKind) (o : Operation) (kind : OperationKind) → HasKind kinds kind → HasKind (new_kind diagram attributes timing kinds o) kind
  kept_new kinds o kind has = go (nat_lt 0 (count_by (is_same_kind (kind_at o)) kinds))
    where
      go : (b : Bool) → HasKind (cond b kinds (kinds ++ kind_at o ∷ [])) kind
      go true = has
      go false = let push = sum_by_push (λ (k : OperationKind). cond (is_same_kind kind k) 1 0) kinds (kind_at o) in omega (arith, has, push)

  kept_kinds : (operations : List Operation) (kinds : List OperationKind) (kind : OperationKind) → HasKind kinds kind → HasKind (kinds_of diagram attributes timing kinds operations) kind
  kept_kinds [] kinds kind has = has
  kept_kinds (o ∷ operations) kinds kind has = kept_kinds operations (new_kind diagram attributes timing kinds o) kind (kept_new kinds o kind has)

  pub own_new : (kinds : List OperationKind) (o : Operation) → HasKind (new_kind diagram attributes timing kinds o) (kind_at o)
  own_new kinds o = go (nat_lt 0 (count_by (is_same_kind (kind_at o)) kinds)) refl
    where
      go : (b : Bool) → nat_lt 0 (count_by (is_same_kind (kind_at o)) kinds) ≡ b → HasKind (cond b kinds (kinds ++ kind_at o ∷ [])) (kind_at o)
      go true e = ltb-true 0 (count_by (is_same_kind (kind_at o)) kinds) e
      go false e =
          let push = sum_by_push (λ (k : OperationKind). cond (is_same_kind (kind_at o) k) 1 0) kinds (kind_at o) in
          let one = cond-true {A = ℕ} (is_same_kind (kind_at o) (kind_at o)) 1 0 (own_kind (kind_at o)) in
          omega (arith, push, one)

  pub own_listed : (operations : List Operation) (kinds : List OperationKind) (number : ℕ) (o : Operation)
      → slice_get operations number ≡ Some o
      → HasKind (kinds_of diagram attributes timing kinds operations) (kind_at o)
  own_listed [] kinds number o at = absurd (none-some o at)
  own_listed (x ∷ operations) kinds zero o at =
      subst (λ (q : Operation). HasKind (kinds_of diagram attributes timing kinds (x ∷ operations)) (kind_at q)) (same_Some x o at)
      (kept_kinds operations (new_kind diagram attributes timing kinds x) (kind_at x) (own_new kinds x))
  own_listed (x ∷ operations) kinds (suc number) o at = own_listed operations (new_kind diagram attributes timing kinds x) number o at

  -- ---- the place of an operation among the multipliers of its kind

  abbrev turn : ℕ → Operation → ℕ
  turn number o = turn_of diagram attributes plan timing number o

  place_below : (number : ℕ) (o : Operation) → IsOperation diagram attributes plan number o → turn number o % plan.multipliers < units_of_kind diagram attributes plan timing (kind_at o)
  place_below number o at =
      let some = (of_shared diagram attributes plan timing number o at).some in
      let rest = mod_below (turn number o) plan.multipliers some in
      let low = mod-le (turn number o) plan.multipliers in
      let few = turn_below diagram attributes plan timing number o at in
      let most = greatest_at (λ (q : Operation). count_at diagram attributes timing all (kind_at o) (level_of timing q)) all number o at in
      omega (arith, rest, low, few, most)

  -- an operation's turn comes after those of its kind and level before it
  turn_rises : (number other : ℕ) (o q : Operation) → IsOperation diagram attributes plan number o
      → ◌≡◌ {A = OperationKind} (kind_at o) (kind_at q) → level_of timing o ≡ level_of timing q → number < other
      → turn number o < turn other q
  turn_rises number other o q at kind level less =
      let counts : OperationKind → ℕ → Operation → Bool = λ k l x. is_same_kind (kind_at x) k && (level_of timing x == l) in
      let rises = count_rises (counts (kind_at o) (level_of timing o)) all number other o at (counts_itself diagram attributes plan timing o) less in
      let e : count_by (counts (kind_at o) (level_of timing o)) (take other all) ≡ turn other q =
      ap (λ (k : OperationKind). count_by (counts k (level_of timing o)) (take other all)) kind ∙ ap (λ (l : ℕ). count_by (counts (kind_at q) l) (take other all)) level in
      omega (arith, rises, e)

  -- ---- levels by their slots

  no_earlier : (number other : ℕ) (o q : Operation) (period : ℕ) → IsOperation diagram attributes plan number o
      → samples (attributes.period_at o.block) ≡ period → samples (attributes.period_at q.block) ≡ period
      → level_of timing o < level_of timing q → slot_of diagram attributes plan timing number o < slot_of diagram attributes plan timing other q
  no_earlier number other o q period at is too less =
      let within = slot_within diagram attributes plan timing number o period at is in
      let rises = base_rises diagram attributes plan timing period (suc (level_of timing o)) (level_of timing q) (omega (arith, less)) in
      let base = ap (λ (p : ℕ). base_slot diagram attributes plan timing p (level_of timing q)) too in
      omega (arith, within, rises, base)

  same_level : (number other : ℕ) (o q : Operation) → IsOperation diagram attributes plan number o → IsOperation diagram attributes plan other q → ◌≡◌ {A = OperationKind} (kind_at o) (kind_at q)
      → slot_of diagram attributes plan timing number o ≡ slot_of diagram attributes plan timing other q → level_of timing o ≡ level_of timing q
  same_level number other o q at too kind slots =
      let period : samples (attributes.period_at o.block) ≡ samples (attributes.period_at q.block) = ap (λ (k : OperationKind). k.period) kind in
      elim (cases_order (level_of timing o) (level_of timing q)) [
        | inl same ↦ same
        | inr apart ↦ elim apart [
          | inl less ↦ let e = no_earlier number other o q (samples (attributes.period_at q.block)) at period refl less in absurd (omega (arith, e, slots))
          | inr more ↦ let e = no_earlier other number q o (samples (attributes.period_at q.block)) too refl period more in absurd (omega (arith, e, slots))
        ]
      ]

  -- a slot and a place among the multipliers give the turn
  same_turn : (number other : ℕ) (o q : Operation) → IsOperation diagram attributes plan number o → IsOperation diagram attributes plan other q → ◌≡◌ {A = OperationKind} (kind_at o) (kind_at q)
      → turn number o % plan.multipliers ≡ turn other q % plan.multipliers → slot_of diagram attributes plan timing number o ≡ slot_of diagram attributes plan timing other q → number ≢ other → ⊥
  same_turn number other o q at too kind place slots differ =
      let level = same_level number other o q at too kind slots in
      let period : samples (attributes.period_at o.block) ≡ samples (attributes.period_at q.block) = ap (λ (k : OperationKind). k.period) kind in
      let base = ap (λ (p : ℕ). base_slot diagram attributes plan timing p (level_of timing o)) period ∙ ap (base_slot diagram attributes plan timing (samples (attributes.period_at q.block))) level in
      let row : turn number o / plan.multipliers ≡ turn other q / plan.multipliers = omega (arith, slots, base) in
      let whole = div-add-mod' (turn number o) plan.multipliers in
      let too_whole = div-add-mod' (turn other q) plan.multipliers in
      let rows = ap (λ (n : ℕ). n * plan.multipliers) row in
      let turns : turn number o ≡ turn other q = omega (arith, whole, too_whole, rows, place) in
      elim (cases_order number other) [
        | inl same ↦ differ same
        | inr apart ↦ elim apart [
          | inl less ↦ let e = turn_rises number other o q at kind level less in absurd (omega (arith, e, turns))
          | inr more ↦ let e = turn_rises other number q o too (sym kind) (sym level) more in absurd (omega (arith, e, turns))
        ]
      ]

pub slots_differ : SlotsDiffer
slots_differ diagram attributes plan timing number other o q differ at too unit =
    let operations = shared_operations diagram attributes plan in
    let kinds = kinds_of diagram attributes timing [] operations in
    let one = one_unit (units_of_kind diagram attributes plan timing) (kind_of diagram attributes timing o) (kind_of diagram attributes timing q)
    (turn_of diagram attributes plan timing number o % plan.multipliers) (turn_of diagram attributes plan timing other q % plan.multipliers)
    (place_below diagram attributes plan timing number o at) (place_below diagram attributes plan timing other q too)
    kinds (own_listed diagram attributes plan timing operations [] number o at) (own_listed diagram attributes plan timing operations [] other q too) unit in
    record {
      kind = one.same;
      slots = λ slots. same_turn diagram attributes plan timing number other o q at too one.same one.place slots differ;
    }

-- the multipliers of a kind stand among those of all
kind_within : (units : OperationKind → ℕ) (kinds : List OperationKind) (kind : OperationKind) (a : ℕ)
    → HasKind kinds kind → a < units kind → sum (map units (before_kind kind kinds)) + a < sum (map units kinds)
kind_within units [] kind a has below = absurd (omega (arith, has))
kind_within units (k ∷ kinds) kind a has below = go (λ later. kind_within units kinds kind a later below) (is_same_kind kind k) refl (count_cons (is_same_kind kind) k kinds)
  where
    go : (HasKind kinds kind → sum (map units (before_kind kind kinds)) + a < sum (map units kinds)) → (x : Bool)
        → is_same_kind kind k ≡ x → count_by (is_same_kind kind) (k ∷ kinds)
        ≡ cond x 1 0 + count_by (is_same_kind kind) kinds
        → sum (map units (cond x [] (k ∷ before_kind kind kinds))) + a < sum (map units (k ∷ kinds))
    go rest true p c =
        let s = sum-cons (units k) (map units kinds) in
        let u : units kind ≡ units k = ap units (same_kind kind k p) in
        omega (arith, s, u, below)
    go rest false p c =
        let s = sum-cons (units k) (map units (before_kind kind kinds)) in
        let t = sum-cons (units k) (map units kinds) in
        let more = rest (omega (arith, has, c)) in
        omega (arith, s, t, more)

pub units_are_there : UnitsAreThere
units_are_there diagram attributes plan timing number o at =
    let operations = shared_operations diagram attributes plan in
    kind_within (units_of_kind diagram attributes plan timing) (kinds_of diagram attributes timing [] operations)
    (kind_of diagram attributes timing o) (turn_of diagram attributes plan timing number o % plan.multipliers)
    (own_listed diagram attributes plan timing operations [] number o at) (place_below diagram attributes plan timing number o at)
