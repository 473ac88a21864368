-- Each of the multipliers that the kinds have serves an operation.
use Rattle.std.proofs.Common.{◌≡◌, ℕ, zero, suc, ◌+◌, ◌-◌, ◌%◌, ◌<◌, Bool, true, false, cond, List, [], ◌∷◌, ◌++◌, map, take, refl, sym, ap, subst, ◌∙◌, inl, inr, arith}
use Rattle.std.specs.Prelude.{slice_get, Some, count_by, ◌&&◌, ◌==◌, nat_lt}
use Rattle.std.specs.List.{sum}
use Rattle.std.proofs.Math.Nat.{mod-eq_of_lt}
use Rattle.std.proofs.lemmas.Bool.{cases_lt, cond-true, cond-false, ltb-false, and_parts, eqb-true}
use Rattle.std.proofs.lemmas.Option.{none-some, same_Some}
use Rattle.dg_model.specs.declared.diagram.Diagram.{Diagram}
use Rattle.dg_model.specs.declared.resolved.Resolved.{Resolved}
use Rattle.dg_model.specs.Signals.{Attributes}
use Rattle.math_list.specs.Numbers.{greatest}
use Rattle.hw_sched.specs.Slots.{Timing, Operation, OperationKind, shared_operations, kind_of, is_same_kind, level_of, count_at, turn_of, units_of_kind, new_kind, kinds_of, before_kind}
use Rattle.hw_sched.specs.Laws.{UnitsAreUsed}
use Rattle.hw_sched.proofs.Lists.{Stands, stands_later}
use Rattle.hw_sched.proofs.Bases.{same_kind, own_kind}
use Rattle.math_list.proofs.Places.{push_cases, there_within, count_cons, sum-cons}

-- ---- lists

-- what is below the greatest is below one of them
pub record IsReached {A : Type 0} (f : A → ℕ) (xs : List A) (a : ℕ) : Type 0 where
  pub x : A
  pub there : Stands xs x
  pub above : a < f x

reached : {A : Type 0} (f : A → ℕ) (xs : List A) (a : ℕ) → a < greatest (map f xs) → IsReached f xs a
reached f [] a below = absurd (omega (arith, below))
reached f (x ∷ xs) a below = elim (cases_lt a (f x)) [
  | inl here ↦ record { x = x; there = record { place = 0; at = refl }; above = here }
  | inr past ↦ let later = reached f xs a (omega (arith, below, past)) in record { x = later.x; there = stands_later x xs later.x later.there; above = later.above }
]

-- the one that so many before it pass beside
pub record IsNth {A : Type 0} (p : A → Bool) (xs : List A) (a : ℕ) : Type 0 where
  pub number : ℕ
  pub x : A
  pub at : slice_get xs number ≡ Some x
  pub passes : p x ≡ true
  pub before : count_by p (take number xs) ≡ a

nth : {A : Type 0} (p : A → Bool) (xs : List A) (a : ℕ) → a < count_by p xs → IsNth p xs a
nth p [] a below = absurd (omega (arith, below))
nth {A} p (x ∷ xs) a below = go (λ b less. nth p xs b less) (p x) refl (count_cons p x xs) a below
  where
    go : ((b : ℕ) → b < count_by p xs → IsNth p xs b) → (is : Bool) → p x ≡ is → count_by p (x ∷ xs) ≡ cond (p x) 1 0 + count_by p xs → (a : ℕ) → a < count_by p (x ∷ xs) → IsNth p (x ∷ xs) a
    go rest true is sums zero below = record { number = 0; x = x; at = refl; passes = is; before = refl }
    go rest true is sums (suc a) below =
        let one = cond-true {A = ℕ} (p x) 1 0 is in
        let found = rest a (omega (arith, below, sums, one)) in
        let more = count_cons p x (take found.number xs) in
        let before = found.before in
        record { number = suc found.number; x = found.x; at = found.at; passes = found.passes; before = omega (arith, more, one, before) }
    go rest false is sums a below =
        let none = cond-false {A = ℕ} (p x) 1 0 is in
        let found = rest a (omega (arith, below, sums, none)) in
        let more = count_cons p x (take found.number xs) in
        let before = found.before in
        record { number = suc found.number; x = found.x; at = found.at; passes = found.passes; before = omega (arith, more, none, before) }

-- ---- kinds

-- no kind of a list stands twice
pub record AreDistinct (kinds : List OperationKind) : Type 0 where
  pub apart : (j k : ℕ) (one other : OperationKind) → j < k → slice_get kinds j ≡ Some one → slice_get kinds k ≡ Some other → is_same_kind other one ≡ false

none_passes : {A : Type 0} (p : A → Bool) (xs : List A) (k : ℕ) (x : A) → count_by p xs ≡ 0 → slice_get xs k ≡ Some x → p x ≡ false
none_passes p [] k x none at = absurd (none-some x at)
none_passes {A} p (y ∷ xs) k x none at = go (λ j later there. none_passes p xs j x later there) (p y) refl (count_cons p y xs) k at
  where
    go : ((j : ℕ) → count_by p xs ≡ 0 → slice_get xs j ≡ Some x → p x ≡ false) → (is : Bool) → p y ≡ is
        → count_by p (y ∷ xs) ≡ cond (p y) 1 0 + count_by p xs → (k : ℕ) → slice_get (y ∷ xs) k ≡ Some x
        → p x ≡ false
    go rest true is sums k at = let one = cond-true {A = ℕ} (p y) 1 0 is in absurd (omega (arith, none, sums, one))
    go rest false is sums zero at = ap p (sym (same_Some y x at)) ∙ is
    go rest false is sums (suc k) at = rest k (omega (arith, none, sums)) at

module _ (diagram : Diagram) (attributes : Attributes) (plan : Resolved) (timing : Timing) where
  abbrev kind_at : Operation → OperationKind
  kind_at o = kind_of diagram attributes timing o

  distinct_new : (kinds : List OperationKind) (o : Operation) → AreDistinct kinds → AreDistinct (new_kind diagram attributes timing kinds o)
  distinct_new kinds o are = go (nat_lt 0 (count_by (is_same_kind (kind_at o)) kinds)) refl
    where
      go : (b : Bool) → nat_lt 0 (count_by (is_same_kind (kind_at o)) kinds) ≡ b → AreDistinct (cond b kinds (kinds ++ kind_at o ∷ []))
      go true e = are
      go false e =
          let none = ltb-false 0 (count_by (is_same_kind (kind_at o)) kinds) e in
          record {
            apart = λ j k one other less at there. elim (push_cases kinds (kind_at o) k other there) [
              | inl here ↦ elim (push_cases kinds (kind_at o) j one at) [
                | inl first ↦ are.apart j k one other less first here
                | inr last ↦ let within = there_within kinds k other here in let place = last.0 in absurd (omega (arith, within, place, less))
              ]
              | inr last ↦ elim (push_cases kinds (kind_at o) j one at) [
                | inl first ↦ subst (λ (x : OperationKind). is_same_kind x one ≡ false) last.1 (none_passes (is_same_kind (kind_at o)) kinds j one (omega (arith, none)) first)
                | inr too ↦ let a = last.0 in let b = too.0 in absurd (omega (arith, a, b, less))
              ]
            ];
          }

  distinct_kinds : (operations : List Operation) (kinds : List OperationKind) → AreDistinct kinds → AreDistinct (kinds_of diagram attributes timing kinds operations)
  distinct_kinds [] kinds are = are
  distinct_kinds (o ∷ operations) kinds are = distinct_kinds operations (new_kind diagram attributes timing kinds o) (distinct_new kinds o are)

-- the kind that has a multiplier
pub record IsOwner (units : OperationKind → ℕ) (kinds : List OperationKind) (unit : ℕ) : Type 0 where
  pub kind : OperationKind
  pub there : Stands kinds kind
  pub place : ℕ
  pub below : place < units kind
  pub is : sum (map units (before_kind kind kinds)) + place ≡ unit

owner_of : (units : OperationKind → ℕ) (kinds : List OperationKind) (unit : ℕ) → AreDistinct kinds → unit < sum (map units kinds) → IsOwner units kinds unit
owner_of units [] unit are below = absurd (omega (arith, below))
owner_of units (k ∷ kinds) unit are below = elim (cases_lt unit (units k)) [
  | inl own ↦ record {
    kind = k;
    there = record { place = 0; at = refl };
    place = unit;
    below = own;
    is = ap (λ (b : Bool). sum (map units (cond b [] (k ∷ before_kind k kinds))) + unit) (own_kind k) ∙ omega arith;
  }
  | inr past ↦
      let total = sum-cons (units k) (map units kinds) in
      let later = owner_of units kinds (unit - units k)
      (record {
        apart = λ i j one other less at there. are.apart (suc i) (suc j) one other
            (omega (arith, less)) at there;
      }) (omega (arith, below, total, past)) in
      let differs : is_same_kind later.kind k ≡ false = are.apart 0 (suc later.there.place) k later.kind (omega arith) refl later.there.at in
      let sums = sum-cons (units k) (map units (before_kind later.kind kinds)) in
      let is = later.is in
      record {
        kind = later.kind;
        there = stands_later k kinds later.kind later.there;
        place = later.place;
        below = later.below;
        is = ap (λ (b : Bool). sum (map units (cond b [] (k ∷ before_kind later.kind kinds))) + later.place) differs ∙ omega (arith, sums, is, past);
      }
]

pub units_are_used : UnitsAreUsed
units_are_used diagram attributes plan timing unit below =
    let all : List Operation = shared_operations diagram attributes plan in
    let units : OperationKind → ℕ = units_of_kind diagram attributes plan timing in
    let kinds : List OperationKind = kinds_of diagram attributes timing [] all in
    let owner = owner_of units kinds unit (distinct_kinds diagram attributes plan timing all [] (record { apart = λ j k one other less at there. absurd (none-some one at) })) below in
    let kind : OperationKind = owner.kind in
    let place = owner.below in
    let level = reached (λ (o : Operation). count_at diagram attributes timing all kind (level_of timing o)) all owner.place (omega (arith, place)) in
    let found = nth (λ (o : Operation). is_same_kind (kind_of diagram attributes timing o) kind && (level_of timing o == level_of timing level.x)) all owner.place level.above in
    let parts = and_parts (is_same_kind (kind_of diagram attributes timing found.x) kind) (level_of timing found.x == level_of timing level.x) found.passes in
    let same : ◌≡◌ {A = OperationKind} (kind_of diagram attributes timing found.x) kind = same_kind (kind_of diagram attributes timing found.x) kind parts.0 in
    let at_level : level_of timing found.x ≡ level_of timing level.x = eqb-true (level_of timing found.x) (level_of timing level.x) parts.1 in
    let turn : turn_of diagram attributes plan timing found.number found.x ≡ owner.place =
    ap (λ (k : OperationKind). count_at diagram attributes timing (take found.number all) k
    (level_of timing found.x)) same
    ∙ ap (count_at diagram attributes timing (take found.number all) kind) at_level ∙ found.before in
    let small : owner.place % plan.multipliers ≡ owner.place = mod-eq_of_lt (omega (arith, place)) in (
      found.number,
      found.x,
      found.at,
      ap (λ (k : OperationKind). sum (map units (before_kind k kinds)) + turn_of diagram attributes plan timing found.number found.x % plan.multipliers) same
          ∙ ap (λ (n : ℕ). sum (map units (before_kind kind kinds)) + n % plan.multipliers) turn ∙ ap (λ (n : ℕ). sum (map units (before_kind kind kinds)) + n) small ∙ owner.is,
    )
