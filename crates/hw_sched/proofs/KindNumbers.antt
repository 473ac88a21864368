-- A kind that has no number yet takes the next.
use Rattle.std.proofs.Common.{◌≡◌, ℕ, suc, ◌+◌, ◌<◌, Bool, true, false, cond, Some, None, List, [], ◌∷◌, ◌++◌, length, if◌then◌else◌, refl, sym, ap, ◌∙◌, inl, inr, length-append, arith}
use Rattle.std.specs.Prelude.{count_by, nat_lt}
use Rattle.std.specs.BTreeMap.{BTreeMap}
use Rattle.std.proofs.lemmas.Bool.{false≢true, cases_Bool, cond-true, cond-false, ltb-true, ltb-false, lt-ltb}
use Rattle.std.proofs.lemmas.List.Sums.{sum_by_push}
use Rattle.std.proofs.lemmas.Option.{none-some, same_Some}
use Rattle.dg_model.specs.declared.diagram.Diagram.{Diagram}
use Rattle.dg_model.specs.declared.resolved.Resolved.{Resolved}
use Rattle.dg_model.specs.Signals.{Attributes}
use Rattle.math_list.proofs.Places.{count_cons}
use Rattle.hw_sched.specs.declared.keys.KindKey.{KindKey}
use Rattle.hw_sched.specs.declared.numbers.KindNumbers.{KindNumbers}
use Rattle.hw_sched.specs.Slots.{Timing, Operation, OperationKind, kind_of, is_same_kind, with_kind, new_kind, kinds_of, before_kind}
use Rattle.hw_sched.specs.inner.Keys.{number_at}
use Rattle.hw_sched.specs.inner.Cells.{AreKinds, number_in}
use Rattle.hw_sched.proofs.Bases.{same_kind, own_kind}
use Rattle.hw_sched.proofs.SlotNumbers.{none_before}
use Rattle.hw_sched.proofs.Units.{HasKind, kept_new}

abbrev is_in : List OperationKind → OperationKind → Bool
is_in kinds kind = nat_lt 0 (count_by (is_same_kind kind) kinds)

-- ---- a kind that is listed keeps its number

kept_behind : (kinds : List OperationKind) (kind last : OperationKind) → HasKind kinds kind → length (before_kind kind (kinds ++ last ∷ [])) ≡ length (before_kind kind kinds)
kept_behind [] kind last has = absurd (omega (arith, has))
kept_behind (x ∷ kinds) kind last has = go (λ has. kept_behind kinds kind last has) (is_same_kind kind x) (count_cons (is_same_kind kind) x kinds)
  where
    go : (HasKind kinds kind → length (before_kind kind (kinds ++ last ∷ [])) ≡ length (before_kind kind kinds))
        → (b : Bool) → count_by (is_same_kind kind) (x ∷ kinds) ≡ cond b 1 0 + count_by (is_same_kind kind) kinds
        → length (cond b [] (x ∷ before_kind kind (kinds ++ last ∷ []))) ≡ length (cond b [] (x ∷ before_kind kind kinds))
    go rest true e = refl
    go rest false e = let more = rest (omega (arith, has, e)) in omega (arith, more)

kept_with : (kinds : List OperationKind) (kind other : OperationKind) → HasKind kinds kind → length (before_kind kind (with_kind kinds other)) ≡ length (before_kind kind kinds)
kept_with kinds kind other has = go (is_in kinds other)
  where
    go : (b : Bool) → length (before_kind kind (cond b kinds (kinds ++ other ∷ []))) ≡ length (before_kind kind kinds)
    go true = refl
    go false = kept_behind kinds kind other has

pub kept_all : (diagram : Diagram) (attributes : Attributes) (plan : Resolved) (timing : Timing) (operations : List Operation) (kinds : List OperationKind) (kind : OperationKind) → HasKind kinds kind
    → length (before_kind kind (kinds_of diagram attributes timing kinds operations)) ≡ length (before_kind kind kinds)
kept_all diagram attributes plan timing [] kinds kind has = refl
kept_all diagram attributes plan timing (o ∷ operations) kinds kind has =
    kept_all diagram attributes plan timing operations (new_kind diagram attributes timing kinds o) kind (kept_new diagram attributes plan timing kinds o kind has)
    ∙ kept_with kinds kind (kind_of diagram attributes timing o) has

-- a kind of a list has a number below the list's length
pub number_below : (kinds : List OperationKind) (kind : OperationKind) → HasKind kinds kind → length (before_kind kind kinds) < length kinds
number_below [] kind has = absurd (omega (arith, has))
number_below (x ∷ kinds) kind has = go (λ has. number_below kinds kind has) (is_same_kind kind x) (count_cons (is_same_kind kind) x kinds)
  where
    go : (HasKind kinds kind → length (before_kind kind kinds) < length kinds) → (b : Bool)
        → count_by (is_same_kind kind) (x ∷ kinds) ≡ cond b 1 0 + count_by (is_same_kind kind) kinds
        → length (cond b [] (x ∷ before_kind kind kinds)) < suc (length kinds)
    go rest true e = omega arith
    go rest false e = let more = rest (omega (arith, has, e)) in omega (arith, more)

-- ---- with a kind that is there

with_old : (kinds : List OperationKind) (kind : OperationKind) → is_in kinds kind ≡ true → ◌≡◌ {A = List OperationKind} (with_kind kinds kind) kinds
with_old kinds kind is = cond-true (is_in kinds kind) kinds (kinds ++ kind ∷ []) is

-- what a number in a list says
some_in : (kinds : List OperationKind) (kind : OperationKind) (number : ℕ) → number_in kinds kind ≡ Some number → (is_in kinds kind ≡ true) × (number ≡ length (before_kind kind kinds))
some_in kinds kind number e = go (is_in kinds kind) e
  where
    go : (b : Bool) → cond b (Some (length (before_kind kind kinds))) None ≡ Some number → (b ≡ true) × (number ≡ length (before_kind kind kinds))
    go true at = (refl, sym (same_Some (length (before_kind kind kinds)) number at))
    go false at = absurd (none-some number at)

none_in : (kinds : List OperationKind) (kind : OperationKind) → number_in kinds kind ≡ None → is_in kinds kind ≡ false
none_in kinds kind e = go (is_in kinds kind) e
  where
    go : (b : Bool) → cond b (Some (length (before_kind kind kinds))) None ≡ None → b ≡ false
    go true at = absurd (none-some (length (before_kind kind kinds)) (sym at))
    go false at = refl

module _ (kinds : List OperationKind) (kind : OperationKind) (numbers : KindNumbers) (are : AreKinds kinds numbers) where
  module _ (number : ℕ) (at : number_at numbers.by_kind.entries kind ≡ Some number) where
    parts : (is_in kinds kind ≡ true) × (number ≡ length (before_kind kind kinds))
    parts = some_in kinds kind number (sym (are.found kind) ∙ at)

    pub old_number : number ≡ length (before_kind kind (with_kind kinds kind))
    old_number = parts.1 ∙ sym (ap (λ (ks : List OperationKind). length (before_kind kind ks)) (with_old kinds kind parts.0))

    pub old_kinds : AreKinds (with_kind kinds kind) numbers
    old_kinds = record {
      found = λ other. are.found other ∙ sym (ap (λ (ks : List OperationKind). number_in ks other) (with_old kinds kind parts.0));
      count = are.count ∙ sym (ap (λ (ks : List OperationKind). length ks) (with_old kinds kind parts.0));
    }

  -- ---- with one that is new

  module _ (none : number_at numbers.by_kind.entries kind ≡ None) where
    is_new : is_in kinds kind ≡ false
    is_new = none_in kinds kind (sym (are.found kind) ∙ none)

    uncounted : count_by (is_same_kind kind) kinds ≡ 0
    uncounted = let low = ltb-false 0 (count_by (is_same_kind kind) kinds) is_new in omega (arith, low)

    with_new : ◌≡◌ {A = List OperationKind} (with_kind kinds kind) (kinds ++ kind ∷ [])
    with_new = cond-false (is_in kinds kind) kinds (kinds ++ kind ∷ []) is_new

    pub new_number : numbers.count ≡ length (before_kind kind (with_kind kinds kind))
    new_number =
        are.count ∙ sym (none_before kinds kind kind uncounted (own_kind kind))
        ∙ sym (ap (λ (ks : List OperationKind). length (before_kind kind ks)) with_new)

    -- the count of another kind stays, and that of this one is above 0
    pushed_count : (other : OperationKind) (b : Bool) → is_same_kind other kind ≡ b → count_by (is_same_kind other) (kinds ++ kind ∷ []) ≡ count_by (is_same_kind other) kinds + cond b 1 0
    pushed_count other b e =
        let push = sum_by_push (λ (k : OperationKind). cond (is_same_kind other k) 1 0) kinds kind in
        let one = ap (λ (c : Bool). cond {A = ℕ} c 1 0) e in
        omega (arith, push, one)

    found_own : (other : OperationKind) → is_same_kind kind other ≡ true → Some numbers.count ≡ number_in (kinds ++ kind ∷ []) other
    found_own other is =
        let same = same_kind kind other is in
        let there : is_same_kind other kind ≡ true = ap (λ (k : OperationKind). is_same_kind k kind) (sym same) ∙ own_kind kind in
        let count = pushed_count other true there in
        let before : count_by (is_same_kind other) kinds ≡ 0 = ap (λ (k : OperationKind). count_by (is_same_kind k) kinds) (sym same) ∙ uncounted in
        let last = none_before kinds other kind before there in
        ap (λ (n : ℕ). Some n) (are.count ∙ sym last)
        ∙ sym (cond-true (is_in (kinds ++ kind ∷ []) other)
        (Some (length (before_kind other (kinds ++ kind ∷ [])))) None
        (lt-ltb 0 (count_by (is_same_kind other) (kinds ++ kind ∷ [])) (omega (arith, count))))

    found_other : (other : OperationKind) → is_same_kind kind other ≡ false → number_in kinds other ≡ number_in (kinds ++ kind ∷ []) other
    found_other other is = go (is_in kinds other) refl
      where
        apart : is_same_kind other kind ≡ false
        apart = elim (cases_Bool (is_same_kind other kind)) [
          | inl same ↦ absurd (false≢true (sym is ∙ ap (λ (k : OperationKind). is_same_kind kind k) (same_kind other kind same) ∙ own_kind kind))
          | inr differ ↦ differ
        ]

        count : count_by (is_same_kind other) (kinds ++ kind ∷ []) ≡ count_by (is_same_kind other) kinds
        count = let more = pushed_count other false apart in omega (arith, more)

        test : is_in (kinds ++ kind ∷ []) other ≡ is_in kinds other
        test = ap (nat_lt 0) count

        go : (b : Bool) → is_in kinds other ≡ b → cond b (Some (length (before_kind other kinds))) None ≡ number_in (kinds ++ kind ∷ []) other
        go true e =
            let has = ltb-true 0 (count_by (is_same_kind other) kinds) e in
            ap (λ (n : ℕ). Some n) (sym (kept_behind kinds other kind has))
            ∙ sym (cond-true (is_in (kinds ++ kind ∷ []) other) (Some (length (before_kind other (kinds ++ kind ∷ [])))) None (test ∙ e))
        go false e = sym (cond-false (is_in (kinds ++ kind ∷ []) other) (Some (length (before_kind other (kinds ++ kind ∷ [])))) None (test ∙ e))

    pub new_kinds : (map : BTreeMap KindKey ℕ) (count : ℕ) → count ≡ numbers.count + 1
        → ((other : OperationKind) → number_at map.entries other ≡ (if is_same_kind kind other then Some numbers.count else number_at numbers.by_kind.entries other))
        → AreKinds (with_kind kinds kind) (record { by_kind = map; count = count })
    new_kinds map count next puts = record {
      found = λ other.
          puts other ∙ go other (is_same_kind kind other) refl
          ∙ sym (ap (λ (ks : List OperationKind). number_in ks other) with_new);
      count = let size = ap (λ (ks : List OperationKind). length ks) with_new in let push = length-append kinds (kind ∷ []) in let before = are.count in omega (arith, next, before, size, push);
    }
      where
        go : (other : OperationKind) (b : Bool) → is_same_kind kind other ≡ b → cond b (Some numbers.count) (number_at numbers.by_kind.entries other) ≡ number_in (kinds ++ kind ∷ []) other
        go other true e = found_own other e
        go other false e = are.found other ∙ found_other other e
