-- The slots of the levels of a period, and the operations that take them.
use Rattle.std.proofs.Common.{◌≡◌, ℕ, zero, suc, ◌+◌, ◌-◌, ◌*◌, ◌/◌, ◌<◌, ◌≤◌, Bool, true, false, eqb, List, length, map, filter, refl, sym, ap, subst, ◌∙◌, inl, inr, arith}
use Rattle.std.specs.Prelude.{slice_get, Option, Some, None, ◌&&◌, ◌==◌, nat_lt, if◌then◌else◌, ℤ}
use Rattle.std.specs.Ordering.{int_eq}
use Rattle.std.proofs.lemmas.Bool.{false≢true, cases_Bool, cond-true, and_parts, and_from, and_left, and_right, eqb-true, eq-eqb, ne_eqb, ltb-true}
use Rattle.std.proofs.lemmas.Bool.Decides.{Decides-int_eq}
use Rattle.std.proofs.lemmas.Option.{none-some, same_Some}
use Rattle.std.proofs.lemmas.Nat.{div_below}
use Rattle.math_list.specs.Numbers.{numbers_from}
use Rattle.fx_type.specs.declared.kind.FxType.{FxType}
use Rattle.fx_type.specs.declared.kind.FxType.TheVariants.{Num, Logical}
use Rattle.dg_model.specs.declared.diagram.Diagram.{Diagram}
use Rattle.dg_model.specs.declared.resolved.Resolved.{Resolved}
use Rattle.dg_model.specs.Signals.{Attributes}
use Rattle.hw_latency.specs.Shared.{multiplies, shares, is_shared}
use Rattle.hw_latency.specs.Weight.{samples}
use Rattle.math_list.proofs.Sums.{greatest_at, sum_below_next}
use Rattle.hw_sched.specs.Slots.{Timing, Operation, OperationKind, operation, operations_of, shared_operations, kind_of, is_same_mark, is_same_type, is_same_kind, level_of, count_at, shared_out}
use Rattle.hw_sched.specs.Slots.{level_width, base_slot, levels_of, need_of, turn_of, slot_of}
use Rattle.hw_sched.specs.Laws.{IsOperation}
use Rattle.hw_sched.proofs.Lists.{greatest_within, sum_below_rises, sum_below_most, count_below, none_counted, Stands, stands_filtered, stands_joined, stands_below, passes, row_within}

-- ---- kinds that are the same

same_mark : (mark other : Bool) → is_same_mark mark other ≡ true → mark ≡ other
same_mark true true e = refl
same_mark true false e = absurd (false≢true e)
same_mark false true e = absurd (false≢true e)
same_mark false false e = refl

own_mark : (mark : Bool) → is_same_mark mark mark ≡ true
own_mark true = refl
own_mark false = refl

same_type : (type other : FxType) → is_same_type type other ≡ true → type ≡ other
same_type (Num signed width frac) (Num other_signed other_width other_frac) e =
    let parts = and_parts (is_same_mark signed other_signed && eqb width other_width) (int_eq frac other_frac) e in
    let word = and_parts (is_same_mark signed other_signed) (eqb width other_width) parts.0 in
    let s : signed ≡ other_signed = same_mark signed other_signed word.0 in
    let w : width ≡ other_width = eqb-true width other_width word.1 in
    let f : frac ≡ other_frac = (Decides-int_eq frac other_frac).0 parts.1 in
    ap (λ (a : Bool). Num a width frac) s ∙ ap (λ (b : ℕ). Num other_signed b frac) w ∙ ap (λ (d : ℤ). Num other_signed other_width d) f
same_type (Num signed width frac) Logical e = absurd (false≢true e)
same_type Logical (Num signed width frac) e = absurd (false≢true e)
same_type Logical Logical e = refl

own_type : (type : FxType) → is_same_type type type ≡ true
own_type (Num signed width frac) =
    and_from (is_same_mark signed signed && eqb width width) (int_eq frac frac)
    (and_from (is_same_mark signed signed) (eqb width width) (own_mark signed) (eq-eqb width width refl)) ((Decides-int_eq frac frac).1 refl)
own_type Logical = refl

abbrev kind_from : ℕ → ℕ → FxType → FxType → OperationKind
kind_from period lat left right = record { period = period; lat = lat; left = left; right = right }

pub same_kind : (kind other : OperationKind) → is_same_kind kind other ≡ true → ◌≡◌ {A = OperationKind} kind other
same_kind kind other e =
    let parts = and_parts (eqb kind.period other.period && eqb kind.lat other.lat) (is_same_type kind.left other.left && is_same_type kind.right other.right) e in
    let times = and_parts (eqb kind.period other.period) (eqb kind.lat other.lat) parts.0 in
    let types = and_parts (is_same_type kind.left other.left) (is_same_type kind.right other.right) parts.1 in
    let p : kind.period ≡ other.period = eqb-true kind.period other.period times.0 in
    let l : kind.lat ≡ other.lat = eqb-true kind.lat other.lat times.1 in
    let a : kind.left ≡ other.left = same_type kind.left other.left types.0 in
    let b : kind.right ≡ other.right = same_type kind.right other.right types.1 in
    ap (λ (n : ℕ). kind_from n kind.lat kind.left kind.right) p
    ∙ ap (λ (n : ℕ). kind_from other.period n kind.left kind.right) l
    ∙ ap (λ (t : FxType). kind_from other.period other.lat t kind.right) a
    ∙ ap (λ (t : FxType). kind_from other.period other.lat other.left t) b

pub own_kind : (kind : OperationKind) → is_same_kind kind kind ≡ true
own_kind kind =
    and_from (eqb kind.period kind.period && eqb kind.lat kind.lat) (is_same_type kind.left kind.left && is_same_type kind.right kind.right)
    (and_from (eqb kind.period kind.period) (eqb kind.lat kind.lat) (eq-eqb kind.period kind.period refl) (eq-eqb kind.lat kind.lat refl))
    (and_from (is_same_type kind.left kind.left) (is_same_type kind.right kind.right) (own_type kind.left) (own_type kind.right))

-- ---- what shares

pub shares_some : (plan : Resolved) (period : Option ℕ) → shares plan period ≡ true → 0 < plan.multipliers
shares_some plan None e = absurd (false≢true e)
shares_some plan (Some period) e = ltb-true 0 plan.multipliers (and_parts (nat_lt 0 plan.multipliers) (nat_lt 1 (period * plan.cycles)) e).0

pub shared_period : (plan : Resolved) (period : Option ℕ) → shares plan period ≡ true → (n : ℕ) × (period ≡ Some n)
shared_period plan None e = absurd (false≢true e)
shared_period plan (Some period) e = (period, refl)

module _ (diagram : Diagram) (attributes : Attributes) (plan : Resolved) (timing : Timing) where
  abbrev all : List Operation
  all = shared_operations diagram attributes plan

  -- an operation is of a shared block
  pub record IsOfShared (o : Operation) : Type 0 where
    pub there : o.block < length diagram.blocks
    pub shared : is_shared diagram attributes plan o.block ≡ true
    pub some : 0 < plan.multipliers

  of_block : (place : ℕ) (o : Operation) → Stands (operations_of attributes place) o → place ≡ o.block
  of_block place o stands = go 0 (attributes.width_at place 1) stands.place stands.at
    where
      go : (from n k : ℕ) → slice_get (map (operation place) (numbers_from from n)) k ≡ Some o → place ≡ o.block
      go from zero k at = absurd (none-some o at)
      go from (suc n) zero at = ap (λ (x : Operation). x.block) (same_Some (operation place from) o at)
      go from (suc n) (suc k) at = go (suc from) n k at

  pub of_shared : (number : ℕ) (o : Operation) → IsOperation diagram attributes plan number o → IsOfShared o
  of_shared number o at =
      let joined = stands_joined (operations_of attributes) (filter (is_shared diagram attributes plan) (numbers_from 0 (length diagram.blocks))) number o at in
      let same : joined.0 ≡ o.block = of_block joined.0 o joined.2 in
      let left = passes (is_shared diagram attributes plan) (numbers_from 0 (length diagram.blocks)) joined.1.place joined.0 joined.1.at in
      let below = stands_below 0 (length diagram.blocks) left.1.place joined.0 left.1.at in
      let shared : is_shared diagram attributes plan o.block ≡ true = subst (λ (place : ℕ). is_shared diagram attributes plan place ≡ true) same left.0 in
      record {
        there = let high = below.1 in omega (arith, high, same);
        shared = shared;
        some = shares_some plan (attributes.period_at o.block) (and_parts (multiplies diagram o.block) (shares plan (attributes.period_at o.block)) shared).1;
      }

  -- ---- the widths of levels

  abbrev counts : OperationKind → ℕ → Operation → Bool
  counts kind level o = is_same_kind (kind_of diagram attributes timing o) kind && (level_of timing o == level)

  pub counts_itself : (o : Operation) → counts (kind_of diagram attributes timing o) (level_of timing o) o ≡ true
  counts_itself o = and_from (is_same_kind (kind_of diagram attributes timing o)
      (kind_of diagram attributes timing o)) (eqb (level_of timing o) (level_of timing o))
      (own_kind (kind_of diagram attributes timing o)) (eq-eqb (level_of timing o) (level_of timing o) refl)

  abbrev is_of : ℕ → Operation → Bool
  is_of period o = samples (attributes.period_at o.block) == period

  abbrev needs : ℕ → Operation → ℕ
  needs level o = shared_out (count_at diagram attributes timing all (kind_of diagram attributes timing o) level) plan.multipliers

  pub turn_below : (number : ℕ) (o : Operation) → IsOperation diagram attributes plan number o
      → turn_of diagram attributes plan timing number o
      < count_at diagram attributes timing all (kind_of diagram attributes timing o) (level_of timing o)
  turn_below number o at = count_below (counts (kind_of diagram attributes timing o) (level_of timing o)) all number o at (counts_itself o)

  width_holds : (number : ℕ) (o : Operation) (period level : ℕ) → IsOperation diagram attributes plan number o
      → samples (attributes.period_at o.block) ≡ period
      → needs level o ≤ level_width diagram attributes plan timing period level
  width_holds number o period level at is =
      let stands = stands_filtered (is_of period) all number o at (eq-eqb (samples (attributes.period_at o.block)) period is) in
      greatest_at (needs level) (filter (is_of period) all) stands.place o stands.at

  -- an operation's row lies within its level
  pub row_below : (number : ℕ) (o : Operation) (period : ℕ) → IsOperation diagram attributes plan number o → samples (attributes.period_at o.block) ≡ period
      → turn_of diagram attributes plan timing number o / plan.multipliers < level_width diagram attributes plan timing period (level_of timing o)
  row_below number o period at is =
      let row = row_within (turn_of diagram attributes plan timing number o)
      (count_at diagram attributes timing all (kind_of diagram attributes timing o) (level_of timing o))
      plan.multipliers (turn_below number o at) (of_shared number o at).some in
      let width = width_holds number o period (level_of timing o) at is in
      omega (arith, row, width)

  -- ---- the first slots of levels

  pub base_next : (period level : ℕ) → base_slot diagram attributes plan timing period (suc level)
      ≡ base_slot diagram attributes plan timing period level
      + level_width diagram attributes plan timing period level
  base_next period level = let e = sum_below_next (level_width diagram attributes plan timing period) level in omega (arith, e)

  pub base_rises : (period level later : ℕ) → level ≤ later → base_slot diagram attributes plan timing period level ≤ base_slot diagram attributes plan timing period later
  base_rises period level later low = let e = sum_below_rises (level_width diagram attributes plan timing period) level later low in omega (arith, e)

  -- the slots of an operation stand in its level
  pub slot_within : (number : ℕ) (o : Operation) (period : ℕ) → IsOperation diagram attributes plan number o → samples (attributes.period_at o.block) ≡ period
      → slot_of diagram attributes plan timing number o < base_slot diagram attributes plan timing period (suc (level_of timing o))
  slot_within number o period at is =
      let row = row_below number o period at is in
      let next = base_next period (level_of timing o) in
      let e = ap (λ (p : ℕ). base_slot diagram attributes plan timing p (level_of timing o)) is in
      omega (arith, row, next, e)

  abbrev level_after : ℕ → Operation → ℕ
  level_after period o = if samples (attributes.period_at o.block) == period then suc (level_of timing o) else 0

  -- no operation of a period stands at a level past the last
  none_past : (period level : ℕ) → levels_of diagram attributes plan timing period ≤ level
      → (number : ℕ) (o : Operation) → IsOperation diagram attributes plan number o
      → samples (attributes.period_at o.block) ≡ period → level_of timing o < level
  none_past period level past number o at is =
      let most = greatest_at (level_after period) all number o at in
      let e : level_after period o ≡ suc (level_of timing o) =
      cond-true (eqb (samples (attributes.period_at o.block)) period) (suc (level_of timing o)) 0
      (eq-eqb (samples (attributes.period_at o.block)) period is) in
      omega (arith, most, e, past)

  no_width : (period level : ℕ) → levels_of diagram attributes plan timing period ≤ level → level_width diagram attributes plan timing period level ≡ 0
  no_width period level past =
      let most = greatest_within (needs level) 0 (filter (is_of period) all) (λ k o at. nothing k o at) in
      omega (arith, most)
    where
      uncounted : (o : Operation) → samples (attributes.period_at o.block) ≡ period
          → (number : ℕ) (other : Operation) → IsOperation diagram attributes plan number other
          → counts (kind_of diagram attributes timing o) level other ≡ false
      uncounted o is number other at = elim (cases_Bool (is_same_kind (kind_of diagram attributes timing other) (kind_of diagram attributes timing o))) [
        | inl same ↦
            let one = same_kind (kind_of diagram attributes timing other) (kind_of diagram attributes timing o) same in
            let p : samples (attributes.period_at other.block) ≡ period = ap (λ (kind : OperationKind). kind.period) one ∙ is in
            let low = none_past period level past number other at p in
            and_right (is_same_kind (kind_of diagram attributes timing other) (kind_of diagram attributes timing o))
            (eqb (level_of timing other) level)
            (ne_eqb (level_of timing other) level (λ e. absurd (omega (arith, e, low))))
        | inr differ ↦ and_left (is_same_kind (kind_of diagram attributes timing other) (kind_of diagram attributes timing o)) (eqb (level_of timing other) level) differ
      ]

      out_of_none : (multipliers : ℕ) → 0 < multipliers → shared_out 0 multipliers ≤ 0
      out_of_none multipliers some = let e = div_below (0 + (multipliers - 1)) multipliers 1 some (omega (arith, some)) in omega (arith, e)

      nothing : (k : ℕ) (o : Operation) → slice_get (filter (is_of period) all) k ≡ Some o → needs level o ≤ 0
      nothing k o at =
          let left = passes (is_of period) all k o at in
          let is : samples (attributes.period_at o.block) ≡ period = eqb-true (samples (attributes.period_at o.block)) period left.0 in
          let none = none_counted (counts (kind_of diagram attributes timing o) level) all (uncounted o is) in
          let low = out_of_none plan.multipliers (of_shared left.1.place o left.1.at).some in
          subst (λ (n : ℕ). shared_out n plan.multipliers ≤ 0) (sym none) low

  -- no level begins past the slots that a period needs
  pub base_within : (period level : ℕ) → base_slot diagram attributes plan timing period level ≤ need_of diagram attributes plan timing period
  base_within period level =
      let low = sum_below_most (level_width diagram attributes plan timing period) (levels_of diagram attributes plan timing period) level (λ k past. no_width period k past) in
      omega (arith, low)
