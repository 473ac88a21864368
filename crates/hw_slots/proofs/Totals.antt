-- Sums of widths and of multipliers, level by level and kind by kind.
use Rattle.std.proofs.Common.{◌≡◌, ℕ, zero, suc, ◌+◌, ◌-◌, ◌/◌, ◌%◌, ◌<◌, ◌≤◌, Bool, true, false, cond, min, List, [], ◌∷◌, ◌++◌, length, map, get_or, refl, sym, ap, subst, ◌∙◌, inl, inr, arith}
use Rattle.std.specs.Prelude.{slice_get, Some, ◌&&◌, ◌==◌}
use Rattle.std.specs.List.{sum}
use Rattle.std.proofs.lemmas.Bool.{cond-true, cond-false, cases_lt, eqb-true, eq-eqb, ne_eqb, and_parts, and_from, and_left, and_right}
use Rattle.std.proofs.lemmas.Option.{same_Some, slice_get_within, slice_get-get_or}
use Rattle.math_list.specs.Numbers.{numbers_from, greatest}
use Rattle.hw_slots.specs.declared.bases.Bases.{Bases}
use Rattle.hw_slots.specs.declared.operation.Operation.{Operation}
use Rattle.hw_slots.specs.declared.operation.Span.{Span}
use Rattle.hw_slots.specs.Slots.{count_at, shared_out, needed, level_width, level_after, levels_of, base_slot, need_of, turn_of, slot_of, units_of_kind, first_unit, unit_of}
use Rattle.hw_slots.specs.Answer.{AreStarts, AreUnits, AreBaseSlots, HasSlots, IsShort}
use Rattle.hw_slots.specs.inner.Tally.{tally_at}
use Rattle.hw_slots.specs.inner.Counts.{AreWidths, AreLevels, AreMost, AreTurns, AreBases, AreBasesBy, AreFirst, AreFirstBy, AreLaid, IsElsewhere, base_by, first_by}
use Rattle.math_list.proofs.Sums.{greatest_at, sums_same, sum_below, sum_below_next}
use Rattle.hw_slots.proofs.Steps.{grown, grown_size}

sum_next : (f : ℕ → ℕ) (n : ℕ) → sum_below f (n + 1) ≡ sum_below f n + f n
sum_next f n = let one : suc n ≡ n + 1 = omega arith in subst (λ (k : ℕ). sum_below f k ≡ sum_below f n + f n) one (sum_below_next f n)

-- ---- the levels of a period

apart : (owner other level later number before : ℕ) → (level ≡ later → ⊥) → cond ((owner == other) && (level == later)) number before ≡ before
apart owner other level later number before differ = cond-false ((owner == other) && (level == later)) number before (and_right (owner == other) (level == later) (ne_eqb level later differ))

elsewhere : (owner other level later number before : ℕ) → (owner ≡ other → ⊥) → cond ((owner == other) && (level == later)) number before ≡ before
elsewhere owner other level later number before differ = cond-false ((owner == other) && (level == later)) number before (and_left (owner == other) (level == later) (ne_eqb owner other differ))

there : (owner level number before : ℕ) → cond ((owner == owner) && (level == level)) number before ≡ number
there owner level number before = cond-true ((owner == owner) && (level == level)) number before (and_from (owner == owner) (level == level) (eq-eqb owner owner refl) (eq-eqb level level refl))

abbrev Puts : List ((ℕ × ℕ) × ℕ) → List ((ℕ × ℕ) × ℕ) → ℕ → ℕ → ℕ → Type 0
Puts old new owner level number = (other later : ℕ) → tally_at new other later ≡ cond ((owner == other) && (level == later)) number (tally_at old other later)

pub bases_none : (widths tally : List ((ℕ × ℕ) × ℕ)) (start period : ℕ) → AreBasesBy widths start period 0 tally
bases_none widths tally start period = record { are = λ level below. absurd (omega (arith, below)) }

pub base_none : (widths : List ((ℕ × ℕ) × ℕ)) (start period : ℕ) → start ≡ base_by widths start period 0
base_none widths start period = omega arith

pub base_more : (widths : List ((ℕ × ℕ) × ℕ)) (start period level slot width after : ℕ)
    → slot ≡ base_by widths start period level → width ≡ tally_at widths period level → after ≡ slot + width
    → after ≡ base_by widths start period (level + 1)
base_more widths start period level slot width after is wide sum = omega (arith, is, wide, sum, sum_next (tally_at widths period) level)

pub bases_more : (widths old new : List ((ℕ × ℕ) × ℕ)) (start period level slot : ℕ)
    → slot ≡ base_by widths start period level → Puts old new period level slot
    → AreBasesBy widths start period level old → AreBasesBy widths start period (level + 1) new
bases_more widths old new start period level slot is puts before = record {
  are = λ other below.
      elim (cases_lt other level) [
        | inl less ↦ puts period other ∙ apart period period level other slot (tally_at old period other) (λ e. omega (arith, e, less)) ∙ before.are other less
        | inr past ↦
            let e : level ≡ other = omega (arith, past, below) in
            subst (λ (n : ℕ). tally_at new period n ≡ base_by widths start period n) e (puts period level ∙ there period level slot (tally_at old period level) ∙ is)
      ];
}

pub elsewhere_none : (period : ℕ) (tally : List ((ℕ × ℕ) × ℕ)) → IsElsewhere period tally tally
elsewhere_none period tally = record { same = λ other level below. refl }

pub elsewhere_more : (period level slot : ℕ) (first old new : List ((ℕ × ℕ) × ℕ)) → Puts old new period level slot → IsElsewhere period first old → IsElsewhere period first new
elsewhere_more period level slot first old new puts before = record {
  same = λ other later below.
      puts other later ∙ elsewhere period other level later slot (tally_at old other later) (λ e. omega (arith, e, below)) ∙ before.same other later below;
}

-- ---- all periods

based : (operations : List Operation) (multipliers : ℕ) (widths : List ((ℕ × ℕ) × ℕ)) (start period level : ℕ)
    → AreWidths operations multipliers widths
    → base_by widths start period level ≡ base_slot operations multipliers start period level
based operations multipliers widths start period level wide =
    let same = sums_same (tally_at widths period) (level_width operations multipliers period) (numbers_from 0 level) (wide.are period) in
    omega (arith, same)

pub needs : (operations : List Operation) (multipliers : ℕ) (widths levels : List ((ℕ × ℕ) × ℕ))
    (start period count need : ℕ) → AreWidths operations multipliers widths → AreLevels operations levels
    → count ≡ tally_at levels period 0 → need ≡ base_by widths start period count
    → need ≡ need_of operations multipliers start period
needs operations multipliers widths levels start period count need wide many is sum =
    sum ∙ based operations multipliers widths start period count wide ∙ ap (base_slot operations multipliers start period) (is ∙ many.are period)

pub laid_none : (operations : List Operation) (multipliers : ℕ) (periods : List Span) (tally : List ((ℕ × ℕ) × ℕ)) → AreLaid operations multipliers periods 0 tally
laid_none operations multipliers periods tally = record { bases = λ period span below at. absurd (omega (arith, below)); keeps = λ period span below at. absurd (omega (arith, below)) }

pub laid_more : (operations : List Operation) (multipliers : ℕ) (periods : List Span)
    (widths levels old new : List ((ℕ × ℕ) × ℕ)) (place : ℕ) (span : Span) (count need : ℕ)
    → slice_get periods place ≡ Some span
    → AreWidths operations multipliers widths → AreLevels operations levels → count ≡ tally_at levels place 0
    → need ≡ base_by widths span.start place count → AreBasesBy widths span.start place (count + 1) new
    → IsElsewhere place old new → need ≤ span.have
    → AreLaid operations multipliers periods place old → AreLaid operations multipliers periods (place + 1) new
laid_more operations multipliers periods widths levels old new place span count need at wide many is sum made other keeps before = record {
  bases = λ period one below there. elim (cases_lt period place) [
    | inl less ↦ record { are = λ level low. other.same period level less ∙ (before.bases period one less there).are level low }
    | inr past ↦
        let e : place ≡ period = omega (arith, past, below) in
        let same : span ≡ one = same_Some span one (sym at ∙ ap (slice_get periods) e ∙ there) in
        subst (λ (p : ℕ). AreBases operations multipliers one.start p (suc (levels_of operations p)) new) e
        (subst (λ (s : Span). AreBases operations multipliers s.start place (suc (levels_of operations place)) new) same
        (record {
          are = λ level low. let c : count ≡ levels_of operations place = is ∙ many.are place in
              made.are level (omega (arith, low, c))
              ∙ based operations multipliers widths span.start place level wide;
        }))
  ];
  keeps = λ period one below there. elim (cases_lt period place) [
    | inl less ↦ before.keeps period one less there
    | inr past ↦
        let e : place ≡ period = omega (arith, past, below) in
        let same : span ≡ one = same_Some span one (sym at ∙ ap (slice_get periods) e ∙ there) in
        subst (λ (p : ℕ). need_of operations multipliers one.start p ≤ one.have) e
        (subst (λ (s : Span). need_of operations multipliers s.start place ≤ s.have) same
        (let all = needs operations multipliers widths levels span.start place count need wide many is sum in omega (arith, keeps, all)))
  ];
}

pub is_short : (operations : List Operation) (multipliers : ℕ) (periods : List Span)
    (widths levels old : List ((ℕ × ℕ) × ℕ)) (place : ℕ) (span : Span) (count need : ℕ)
    → slice_get periods place ≡ Some span
    → AreWidths operations multipliers widths → AreLevels operations levels → count ≡ tally_at levels place 0
    → need ≡ base_by widths span.start place count → span.have < need
    → AreLaid operations multipliers periods place old
    → IsShort operations multipliers periods place need span.have
is_short operations multipliers periods widths levels old place span count need at wide many is sum short before = record {
  span = span;
  at = at;
  needs = needs operations multipliers widths levels span.start place count need wide many is sum;
  has = refl;
  short = short;
  first = λ other below one there. before.keeps other one below there;
}

-- ---- past the last level

needed_none : (operations : List Operation) (multipliers period level : ℕ) (o : Operation) (test : Bool)
    → ((o.period == period) && (o.level == level)) ≡ test → level_after period o ≤ level
    → needed operations multipliers period level o ≡ 0
needed_none operations multipliers period level o true e past =
    let parts = and_parts (o.period == period) (o.level == level) e in
    let same : o.level ≡ level = eqb-true o.level level parts.1 in
    let after : level_after period o ≡ o.level + 1 = cond-true (o.period == period) (o.level + 1) 0 parts.0 in
    absurd (omega (arith, past, same, after))
needed_none operations multipliers period level o false e past = cond-false ((o.period == period) && (o.level == level)) (shared_out (count_at operations o.kind o.level) multipliers) 0 e

greatest_zero : {A : Type 0} (f : A → ℕ) (xs : List A) → ((k : ℕ) (x : A) → slice_get xs k ≡ Some x → f x ≡ 0) → greatest (map f xs) ≡ 0
greatest_zero f [] none = refl
greatest_zero f (x ∷ xs) none =
    let here = none 0 x refl in
    let more = greatest_zero f xs (λ k y at. none (suc k) y at) in
    omega (arith, here, more)

width_none : (operations : List Operation) (multipliers period level : ℕ) → levels_of operations period ≤ level → level_width operations multipliers period level ≡ 0
width_none operations multipliers period level past = greatest_zero (needed operations multipliers period level) operations (λ k o at.
    let most = greatest_at (level_after period) operations k o at in
    needed_none operations multipliers period level o ((o.period == period) && (o.level == level)) refl (omega (arith, most, past)))

sum_stays : (f : ℕ → ℕ) (most more : ℕ) → ((k : ℕ) → most ≤ k → f k ≡ 0) → sum (map f (numbers_from 0 (most + more))) ≡ sum (map f (numbers_from 0 most))
sum_stays f most zero none = let e : most + 0 ≡ most = omega arith in ap (λ (n : ℕ). sum (map f (numbers_from 0 n))) e
sum_stays f most (suc more) none =
    let e : most + suc more ≡ (most + more) + 1 = omega arith in
    let same = ap (λ (n : ℕ). sum (map f (numbers_from 0 n))) e in
    let before = sum_stays f most more none in
    let here = none (most + more) (omega arith) in
    omega (arith, same, before, here, sum_next f (most + more))

base_stays : (operations : List Operation) (multipliers start period level : ℕ)
    → base_slot operations multipliers start period (min level (levels_of operations period))
    ≡ base_slot operations multipliers start period level
base_stays operations multipliers start period level = elim (cases_lt level (levels_of operations period)) [
  | inl less ↦ let e : min level (levels_of operations period) ≡ level = omega (arith, less) in ap (base_slot operations multipliers start period) e
  | inr past ↦
      let e : min level (levels_of operations period) ≡ levels_of operations period = omega (arith, past) in
      let whole : levels_of operations period + (level - levels_of operations period) ≡ level = omega (arith, past) in
      let stays = sum_stays (level_width operations multipliers period) (levels_of operations period)
      (level - levels_of operations period) (λ k late. width_none operations multipliers period k late) in
      ap (base_slot operations multipliers start period) e
      ∙ sym (ap (λ (n : ℕ). start + n) stays)
      ∙ ap (base_slot operations multipliers start period) whole
]

pub bases_end : (operations : List Operation) (multipliers : ℕ) (periods : List Span) (bases : Bases)
    → AreLaid operations multipliers periods (length periods) bases.firsts → AreLevels operations bases.levels
    → AreBaseSlots operations multipliers periods bases
bases_end operations multipliers periods bases laid many = record {
  are = λ period level span at.
      let few : tally_at bases.levels period 0 ≡ levels_of operations period = many.are period in
      let made = (laid.bases period span (slice_get_within periods period span at) at).are (min level (levels_of operations period)) (omega arith) in
      ap (λ (n : ℕ). tally_at bases.firsts period (min level n)) few ∙ made ∙ base_stays operations multipliers span.start period level;
}

pub laid_end : (operations : List Operation) (multipliers : ℕ) (periods : List Span) (tally : List ((ℕ × ℕ) × ℕ))
    → AreLaid operations multipliers periods (length periods) tally → (period : ℕ)
    → HasSlots operations multipliers periods period
laid_end operations multipliers periods tally made period span at = made.keeps period span (slice_get_within periods period span at) at

-- ---- the multipliers of kinds

pub firsts_none : (most : List ((ℕ × ℕ) × ℕ)) (multipliers : ℕ) (tally : List ((ℕ × ℕ) × ℕ)) → AreFirstBy most multipliers 0 tally
firsts_none most multipliers tally = record { are = λ kind below. absurd (omega (arith, below)) }

pub first_more : (most : List ((ℕ × ℕ) × ℕ)) (multipliers kind first units after : ℕ)
    → first ≡ first_by most multipliers kind → units ≡ min multipliers (tally_at most kind 0)
    → after ≡ first + units → after ≡ first_by most multipliers (kind + 1)
first_more most multipliers kind first units after is one sum = omega (arith, is, one, sum, sum_next (λ (other : ℕ). min multipliers (tally_at most other 0)) kind)

pub firsts_more : (most old new : List ((ℕ × ℕ) × ℕ)) (multipliers kind first : ℕ)
    → first ≡ first_by most multipliers kind → Puts old new kind 0 first → AreFirstBy most multipliers kind old
    → AreFirstBy most multipliers (kind + 1) new
firsts_more most old new multipliers kind first is puts before = record {
  are = λ other below.
      elim (cases_lt other kind) [
        | inl less ↦ puts other 0 ∙ elsewhere kind other 0 0 first (tally_at old other 0) (λ e. omega (arith, e, less)) ∙ before.are other less
        | inr past ↦
            let e : kind ≡ other = omega (arith, past, below) in
            subst (λ (n : ℕ). tally_at new n 0 ≡ first_by most multipliers n) e (puts kind 0 ∙ there kind 0 first (tally_at old kind 0) ∙ is)
      ];
}

pub firsts_end : (operations : List Operation) (multipliers kinds : ℕ) (most tally : List ((ℕ × ℕ) × ℕ))
    → AreMost operations most → AreFirstBy most multipliers kinds tally
    → AreFirst operations multipliers kinds tally
firsts_end operations multipliers kinds most tally many made = record {
  are = λ kind below.
      made.are kind below ∙ sums_same (λ (other : ℕ). min multipliers (tally_at most other 0)) (units_of_kind operations multipliers) (numbers_from 0 kind) (λ k. ap (min multipliers) (many.are k));
}

-- ---- the operations

abbrev none : Operation
none = record { kind = 0; period = 0; level = 0 }

operation_at : (operations : List Operation) (i : ℕ) → i < length operations → slice_get operations i ≡ Some (get_or operations i none)
operation_at operations i inside = slice_get-get_or operations i none inside

turned_at : (operations : List Operation) (turns : List ℕ) (i : ℕ) → i < length operations
    → AreTurns operations (length operations) turns
    → get_or turns i 0 ≡ turn_of operations i (get_or operations i none)
turned_at operations turns i inside turned =
    let o : Operation = get_or operations i none in
    let size = turned.size in
    let placed = slice_get-get_or turns i 0 (omega (arith, inside, size)) in
    same_Some (get_or turns i 0) (turn_of operations i o) (sym placed ∙ turned.are i o inside (operation_at operations i inside))

pub starts_none : (operations : List Operation) (multipliers : ℕ) (periods : List Span) (starts : List ℕ) → starts ≡ [] → AreStarts operations multipliers periods 0 starts
starts_none operations multipliers periods starts none =
    subst (AreStarts operations multipliers periods 0) (sym none)
    (record { size = refl; are = λ number o span below at is. absurd (omega (arith, below)) })

level_below : (operations : List Operation) (i : ℕ) (o : Operation) → slice_get operations i ≡ Some o → o.level < levels_of operations o.period
level_below operations i o at =
    let most = greatest_at (level_after o.period) operations i o at in
    let e : level_after o.period o ≡ o.level + 1 = cond-true (o.period == o.period) (o.level + 1) 0 (eq-eqb o.period o.period refl) in
    omega (arith, most, e)

pub starts_more : (operations : List Operation) (multipliers : ℕ) (periods : List Span) (bases : List ((ℕ × ℕ) × ℕ)) (turns starts : List ℕ) (i base start : ℕ) → i < length operations
    → base ≡ tally_at bases (get_or operations i none).period (get_or operations i none).level → start ≡ base + get_or turns i 0 / multipliers
    → AreTurns operations (length operations) turns → AreLaid operations multipliers periods (length periods) bases
    → AreStarts operations multipliers periods i starts
    → AreStarts operations multipliers periods (i + 1) (starts ++ start ∷ [])
starts_more operations multipliers periods bases turns starts i base start inside is sum turned laid before =
    let o : Operation = get_or operations i none in
    let at : slice_get operations i ≡ Some o = operation_at operations i inside in
    record {
      size = grown_size starts start i before.size;
      are = λ number q span below there has. grown
          (λ n p r. (s : Span) → slice_get periods p.period ≡ Some s
          → r ≡ Some (slot_of operations multipliers s.start n p)) operations i o start starts at before.size
          (λ n p less here s known. before.are n p s less here known)
          (λ s known.
          let b : base ≡ base_slot operations multipliers s.start o.period o.level =
          is ∙ (laid.bases o.period s (slice_get_within periods o.period s known) known).are o.level
          (let low = level_below operations i o at in omega (arith, low)) in
          let d : get_or turns i 0 / multipliers ≡ turn_of operations i o / multipliers = ap (λ (n : ℕ). n / multipliers) (turned_at operations turns i inside turned) in
          ap Some (sum ∙ ap (λ (n : ℕ). n + get_or turns i 0 / multipliers) b ∙ ap (λ (n : ℕ). base_slot operations multipliers s.start o.period o.level + n) d))
          number q below there span has;
    }

pub units_none : (operations : List Operation) (multipliers kinds : ℕ) (units : List ℕ) → units ≡ [] → AreUnits operations multipliers kinds 0 units
units_none operations multipliers kinds units none = subst (AreUnits operations multipliers kinds 0) (sym none) (record { size = refl; are = λ number o below at is. absurd (omega (arith, below)) })

pub units_more : (operations : List Operation) (multipliers kinds : ℕ) (firsts : List ((ℕ × ℕ) × ℕ))
    (turns units : List ℕ) (i first unit : ℕ) → i < length operations
    → first ≡ tally_at firsts (get_or operations i none).kind 0 → unit ≡ first + get_or turns i 0 % multipliers
    → AreTurns operations (length operations) turns → AreFirst operations multipliers kinds firsts
    → AreUnits operations multipliers kinds i units
    → AreUnits operations multipliers kinds (i + 1) (units ++ unit ∷ [])
units_more operations multipliers kinds firsts turns units i first unit inside is sum turned begun before =
    let o : Operation = get_or operations i none in
    record {
      size = grown_size units unit i before.size;
      are = λ number q below there has. grown
          (λ n p r. p.kind < kinds → r ≡ Some (unit_of operations multipliers n p)) operations i o unit units
          (operation_at operations i inside) before.size (λ n p less here low. before.are n p less here low)
          (λ low.
          let b : first ≡ first_unit operations multipliers o.kind = is ∙ begun.are o.kind low in
          let d : get_or turns i 0 % multipliers ≡ turn_of operations i o % multipliers = ap (λ (n : ℕ). n % multipliers) (turned_at operations turns i inside turned) in
          ap Some (sum ∙ ap (λ (n : ℕ). n + get_or turns i 0 % multipliers) b ∙ ap (λ (n : ℕ). first_unit operations multipliers o.kind + n) d))
          number q below there has;
    }
