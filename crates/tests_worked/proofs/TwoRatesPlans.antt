-- The worked design by plans: slots, multipliers, ready outputs and size, and the rules of budget and latency at their bounds, by hand.
use Rattle.std.proofs.Common.{◌≡◌, ◌≢◌, ℕ, zero, suc, ◌+◌, ◌≤◌, ◌<◌, pos, true, false, List, [], ◌∷◌, Some, map, codes, refl, sym, subst, arith}
use Rattle.std.specs.Prelude.{slice_index}
use Rattle.std.proofs.Math.Dec.{lit<, lit≤}
use Rattle.std.proofs.lemmas.Option.{none-some, same_Some}
use Rattle.dg_model.specs.declared.diagram.Block.{Block}
use Rattle.dg_model.specs.declared.fault.Shown.TheVariants.{Budget, Latency}
use Rattle.dg_model.specs.declared.resolved.Resolved.{Resolved}
use Rattle.dg_model.specs.declared.rule.Rule.{Rule}
use Rattle.dg_model.specs.Attributes.{attributes_of}
use Rattle.dg_model.specs.Faults.{fault_of}
use Rattle.dg_model.specs.PlanNames.{MayBePipelined}
use Rattle.dg_model.specs.PlanOf.{IsPlanOf, stages_at}
use Rattle.dg_model.specs.Signals.{Attributes}
use Rattle.hw_arcs.specs.declared.arc.Arc.{Arc}
use Rattle.hw_arcs.specs.Latencies.{IsCountedArc, IsGainingCycle}
use Rattle.hw_latency.specs.Cone.{AreFed}
use Rattle.hw_latency.specs.Latency.{BreaksLatency}
use Rattle.hw_latency.specs.Weight.{arcs_with}
use Rattle.hw_sched.specs.Budget.{BreaksBudget, IsPeriodOf, KeepsBudget}
use Rattle.hw_sched.specs.Ready.{declared_latency, owed, ready_of}
use Rattle.hw_sched.specs.Scheduled.{IsScheduled}
use Rattle.hw_sched.specs.Slots.{Timing, have_of, need_of, operation, slot_of, unit_of}
use Rattle.hw_sched.specs.Storage.{greatest_latency, storage}
use Rattle.math_list.proofs.ByRecursion.{all_of, pairs_of}
use Rattle.hw_shows.proofs.Small.{each_by}
use Rattle.tests_worked.proofs.TwoRates.{attributes, diagram, fed, known, plan_in, plan_of, product, timing}
use Rattle.tests_worked.proofs.TwoRatesRules.{checked}
use Rattle.tests_worked.proofs.TwoRatesTimes.{SharesAll, are_fed, timed_in_five}

-- ---- budget: five clocks are as many as are needed in each base sample, and four are one too few
by_period : (P : ℕ → Type 0) → P 1 → P 2 → (place period : ℕ) → attributes.period_at place ≡ Some period → P period
by_period P one two zero period is = subst P (same_Some 1 period is) one
by_period P one two (suc zero) period is = subst P (same_Some 1 period is) one
by_period P one two (suc (suc zero)) period is = subst P (same_Some 1 period is) one
by_period P one two (suc (suc (suc zero))) period is = subst P (same_Some 1 period is) one
by_period P one two (suc (suc (suc (suc zero)))) period is = subst P (same_Some 2 period is) two
by_period P one two (suc (suc (suc (suc (suc zero))))) period is = subst P (same_Some 2 period is) two
by_period P one two (suc (suc (suc (suc (suc (suc zero)))))) period is = subst P (same_Some 2 period is) two
by_period P one two (suc (suc (suc (suc (suc (suc (suc zero))))))) period is = subst P (same_Some 2 period is) two
by_period P one two (suc (suc (suc (suc (suc (suc (suc (suc zero)))))))) period is = subst P (same_Some 2 period is) two
by_period P one two (suc (suc (suc (suc (suc (suc (suc (suc (suc place))))))))) period is = absurd (none-some period is)

of_period : (P : ℕ → Type 0) → P 1 → P 2 → (period : ℕ) → IsPeriodOf diagram period → P period
of_period P one two period there = by_period P one two there.place period (subst (λ (a : Attributes). a.period_at there.place ≡ Some period) known there.is)

abbrev Needs : Resolved → Timing → ℕ → ℕ → ℕ → Type 0
Needs plan timing period need have = (need_of diagram attributes plan timing period ≡ need) × (have_of plan period ≡ have)

needed : Needs (plan_in 5) timing 1 4 4 × Needs (plan_in 5) timing 2 7 9 × Needs (plan_in 4) timing 1 4 3 × Needs (plan_in 4) timing 2 6 7
needed = ((refl, refl), (refl, refl), (refl, refl), (refl, refl))

abbrev Suffices : Resolved → Timing → Attributes → ℕ → Type 0
Suffices plan timing a period = need_of diagram a plan timing period ≤ have_of plan period

pub keeps_in_five : KeepsBudget diagram (plan_in 5) timing
keeps_in_five = record {
  keeps = λ period there. subst (λ (a : Attributes). Suffices (plan_in 5) timing a period) (sym known) (of_period (Suffices (plan_in 5) timing attributes) (lit≤ tt) (lit≤ tt) period there);
}

breaks_in_four : BreaksBudget diagram (plan_in 4) timing (fault_of Rule.Budget [] (Budget 1 4 3))
breaks_in_four = record {
  period = 1;
  there = record { place = 0; is = subst (λ (a : Attributes). a.period_at 0 ≡ Some 1) (sym known) refl };
  broken = subst (λ (a : Attributes). have_of (plan_in 4) 1 < need_of diagram a (plan_in 4) timing 1) (sym known) (lit< tt);
  least = λ other less there. let some : 1 ≤ other = of_period (λ period. 1 ≤ period) (lit≤ tt) (lit≤ tt) other there in absurd (omega (arith, less, some));
  fault_is = subst (λ (a : Attributes). fault_of Rule.Budget [] (Budget 1 4 3) ≡ fault_of Rule.Budget [] (Budget 1 (need_of diagram a (plan_in 4) timing 1) (have_of (plan_in 4) 1))) (sym known) refl;
}

-- by one clock the products of period 1 share nothing, and those of period 2 break the rule first
abbrev plain : Timing
plain = record { lat = timing.lat; fed = false ∷ false ∷ false ∷ false ∷ false ∷ false ∷ true ∷ true ∷ false ∷ []; depths = 0 ∷ 0 ∷ 0 ∷ 0 ∷ 0 ∷ 0 ∷ 1 ∷ 1 ∷ 0 ∷ [] }

breaks_in_one : BreaksBudget diagram (plan_in 1) plain (fault_of Rule.Budget [] (Budget 2 3 1))
breaks_in_one = record {
  period = 2;
  there = record { place = 4; is = subst (λ (a : Attributes). a.period_at 4 ≡ Some 2) (sym known) refl };
  broken = subst (λ (a : Attributes). have_of (plan_in 1) 2 < need_of diagram a (plan_in 1) plain 2) (sym known) (lit< tt);
  least = λ other less there.
      subst (λ (a : Attributes). Suffices (plan_in 1) plain a other) (sym known)
      (of_period (λ period. period < 2 → Suffices (plan_in 1) plain attributes period) (λ below. lit≤ tt) (λ below. absurd (omega (arith, below))) other there less);
  fault_is = subst (λ (a : Attributes). fault_of Rule.Budget [] (Budget 2 3 1) ≡ fault_of Rule.Budget [] (Budget 2 (need_of diagram a (plan_in 1) plain 2) (have_of (plan_in 1) 2))) (sym known) refl;
}

-- ---- slots and multipliers: of P, of Q a level later, and of S where R is there
record IsServed (plan : Resolved) (timing : Timing) (block first : ℕ) (slot units : List ℕ) : Type 0 where
  slot_of_first : slot_of diagram attributes plan timing first (operation block 0) ≡ slice_index slot 0
  slot_of_second : slot_of diagram attributes plan timing (first + 1) (operation block 1) ≡ slice_index slot 1
  slot_of_third : slot_of diagram attributes plan timing (first + 2) (operation block 2) ≡ slice_index slot 2
  unit_of_first : unit_of diagram attributes plan timing first (operation block 0) ≡ slice_index units 0
  unit_of_second : unit_of diagram attributes plan timing (first + 1) (operation block 1) ≡ slice_index units 1
  unit_of_third : unit_of diagram attributes plan timing (first + 2) (operation block 2) ≡ slice_index units 2

served : IsServed (plan_in 5) timing 2 0 (0 ∷ 0 ∷ 1 ∷ []) (0 ∷ 1 ∷ 0 ∷ [])
    × IsServed (plan_in 5) timing 3 3 (2 ∷ 2 ∷ 3 ∷ []) (0 ∷ 1 ∷ 0 ∷ [])
    × IsServed (plan_in 5) timing 6 6 (5 ∷ 5 ∷ 6 ∷ []) (2 ∷ 3 ∷ 2 ∷ [])
served = (
  record { slot_of_first = refl; slot_of_second = refl; slot_of_third = refl; unit_of_first = refl; unit_of_second = refl; unit_of_third = refl },
  record { slot_of_first = refl; slot_of_second = refl; slot_of_third = refl; unit_of_first = refl; unit_of_second = refl; unit_of_third = refl },
  record { slot_of_first = refl; slot_of_second = refl; slot_of_third = refl; unit_of_first = refl; unit_of_second = refl; unit_of_third = refl },
)

-- with the register behind P, Q is later than P, so its operations are of another kind and have multipliers of their own
abbrev apart : Timing
apart = record { lat = 0 ∷ 0 ∷ 0 ∷ 1 ∷ 1 ∷ 1 ∷ 1 ∷ 1 ∷ 1 ∷ []; fed = timing.fed; depths = timing.depths }

served_apart : IsServed (plan_of 5 2 1 0 0) apart 2 0 (0 ∷ 0 ∷ 1 ∷ []) (0 ∷ 1 ∷ 0 ∷ [])
    × IsServed (plan_of 5 2 1 0 0) apart 3 3 (2 ∷ 2 ∷ 3 ∷ []) (2 ∷ 3 ∷ 2 ∷ [])
    × IsServed (plan_of 5 2 1 0 0) apart 6 6 (5 ∷ 5 ∷ 6 ∷ []) (4 ∷ 5 ∷ 4 ∷ [])
served_apart = (
  record { slot_of_first = refl; slot_of_second = refl; slot_of_third = refl; unit_of_first = refl; unit_of_second = refl; unit_of_third = refl },
  record { slot_of_first = refl; slot_of_second = refl; slot_of_third = refl; unit_of_first = refl; unit_of_second = refl; unit_of_third = refl },
  record { slot_of_first = refl; slot_of_second = refl; slot_of_third = refl; unit_of_first = refl; unit_of_second = refl; unit_of_third = refl },
)

multiplications : (owed diagram attributes (plan_in 5) timing ≡ 4) × (owed diagram attributes (plan_of 5 2 1 0 0) apart ≡ 6) × (owed diagram attributes (plan_in 1) plain ≡ 8)
multiplications = (refl, refl, refl)

-- ---- ready outputs, and size
ready : map (ready_of diagram attributes (plan_in 5) timing) (0 ∷ 1 ∷ 2 ∷ 3 ∷ 4 ∷ 5 ∷ 6 ∷ 7 ∷ 8 ∷ []) ≡ 0 ∷ 0 ∷ 2 ∷ 4 ∷ 5 ∷ 0 ∷ 7 ∷ 7 ∷ 0 ∷ []
ready = refl

declared : (declared_latency diagram attributes (plan_in 5) timing 7 ≡ 12) × (declared_latency diagram attributes (plan_in 5) timing 8 ≡ 5)
declared = (refl, refl)

-- ten lines of three, the one into D twice as long, three registers behind Q and nine products
size : (storage diagram attributes (plan_in 5) timing ≡ 45) × (greatest_latency diagram attributes (plan_in 5) timing ≡ 12)
size = (refl, refl)

-- ---- the plan, and all of it
abbrev MayIfSome : ℕ → Block → Type 0
MayIfSome place block = 0 < stages_at (plan_in 5) place → MayBePipelined (attributes_of diagram) place block

may : (block : Block) → MayBePipelined attributes 3 block → MayBePipelined (attributes_of diagram) 3 block
may block is = subst (λ (a : Attributes). MayBePipelined a 3 block) (sym known) is

is_plan : IsPlanOf diagram (plan_in 5)
is_plan = record {
  some_clocks = lit≤ tt;
  few_clocks = lit≤ tt;
  few_multipliers = lit≤ tt;
  size = refl;
  stages = all_of (λ (stages : ℕ). stages ≤ 64) (0 ∷ 0 ∷ 0 ∷ 1 ∷ 0 ∷ 0 ∷ 0 ∷ 0 ∷ 0 ∷ []) (lit≤ tt, (lit≤ tt, (lit≤ tt, (lit≤ tt, (lit≤ tt, (lit≤ tt, (lit≤ tt, (lit≤ tt, (lit≤ tt, tt)))))))));
  allowed = record {
    each = each_by MayIfSome diagram.blocks
        (λ some. absurd (omega (arith, some))) (λ some. absurd (omega (arith, some))) (λ some. absurd (omega (arith, some)))
        (λ some. may (product (codes "Q")) (record { kind = refl; period = refl }))
        (λ some. absurd (omega (arith, some))) (λ some. absurd (omega (arith, some)))
        (λ some. absurd (omega (arith, some))) (λ some. absurd (omega (arith, some)))
        (λ some. absurd (omega (arith, some)));
  };
}

pub scheduled : IsScheduled diagram (plan_in 5) timing
scheduled = record { checked = checked; planned = is_plan; timed = timed_in_five; budget = keeps_in_five }

-- ---- latency: a register behind S makes the loop through D gain its period
abbrev looping : Resolved
looping = plan_of 5 2 0 0 1

loop_shares : SharesAll looping
loop_shares = record { marks = refl; heights = (refl, refl); shared = (refl, refl, refl); on_inputs = (refl, refl); on_fast = (refl, refl); on_slow = (refl, refl, refl); on_outputs = (refl, refl) }

abbrev arc : ℕ → ℕ → ℕ → ℕ → Arc
arc from to gain slack = record { from = from; to = to; counts = true; gain = gain; slack = slack }

abbrev loop_arcs : List Arc
loop_arcs = arc 0 2 0 0 ∷ arc 1 2 0 0 ∷ arc 2 3 0 0 ∷ arc 1 3 0 0 ∷ arc 3 4 0 0 ∷ arc 6 5 4 2 ∷ arc 4 6 0 0 ∷ arc 5 6 0 0 ∷ arc 6 7 2 0 ∷ arc 5 8 0 0 ∷ []

loop_arcs_are : arcs_with diagram attributes looping fed ≡ loop_arcs
loop_arcs_are = refl

gains_by : IsGainingCycle loop_arcs (5 ∷ 6 ∷ []) 2
gains_by = record {
  edges = arc 5 6 0 0 ∷ arc 6 5 4 2 ∷ [];
  are = all_of (IsCountedArc loop_arcs) (arc 5 6 0 0 ∷ arc 6 5 4 2 ∷ []) (record { number = 7; at = refl; counts = refl }, (record { number = 5; at = refl; counts = refl }, tt));
  from = refl;
  to = refl;
  gains = refl;
  above = lit< tt;
  different = pairs_of (λ (block other : ℕ). block ≢ other) (5 ∷ 6 ∷ []) ((λ e. absurd (omega (arith, e)), tt), (tt, tt));
}

breaks_latency : BreaksLatency diagram looping (fault_of Rule.Latency [] (Latency (5 ∷ 6 ∷ []) (pos 2)))
breaks_latency = record {
  cycle = 5 ∷ 6 ∷ [];
  total = 2;
  is_cycle = record {
    fed = fed;
    are_fed = subst (λ (a : Attributes). AreFed diagram a looping fed) (sym known) (are_fed looping loop_shares);
    gains = subst (λ (a : Attributes). IsGainingCycle (arcs_with diagram a looping fed) (5 ∷ 6 ∷ []) 2) (sym known) gains_by;
    begins = all_of (λ (block : ℕ). 5 ≤ block) (5 ∷ 6 ∷ []) (lit≤ tt, (lit≤ tt, tt));
  };
  fault_is = refl;
}
