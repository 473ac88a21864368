-- The plan of the whole model keeps its rules on the diagram, and gives these numbers and times.
use Rattle.std.proofs.Common.{◌≡◌, ℕ, zero, suc, ◌+◌, ◌≤◌, ◌<◌, List, Some, refl, sym, ap, subst, arith}
use Rattle.std.specs.Prelude.{slice_index}
use Rattle.std.proofs.Math.Dec.{lit<, lit≤}
use Rattle.std.proofs.lemmas.Option.{none-some, same_Some}
use Rattle.dg_model.specs.declared.diagram.Block.{Block}
use Rattle.dg_model.specs.Attributes.{attributes_of}
use Rattle.dg_model.specs.PlanNames.{IsFound, IsResolved, KeepsPlan, MayBePipelined}
use Rattle.dg_model.specs.PlanOf.{IsPlanOf, stages_at}
use Rattle.dg_model.specs.Signals.{Attributes}
use Rattle.hw_arcs.specs.declared.arc.Arc.{Arc}
use Rattle.hw_arcs.specs.Latencies.{IsFeasible, IsLeast, KeepsArc, latency_at}
use Rattle.hw_latency.specs.Cone.{AreFed}
use Rattle.hw_latency.specs.Weight.{arcs_with}
use Rattle.hw_rules.specs.Rules.{IsPlanned}
use Rattle.hw_sched.specs.Budget.{KeepsBudget}
use Rattle.hw_sched.specs.Level.{AreDepths}
use Rattle.hw_sched.specs.Scheduled.{IsScheduled, IsTimingOf}
use Rattle.hw_sched.specs.Slots.{have_of, need_of}
use Rattle.hw_sched.specs.Storage.{KeepsSize, greatest_latency, storage}
use Rattle.math_list.proofs.ByRecursion.{all_of}
use Rattle.hw_shows.proofs.Small.{each_by}
use Rattle.tests_premises.specs.Sharing.{AreSharedByOne}
use Rattle.tests_premises.specs.Whole.{arc, arcs, diagram, pipeline, plan, resolved, timing}
use Rattle.tests_premises.proofs.WholeRules.{attributes, attributes_known, checked, gain_block}
use Rattle.tests_premises.proofs.WholePaths.{depths, fed}

-- ---- the path of the plan is that of the Gain, behind which registers may stand
may : MayBePipelined attributes 1 gain_block
may = record { kind = refl; period = refl }

abbrev MayIfNamed : ℕ → Block → Type 0
MayIfNamed place block = block.path ≡ pipeline.path → MayBePipelined attributes place block

found : IsFound diagram attributes pipeline
found = record {
  some = (1, gain_block, lit< tt, refl, refl);
  each = each_by MayIfNamed diagram.blocks
      (λ same. let byte : 117 ≡ 71 = ap (λ (path : List ℕ). slice_index path 0) same in absurd (omega (arith, byte)))
      (λ same. may)
      (λ same. let byte : 121 ≡ 71 = ap (λ (path : List ℕ). slice_index path 0) same in absurd (omega (arith, byte)));
}

kept : KeepsPlan diagram attributes plan
kept = all_of (IsFound diagram attributes) plan.pipelines (found, tt)

numbers : IsResolved diagram plan resolved
numbers = record { cycles = refl; multipliers = refl; stages = refl }

-- ---- its numbers are those of a plan of the diagram
abbrev MayIfSome : ℕ → Block → Type 0
MayIfSome place block = 0 < stages_at resolved place → MayBePipelined (attributes_of diagram) place block

pub is_plan : IsPlanOf diagram resolved
is_plan = record {
  some_clocks = lit≤ tt;
  few_clocks = lit≤ tt;
  few_multipliers = lit≤ tt;
  size = refl;
  stages = all_of (λ (stages : ℕ). stages ≤ 64) resolved.stages (lit≤ tt, (lit≤ tt, (lit≤ tt, tt)));
  allowed = record {
    each = each_by MayIfSome diagram.blocks
        (λ some. absurd (omega (arith, some)))
        (λ some. subst (λ (a : Attributes). MayBePipelined a 1 gain_block) (sym attributes_known) may)
        (λ some. absurd (omega (arith, some)));
  };
}

-- ---- latencies
pub arcs_are : arcs_with diagram attributes resolved timing.fed ≡ arcs
arcs_are = refl

at_least : (other : List ℕ) → IsFeasible arcs other → (block : ℕ) → latency_at timing.lat block ≤ latency_at other block
at_least other feasible zero = omega arith
at_least other feasible (suc zero) = omega arith
at_least other feasible (suc (suc zero)) =
    let behind : latency_at other 1 + 1 ≤ latency_at other 2 + 0 = feasible.keeps 1 (arc 1 2 1) refl refl in omega (arith, behind)
at_least other feasible (suc (suc (suc block))) = omega arith

least : IsLeast arcs timing.lat
least = record {
  feasible = record { keeps = each_by (λ (number : ℕ) (a : Arc). KeepsArc timing.lat a) arcs (λ counts. lit≤ tt) (λ counts. lit≤ tt) };
  least = at_least;
}

timed : IsTimingOf diagram resolved timing
timed = record {
  fed = subst (λ (a : Attributes). AreFed diagram a resolved timing.fed) (sym attributes_known) fed;
  depths = subst (λ (a : Attributes). AreDepths diagram a resolved timing.depths) (sym attributes_known) depths;
  size = refl;
  lat = subst (λ (a : Attributes). IsLeast (arcs_with diagram a resolved timing.fed) timing.lat) (sym attributes_known) (subst (λ (xs : List Arc). IsLeast xs timing.lat) (sym arcs_are) least);
}

-- ---- slots: two are needed, and there are two
abbrev Suffices : Attributes → ℕ → Type 0
Suffices a period = need_of diagram a resolved timing period ≤ have_of resolved period

two_suffice : Suffices attributes 1
two_suffice = lit≤ tt

suffices : (place period : ℕ) → attributes.period_at place ≡ Some period → Suffices attributes period
suffices zero period is = subst (Suffices attributes) (same_Some 1 period is) two_suffice
suffices (suc zero) period is = subst (Suffices attributes) (same_Some 1 period is) two_suffice
suffices (suc (suc zero)) period is = subst (Suffices attributes) (same_Some 1 period is) two_suffice
suffices (suc (suc (suc place))) period is = absurd (none-some period is)

budget : KeepsBudget diagram resolved timing
budget = record {
  keeps = λ period is.
      subst (λ (a : Attributes). Suffices a period) (sym attributes_known)
      (suffices is.place period (subst (λ (a : Attributes). a.period_at is.place ≡ Some period) attributes_known is.is));
}

-- ---- size
few : storage diagram attributes resolved timing ≤ 400000
few = lit≤ tt

short : greatest_latency diagram attributes resolved timing ≤ 16777216
short = lit≤ tt

size : KeepsSize diagram resolved timing
size = record {
  few = subst (λ (a : Attributes). storage diagram a resolved timing ≤ 400000) (sym attributes_known) few;
  short = subst (λ (a : Attributes). greatest_latency diagram a resolved timing ≤ 16777216) (sym attributes_known) short;
}

-- ---- all of it
pub planned : IsPlanned diagram plan resolved timing
planned = record {
  found = record { found = subst (λ (a : Attributes). KeepsPlan diagram a plan) (sym attributes_known) kept; numbers = numbers };
  keeps = record { timed = timed; budget = budget; size = size };
}

pub scheduled : IsScheduled diagram resolved timing
scheduled = record { checked = checked; planned = is_plan; timed = timed; budget = budget }

shared_by : AreSharedByOne attributes
shared_by = record { both = refl; first_slot = refl; second_slot = refl; first_unit = refl; second_unit = refl; multiplications = refl; registers = refl; latency = refl }

pub shared : AreSharedByOne (attributes_of diagram)
shared = subst AreSharedByOne (sym attributes_known) shared_by
