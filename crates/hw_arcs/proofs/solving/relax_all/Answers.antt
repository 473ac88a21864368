use Rattle.std.proofs.Common.{◌≡◌, ℕ, ◌*◌, ◌<◌, ◌≤◌, List, length, subst, sym, ◌∙◌, refl, arith}
use Rattle.std.specs.Prelude.{IfSome, Option}
use Rattle.hw_arcs.specs.declared.arc.Arc.{Arc}
use Rattle.hw_arcs.specs.declared.found.Gaining.{Gaining}
use Rattle.hw_arcs.specs.declared.relaxing.Step.{Step}
use Rattle.hw_arcs.specs.declared.relaxing.Step.TheVariants.{Settled, Above}
use Rattle.hw_arcs.specs.Found.{AreKnown, IsGaining, most_gain, most_joined_blocks}
use Rattle.hw_arcs.specs.inner.State.{State, AreRows, CanGoBack, IsAbove, IsRelaxing, IsState, IsStepEnd, IsStepOn, seen}
use Rattle.hw_arcs.specs.Latencies.{latency_at}
use Rattle.hw_arcs.proofs.Outcome.{cycle_there}
use Rattle.hw_arcs.proofs.solving.relax_all.Goals as goal

-- what a step tells
settled_end : (arcs : List Arc) (before limit block : ℕ) (old new : State) (step : Step) → step ≡ Settled block → IsStepEnd arcs before limit old new step → IsStepOn arcs before limit old new block
settled_end arcs before limit block old new step is = subst (λ (told : Step). IsStepEnd arcs before limit old new told) is

above_end : (arcs : List Arc) (before limit block : ℕ) (old new : State) (step : Step) → step ≡ Above block → IsStepEnd arcs before limit old new step → IsAbove limit new block before
above_end arcs before limit block old new step is = subst (λ (told : Step). IsStepEnd arcs before limit old new told) is

goes_on : (arcs : List Arc) (count before limit block : ℕ) (old new : State) → before ≡ count
    → length new.lat ≡ before → IsState arcs before new → IsStepOn arcs before limit old new block
    → IsRelaxing arcs count limit new
goes_on arcs count before limit block old new first size state end = record {
  size = size ∙ first;
  state = subst (λ (n : ℕ). IsState arcs n new) first state;
  within = end.within;
  settled = end.settled;
}

goes_back : (arcs : List Arc) (count before block : ℕ) (new : State) → before ≡ count → length new.lat ≡ before
    → AreKnown arcs count → count ≤ most_joined_blocks → IsState arcs before new → block < before
    → CanGoBack arcs new block
goes_back arcs count before block new first size known few state there = record {
  known = subst (λ (n : ℕ). AreKnown arcs n) (sym (size ∙ first)) known;
  few = omega (arith, size, first, few);
  state = subst (λ (n : ℕ). IsState arcs n new) (sym size) state;
  there = omega (arith, there, size);
}

pub relax-init : goal.relax-init
relax-init c = record {
  size = refl;
  state = c.requires.state;
  within = record { within = λ block. let within = c.requires.within.within block in omega (arith, within) };
  settled = c.requires.settled;
}

pub step-requires : goal.step-requires
step-requires c =
    let size = c.relax.invariant.size in
    let few = c.requires.few in
    let rows = c.requires.rows.size in
    record {
      known = subst (λ (count : ℕ). AreKnown c.args.arcs.now count) (sym size) c.requires.known;
      rows = subst (λ (count : ℕ). AreRows c.args.arcs.now count c.args.rows.now) (sym size) c.requires.rows;
      limit = omega (arith, few, rows);
      state = subst (λ (count : ℕ). IsState c.args.arcs.now count (seen c.relax.state)) (sym size) c.relax.invariant.state;
      within = c.relax.invariant.within;
      settled = c.relax.invariant.settled;
    }

pub cycle_behind-requires : goal.cycle_behind-requires
cycle_behind-requires c =
    goes_back c.args.arcs.now _ (length c.relax.state.lat.items) c.in-Above.block
    (seen c.step.new.self) c.relax.invariant.size c.in_ok-step.ensures.size c.requires.known c.requires.few
    c.in_ok-step.ensures.state (above_end c.args.arcs.now (length c.relax.state.lat.items)
    (length c.args.rows.now * most_gain) c.in-Above.block (seen c.relax.state)
    (seen c.step.new.self) _ c.in-Above.is c.in_ok-step.ensures.end).there

pub cycle_behind-requires-else-left-gt0 : goal.cycle_behind-requires-else-left-gt0
cycle_behind-requires-else-left-gt0 c =
    goes_back c.args.arcs.now _ (length c.relax.state.lat.items) c.in-Settled.block
    (seen c.step.new.self) c.relax.invariant.size c.in_ok-step.ensures.size c.requires.known c.requires.few
    c.in_ok-step.ensures.state (settled_end c.args.arcs.now (length c.relax.state.lat.items)
    (length c.args.rows.now * most_gain) c.in-Settled.block (seen c.relax.state)
    (seen c.step.new.self) _ c.in-Settled.is c.in_ok-step.ensures.end).there

pub relax-preserved : goal.relax-preserved
relax-preserved c =
    goes_on c.args.arcs.now _ (length c.relax.state.lat.items)
    (length c.args.rows.now * most_gain) c.in-Settled.block (seen c.relax.state)
    (seen c.step.new.self) c.relax.invariant.size c.in_ok-step.ensures.size c.in_ok-step.ensures.state
    (settled_end c.args.arcs.now (length c.relax.state.lat.items)
    (length c.args.rows.now * most_gain) c.in-Settled.block (seen c.relax.state)
    (seen c.step.new.self) _ c.in-Settled.is c.in_ok-step.ensures.end)

pub relax-preserved-then-left-gt0 : goal.relax-preserved-then-left-gt0
relax-preserved-then-left-gt0 c =
    goes_on c.args.arcs.now _ (length c.relax.state.lat.items)
    (length c.args.rows.now * most_gain) c.in-Settled.block (seen c.relax.state)
    (seen c.step.new.self) c.relax.invariant.size c.in_ok-step.ensures.size c.in_ok-step.ensures.state
    (settled_end c.args.arcs.now (length c.relax.state.lat.items)
    (length c.args.rows.now * most_gain) c.in-Settled.block (seen c.relax.state)
    (seen c.step.new.self) _ c.in-Settled.is c.in_ok-step.ensures.end)

pub relax-smaller : goal.relax-smaller
relax-smaller c =
    (settled_end c.args.arcs.now (length c.relax.state.lat.items)
    (length c.args.rows.now * most_gain) c.in-Settled.block (seen c.relax.state)
    (seen c.step.new.self) _ c.in-Settled.is c.in_ok-step.ensures.end).work

pub relax-smaller-then-left-gt0 : goal.relax-smaller-then-left-gt0
relax-smaller-then-left-gt0 c =
    (settled_end c.args.arcs.now (length c.relax.state.lat.items)
    (length c.args.rows.now * most_gain) c.in-Settled.block (seen c.relax.state)
    (seen c.step.new.self) _ c.in-Settled.is c.in_ok-step.ensures.end).work

pub returns-in-Done : goal.returns-in-Done
returns-in-Done c =
    let before : ℕ = length c.relax.state.lat.items in
    let limit : ℕ = length c.args.rows.now * most_gain in
    record {
      state = subst (λ (count : ℕ). IsState c.args.arcs.now count (seen c.step.new.self)) c.relax.invariant.size c.in_ok-step.ensures.state;
      found = subst (λ (step : Step). IsStepEnd c.args.arcs.now before limit (seen c.relax.state) (seen c.step.new.self) step) c.in-Done.is c.in_ok-step.ensures.end;
    }

pub returns-in-Some : goal.returns-in-Some
returns-in-Some c = record {
  state = subst (λ (count : ℕ). IsState c.args.arcs.now count (seen c.step.new.self)) c.relax.invariant.size c.in_ok-step.ensures.state;
  found = subst (λ (found : Option Gaining). IfSome found (IsGaining c.args.arcs.now)) c.in-Some.is c.in_ok-gaining-in-Settled.ensures.gaining;
}

pub returns-in-Above : goal.returns-in-Above
returns-in-Above c =
    let end = above_end c.args.arcs.now (length c.relax.state.lat.items)
    (length c.args.rows.now * most_gain) c.in-Above.block (seen c.relax.state)
    (seen c.step.new.self) _ c.in-Above.is c.in_ok-step.ensures.end in
    let size = c.in_ok-step.ensures.size in
    let first = c.relax.invariant.size in
    let rows = c.requires.rows.size in
    let above = end.above in
    let state = subst (λ (count : ℕ). IsState c.args.arcs.now count (seen c.step.new.self)) c.relax.invariant.size c.in_ok-step.ensures.state in
    let told = cycle_there c.args.arcs.now c.step.new.self.lat.items (latency_at c.step.new.self.lat.items c.in-Above.block) (length c.step.new.self.lat.items * most_gain) c.cycle_behind.result state
    (omega (arith, above, rows, first, size)) c.cycle_behind.ensures.gaining c.cycle_behind.ensures.none in
    record { state = told.0; found = told.1 }
