-- A model that keeps its rules makes a design by a plan without sharing and pipelining.
use Rattle.std.proofs.Common.{◌≡◌, ℕ, ◌≤◌, List, [], ◌∷◌, ◌++◌, arith}
use Rattle.std.specs.Prelude.{slice_index_or}
use Rattle.std.specs.List.{filter_map}
use Rattle.dg_model.specs.declared.plan.Plan.{Plan}
use Rattle.cmd_design.specs.Design.{IsBadPlan}
use Rattle.cmd_generate.specs.Generated.{CanBeDesigned}
use Rattle.fx_tables.proofs.PlanRange.{in-range}
use Rattle.fx_tables.specs.declared.table.TableCause.{TableCause}
use Rattle.fx_tables.specs.Plan.{SayEach, multipliers_of, pipeline_of}
use Rattle.cmd_generate.specs.Plain.{EmptyPlansMakeDesigns, IsPlainText, PlainDesignsAreAtOnce, PlainPlansMakeDesigns}
use Rattle.hw_plain.specs.Plain.{IsPlain, PlainPlansAreAtOnce, PlainPlansBreakStorage}

pub designs-are-at-once : PlainPlansAreAtOnce → PlainDesignsAreAtOnce
designs-are-at-once at-once model text diagram plan timing plain design =
    at-once diagram design.plan plan timing design.accepted.checked
    (plain design.plan design.says) design.planned.found design.planned.keeps.timed

pub make-designs : PlainPlansBreakStorage → PlainPlansMakeDesigns
make-designs breaks model text accepted good plain stored = record {
  accepted = accepted;
  good = good;
  kept = λ line told.
      let over = breaks told.diagram told.plan told.told.fault told.accepted.checked (plain told.plan told.says) (in-range text told.plan told.says).some_clocks told.told.broken in
      let within = stored told.diagram told.plan over.resolved over.timing told.accepted told.says over.found over.timed in
      let above = over.above in
      omega (arith, within, above);
}

-- ---- the empty plan

empty-is-plain : IsPlainText []
empty-is-plain plan says =
    (elim says.entries as (λ entries. SayEach [] entries → plan.multipliers ≡ slice_index_or (filter_map multipliers_of entries) 0 0 → plan.pipelines ≡ filter_map pipeline_of entries → IsPlain plan) [
      | [] ↦ λ say shared registers. record { unshared = shared; unpipelined = registers }
      | entry ∷ more ↦ λ say shared registers. absurd say
    ]) says.say says.shared says.registers

never-split : (before after : List (List ℕ)) (bad : List ℕ) → [] ≡ before ++ bad ∷ after → ⊥
never-split [] after bad whole = cc
never-split (line ∷ before) after bad whole = cc

empty-is-good : (model : List ℕ) (line : ℕ) (cause : TableCause) → IsBadPlan model [] line cause → ⊥
empty-is-good model line cause bad = never-split bad.bad.before bad.bad.after bad.bad.bad bad.bad.whole

pub empty-makes-designs : PlainPlansBreakStorage → EmptyPlansMakeDesigns
empty-makes-designs breaks model accepted stored = make-designs breaks model [] accepted (empty-is-good model) empty-is-plain stored
