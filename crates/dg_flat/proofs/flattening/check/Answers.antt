use Rattle.std.proofs.Common.{◌≡◌, ℕ, List, inl, inr, subst}
use Rattle.dg_model.specs.declared.fault.RuleFault.{RuleFault}
use Rattle.dg_model.specs.declared.fault.Shown.TheVariants.{Nothing}
use Rattle.dg_model.specs.declared.nested.Nested.{Nested}
use Rattle.dg_model.specs.declared.nested.NestedBlock.{NestedBlock}
use Rattle.dg_model.specs.declared.rule.Rule.{Rule}
use Rattle.dg_model.specs.Faults.{IsRefusal, fault_of}
use Rattle.dg_flat.specs.Parts.{nested_path}
use Rattle.dg_flat.specs.Rules.{BreaksNested, BreaksWiringOrEnable, KeepsWiring, KeepsEnable}
use Rattle.dg_flat.specs.inner.Verdict.{IsFirst, IsFirstBroken}
use Rattle.dg_model.proofs.Refusals.{refused_as}
use Rattle.dg_flat.proofs.FromSound.{have_parents, have_ends}
use Rattle.dg_flat.proofs.WireRules.{broken_inside}
use Rattle.dg_flat.proofs.flattening.check.Goals as goal

abbrev told : Rule → Nested → ℕ → RuleFault → Type 0
told rule nested place fault = fault ≡ fault_of rule (nested_path nested.blocks place) Nothing

breaks : (rule : Rule) (nested : Nested) (Keeps : Nested → ℕ → NestedBlock → Type 0) (place : ℕ)
    → IsFirstBroken nested Keeps place → (fault : RuleFault) → told rule nested place fault
    → BreaksNested nested rule Keeps fault
breaks rule nested Keeps place first fault is = record {
  place = place;
  block = first.block;
  there = first.there;
  broken = first.broken;
  before = first.before;
  fault_is = is;
}

pub first_unwired-requires-clause-parents : goal.first_unwired-requires-clause-parents
first_unwired-requires-clause-parents c = have_parents c.args.nested.now c.requires.sound

pub first_unwired-requires-clause-ends : goal.first_unwired-requires-clause-ends
first_unwired-requires-clause-ends c = have_ends c.args.nested.now c.requires.sound

pub refusal-requires-clause-parents : goal.refusal-requires-clause-parents
refusal-requires-clause-parents c = rw c.as_slice-blocks.ensures (have_parents c.args.nested.now c.requires.sound)

pub refusal-requires-clause-there : goal.refusal-requires-clause-there
refusal-requires-clause-there c = rw c.as_slice-blocks.ensures
    (broken_inside c.args.nested.now KeepsWiring c.in-Some.place
    (subst (IsFirst c.args.nested.now KeepsWiring) c.in-Some.is c.in_ok-place.ensures))

pub first_misplaced-requires-clause-parents : goal.first_misplaced-requires-clause-parents
first_misplaced-requires-clause-parents c = have_parents c.args.nested.now c.requires.sound

pub refusal-requires-in-Some-first_misplaced-clause-parents : goal.refusal-requires-in-Some-first_misplaced-clause-parents
refusal-requires-in-Some-first_misplaced-clause-parents c = rw c.as_slice-blocks.ensures (have_parents c.args.nested.now c.requires.sound)

pub refusal-requires-in-Some-first_misplaced-clause-there : goal.refusal-requires-in-Some-first_misplaced-clause-there
refusal-requires-in-Some-first_misplaced-clause-there c = rw c.as_slice-blocks.ensures (broken_inside c.args.nested.now KeepsEnable c.in-Some-first_misplaced.place c.in-Some-first_misplaced.ensures)

pub returns-in-Some-clause-refused : goal.returns-in-Some-clause-refused
returns-in-Some-clause-refused c =
    let nested = c.args.nested.now in
    let place = c.in-Some.place in
    let first = subst (IsFirst nested KeepsWiring) c.in-Some.is c.in_ok-place.ensures in
    refused_as (told Rule.Wiring nested place) (BreaksWiringOrEnable nested) c.refusal.result
    (λ fault is. inl (breaks Rule.Wiring nested KeepsWiring place first fault is))
    (subst (λ (blocks : List NestedBlock). IsRefusal (λ fault. fault ≡ fault_of Rule.Wiring (nested_path blocks place) Nothing) c.refusal.result) c.as_slice-blocks.ensures c.refusal.ensures)

pub returns-in-Some-first_misplaced-clause-refused : goal.returns-in-Some-first_misplaced-clause-refused
returns-in-Some-first_misplaced-clause-refused c =
    let nested = c.args.nested.now in
    let place = c.in-Some-first_misplaced.place in
    let wired = subst (IsFirst nested KeepsWiring) c.in_default.is c.in_ok-place.ensures in
    refused_as (told Rule.Enable nested place) (BreaksWiringOrEnable nested) c.refusal-in-Some-first_misplaced.result
    (λ fault is. inr (record { wired = wired; enables = breaks Rule.Enable nested KeepsEnable place c.in-Some-first_misplaced.ensures fault is }))
    (subst (λ (blocks : List NestedBlock). IsRefusal (λ fault. fault ≡ fault_of Rule.Enable (nested_path blocks place) Nothing) c.refusal-in-Some-first_misplaced.result) c.as_slice-blocks.ensures
    c.refusal-in-Some-first_misplaced.ensures)

pub returns-clause-kept : goal.returns-clause-kept
returns-clause-kept c = record { wiring = subst (IsFirst c.args.nested.now KeepsWiring) c.in_default.is c.in_ok-place.ensures; enables = c.in_default-first_misplaced.ensures }
