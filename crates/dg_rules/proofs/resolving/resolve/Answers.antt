use Rattle.std.proofs.Common.{◌≡◌, ◌<◌, Some, List, length, refl, sym, ap, subst, ◌∙◌, arith}
use Rattle.std.specs.Prelude.{slice_get, slice_index_or}
use Rattle.std.proofs.lemmas.Option.{slice_get-get_or}
use Rattle.dg_model.specs.declared.plan.Pipeline.{Pipeline}
use Rattle.dg_model.specs.declared.fault.Shown.TheVariants.{Nothing}
use Rattle.dg_model.specs.declared.rule.Rule.{Rule}
use Rattle.dg_model.specs.Attributes.{attributes_of}
use Rattle.dg_model.specs.Faults.{fault_of}
use Rattle.dg_model.specs.PlanNames.{BreaksPlan}
use Rattle.dg_rules.specs.declared.standing.Standing.{Standing}
use Rattle.dg_rules.specs.declared.standing.Standing.TheVariants.{Unseen, Found}
use Rattle.dg_rules.specs.inner.Standings.{AllFound}
use Rattle.dg_model.proofs.Refusals.{refused_as}
use Rattle.dg_rules.proofs.LineStates.{plan_kept, plan_broken}
use Rattle.dg_rules.proofs.PlanOf.{plan_of}
use Rattle.dg_rules.proofs.resolving.resolve.Goals as goal

pub returns-in-Some-clause-refused : goal.returns-in-Some-clause-refused
returns-in-Some-clause-refused c =
    let diagram = c.args.checked.now.diagram in
    let line = c.index-pipelines-number.result in
    let items : c.as_slice.result.now ≡ c.in_ok-walk.walk.standings.items = c.as_slice.ensures.value in
    let missing = subst (λ (xs : List Standing). slice_index_or xs c.in-Some.number Unseen ≡ Found → ⊥) items c.in-Some.ensures.missing in
    let before = subst (λ (xs : List Standing). AllFound xs c.in-Some.number) items c.in-Some.ensures.before in
    let number : c.in-Some.number < length c.as_slice-pipelines.result.now =
    omega (arith, c.in-Some.ensures.there, c.in_ok-walk.ensures.standings.long, ap (λ (xs : List Standing). length xs) items, ap (λ (xs : List Pipeline). length xs) c.as_slice-pipelines.ensures) in
    let at : slice_get c.args.plan.now.pipelines c.in-Some.number ≡ Some line =
    subst (λ (ls : List Pipeline). slice_get ls c.in-Some.number ≡ Some line) c.as_slice-pipelines.ensures
    (slice_get-get_or c.as_slice-pipelines.result.now c.in-Some.number _ number ∙ ap Some (sym c.index-pipelines-number.is)) in
    refused_as (λ fault. fault ≡ fault_of Rule.Plan line.path Nothing) (BreaksPlan diagram (attributes_of diagram) c.args.plan.now) c.refusal.result
    (λ fault is. plan_broken diagram (attributes_of diagram) c.args.plan.now c.in_ok-walk.walk.standings.items
    c.in_ok-walk.ensures.standings c.in-Some.number line fault at missing before is) c.refusal.ensures

pub returns-clause-kept : goal.returns-clause-kept
returns-clause-kept c =
    let items : c.as_slice.result.now ≡ c.in_ok-walk.walk.standings.items = c.as_slice.ensures.value in
    plan_kept c.args.checked.now.diagram (attributes_of c.args.checked.now.diagram) c.args.plan.now c.in_ok-walk.walk.standings.items c.in_ok-walk.ensures.standings
    (subst (λ (xs : List Standing). AllFound xs (length xs)) items (c.in_default.ensures.none refl))

pub returns-clause-planned : goal.returns-clause-planned
returns-clause-planned c =
    let items : c.as_slice.result.now ≡ c.in_ok-walk.walk.standings.items = c.as_slice.ensures.value in
    let kept =
    plan_kept c.args.checked.now.diagram (attributes_of c.args.checked.now.diagram) c.args.plan.now c.in_ok-walk.walk.standings.items c.in_ok-walk.ensures.standings
    (subst (λ (xs : List Standing). AllFound xs (length xs)) items (c.in_default.ensures.none refl)) in
    plan_of c.args.checked.now.diagram c.args.plan.now _ c.requires kept (record { cycles = refl; multipliers = refl; stages = c.in_ok-walk.ensures.stages })
