use Rattle.std.proofs.Common.{◌≡◌, ℕ, ◌+◌, List, [], ◌++◌, length, ◌∙◌, Bool, true, false, not, refl, sym, ap, arith}
use Rattle.std.specs.Prelude.{slice_index_or}
use Rattle.std.specs.List.{filter_map}
use Rattle.std.specs.Str.Lines.{lines}
use Rattle.std.proofs.lemmas.Bool.{OnTrue_at, false≢true, eqb-true}
use Rattle.std.proofs.lemmas.List.{append-nil, nil_from_length}
use Rattle.fx_tables.specs.declared.entry.PlanEntry.{PlanEntry}
use Rattle.fx_tables.specs.Plan.{cycles_of, multipliers_of, pipeline_of}
use Rattle.fx_tables.specs.inner.PlainPlan.{entry_of, entries_fault}
use Rattle.fx_tables.proofs.PlanLemmas.{entries_fault-bad, entries_fault-good, entries-more}
use Rattle.fx_tables.proofs.PlanText.{plan_said, fault_said}
use Rattle.fx_tables.proofs.plan.read_plan.Goals as goal

bad_from : (bad : Bool) → false ≡ not bad → bad ≡ true
bad_from true is = refl
bad_from false is = absurd (false≢true is)

good_from : (bad : Bool) → true ≡ not bad → bad ≡ false
good_from true is = absurd (false≢true (sym is))
good_from false is = refl

pub returns-then-not-branch-clause-refused : goal.returns-then-not-branch-clause-refused
returns-then-not-branch-clause-refused c other =
    let read = c.loop-rest.invariant.read in
    let line = c.in_ok-read_line.ensures.describes read.0 read.1 in
    fault_said c.args.bytes.now _
    (sym read.3
    ∙ entries_fault-bad read.0 (c.loop-rest.line + 1) c.cut_line-cut.result.head.now _ _ c.cut_line-cut.ensures.line
    (bad_from _ (sym c.if-not-branch.true ∙ line.0)))

pub loop-rest-preserved : goal.loop-rest-preserved
loop-rest-preserved c =
    let read = c.loop-rest.invariant.read in
    let line = c.in_ok-read_line.ensures.describes read.0 read.1 in
    let cut = c.cut_line-cut in
    record {
      counted = omega arith;
      in_range = c.in_ok-read_line.ensures.in_range c.if-not-branch.false c.loop-rest.invariant.in_range;
      read = (
        _,
        OnTrue_at c.if-not-branch.false line.1,
        sym (entries-more read.0 cut.result.head.now _ _ cut.ensures.line) ∙ read.2,
        sym (entries_fault-good read.0 (c.loop-rest.line + 1) cut.result.head.now _ _ cut.ensures.line (good_from _ (sym c.if-not-branch.false ∙ line.0)))
            ∙ read.3,
      );
    }

pub loop-rest-init : goal.loop-rest-init
loop-rest-init c = record { counted = omega arith; in_range = c.new-draft.ensures.in_range; read = ([], c.new-draft.ensures.empty, refl, refl) }

pub returns-clause-plan : goal.returns-clause-plan
returns-clause-plan c =
    let none = nil_from_length c.loop-rest.rest.now (eqb-true (length c.loop-rest.rest.now) 0 (sym c.loop-rest-test.ensures)) in
    let read = c.loop-rest.invariant.read in
    let all = sym (append-nil read.0) ∙ ap (λ (rest : List ℕ). read.0 ++ filter_map entry_of (lines rest)) (sym none) ∙ read.2 in
    let said = c.finish.ensures.said read.0 read.1 in
    plan_said c.args.bytes.now _ (record {
      no_fault = sym read.3 ∙ ap (λ (rest : List ℕ). entries_fault read.0 (c.loop-rest.line + 1) (lines rest)) none;
      clocks = said.0 ∙ ap (λ (entries : List PlanEntry). slice_index_or (filter_map cycles_of entries) 0 1) all;
      shared = said.1 ∙ ap (λ (entries : List PlanEntry). slice_index_or (filter_map multipliers_of entries) 0 0) all;
      registers = said.2 ∙ ap (filter_map pipeline_of) all;
    })
