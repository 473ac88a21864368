use Rattle.std.proofs.Common.{◌≡◌, ◌<◌, ◌≤◌, ◌+◌, ◌∙◌, rules, length, set, take, drop, slice_index, slice_index_or, Contains, sym, subst, arith}
use Rattle.std.proofs.lemmas.List.{take-append-drop, take_more}
use Rattle.std.proofs.lemmas.List.Elements.{Contains-append_left}
use Rattle.vl_eval.specs.declared.plan.Capture.{Capture}
use Rattle.vl_eval.specs.inner.Edges.{IsTaken}
use Rattle.vl_eval.specs.inner.Reading.{AreSpared}
use Rattle.vl_eval.proofs.Puts.{capture-in, taken-more}
use Rattle.vl_eval.proofs.Spares.{spared-write}
use Rattle.vl_eval.proofs.moving.capture_marked.Goals as goal
use Rattle.vl_eval.proofs.moving.capture_marked.Goals.{In-loop-capture}

-- the capture that a turn takes
abbrev here : In-loop-capture → Capture
here c = slice_index_or c.as_slice-capture-items.result.now c.loop-capture.capture-index (record { from = 0; to = 0 })

inside : (c : In-loop-capture) → Contains c.args.plan.now.arranged.captures.items (here c)
inside c = subst (λ cs. Contains cs (here c)) c.as_slice-capture-items.ensures.value (capture-in c.as_slice-capture-items.result.now c.loop-capture.capture-index c.loop-capture-test.true)

placed : (c : In-loop-capture) → (c.args.plan.now.base ≤ (here c).from) × ((here c).from < length c.loop-capture.values) × ((here c).to < c.args.plan.now.base)
placed c = let within = c.requires.within (here c) (inside c) in (within.0, omega (arith, within.1, c.loop-capture.auto.values), within.2)

pub offset_bounds-values-from : goal.offset_bounds-values-from
offset_bounds-values-from c = let within = (placed (goal.at.offset_bounds-values-from c).In-loop-capture).1 in search rules

pub bounds-values-from : goal.bounds-values-from
bounds-values-from c = (placed (goal.at.bounds-values-from c).In-loop-capture).1

pub write-requires-clause-place : goal.write-requires-clause-place
write-requires-clause-place c =
    let to = (placed (goal.at.write-requires-clause-place c).In-loop-capture).2 in
    let wide = c.requires.readers.wide in
    omega (arith, to, wide)

pub write-requires-clause-within : goal.write-requires-clause-within
write-requires-clause-within c =
    let to = (placed (goal.at.write-requires-clause-within c).In-loop-capture).2 in
    omega (arith, to, c.requires.room, c.loop-capture.auto.values)

pub loop-capture-preserved : goal.loop-capture-preserved
loop-capture-preserved c =
    let point = (goal.at.loop-capture-preserved c).In-loop-capture in
    let plan = c.args.plan.now in
    let captures = plan.arranged.captures.items in
    let cs = c.as_slice-capture-items.result.now in
    let same : cs ≡ captures = c.as_slice-capture-items.ensures.value in
    let i = c.loop-capture.capture-index in
    let this = here point in
    let p = placed point in
    let inv = c.loop-capture.invariant in
    let values = c.loop-capture.values in
    let value = slice_index values this.from in
    let within : this.to < length values = omega (arith, p.2, c.requires.room, c.loop-capture.auto.values) in
    let now = set values this.to value in
    let before : IsTaken (take i cs) c.args.values.now values = subst (λ xs. IsTaken (take i xs) c.args.values.now values) (sym same) inv.taken in
    let taken : IsTaken (take (i + 1) cs) c.args.values.now now =
    subst (λ xs. IsTaken xs c.args.values.now now) (sym (take_more cs i (record { from = 0; to = 0 }) c.loop-capture-test.true))
    (taken-more (take i cs) this c.args.values.now values within
    (λ d h e. let q = c.requires.within d (subst (λ xs. Contains xs d) (take-append-drop i captures) (Contains-append_left (take i captures) (drop i captures) d (subst (λ xs. Contains (take i xs) d) same h))) in omega (arith, e, q.2, p.0))
    before) in
    record {
      taken = subst (λ v. IsTaken (take (i + 1) captures) c.args.values.now v) (sym c.write.ensures.values) (subst (λ xs. IsTaken (take (i + 1) xs) c.args.values.now now) same taken);
      spared = subst (λ v. AreSpared plan.base 0 plan.arranged.ops c.write.new.marks v) (sym c.write.ensures.values)
          (spared-write plan.base plan.arranged.ops values this.to value within c.loop-capture.marks c.write.new.marks c.args.readers.now p.2 c.requires.readers c.write.ensures.added c.write.ensures.marked inv.spared);
      marks = record { each = c.write.ensures.added.each ∙ inv.marks.each; blocks = c.write.ensures.added.blocks ∙ inv.marks.blocks };
    }
