use Rattle.std.proofs.Common.{◌<◌, rules, length, set, take, drop, slice_index, slice_index_or, Contains, sym, subst, arith}
use Rattle.std.proofs.lemmas.List.{take-append-drop, take_more}
use Rattle.std.proofs.lemmas.List.Elements.{Contains-append_left}
use Rattle.vl_eval.specs.declared.plan.Capture.{Capture}
use Rattle.vl_eval.specs.inner.Edges.{IsTaken}
use Rattle.vl_eval.proofs.Puts.{capture-in, taken-more}
use Rattle.vl_eval.proofs.moving.capture.Goals as goal
use Rattle.vl_eval.proofs.moving.capture.Goals.{In-loop-capture}

-- the places of the capture that a turn takes
below : (c : In-loop-capture) → let here =
    slice_index_or c.args.captures.now c.loop-capture.capture-index (record { from = 0; to = 0 }) in
    (here.from < length c.loop-capture.values) × (here.to < length c.loop-capture.values)
below c =
    let within = c.requires.within _ (capture-in c.args.captures.now c.loop-capture.capture-index c.loop-capture-test.true) in
    (omega (arith, within.0, c.loop-capture.auto.values), omega (arith, within.1, c.loop-capture.auto.values))

pub offset_bounds-values-from : goal.offset_bounds-values-from
offset_bounds-values-from c = let within = (below (goal.at.offset_bounds-values-from c).In-loop-capture).0 in search rules

pub bounds-values-from : goal.bounds-values-from
bounds-values-from c = (below (goal.at.bounds-values-from c).In-loop-capture).0

pub offset_bounds-values-to : goal.offset_bounds-values-to
offset_bounds-values-to c = let within = (below (goal.at.offset_bounds-values-to c).In-loop-capture).1 in search rules

pub bounds-values-to : goal.bounds-values-to
bounds-values-to c = (below (goal.at.bounds-values-to c).In-loop-capture).1

pub loop-capture-preserved : goal.loop-capture-preserved
loop-capture-preserved c =
    let captures = c.args.captures.now in
    let i = c.loop-capture.capture-index in
    let here : Capture = slice_index_or captures i (record { from = 0; to = 0 }) in
    let inside = capture-in captures i c.loop-capture-test.true in
    let within = (c.requires.within here inside).1 in
    subst (λ cs. IsTaken cs c.args.values.now
    (set c.loop-capture.values here.to (slice_index c.loop-capture.values here.from)))
    (sym (take_more captures i (record { from = 0; to = 0 }) c.loop-capture-test.true))
    (taken-more (take i captures) here c.args.values.now c.loop-capture.values (omega (arith, within, c.loop-capture.auto.values))
    (λ d h. c.requires.apart d here (subst (λ cs. Contains cs d) (take-append-drop i captures) (Contains-append_left (take i captures) (drop i captures) d h)) inside)
    c.loop-capture.invariant)
