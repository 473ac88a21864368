use Rattle.std.proofs.Common.{Contains, subst, arith}
use Rattle.vl_eval.specs.inner.Edges.{IsPut, IsTaken}
use Rattle.vl_eval.proofs.Moves.{ops-kept}
use Rattle.vl_eval.proofs.Sweep.{constants-settled}
use Rattle.vl_eval.proofs.moving.move_all.Goals as goal

pub capture-requires-clause-within : goal.capture-requires-clause-within
capture-requires-clause-within c = λ d h.
    let w = c.requires.captures d (subst (λ cs. Contains cs d) c.as_slice.ensures.value h) in
    (w.1, omega (arith, w.2, c.requires.room))

pub capture-requires-clause-apart : goal.capture-requires-clause-apart
capture-requires-clause-apart c = λ d e h k same.
    let to = (c.requires.captures d (subst (λ cs. Contains cs d) c.as_slice.ensures.value h)).2 in
    let from = (c.requires.captures e (subst (λ cs. Contains cs e) c.as_slice.ensures.value k)).0 in
    omega (arith, same, to, from)

pub sweep-requires-clause-begun : goal.sweep-requires-clause-begun
sweep-requires-clause-begun c =
    let plan = c.args.plan.now in
    let can = c.requires in
    constants-settled plan.base plan.constants plan.arranged.ops c.args.values.now c.put.new.values can.constants can.settled
    (ops-kept plan.base plan.arranged.captures.items plan.inputs.items c.args.inputs.now c.args.values.now c.capture.new.values c.put.new.values
    (subst (λ cs. IsTaken cs c.args.values.now c.capture.new.values) c.as_slice.ensures.value c.capture.ensures)
    (subst (λ ps. IsPut ps c.args.inputs.now c.capture.new.values c.put.new.values) c.as_slice-2.ensures.value c.put.ensures)
    (λ d h. (can.captures d h).2) can.inputs)
