use Rattle.std.proofs.Common.{subst, sym}
use Rattle.vl_check.specs.Ordering.{IsOrdering}
use Rattle.vl_eval.specs.inner.PlanOperations.{AreCaptured, AreWired}
use Rattle.vl_eval.proofs.plan.fill.Goals as goal

pub wires-requires-clause-sound : goal.wires-requires-clause-sound
wires-requires-clause-sound c = c.requires.checked.sound

pub wires-requires-clause-scope : goal.wires-requires-clause-scope
wires-requires-clause-scope c = c.requires.checked.scope

pub wires-requires-clause-order : goal.wires-requires-clause-order
wires-requires-clause-order c =
    let checked = c.args.checked.now in
    subst (λ order. IsOrdering c.args.source.now checked.scope order c.as_slice-places.result.now) (sym c.as_slice-order.ensures.value)
    (subst (λ places. IsOrdering c.args.source.now checked.scope checked.order.items places) (sym c.as_slice-places.ensures.value) c.requires.checked.order)

pub wires-requires-clause-numbers : goal.wires-requires-clause-numbers
wires-requires-clause-numbers c = c.requires.slots

pub wires-requires-clause-none : goal.wires-requires-clause-none
wires-requires-clause-none c = c.requires.ops

pub captures-requires-clause-sound : goal.captures-requires-clause-sound
captures-requires-clause-sound c = c.requires.checked.sound

pub captures-requires-clause-scope : goal.captures-requires-clause-scope
captures-requires-clause-scope c = c.requires.checked.scope

pub captures-requires-clause-base : goal.captures-requires-clause-base
captures-requires-clause-base c = c.count.ensures

pub captures-requires-clause-wired : goal.captures-requires-clause-wired
captures-requires-clause-wired c = λ fine. subst (λ xs. AreWired c.args.source.now c.args.checked.now.scope xs c.wires.new.ops.code) (sym c.as_slice.ensures.value) (c.wires.ensures fine).1

pub captures-requires-clause-none : goal.captures-requires-clause-none
captures-requires-clause-none c = c.requires.captures

pub returns : goal.returns
returns c = λ fine.
    let m = c.args.source.now in
    let captured = c.captures-2.ensures fine in
    let wired = c.wires.ensures captured.0 in (
      wired.0,
      record {
        wires = c.wires.new.ops.code;
        wired = wired.1;
        captured = subst (λ xs. AreCaptured m c.args.checked.now.scope xs m.items c.wires.new.ops.code c.captures-2.new.ops.code c.captures-2.new.captures.items) c.as_slice.ensures.value captured.1;
      },
    )
