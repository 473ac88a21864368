use Rattle.std.proofs.Common.{◌≡◌, length, slice_index, sym, subst, ap, ◌∙◌, arith}
use Rattle.std.proofs.lemmas.List.{length-set}
use Rattle.vl_ast.specs.Context.{Net}
use Rattle.vl_ast.specs.Nets.{names_read}
use Rattle.vl_check.specs.Scope.{names_in}
use Rattle.vl_eval.specs.inner.Assigns.{Assigns}
use Rattle.vl_eval.specs.inner.PlanOperations.{IsWired}
use Rattle.vl_eval.specs.inner.Site.{ArePlaced}
use Rattle.vl_eval.proofs.Sounds.{scope-few, scope-sound}
use Rattle.vl_eval.proofs.Wires.{Assigned, in-items, no-assignment, some-assignment, wired-all, wired-more, wired-none, wired-placed, wired-same}
use Rattle.vl_eval.proofs.plan.wires.Goals as goal
use Rattle.vl_eval.proofs.plan.wires.Goals.{In-Some}

-- what the number that the loop looks at assigns
found : (c : In-Some) → Assigned c.meaning_by_layer.ensures.value c.args.source.now c.args.scope.now
    c.args.order.now c.args.places.now c.requires.scope c.requires.sound.acyclic.driven
    c.requires.sound.acyclic.once c.requires.order
    (slice_index c.args.order.now c.loop-number.number-index) c.in-Some.field-0.name.now c.in-Some.field-0.value.now
found c =
    some-assignment c.meaning_by_layer.ensures.value c.args.source.now c.args.scope.now c.args.order.now
    c.args.places.now c.requires.scope c.requires.sound.acyclic.driven c.requires.sound.acyclic.once
    c.requires.order
    (slice_index c.args.order.now c.loop-number.number-index) c.in-Some.field-0.name.now c.in-Some.field-0.value.now (sym c.in-Some.ensures)

pub loop-number-init : goal.loop-number-init
loop-number-init c =
    let a = c.requires.sound.acyclic in
    record {
      long = c.requires.numbers.long;
      wired = λ fine. (
        fine,
        wired-none c.meaning_by_layer.ensures.value c.args.source.now c.args.scope.now
            c.args.order.now c.args.places.now c.requires.scope a.driven a.once c.requires.order
            c.args.slots.now.items c.args.ops.now.code c.requires.numbers c.requires.none,
      );
    }

pub loop-number-preserved-in_default : goal.loop-number-preserved-in_default
loop-number-preserved-in_default c =
    let m = c.args.source.now in
    let a = c.requires.sound.acyclic in
    let places = c.args.places.now in
    let order = c.args.order.now in
    let p = c.loop-number.number-index in
    let none = no-assignment c.meaning_by_layer.ensures.value m c.args.scope.now order places c.requires.scope a.driven a.once c.requires.order (slice_index order p) (sym c.in_default.ensures) in
    record {
      long = c.loop-number.invariant.long;
      wired = λ fine.
          let w = c.loop-number.invariant.wired fine in (
            w.0,
            wired-same c.meaning_by_layer.ensures.value m c.args.scope.now order places c.requires.scope
                a.driven a.once c.requires.order p c.loop-number.slots.items c.loop-number.ops.code
                c.loop-number-test.true none w.1,
          );
    }

pub build_assigned-slot-requires-clause-sound : goal.build_assigned-slot-requires-clause-sound
build_assigned-slot-requires-clause-sound c =
    let m = c.args.source.now in
    let a = c.requires.sound.acyclic in
    let order = c.args.order.now in
    let p = c.loop-number.number-index in
    let here = c.in-Some.field-0 in
    let assigned = found (goal.at.build_assigned-slot-requires-clause-sound c).In-Some in
    scope-sound m c.requires.sound.narrow c.args.scope.now c.requires.scope here.name.now here.value.now
    (in-items c.meaning_by_layer.ensures.value m c.args.scope.now order c.args.places.now c.requires.scope a.driven a.once c.requires.order here.name.now here.value.now assigned.j assigned.item)

pub build_assigned-slot-requires-clause-most : goal.build_assigned-slot-requires-clause-most
build_assigned-slot-requires-clause-most c =
    let m = c.args.source.now in
    let a = c.requires.sound.acyclic in
    let e = ap (λ (n : Net). n.width) c.net-width.ensures in
    let f = scope-few m c.requires.sound.narrow a.driven a.once c.args.scope.now c.requires.scope c.in-Some.field-0.name.now in
    omega (arith, e, f)

pub build_assigned-slot-requires-clause-placed : goal.build_assigned-slot-requires-clause-placed
build_assigned-slot-requires-clause-placed c =
    let scope = c.args.scope.now in
    let a = c.requires.sound.acyclic in
    let here = c.in-Some.field-0 in
    let assigned = found (goal.at.build_assigned-slot-requires-clause-placed c).In-Some in
    λ fine.
    subst (λ n. ArePlaced n scope c.as_slice.result.now c.loop-number.ops.code (names_read here.value.now)) (sym c.count.ensures)
    (subst (λ xs. ArePlaced (length (names_in scope)) scope xs c.loop-number.ops.code (names_read here.value.now)) (sym c.as_slice.ensures.value)
    (wired-placed c.meaning_by_layer.ensures.value c.args.source.now scope c.args.order.now c.args.places.now
    c.requires.scope a.driven a.once c.requires.order c.loop-number.number-index assigned.j here.name.now
    here.value.now c.loop-number-test.true assigned.place assigned.item
    c.loop-number.slots.items 0 c.loop-number.ops.code (scope-few c.args.source.now c.requires.sound.narrow a.driven a.once scope c.requires.scope) (c.loop-number.invariant.wired fine).1))

pub loop-number-preserved : goal.loop-number-preserved
loop-number-preserved c =
    let m = c.args.source.now in
    let scope = c.args.scope.now in
    let a = c.requires.sound.acyclic in
    let order = c.args.order.now in
    let places = c.args.places.now in
    let p = c.loop-number.number-index in
    let here = c.in-Some.field-0 in
    let assigned = found (goal.at.loop-number-preserved c).In-Some in
    record {
      long = length-set c.loop-number.slots.items _ _ ∙ c.loop-number.invariant.long;
      wired = λ fine.
          let more = c.build_assigned-slot.ensures fine in
          let w = c.loop-number.invariant.wired more.0 in
          let assigns =
          subst (λ xs. Assigns (length (names_in scope)) scope xs c.loop-number.ops.code
          c.build_assigned-slot.new.ops.code c.build_assigned-slot.result c.net-width.result.length
          here.value.now) c.as_slice.ensures.value
          (subst (λ n. Assigns n scope c.as_slice.result.now c.loop-number.ops.code
          c.build_assigned-slot.new.ops.code c.build_assigned-slot.result c.net-width.result.length
          here.value.now) c.count.ensures more.1) in (
            w.0,
            wired-more c.meaning_by_layer.ensures.value m scope order places c.requires.scope a.driven a.once
                c.requires.order p assigned.j here.name.now here.value.now c.loop-number-test.true assigned.place
                assigned.item
                c.loop-number.slots.items c.build_assigned-slot.result c.loop-number.ops.code
                c.build_assigned-slot.new.ops.code c.net-width.result.length
                (ap (λ (n : Net). n.width) c.net-width.ensures) assigns w.1,
          );
    }

pub returns : goal.returns
returns c = λ fine.
    let m = c.args.source.now in
    let a = c.requires.sound.acyclic in
    let order = c.args.order.now in
    let w = c.loop-number.invariant.wired fine in
    let all : c.loop-number.number-index ≡ length order = omega (arith, c.loop-number-test.false, c.loop-number.auto.number-index-end) in (
      w.0,
      wired-all c.meaning_by_layer.ensures.value m c.args.scope.now order c.args.places.now c.requires.scope a.driven a.once c.requires.order c.loop-number.slots.items c.loop-number.ops.code
          (subst (λ n. IsWired m c.args.scope.now order c.args.places.now n c.loop-number.slots.items c.loop-number.ops.code) all w.1),
    )
