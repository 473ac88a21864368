use Rattle.std.proofs.Common.{◌≡◌, ℕ, List, length, take, slice_index, refl, sym, ap, subst, ◌∙◌}
use Rattle.std.specs.Vec.{with_items}
use Rattle.std.proofs.lemmas.List.{with_items_is}
use Rattle.vl_eval.specs.inner.Edges.{IsTaken}
use Rattle.vl_eval.specs.inner.Moves.{CanMove}
use Rattle.vl_eval.specs.inner.Ops.{IsSettled}
use Rattle.vl_eval.proofs.StablePlaces.{can-move}
use Rattle.vl_eval.proofs.Edges.{edge-fits-named, edge-named, edge-still-named}
use Rattle.vl_eval.proofs.machine.Machine.edge.Goals as goal
use Rattle.vl_eval.proofs.machine.Machine.edge.Goals.{After-move_on}

pub move_on-requires-clause-can : goal.move_on-requires-clause-can
move_on-requires-clause-can c =
    let self = c.args.self.now in
    let ready = c.requires.ready in
    let of = ready.plan_is in
    subst (λ v. CanMove self.plan c.args.inputs.now v) (sym c.as_mut_slice.ensures.value)
    (can-move c.meaning_by_layer.ensures.value self.source of.sound of.scope of.scope_is self.plan of.plan_is self.values.items c.args.inputs.now ready.room ready.settled c.requires.fit)

-- the values before and after
taken : (c : After-move_on) → IsTaken c.args.self.now.plan.arranged.captures.items c.args.self.now.values.items c.move_on.ensures.moved.captured
taken c = subst (λ v. IsTaken c.args.self.now.plan.arranged.captures.items v c.move_on.ensures.moved.captured) c.as_mut_slice.ensures.value c.move_on.ensures.moved.taken

abbrev moved : After-move_on → List ℕ
moved c = (with_items c.args.self.now.values c.move_on.new.values).items

long : (c : After-move_on) → length c.move_on.new.values ≡ length c.args.self.now.values.items
long c = c.move_on.ensures.moved.long ∙ ap length c.as_mut_slice.ensures.value

is : (c : After-move_on) → moved c ≡ c.move_on.new.values
is c = with_items_is c.args.self.now.values c.move_on.new.values (long c ∙ sym c.args.self.now.values.ok.0)

kept : (c : After-move_on) → take c.args.self.now.plan.base (moved c) ≡ take c.args.self.now.plan.base c.move_on.ensures.moved.entered
kept c = subst (λ v. take c.args.self.now.plan.base v ≡ take c.args.self.now.plan.base c.move_on.ensures.moved.entered) (sym (is c)) c.move_on.ensures.moved.kept

settled : (c : After-move_on) → IsSettled c.args.self.now.plan.base c.args.self.now.plan.arranged.ops (λ k. slice_index (moved c) k)
settled c = subst (λ v. IsSettled c.args.self.now.plan.base c.args.self.now.plan.arranged.ops (λ k. slice_index v k)) (sym (is c)) c.move_on.ensures.moved.settled

pub returns-clause-row : goal.returns-clause-row
returns-clause-row c =
    let point = (goal.at.returns-clause-row c).After-move_on in
    let self = c.args.self.now in
    let ready = c.requires.ready in
    let of = ready.plan_is in
    let now = c.move_on.ensures.moved in
    edge-named c.meaning_by_layer.ensures.value self.source of.sound of.scope of.scope_is self.plan of.plan_is
    self.values.items now.captured now.entered c.args.inputs.now (taken point) now.put c.requires.fit
    (moved point) ready.settled ready.fits ready.still (kept point) (settled point)

pub returns-clause-ready : goal.returns-clause-ready
returns-clause-ready c =
    let point = (goal.at.returns-clause-ready c).After-move_on in
    let self = c.args.self.now in
    let ready = c.requires.ready in
    let of = ready.plan_is in
    let now = c.move_on.ensures.moved in
    record {
      plan_is = of;
      room = ap length (is point) ∙ long point ∙ ready.room;
      settled = settled point;
      fits = edge-fits-named c.meaning_by_layer.ensures.value self.source of.sound of.scope of.scope_is self.plan
          of.plan_is self.values.items now.captured now.entered c.args.inputs.now (taken point) now.put c.requires.fit
          (moved point) ready.settled ready.fits ready.still (kept point) (settled point);
      still = edge-still-named c.meaning_by_layer.ensures.value self.source of.sound of.scope of.scope_is self.plan
          of.plan_is self.values.items now.captured now.entered c.args.inputs.now (taken point) now.put c.requires.fit
          (moved point) ready.settled ready.fits ready.still (kept point) (settled point);
      watched = c.move_on.ensures.watch;
    }

pub returns-clause-source : goal.returns-clause-source
returns-clause-source c = refl

pub returns-clause-kept : goal.returns-clause-kept
returns-clause-kept c = λ snapshot row kept. record { room = kept.room; row_is = kept.row_is }
