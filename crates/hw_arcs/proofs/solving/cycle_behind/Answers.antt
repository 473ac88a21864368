use Rattle.std.proofs.Common.{length, drop, ap, ◌∙◌, arith}
use Rattle.hw_arcs.proofs.Outcome.{given_of, ended_bound, place_inside, ring_after, gaining_is}
use Rattle.hw_arcs.proofs.solving.cycle_behind.Goals as goal

pub walk_back-requires-clause-given : goal.walk_back-requires-clause-given
walk_back-requires-clause-given c = given_of c.args.arcs.now c.args.state.now.lat.items c.args.state.now.tight.items c.as_slice-tight.result.now c.requires.state.labels c.as_slice-tight.ensures.value

pub returns-in_default-clause-none : goal.returns-in_default-clause-none
returns-in_default-clause-none c =
    ended_bound c.args.arcs.now c.args.state.now.lat.items c.args.state.now.tight.items c.as_slice-tight.result.now
    c.args.first c.walk_back.new.path.items c.in_ok-place.field-0 c.requires.known c.requires.state.labels
    c.as_slice-tight.ensures.value c.in_default.is c.in_ok-place.ensures

pub split_at-requires : goal.split_at-requires
split_at-requires c =
    let inside = place_inside c.args.arcs.now c.as_slice-tight.result.now c.args.first c.walk_back.new.path.items c.in_ok-place.field-0 c.in-Some.place c.in-Some.is c.in_ok-place.ensures in
    let same = ap length c.as_slice.ensures.value in
    omega (arith, inside, same)

pub turn_back-requires : goal.turn_back-requires
turn_back-requires c = record {
  some = (ring_after c.args.arcs.now c.args.state.now.lat.items c.args.state.now.tight.items
      c.as_slice-tight.result.now c.args.first c.walk_back.new.path.items c.split_at.result.1.now
      c.in_ok-place.field-0 c.in-Some.place
      c.requires.state.labels c.as_slice-tight.ensures.value c.in-Some.is c.in_ok-place.ensures (c.split_at.ensures.back ∙ ap (drop c.in-Some.place) c.as_slice.ensures.value)).some;
}

pub total_of-total-requires-clause-given : goal.total_of-total-requires-clause-given
total_of-total-requires-clause-given c =
    given_of c.args.arcs.now c.args.state.now.lat.items c.args.state.now.tight.items c.as_slice-tight.result.now
    c.requires.state.labels c.as_slice-tight.ensures.value

pub total_of-total-requires-clause-ring : goal.total_of-total-requires-clause-ring
total_of-total-requires-clause-ring c =
    ring_after c.args.arcs.now c.args.state.now.lat.items c.args.state.now.tight.items c.as_slice-tight.result.now
    c.args.first c.walk_back.new.path.items c.split_at.result.1.now c.in_ok-place.field-0 c.in-Some.place
    c.requires.state.labels c.as_slice-tight.ensures.value c.in-Some.is c.in_ok-place.ensures (c.split_at.ensures.back ∙ ap (drop c.in-Some.place) c.as_slice.ensures.value)

pub returns-clause-gaining : goal.returns-clause-gaining
returns-clause-gaining c =
    let ring = ring_after c.args.arcs.now c.args.state.now.lat.items c.args.state.now.tight.items
    c.as_slice-tight.result.now c.args.first c.walk_back.new.path.items c.split_at.result.1.now
    c.in_ok-place.field-0 c.in-Some.place
    c.requires.state.labels c.as_slice-tight.ensures.value c.in-Some.is c.in_ok-place.ensures (c.split_at.ensures.back ∙ ap (drop c.in-Some.place) c.as_slice.ensures.value) in
    gaining_is c.args.arcs.now c.args.state.now.lat.items c.args.state.now.tight.items c.as_slice-tight.result.now c.split_at.result.1.now c.in_ok-blocks.blocks c.total_of-total.result
    c.requires.known c.requires.few c.requires.state.labels c.as_slice-tight.ensures.value ring c.in_ok-blocks.ensures c.total_of-total.ensures
