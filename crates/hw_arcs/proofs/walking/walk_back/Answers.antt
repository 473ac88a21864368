use Rattle.std.proofs.Common.{◌<◌, false, ap, ◌∙◌, length, arith}
use Rattle.std.specs.Prelude.{None, Some}
use Rattle.std.proofs.lemmas.Option.{slice_get-get_or}
use Rattle.hw_arcs.proofs.WayBack.{walking_on, walking_falls, walking_ends, walking_stops}
use Rattle.hw_arcs.proofs.walking.walk_back.Goals as goal

pub returns-in_default : goal.returns-in_default
returns-in_default c =
    walking_ends c.args.arcs.now c.args.tight.now c.args.first c.walk.path.items c.walk.at c.walk.met.items
    (slice_get-get_or c.args.tight.now c.walk.at None c.walk.invariant.inside ∙ ap Some c.in_default.is)
    c.walk.invariant

pub bounds-arcs-number : goal.bounds-arcs-number
bounds-arcs-number c = c.requires.given.given c.walk.at c.in-Some.number (slice_get-get_or c.args.tight.now c.walk.at None c.walk.invariant.inside ∙ ap Some c.in-Some.is)

pub walk-preserved : goal.walk-preserved
walk-preserved c =
    walking_on c.args.arcs.now c.args.tight.now c.args.first c.walk.path.items c.push.new.self.items c.walk.at
    c.in-Some.number
    (record { from = 0; to = 0; counts = false; gain = 0; slack = 0 }) c.walk.met.items c.index.result.now
    c.requires.known c.requires.given c.index.ensures c.walk-test.true c.in-Some.is c.in_ok-push.ensures.items c.walk.invariant

pub walk-smaller : goal.walk-smaller
walk-smaller c =
    let on = walking_on c.args.arcs.now c.args.tight.now c.args.first c.walk.path.items c.push.new.self.items
    c.walk.at c.in-Some.number
    (record { from = 0; to = 0; counts = false; gain = 0; slack = 0 }) c.walk.met.items c.index.result.now
    c.requires.known c.requires.given c.index.ensures c.walk-test.true c.in-Some.is c.in_ok-push.ensures.items c.walk.invariant in
    walking_falls c.args.arcs.now c.args.tight.now c.args.first c.walk.path.items c.push.new.self.items c.walk.at _ _ c.in_ok-push.ensures.items on

pub returns : goal.returns
returns c =
    walking_stops c.args.arcs.now c.args.tight.now c.args.first c.walk.path.items c.as_slice.result.now c.walk.at
    c.walk.met.items c.index.result.now c.place_of.result c.index.ensures c.walk-test.false
    c.as_slice.ensures.value c.place_of.ensures c.walk.invariant

pub offset_bounds-arcs-number : goal.offset_bounds-arcs-number
offset_bounds-arcs-number c =
    let below : c.in-Some.number < length c.args.arcs.now =
    c.requires.given.given c.walk.at c.in-Some.number
    (slice_get-get_or c.args.tight.now c.walk.at None c.walk.invariant.inside ∙ ap Some c.in-Some.is) in
    omega (arith, below)
