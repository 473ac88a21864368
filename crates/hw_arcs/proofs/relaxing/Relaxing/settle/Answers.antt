use Rattle.std.proofs.Common.{◌≡◌, ◌+◌, ◌<◌, List, ℕ, false, length, drop, get_or, subst, arith}
use Rattle.std.proofs.lemmas.List.{drop_all, get_or_read}
use Rattle.std.proofs.lemmas.Option.{slice_get_within, slice_get-get_or}
use Rattle.hw_arcs.specs.declared.arc.Arc.{Arc}
use Rattle.hw_arcs.specs.Latencies.{latency_at}
use Rattle.hw_arcs.specs.inner.State.{AreSettled, seen}
use Rattle.hw_arcs.proofs.Steps.{IsLooked, row_looked}
use Rattle.hw_arcs.proofs.relaxing.Relaxing.settle.Goals as goal
use Rattle.hw_arcs.proofs.relaxing.Relaxing.settle.Goals.{In_ok-relax, After-index}

abbrev no_arc : Arc
no_arc = record { from = 0; to = 0; counts = false; gain = 0; slack = 0 }

-- the arc was looked at
looked : (c : In_ok-relax) → IsLooked c.args.arcs.now (length c.args.self.now.lat.items) c.args.limit
    (seen c.args.self.now) (seen c.loop-number.self) (seen c.relax.new.self)
    (drop (c.loop-number.number-index + 1) c.args.row.now)
    (get_or c.args.arcs.now (get_or c.args.row.now c.loop-number.number-index 0) no_arc)
looked c =
    row_looked c.args.arcs.now (length c.args.self.now.lat.items) c.args.limit (seen c.args.self.now) (seen c.loop-number.self) (seen c.relax.new.self) c.args.row.now c.loop-number.number-index no_arc
    c.requires.known c.requires.row c.loop-number-test.true c.in_ok-relax.ensures c.loop-number.invariant

end_read : (c : After-index) → (get_or c.args.arcs.now (get_or c.args.row.now c.loop-number.number-index 0) no_arc).to < length c.relax.new.self.lat.items
    → c.index.result.now ≡ latency_at c.relax.new.self.lat.items (get_or c.args.arcs.now (get_or c.args.row.now c.loop-number.number-index 0) no_arc).to
end_read c inside = get_or_read c.relax.new.self.lat.items (get_or c.args.arcs.now (get_or c.args.row.now c.loop-number.number-index 0) no_arc).to c.index.result.now inside c.index.ensures 0

pub bounds-arcs-number : goal.bounds-arcs-number
bounds-arcs-number c =
    let number = get_or c.args.row.now c.loop-number.number-index 0 in
    let here = c.requires.row.counted c.loop-number.number-index number (slice_get-get_or c.args.row.now c.loop-number.number-index 0 c.loop-number-test.true) in
    slice_get_within c.args.arcs.now number here.0 here.1

pub offset_bounds-arcs-number : goal.offset_bounds-arcs-number
offset_bounds-arcs-number c =
    let number = get_or c.args.row.now c.loop-number.number-index 0 in
    let here = c.requires.row.counted c.loop-number.number-index number (slice_get-get_or c.args.row.now c.loop-number.number-index 0 c.loop-number-test.true) in
    omega (arith, slice_get_within c.args.arcs.now number here.0 here.1)

pub relax-requires : goal.relax-requires
relax-requires c =
    let number = get_or c.args.row.now c.loop-number.number-index 0 in
    let here = c.requires.row.counted c.loop-number.number-index number (slice_get-get_or c.args.row.now c.loop-number.number-index 0 c.loop-number-test.true) in
    let arc = get_or c.args.arcs.now number no_arc in
    let at = slice_get-get_or c.args.arcs.now number no_arc (slice_get_within c.args.arcs.now number here.0 here.1) in
    let from = c.requires.known.from number arc at in
    let to = c.requires.known.to number arc at in
    let gain = c.requires.known.gain number arc at in
    let limit = c.requires.limit in
    let size = c.loop-number.invariant.state.size in
    let tight = c.loop-number.invariant.state.labels.size in
    let pending = c.loop-number.invariant.state.pending in
    let within = c.loop-number.invariant.within.within arc.from in
    record {
      from = omega (arith, from, size);
      to = omega (arith, to, size);
      tight = tight;
      pending = omega (arith, pending, size);
      room = omega (arith, within, gain, limit);
    }

pub index-requires : goal.index-requires
index-requires c =
    let looked = looked (goal.at.index-requires c).In_ok-relax in
    let len = c.relax.new.self.lat.ok.0 in
    omega (arith, looked.there, looked.size, len)

pub returns-then-limit-index-clause-state : goal.returns-then-limit-index-clause-state
returns-then-limit-index-clause-state c = (looked (goal.at.returns-then-limit-index-clause-state c).In_ok-relax).state

pub returns-then-limit-index-clause-end : goal.returns-then-limit-index-clause-end
returns-then-limit-index-clause-end c =
    let looked = looked (goal.at.returns-then-limit-index-clause-end c).In_ok-relax in
    let read = end_read (goal.at.returns-then-limit-index-clause-end c).After-index (omega (arith, looked.there, looked.size)) in
    record { there = looked.there; above = omega (arith, read, c.if-limit-index.true) }

pub loop-number-preserved : goal.loop-number-preserved
loop-number-preserved c =
    let looked = looked (goal.at.loop-number-preserved c).In_ok-relax in
    let read = end_read (goal.at.loop-number-preserved c).After-index (omega (arith, looked.there, looked.size)) in
    looked.on (omega (arith, read, c.if-limit-index.false))

pub loop-number-init : goal.loop-number-init
loop-number-init c = record {
  size = c.requires.state.size;
  state = c.requires.state;
  within = c.requires.within;
  settled = c.requires.settled;
  work = omega arith;
}

pub returns-clause-end : goal.returns-clause-end
returns-clause-end c =
    record {
      within = c.loop-number.invariant.within;
      settled = subst (λ (left : List ℕ). AreSettled c.args.arcs.now (seen c.loop-number.self) left)
          (drop_all c.loop-number.number-index c.args.row.now c.loop-number-test.false)
          c.loop-number.invariant.settled;
      work = c.loop-number.invariant.work;
    }
