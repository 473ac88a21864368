use Rattle.std.proofs.Common.{◌≡◌, ◌≤◌, true, false, length, get_or, subst, arith}
use Rattle.fx_io.specs.Rows.{row_at}
use Rattle.dg_sort.proofs.CycleSearch.{step_inside, row_is, source_at, looking_begins, looking_inside, looking_there, looking_finds, looking_meets, looking_passes, looking_ends, met_at}
use Rattle.dg_sort.proofs.cycle.look.Goals.{then-not-index+in_ok-push, else-not-index}
use Rattle.dg_sort.proofs.cycle.look.Goals as goal

pub bounds-rows-block : goal.bounds-rows-block
bounds-rows-block c = step_inside c.args.rows.now c.args.first c.args.at c.index.result.now c.args.steps.now.items c.args.is_met.now.items c.requires.steps c.requires.there c.index.ensures

pub loop-source-init : goal.loop-source-init
loop-source-init c =
    let inside = step_inside c.args.rows.now c.args.first c.args.at c.index.result.now c.args.steps.now.items c.args.is_met.now.items c.requires.steps c.requires.there c.index.ensures in
    record {
      looking = looking_begins c.args.rows.now c.args.first c.args.at c.index.result.now c.args.steps.now.items
          c.args.is_met.now.items c.requires.steps c.requires.there c.index.ensures c.requires.closed;
      row = row_is c.args.rows.now c.index.result.now.block c.as_slice-row.result.now _ inside c.as_slice-row.ensures c.index-rows-block.is;
    }

pub returns-then-source-first-clause-there : goal.returns-then-source-first-clause-there
returns-then-source-first-clause-there c =
    looking_inside c.args.rows.now c.args.first c.args.at c.index.result.now.block c.loop-source.source-index c.loop-source.steps.items c.loop-source.is_met.items c.loop-source.invariant.looking

pub returns-then-source-first-clause-found : goal.returns-then-source-first-clause-found
returns-then-source-first-clause-found c = λ found.
    let there = source_at c.as_slice-row.result.now (row_at c.args.rows.now c.index.result.now.block) c.loop-source.source-index c.loop-source.invariant.row c.loop-source-test.true in
    looking_finds c.args.rows.now c.args.first c.args.at c.index.result.now.block c.loop-source.source-index
    (get_or c.as_slice-row.result.now c.loop-source.source-index 0) c.loop-source.steps.items
    c.loop-source.is_met.items
    c.loop-source.invariant.looking there c.if-source-first.true

pub index-requires-in-loop-source : goal.index-requires-in-loop-source
index-requires-in-loop-source c =
    let there = source_at c.as_slice-row.result.now (row_at c.args.rows.now c.index.result.now.block) c.loop-source.source-index c.loop-source.invariant.row c.loop-source-test.true in
    let inside = looking_there c.args.rows.now c.args.first c.args.at c.index.result.now.block
    c.loop-source.source-index (get_or c.as_slice-row.result.now c.loop-source.source-index 0)
    c.loop-source.steps.items c.loop-source.is_met.items
    c.loop-source.invariant.looking c.requires.known there in
    let long = c.loop-source.is_met.ok.0 in
    omega (arith, inside, long)

pub index_mut-requires : goal.index_mut-requires
index_mut-requires c =
    let there = source_at c.as_slice-row.result.now (row_at c.args.rows.now c.index.result.now.block) c.loop-source.source-index c.loop-source.invariant.row c.loop-source-test.true in
    let inside = looking_there c.args.rows.now c.args.first c.args.at c.index.result.now.block
    c.loop-source.source-index (get_or c.as_slice-row.result.now c.loop-source.source-index 0)
    c.loop-source.steps.items c.loop-source.is_met.items
    c.loop-source.invariant.looking c.requires.known there in
    let long = c.loop-source.is_met.ok.0 in
    omega (arith, inside, long)

pub loop-source-preserved : goal.loop-source-preserved
loop-source-preserved c =
    let source = get_or c.as_slice-row.result.now c.loop-source.source-index 0 in
    let there = source_at c.as_slice-row.result.now (row_at c.args.rows.now c.index.result.now.block) c.loop-source.source-index c.loop-source.invariant.row c.loop-source-test.true in
    let inside = looking_there c.args.rows.now c.args.first c.args.at c.index.result.now.block
    c.loop-source.source-index source c.loop-source.steps.items c.loop-source.is_met.items
    c.loop-source.invariant.looking c.requires.known there in
    elim c.if-not-index.branch [
      | then-not-index+in_ok-push w ↦
          let fresh : c.index-in-loop-source.result.now ≡ false = w.if-not-index.true in
          let unmet = met_at c.loop-source.is_met.items source c.index-in-loop-source.result.now false inside c.index-in-loop-source.ensures fresh in
          record {
            looking = rw (w.steps-is, w.is_met-is, w.in_ok-push.ensures.items)
                (looking_meets c.args.rows.now c.args.first c.args.at c.index.result.now.block
                c.loop-source.source-index source c.loop-source.steps.items c.loop-source.is_met.items
                c.loop-source.invariant.looking there c.if-source-first.false unmet);
            row = c.loop-source.invariant.row;
          }
      | else-not-index w ↦
          let known : c.index-in-loop-source.result.now ≡ true = w.if-not-index.false in
          let met = met_at c.loop-source.is_met.items source c.index-in-loop-source.result.now true inside c.index-in-loop-source.ensures known in
          record {
            looking = rw (w.steps-is, w.is_met-is)
                (looking_passes c.args.rows.now c.args.first c.args.at c.index.result.now.block
                c.loop-source.source-index source c.loop-source.steps.items c.loop-source.is_met.items
                c.loop-source.invariant.looking there c.if-source-first.false met);
            row = c.loop-source.invariant.row;
          }
    ]

pub returns-clause-there : goal.returns-clause-there
returns-clause-there c =
    looking_inside c.args.rows.now c.args.first c.args.at c.index.result.now.block c.loop-source.source-index c.loop-source.steps.items c.loop-source.is_met.items c.loop-source.invariant.looking

pub returns-clause-closed : goal.returns-clause-closed
returns-clause-closed c = λ none.
    let end = subst (λ r. length r ≤ c.loop-source.source-index) c.loop-source.invariant.row c.loop-source-test.false in
    looking_ends c.args.rows.now c.args.first c.args.at c.index.result.now.block c.loop-source.source-index c.loop-source.steps.items c.loop-source.is_met.items c.loop-source.invariant.looking end
