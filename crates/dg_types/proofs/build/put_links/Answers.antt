use Rattle.std.proofs.Common.{◌≡◌, List, length, take, get_or, subst, arith}
use Rattle.std.proofs.lemmas.List.{take_all, take_more}
use Rattle.std.proofs.lemmas.Option.{slice_get-get_or}
use Rattle.dg_model.specs.declared.diagram.Edge.{Edge}
use Rattle.dg_types.specs.inner.Build.{Gathered, Known}
use Rattle.dg_types.specs.inner.WidthShapes.{source_of}
use Rattle.dg_types.proofs.LinkRows.{gathered_more, gathered_none, known_more, known_none, own_more}
use Rattle.dg_types.proofs.build.put_links.Goals as goal

abbrev none : Edge
none = record { from = 0; from_port = 0; to = 0; to_port = 0 }

pub source_of-requires-clause-from : goal.source_of-requires-clause-from
source_of-requires-clause-from c = (c.requires.can.ends c.loop-edge.edge-index _ (slice_get-get_or c.args.edges.now c.loop-edge.edge-index _ c.loop-edge-test.true)).0

pub source_of-requires-clause-port : goal.source_of-requires-clause-port
source_of-requires-clause-port c = c.requires.can.first_port c.loop-edge.edge-index _ c.loop-edge-test.true

pub source_of-requires-clause-fits : goal.source_of-requires-clause-fits
source_of-requires-clause-fits c = c.requires.can.ports c.loop-edge.edge-index _ (slice_get-get_or c.args.edges.now c.loop-edge.edge-index _ c.loop-edge-test.true)

pub push_at-requires : goal.push_at-requires
push_at-requires c =
    let there = c.requires.can.ends c.loop-edge.edge-index (get_or c.args.edges.now c.loop-edge.edge-index none)
    (slice_get-get_or c.args.edges.now c.loop-edge.edge-index none c.loop-edge-test.true) in
    omega (arith, there.1, c.loop-edge.invariant.sources.size)

pub push_at-requires-in-loop-edge : goal.push_at-requires-in-loop-edge
push_at-requires-in-loop-edge c =
    let there = c.requires.can.ends c.loop-edge.edge-index (get_or c.args.edges.now c.loop-edge.edge-index none)
    (slice_get-get_or c.args.edges.now c.loop-edge.edge-index none c.loop-edge-test.true) in
    omega (arith, there.0, c.loop-edge.invariant.readers.size)

pub push_at-requires-in-loop-place : goal.push_at-requires-in-loop-place
push_at-requires-in-loop-place c = omega (arith, c.loop-place-test.true, c.loop-place.invariant.size)

pub loop-edge-init : goal.loop-edge-init
loop-edge-init c = record {
  sources = gathered_none _ _ c.args.sources.now.items c.requires.sources;
  readers = known_none _ c.args.readers.now.items c.requires.readers;
}

pub loop-edge-preserved : goal.loop-edge-preserved
loop-edge-preserved c =
    let blocks = c.args.blocks.now in
    let edges = c.args.edges.now in
    let i = c.loop-edge.edge-index in
    let there = c.requires.can.ends i (get_or edges i none) (slice_get-get_or edges i none c.loop-edge-test.true) in
    let more = take_more edges i none c.loop-edge-test.true in
    record {
      sources = rw (more, c.in_ok-push_at.ensures, c.source_of.ensures)
          (gathered_more _ (source_of blocks) (take i edges) c.loop-edge.sources.items
          (get_or edges i none) there.1 c.loop-edge.invariant.sources);
      readers = rw (more, c.in_ok-push_at-2.ensures) (known_more _ 0 (take i edges) c.loop-edge.readers.items (get_or edges i none) there.0 there.1 c.loop-edge.invariant.readers);
    }

pub loop-place-init : goal.loop-place-init
loop-place-init c =
    subst (λ (done : List Edge). Known (length c.args.blocks.now) 0 done c.loop-edge.readers.items)
    (take_all c.loop-edge.edge-index c.args.edges.now (omega (arith, c.loop-edge-test.false))) c.loop-edge.invariant.readers

pub loop-place-preserved : goal.loop-place-preserved
loop-place-preserved c =
    rw c.in_ok-push_at-3.ensures (own_more (length c.args.blocks.now) c.loop-place.place c.args.edges.now c.loop-place.readers.items c.loop-place-test.true c.loop-place.invariant)

pub returns-clause-sources : goal.returns-clause-sources
returns-clause-sources c =
    let blocks = c.args.blocks.now in
    subst (λ (done : List Edge). Gathered (length blocks) (source_of blocks) done c.loop-edge.sources.items)
    (take_all c.loop-edge.edge-index c.args.edges.now (omega (arith, c.loop-edge-test.false))) c.loop-edge.invariant.sources

pub returns-clause-readers : goal.returns-clause-readers
returns-clause-readers c =
    let blocks = c.args.blocks.now in
    let all : c.loop-place.place ≡ length blocks = omega (arith, c.loop-place-test.false, c.loop-place.auto.place-end) in
    subst (λ n. Known (length blocks) n c.args.edges.now c.loop-place.readers.items) all c.loop-place.invariant
