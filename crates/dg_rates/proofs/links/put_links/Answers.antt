use Rattle.std.proofs.Common.{◌≡◌, ◌≤◌, ◌<◌, ◌+◌, Some, length, get_or, ap, subst, arith}
use Rattle.std.specs.Prelude.{slice_get}
use Rattle.std.proofs.lemmas.List.{take_all}
use Rattle.dg_model.specs.declared.diagram.Edge.{Edge}
use Rattle.dg_rates.specs.inner.Links.{AreDrivers, AreTied}
use Rattle.dg_rates.proofs.FirstFault.{read_at}
use Rattle.dg_rates.proofs.LinkRows.{control_inside, controlled_first, controlled_more, controlled_same, drivers_first, drivers_more, from_inside, sources_all, tied_first, to_inside}
use Rattle.dg_rates.proofs.RowTies.{own_more, tie_more}
use Rattle.dg_rates.proofs.links.put_links.Goals as goal
use Rattle.dg_rates.proofs.links.put_links.Goals.{in-Some+in_ok-link-2, in_default}

abbrev none : Edge
none = record { from = 0; from_port = 0; to = 0; to_port = 0 }

pub loop-edge-init : goal.loop-edge-init
loop-edge-init c = record {
  tied = tied_first (length c.args.diagram.now.blocks) c.args.sources.now.items c.args.readers.now.items c.requires.sources c.requires.readers;
  drivers = drivers_first (length c.args.diagram.now.blocks) c.args.sources.now.items c.requires.sources;
}

pub link-requires-clause-reader : goal.link-requires-clause-reader
link-requires-clause-reader c =
    let to = to_inside c.args.diagram.now c.requires.wired c.loop-edge.edge-index none (rw c.as_slice-edges.ensures at c.loop-edge-test.true) in
    rw c.as_slice-edges.ensures (omega (arith, to, c.loop-edge.invariant.tied.sources_size))

pub link-requires-clause-source : goal.link-requires-clause-source
link-requires-clause-source c =
    let from = from_inside c.args.diagram.now c.requires.wired c.loop-edge.edge-index none (rw c.as_slice-edges.ensures at c.loop-edge-test.true) in
    rw c.as_slice-edges.ensures (omega (arith, from, c.loop-edge.invariant.tied.readers_size))

pub loop-edge-preserved : goal.loop-edge-preserved
loop-edge-preserved c =
    let diagram = c.args.diagram.now in
    let count = length diagram.blocks in
    let i = c.loop-edge.edge-index in
    let sources = c.loop-edge.sources.items in
    let before = c.loop-edge.invariant in
    let below : i < length diagram.edges = rw c.as_slice-edges.ensures at c.loop-edge-test.true in
    let edge = get_or diagram.edges i none in
    let from = from_inside diagram c.requires.wired i none below in
    let to = to_inside diagram c.requires.wired i none below in
    record {
      tied = rw (c.in_ok-link.ensures.sources, c.in_ok-link.ensures.readers, c.as_slice-edges.ensures) (tie_more count 0 sources c.loop-edge.readers.items edge.to edge.from to from before.tied);
      drivers = rw (c.in_ok-link.ensures.sources, c.as_slice-edges.ensures) (drivers_more count diagram.edges i none sources below (omega (arith, to, before.tied.sources_size)) before.drivers);
    }

pub loop-place-init : goal.loop-place-init
loop-place-init c =
    let diagram = c.args.diagram.now in
    let sources = c.loop-edge.sources.items in
    let past : length diagram.edges ≤ c.loop-edge.edge-index = rw c.as_slice-edges.ensures at c.loop-edge-test.false in
    record {
      tied = c.loop-edge.invariant.tied;
      controlled = controlled_first diagram sources
          (subst (λ edges. AreDrivers (length diagram.blocks) edges sources)
          (take_all c.loop-edge.edge-index diagram.edges past) c.loop-edge.invariant.drivers);
    }

pub push_at-requires : goal.push_at-requires
push_at-requires c = omega (arith, c.loop-place-test.true, ap length c.as_slice-blocks.ensures, c.loop-place.invariant.tied.readers_size)

pub loop-place-preserved : goal.loop-place-preserved
loop-place-preserved c =
    let diagram = c.args.diagram.now in
    let count = length diagram.blocks in
    let place = c.loop-place.place in
    let block = c.index-blocks-place.result in
    let sources = c.loop-place.sources.items in
    let below : place < count = rw c.as_slice-blocks.ensures at c.loop-place-test.true in
    let at : slice_get diagram.blocks place ≡ Some block = read_at diagram.blocks place block below (rw c.as_slice-blocks.ensures at c.index-blocks-place.is) in
    let before = c.loop-place.invariant in
    let inside : place < length sources = omega (arith, before.tied.sources_size, below) in
    let tied : AreTied count (place + 1) sources c.push_at.new.rows.items = rw c.in_ok-push_at.ensures (own_more count place sources c.loop-place.readers.items below before.tied) in
    elim c.match-block.branch [
      | in-Some+in_ok-link-2 w ↦
          let control = control_inside diagram place block w.in-Some.control c.requires.wired at w.in-Some.is in
          rw (w.sources-is, w.readers-is, w.in_ok-link-2.ensures.sources, w.in_ok-link-2.ensures.readers) (record {
            tied = tie_more count (place + 1) sources c.push_at.new.rows.items place w.in-Some.control below control tied;
            controlled = controlled_more diagram place sources block w.in-Some.control at w.in-Some.is inside before.controlled;
          })
      | in_default w ↦ rw (w.sources-is, w.readers-is) (record { tied = tied; controlled = controlled_same diagram place sources block at w.in_default.is before.controlled })
    ]

pub link-requires-in-Some-clause-reader : goal.link-requires-in-Some-clause-reader
link-requires-in-Some-clause-reader c = omega (arith, c.loop-place.invariant.tied.sources_size, c.loop-place-test.true, ap length c.as_slice-blocks.ensures)

pub link-requires-in-Some-clause-source : goal.link-requires-in-Some-clause-source
link-requires-in-Some-clause-source c =
    let diagram = c.args.diagram.now in
    let place = c.loop-place.place in
    let block = c.index-blocks-place.result in
    let below : place < length diagram.blocks = rw c.as_slice-blocks.ensures at c.loop-place-test.true in
    let at : slice_get diagram.blocks place ≡ Some block = read_at diagram.blocks place block below (rw c.as_slice-blocks.ensures at c.index-blocks-place.is) in
    let control = control_inside diagram place block c.in-Some.control c.requires.wired at c.in-Some.is in
    let tied : AreTied (length diagram.blocks) (place + 1) c.loop-place.sources.items c.push_at.new.rows.items =
    rw c.in_ok-push_at.ensures (own_more (length diagram.blocks) place c.loop-place.sources.items c.loop-place.readers.items below c.loop-place.invariant.tied) in
    omega (arith, control, tied.readers_size)

pub returns-clause-tied : goal.returns-clause-tied
returns-clause-tied c =
    let count = length c.args.diagram.now.blocks in
    let all : c.loop-place.place ≡ count = omega (arith, c.loop-place-test.false, c.loop-place.auto.place-end, ap length c.as_slice-blocks.ensures) in
    subst (λ n. AreTied count n c.loop-place.sources.items c.loop-place.readers.items) all c.loop-place.invariant.tied

pub returns-clause-sources : goal.returns-clause-sources
returns-clause-sources c =
    sources_all c.args.diagram.now c.loop-place.place c.loop-place.sources.items (rw c.as_slice-blocks.ensures at c.loop-place-test.false) c.loop-place.invariant.controlled
