use Rattle.std.proofs.Common.{length, ap, ◌∙◌}
use Rattle.dg_types.specs.inner.Build.{Gathered, Known}
use Rattle.dg_types.specs.inner.WidthShapes.{source_of}
use Rattle.dg_types.proofs.LinkRows.{are_linked, mirrors_built}
use Rattle.dg_types.proofs.build.width_round.Goals as goal

pub invariant_of-result : goal.invariant_of-result
invariant_of-result c =
    let blocks = c.args.diagram.now.blocks in
    let edges = c.args.diagram.now.edges in
    let sources : Gathered (length blocks) (source_of blocks) edges c.from_vec.result = rw (c.from_vec.ensures, ← c.as_slice-blocks.ensures, ← c.as_slice.ensures) c.in_ok-put_links.ensures.sources in
    let readers : Known (length blocks) (length blocks) edges c.from_vec-2.result = rw (c.from_vec-2.ensures, ← c.as_slice-blocks.ensures, ← c.as_slice.ensures) c.in_ok-put_links.ensures.readers in
    record {
      short = rw c.as_slice-blocks.ensures c.requires.can.lists;
      linked = rw c.as_slice-blocks.ensures (are_linked blocks edges c.from_vec.result c.from_vec-2.result c.requires.can sources readers);
    }

pub returns-clause-mirrors : goal.returns-clause-mirrors
returns-clause-mirrors c =
    let blocks = c.args.diagram.now.blocks in
    let edges = c.args.diagram.now.edges in
    let sources : Gathered (length blocks) (source_of blocks) edges c.from_vec.result = rw (c.from_vec.ensures, ← c.as_slice-blocks.ensures, ← c.as_slice.ensures) c.in_ok-put_links.ensures.sources in
    rw c.as_slice-blocks.ensures (mirrors_built c.args.diagram.now c.from_vec.result sources)

pub put_links-requires-clause-few : goal.put_links-requires-clause-few
put_links-requires-clause-few c = rw c.as_slice-blocks.ensures c.requires.few

pub put_links-requires-clause-can : goal.put_links-requires-clause-can
put_links-requires-clause-can c = rw (c.as_slice-blocks.ensures, c.as_slice.ensures) c.requires.can

pub put_links-requires-clause-sources : goal.put_links-requires-clause-sources
put_links-requires-clause-sources c = c.in_ok-sources.ensures

pub put_links-requires-clause-readers : goal.put_links-requires-clause-readers
put_links-requires-clause-readers c = c.in_ok-readers.ensures

pub returns-clause-size : goal.returns-clause-size
returns-clause-size c = ap length c.from_vec.ensures ∙ c.in_ok-put_links.ensures.sources.size ∙ ap length c.as_slice-blocks.ensures
