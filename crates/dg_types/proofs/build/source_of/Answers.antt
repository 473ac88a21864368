use Rattle.std.proofs.Common.{ℕ, Option, sym, ap, ◌∙◌}
use Rattle.std.proofs.lemmas.Option.{slice_get-get_or}
use Rattle.dg_model.specs.declared.diagram.Block.{Block}
use Rattle.dg_types.specs.declared.linked.Share.{Share}
use Rattle.dg_types.specs.declared.linked.Source.{Source}
use Rattle.dg_types.specs.inner.WidthShapes.{source_share}
use Rattle.dg_types.proofs.build.source_of.Goals as goal

abbrev made : ℕ → Share → Source
made block share = record { block = block; share = share }

pub share_at-requires-clause-port : goal.share_at-requires-clause-port
share_at-requires-clause-port c = c.requires.port

pub share_at-requires-clause-fits : goal.share_at-requires-clause-fits
share_at-requires-clause-fits c = c.requires.fits _ (slice_get-get_or c.args.blocks.now c.args.edge.from c.index-blocks-edge.result c.requires.from)

pub returns : goal.returns
returns c =
    let at = slice_get-get_or c.args.blocks.now c.args.edge.from c.index-blocks-edge.result c.requires.from in
    ap (made c.args.edge.from) (c.share_at.ensures ∙ ap (λ (o : Option Block). source_share o c.args.edge.from_port) (sym at))
