use Rattle.std.proofs.Common.{◌∙◌}
use Rattle.std.proofs.lemmas.Result.{IfOk-weaker}
use Rattle.dg_tables.proofs.RootBlocks.{listed}
use Rattle.dg_tables.proofs.listing.output_blocks.Goals as goal

pub returns : goal.returns
returns c = IfOk-weaker c.blocks_of.result _ _ (λ blocks are. listed _ c.as_slice.result.now blocks are (c.as_slice.ensures ∙ c.in_ok-roots.ensures)) c.blocks_of.ensures
