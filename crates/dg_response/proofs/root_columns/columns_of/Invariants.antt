use Rattle.std.proofs.Common.{◌≡◌, map, take}
use Rattle.dg_model.specs.Attributes.{attributes_of}
use Rattle.dg_response.specs.inner.Columns.{column_at}
use Rattle.dg_response.proofs.root_columns.columns_of.Given as goal

abbrev pub invariant-loop-block : goal.invariant-loop-block
invariant-loop-block l = l.columns ≡ map (column_at (attributes_of l.checked.diagram)) (take l.block-index l.blocks)
