use Rattle.std.proofs.Common.{◌++◌, ◌∷◌, [], List, map, take, slice_index_or, sym, ap, ◌∙◌, arith}
use Rattle.std.proofs.lemmas.List.{map_more, take_all}
use Rattle.std.proofs.lemmas.Option.{slice_get-get_or}
use Rattle.dg_model.specs.Attributes.{attributes_of}
use Rattle.fx_tables.specs.declared.table.Column.{Column}
use Rattle.dg_response.specs.inner.Columns.{column_at}
use Rattle.dg_response.proofs.root_columns.columns_of.Goals as goal

pub column-requires : goal.column-requires
column-requires c =
    let k = c.loop-block.block-index in
    let blocks = c.args.blocks.now in
    c.requires k (slice_index_or blocks k 0) (slice_get-get_or blocks k 0 c.loop-block-test.true)

pub loop-block-preserved : goal.loop-block-preserved
loop-block-preserved c =
    let at = column_at (attributes_of c.args.checked.now.diagram) in
    let k = c.loop-block.block-index in
    let blocks = c.args.blocks.now in
    c.in_ok-push.ensures.appended ∙ ap (λ (front : List Column). front ++ c.column.result ∷ []) c.loop-block.invariant
    ∙ ap (λ (last : Column). map at (take k blocks) ++ last ∷ []) c.column.ensures ∙ sym (map_more at blocks k 0 c.loop-block-test.true)

pub returns : goal.returns
returns c =
    let at = column_at (attributes_of c.args.checked.now.diagram) in
    c.loop-block.invariant ∙ ap (map at) (take_all c.loop-block.block-index c.args.blocks.now (omega (arith, c.loop-block-test.false)))
