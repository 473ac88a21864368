use Rattle.std.proofs.Common.{◌∷◌, ◌++◌, [], Option, take, sym, ap, ◌∙◌}
use Rattle.std.proofs.lemmas.List.{map_more, take_all}
use Rattle.fx_type.specs.declared.kind.FxType.{FxType}
use Rattle.dg_model.specs.declared.diagram.Block.{Block}
use Rattle.dg_model.specs.TypeRounds.{Types, explicit_type}
use Rattle.dg_types.specs.inner.TypeLaws.{first_types}
use Rattle.dg_types.proofs.typed_round.all_explicit.Goals as goal

pub loop-block-preserved : goal.loop-block-preserved
loop-block-preserved c =
    let before = first_types (take c.loop-block.block-index c.args.blocks.now) in
    c.in_ok-push.ensures.items
    ∙ ap (λ (types : Types). types ++ c.explicit_type.result ∷ []) c.loop-block.invariant
    ∙ ap (λ (type : Option FxType). before ++ type ∷ []) c.explicit_type.ensures
    ∙ ap (λ (block : Block). before ++ explicit_type block.result ∷ []) c.block-item.is
    ∙ sym (map_more (λ (block : Block). explicit_type block.result) c.args.blocks.now c.loop-block.block-index c.block-item.result c.loop-block-test.true)

pub returns : goal.returns
returns c = c.loop-block.invariant ∙ ap first_types (take_all c.loop-block.block-index c.args.blocks.now c.loop-block-test.false)
