use Rattle.std.proofs.Common.{[], ◌∷◌, ◌++◌, ◌∙◌, take, ap, sym, arith, append-nil}
use Rattle.std.specs.List.{flat_map}
use Rattle.std.proofs.lemmas.List.{flat_map_more, take_more, take_all}
use Rattle.std.proofs.lemmas.Result.{IfOk-weaker}
use Rattle.vl_ast.specs.Spelling.{item_text}
use Rattle.vl_write.proofs.Puts.{begun, has-as, has-more}
use Rattle.vl_write.proofs.items.with_lines.Goals as goal

pub loop-item-init : goal.loop-item-init
loop-item-init g c = (has-as (sym (append-nil c.args.text.items)) (begun c.args.text), omega arith)

pub loop-item-preserved : goal.loop-item-preserved
loop-item-preserved g c =
    let items = c.args.items.now in
    let i = c.loop-item.item-index in
    let item = c.item-item.result in
    let old = c.args.text.items in
    let taken = take_more items i item c.loop-item-test.true ∙ ap (λ x. take i items ++ x ∷ []) (sym c.item-item.is) in (
      has-as (flat_map_more item_text old (take i items) item ∙ ap (λ xs. old ++ flat_map item_text xs) (sym taken)) (has-more c.loop-item.invariant.0 c.put_item.ensures),
      omega (arith, c.loop-item.invariant.1),
    )

pub returns : goal.returns
returns g c =
    IfOk-weaker c.finish.result _ _
    (λ lines done. done.1 ∙ c.loop-item.invariant.0.whole done.0 ∙ ap (λ xs. c.args.text.items ++ flat_map item_text xs) (take_all c.loop-item.item-index c.args.items.now c.loop-item-test.false))
    c.finish.ensures
