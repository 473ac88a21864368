use Rattle.std.proofs.Common.{◌++◌, ◌∷◌, [], ℕ, map, sym, ap, ◌∙◌}
use Rattle.std.specs.Prelude.{slice_index_or}
use Rattle.std.proofs.lemmas.List.{map_more, take_all}
use Rattle.vl_eval.specs.declared.ops.Op.TheVariants.{Constant}
use Rattle.vl_eval.specs.inner.Order.{moved, op_at, renamed}
use Rattle.vl_eval.proofs.arranging.in_order.Goals as goal

pub loop-entry-init : goal.loop-entry-init
loop-entry-init c = c.new-arranged.ensures

pub loop-entry-preserved : goal.loop-entry-preserved
loop-entry-preserved c =
    let ops = c.args.ops.now in
    let move = moved c.args.base c.args.places.now in
    let op = c.renamed_op.ensures ∙ ap (renamed move) (c.get.ensures ∙ ap (λ (n : ℕ). slice_index_or ops n (Constant 0)) c.number_of.ensures) in
    c.in_ok-push.ensures ∙ (λ i. c.loop-entry.invariant i ++ op i ∷ [])
    ∙ sym (map_more (op_at c.args.base c.args.places.now ops) c.args.entries.now c.loop-entry.entry-index _ c.loop-entry-test.true)

pub returns : goal.returns
returns c =
    c.loop-entry.invariant ∙ ap (map (op_at c.args.base c.args.places.now c.args.ops.now)) (take_all c.loop-entry.entry-index c.args.entries.now c.loop-entry-test.false)
