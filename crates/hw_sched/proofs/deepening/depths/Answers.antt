use Rattle.std.proofs.Common.{◌≡◌, ℕ, ◌<◌, ◌≤◌, List, length, replicate, get_or, ap, subst, ◌∙◌, arith, rules}
use Rattle.std.specs.Prelude.{slice_index}
use Rattle.std.proofs.lemmas.List.{length-replicate}
use Rattle.dg_model.specs.declared.diagram.Diagram.{Diagram}
use Rattle.hw_sched.specs.inner.Greatest.{IsNextDepth}
use Rattle.math_list.proofs.Places.{held}
use Rattle.hw_sched.proofs.Lists.{zero_at}
use Rattle.hw_sched.proofs.Items.{item_read}
use Rattle.hw_sched.proofs.BlockDepths.{depths_more, depths_end}
use Rattle.hw_sched.proofs.deepening.depths.Goals as goal

pub loop-place-init : goal.loop-place-init
loop-place-init c =
    let count : ℕ = length c.as_slice.result.now in
    let blocks = ap (λ xs. length xs) (c.as_slice.ensures ∙ ap (λ (d : Diagram). d.blocks) c.diagram.ensures) in
    let zeros : c.in_ok-depths.depths.items ≡ replicate count 0 = c.in_ok-depths.ensures.items_if_clones_equal (search rules) in
    record {
      size = ap (λ (xs : List ℕ). length xs) zeros ∙ length-replicate count 0 ∙ blocks;
      are = λ k place below at. absurd (omega (arith, below));
      small = λ place. let none = ap (λ (xs : List ℕ). slice_index xs place) zeros ∙ zero_at count place in omega (arith, none);
    }

pub loop-place-preserved : goal.loop-place-preserved
loop-place-preserved c =
    let at = item_read c.args.checked.now.order c.order-place-items.result.now c.loop-place.place-index 0 c.order-place-items.ensures c.loop-place-test.true in
    let there = held (λ (place : ℕ). place < length c.args.checked.now.diagram.blocks) c.args.checked.now.order c.loop-place.place-index _ c.keeps_rules.ensures.ordered.there at in
    depths_more c.args.checked.now.diagram c.args.plan.now c.args.checked.now.order c.keeps_rules.ensures.checked
    c.keeps_rules.ensures.ordered c.loop-place.place-index _ c.depth_of-depth.result c.loop-place.depths.items
    at there
    (subst (λ (ds : List ℕ). IsNextDepth c.args.checked.now.diagram c.args.plan.now ds
    (get_or c.order-place-items.result.now c.loop-place.place-index 0) c.depth_of-depth.result)
    c.as_slice-in-loop-place.ensures.value c.depth_of-depth.ensures)
    c.loop-place.invariant

pub returns : goal.returns
returns c =
    let end = subst (λ (xs : List ℕ). length xs ≤ c.loop-place.place-index) c.order-place-items.ensures c.loop-place-test.false in
    rw c.from_vec.ensures
    (depths_end c.args.checked.now.diagram c.args.plan.now c.args.checked.now.order c.keeps_rules.ensures.checked
    c.keeps_rules.ensures.ordered c.loop-place.place-index c.loop-place.depths.items end c.loop-place.invariant)

pub depth_of-depth-requires-clause-there : goal.depth_of-depth-requires-clause-there
depth_of-depth-requires-clause-there c =
    let at = item_read c.args.checked.now.order c.order-place-items.result.now c.loop-place.place-index 0 c.order-place-items.ensures c.loop-place-test.true in
    held (λ (place : ℕ). place < length c.args.checked.now.diagram.blocks) c.args.checked.now.order c.loop-place.place-index _ c.keeps_rules.ensures.ordered.there at
