use Rattle.std.proofs.Common.{◌≡◌, ℕ, List, length, slice_index, replicate, take, sym, ap, subst, ◌∙◌, arith}
use Rattle.std.specs.Vec.{with_items}
use Rattle.std.proofs.lemmas.List.{length-replicate, with_items_is}
use Rattle.vl_eval.specs.inner.Ops.{IsSettled}
use Rattle.vl_eval.proofs.LoopLists.{zero-at}
use Rattle.vl_eval.proofs.Sweep.{settled-none}
use Rattle.vl_eval.proofs.machine.first_values.Goals as goal

pub sweep-requires-clause-begun : goal.sweep-requires-clause-begun
sweep-requires-clause-begun c = settled-none c.args.plan.now.base c.args.plan.now.arranged.ops c.as_mut_slice.result.now

pub returns : goal.returns
returns c =
    let plan = c.args.plan.now in
    let values = c.in_ok-values.values in
    let zeros : values.items ≡ replicate c.in-Some.room 0 = c.in_ok-values.ensures.items_if_clones_equal (λ y same. same) in
    let now = (with_items values c.sweep.new.values).items in
    let long = c.sweep.ensures.long ∙ ap length c.as_mut_slice.ensures.value in
    let is : now ≡ c.sweep.new.values = with_items_is values c.sweep.new.values (long ∙ sym values.ok.0) in
    record {
      long = (let z = ap length zeros ∙ length-replicate c.in-Some.room 0 in let l = ap length is ∙ long in omega (arith, z, l, c.in-Some.ensures, c.len.ensures));
      zeros = values.items;
      none = λ k. ap (λ (items : List ℕ). slice_index items k) zeros ∙ zero-at c.in-Some.room k;
      kept = subst (λ v. take plan.base v ≡ take plan.base values.items) (sym is) (c.sweep.ensures.kept ∙ ap (take plan.base) c.as_mut_slice.ensures.value);
      settled = subst (λ v. IsSettled plan.base plan.arranged.ops (λ k. slice_index v k)) (sym is) c.sweep.ensures.settled;
    }
