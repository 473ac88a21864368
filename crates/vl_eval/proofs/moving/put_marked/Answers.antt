use Rattle.std.proofs.Common.{◌≡◌, ◌<◌, ◌+◌, ◌++◌, ◌∷◌, [], length, set, take, slice_index, ap, sym, subst, ◌∙◌, arith}
use Rattle.std.proofs.lemmas.List.{get_or-take, length-take-le, take_more}
use Rattle.vl_eval.specs.inner.Edges.{IsPut}
use Rattle.vl_eval.specs.inner.Reading.{AreSpared, IsReader}
use Rattle.vl_eval.proofs.Puts.{put-more}
use Rattle.vl_eval.proofs.Spares.{spared-write}
use Rattle.vl_eval.proofs.moving.put_marked.Goals as goal

pub loop-k-preserved : goal.loop-k-preserved
loop-k-preserved c =
    let plan = c.args.plan.now in
    let places = plan.inputs.items in
    let bits = c.args.bits.now in
    let ps = c.as_slice-places.result.now in
    let is : ps ≡ places = c.as_slice-places.ensures.value in
    let k = c.loop-k.k in
    let below : k < length places = subst (λ xs. k < length xs) is c.loop-k-test.true in
    let place = slice_index places k in
    let value = slice_index bits k in
    let values = c.loop-k.values in
    let inv = c.loop-k.invariant in
    let low = c.requires.within k below in
    let within : place < length values = omega (arith, low, c.requires.room, c.loop-k.auto.values) in
    let same : slice_index ps k ≡ place = ap (λ xs. slice_index xs k) is in
    let now : c.write.new.values ≡ set values place value = c.write.ensures.values ∙ ap (λ p. set values p value) same in
    let long : length (take k places) ≡ k = length-take-le k places (omega (arith, below)) in
    record {
      put = subst (λ v. IsPut (take (k + 1) places) bits c.args.values.now v) (sym now)
          (subst (λ xs. IsPut xs bits c.args.values.now (set values place value)) (sym (take_more places k 0 below))
          (subst (λ n. IsPut (take k places ++ place ∷ []) bits c.args.values.now (set values place (slice_index bits n))) long
          (put-more (take k places) place bits c.args.values.now values within
          (λ j less e. let before : j < k = omega (arith, less, long) in c.requires.apart j k before below (sym (get_or-take k places j 0 before) ∙ e))
          inv.put)));
      spared = subst (λ v. AreSpared plan.base 0 plan.arranged.ops c.write.new.marks v) (sym now)
          (spared-write plan.base plan.arranged.ops values place value within c.loop-k.marks c.write.new.marks c.args.readers.now low c.requires.readers c.write.ensures.added
          (λ r reader un. subst (λ p. slice_index values p ≡ value) same (c.write.ensures.marked r (subst (λ p. IsReader c.args.readers.now p r) (sym same) reader) un)) inv.spared);
      marks = record { each = c.write.ensures.added.each ∙ inv.marks.each; blocks = c.write.ensures.added.blocks ∙ inv.marks.blocks };
    }
