use Rattle.std.proofs.Common.{◌≡◌, ◌<◌, ◌+◌, ◌∙◌, ℕ, List, length, ap, sym, subst, arith}
use Rattle.std.proofs.lemmas.List.{with_items_is}
use Rattle.vl_eval.specs.inner.Merge.{AreMerged, IsPutOnce}
use Rattle.vl_eval.specs.inner.Order.{moved, renamed}
use Rattle.vl_eval.proofs.Merges.{merged-more}
use Rattle.vl_eval.proofs.merging.merge.Goals as goal

pub loop-number-preserved : goal.loop-number-preserved
loop-number-preserved c =
    let base = c.args.base in
    let ops = c.args.ops.now in
    let k = c.loop-number.number in
    let code = c.loop-number.code in
    let after = c.put_once.new.code in
    let places = c.loop-number.places.items in
    let place = c.in_ok-place.place in
    let buckets = c.put_once.new.buckets in
    let op = c.renamed_op-op.ensures ∙ (λ i. renamed (moved base (c.as_slice.ensures.value i)) (c.get.ensures i)) in
    let put = subst (λ o. IsPutOnce base code after o place) op c.in_ok-place.ensures.put in
    let more = merged-more base k place ops code after places c.loop-number.invariant.merged c.requires.ordered
    (omega (arith, c.loop-number-test.true, c.len-number-end.ensures)) put in
    let long : length buckets ≡ length c.loop-number.buckets.items = c.in_ok-place.ensures.long ∙ ap length c.as_mut_slice.ensures.value in
    let is = with_items_is c.loop-number.buckets buckets (c.in_ok-place.ensures.long ∙ c.as_mut_slice.ensures.len) in
    record {
      merged = subst (λ ps. AreMerged base (k + 1) ops after ps) (sym c.in_ok-push.ensures.items) more;
      some = subst (λ (xs : List ℕ). 0 < length xs) (sym is) (omega (arith, long, c.loop-number.invariant.some));
    }
