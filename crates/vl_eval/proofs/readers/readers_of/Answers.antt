use Rattle.std.proofs.Common.{◌≡◌, ◌<◌, ◌≤◌, ⊎_elim, length, slice_index_or, subst, ◌∙◌, arith}
use Rattle.std.proofs.lemmas.Bool.{cases_lt}
use Rattle.std.proofs.lemmas.List.{get_or_default}
use Rattle.vl_eval.specs.declared.ops.Op.TheVariants.{Constant}
use Rattle.vl_eval.specs.inner.Order.{each_of}
use Rattle.vl_eval.specs.inner.Reading.{IsReader}
use Rattle.vl_eval.proofs.SortOrder.{each-one}
use Rattle.vl_eval.proofs.readers.readers_of.Goals as goal

pub loop-number-preserved : goal.loop-number-preserved
loop-number-preserved c =
    let ops = c.args.ops.now in
    let n = c.loop-number.number in
    let inv = c.loop-number.invariant in
    let now = c.put_reads.new.readers in
    let put = c.in_ok-put_reads.ensures in
    let below : n < length ops = omega (arith, c.loop-number-test.true, c.len-number-end.ensures) in
    let longer = put.grown.grown.longer in
    let few = inv.few in
    record {
      wide = put.grown.grown.wide ∙ inv.wide;
      few = omega (arith, longer, few);
      chains = put.grown.chains (length ops) below inv.chains;
      each = λ k d less. ⊎_elim
          (λ (old : k < n). each-one (slice_index_or ops k d) (λ place reader. put.grown.grown.kept place k reader) (inv.each k d old))
          (λ (last : n ≤ k).
          let here : n ≡ k = omega (arith, less, last) in
          subst (λ j. each_of (λ place. IsReader now place j) (slice_index_or ops j d)) here
          (subst (λ op. each_of (λ place. IsReader now place n) op) (c.get.ensures ∙ get_or_default ops n (Constant 0) d below) put.reads))
          (cases_lt k n);
    }
