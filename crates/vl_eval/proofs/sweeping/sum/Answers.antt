use Rattle.std.proofs.Common.{◌+◌, ◌%◌, ◌^◌, bit_and, ◌∙◌}
use Rattle.vl_eval.proofs.Halves.{half-sum}
use Rattle.vl_eval.proofs.sweeping.sum.Goals as goal

pub returns : goal.returns
returns c =
    let fits = c.ranges.mask.fits in
    c.from.ensures ∙ (λ i. bit_and ((c.low.ensures i + c.low-2.ensures i) % 2 ^ 64) c.args.mask) ∙ half-sum c.args.left c.args.right c.args.mask fits
