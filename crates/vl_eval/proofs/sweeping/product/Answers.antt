use Rattle.std.proofs.Common.{◌*◌, ◌%◌, ◌^◌, bit_and, ◌∙◌}
use Rattle.vl_eval.proofs.Halves.{half-product}
use Rattle.vl_eval.proofs.sweeping.product.Goals as goal

pub returns : goal.returns
returns c =
    c.from.ensures ∙ (λ i. bit_and (c.low.ensures i * c.low-2.ensures i % 2 ^ 64) c.args.mask) ∙ half-product c.args.left c.args.right c.args.mask c.ranges.mask.fits
