use Rattle.std.proofs.Common.{◌+◌, ◌-◌, ◌%◌, ◌^◌, bit_and, ◌∙◌}
use Rattle.vl_eval.proofs.Halves.{half-difference}
use Rattle.vl_eval.proofs.sweeping.difference.Goals as goal

pub returns : goal.returns
returns c =
    c.from.ensures ∙ (λ i. bit_and ((c.low.ensures i + (2 ^ 64 - c.low-2.ensures i)) % 2 ^ 64) c.args.mask)
    ∙ half-difference c.args.left c.args.right c.args.mask c.ranges.right.fits c.ranges.mask.fits
