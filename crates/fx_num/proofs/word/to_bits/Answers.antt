-- The mask keeps the remainder of the bits.
use Rattle.std.proofs.Common.{◌≡◌, ap, ◌∙◌, of_z}
use Rattle.std.specs.Int.{w128}
use Rattle.std.proofs.lemmas.Int.{to_z-of_z}
use Rattle.math_num.proofs.Words.{low_bits, word_width}
use Rattle.fx_num.proofs.word.to_bits.Goals as goal

pub returns-clause-congruent : goal.returns-clause-congruent
returns-clause-congruent c =
    let e : c.cast_unsigned.result ≡ of_z w128 c.args.v = c.cast_unsigned.ensures ∙ ap (of_z w128) (to_z-of_z w128 c.args.v c.ranges.v) in
    let h = word_width c.args.width c.args.signed c.requires in
    rw e (low_bits c.args.v c.args.width c.mask.result h.1 c.mask.ensures c.ranges.v)
