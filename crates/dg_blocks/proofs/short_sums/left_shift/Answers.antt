use Rattle.std.proofs.Common.{◌^◌, ◌*ℤ◌, pos, arith}
use Rattle.std.specs.Int.{w64}
use Rattle.std.proofs.lemmas.Int.{to_z-of_z}
use Rattle.dg_blocks.proofs.NarrowWords.{one_shifted}
use Rattle.dg_blocks.proofs.short_sums.left_shift.Goals as goal

pub overflow_mul-result : goal.overflow_mul-result
overflow_mul-result c = rw (to_z-of_z w64 c.args.v c.ranges.v, one_shifted c.args.gap (omega (arith, c.requires.gap))) c.requires.fits

pub returns : goal.returns
returns c = rw (to_z-of_z w64 c.args.v c.ranges.v, one_shifted c.args.gap (omega (arith, c.requires.gap))) (to_z-of_z w64 (c.args.v *ℤ pos (2 ^ c.args.gap)) c.requires.fits)
