use Rattle.std.proofs.Common.{arith}
use Rattle.std.proofs.lemmas.Int.{ints}
use Rattle.fx_type.proofs.Ranges.{frac_bounds}
use Rattle.dg_blocks.proofs.Gaps.{difference_fits, gap_own, frac_gap}
use Rattle.dg_blocks.proofs.exact.gap_above.Goals as goal

pub overflow_sub-result : goal.overflow_sub-result
overflow_sub-result c = difference_fits c.args.kind c.args.frac c.frac.result c.requires.valid c.ranges.frac (record { sfits = c.frac.type_inv }) c.frac.ensures c.requires.above c.requires.high

pub overflow_cast-result : goal.overflow_cast-result
overflow_cast-result c =
    let own = gap_own c.args.kind c.args.frac c.frac.result c.requires.valid c.ranges.frac (record { sfits = c.frac.type_inv }) c.frac.ensures c.requires.above c.requires.high in
    let low = (frac_bounds c.args.kind c.requires.valid).0 in
    rw own (omega (arith, ints, c.requires.above), omega (arith, ints, low, c.requires.above, c.requires.high))

pub returns : goal.returns
returns c = frac_gap c.args.kind c.args.frac c.frac.result c.requires.valid c.ranges.frac (record { sfits = c.frac.type_inv }) c.frac.ensures c.requires.above c.requires.high
