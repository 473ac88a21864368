use Rattle.std.proofs.Common.{List, length, ap, arith}
use Rattle.fir_block.specs.declared.filter.FirBlock.{FirBlock}
use Rattle.mdl_build.specs.Settings.{zero_decimal}
use Rattle.mdl_build.proofs.expanding.put_filter.Goals as goal

pub put_inner-requires : goal.put_inner-requires
put_inner-requires c =
    let long = ap (λ (blocks : List FirBlock). length blocks) (c.in_ok-blocks.ensures.blocks zero_decimal) in
    let counted = c.blocks_are_counted.ensures zero_decimal c.args.filter.now c.requires.fir in
    omega (arith, long, counted, c.requires.fir.coefficients.1)
