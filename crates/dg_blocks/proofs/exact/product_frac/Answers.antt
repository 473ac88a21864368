use Rattle.std.proofs.Common.{arith}
use Rattle.std.specs.Int.{w16}
use Rattle.std.proofs.lemmas.Int.{ints, to_z-of_z}
use Rattle.fx_type.proofs.Ranges.{frac_bounds}
use Rattle.dg_blocks.proofs.exact.product_frac.Goals as goal

pub overflow_add-result : goal.overflow_add-result
overflow_add-result c =
    let a = frac_bounds c.args.a c.requires.left in
    let b = frac_bounds c.args.b c.requires.right in
    let f = to_z-of_z w16 c.frac.result (record { sfits = c.frac.type_inv }) in
    let g = to_z-of_z w16 c.frac-2.result (record { sfits = c.frac-2.type_inv }) in
    rw (f, g, c.frac.ensures, c.frac-2.ensures) (omega (arith, ints, a.0, a.1, b.0, b.1))
