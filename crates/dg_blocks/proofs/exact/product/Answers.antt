use Rattle.std.proofs.Common.{◌≡◌, ◌*ℤ◌, to_z, of_z}
use Rattle.std.specs.Int.{w128}
use Rattle.std.proofs.lemmas.Int.{to_z-of_z}
use Rattle.dg_blocks.proofs.Products.{product_fits}
use Rattle.dg_blocks.proofs.exact.product.Goals as goal

pub overflow_mul-result : goal.overflow_mul-result
overflow_mul-result c =
    let x : to_z w128 (of_z w128 c.args.x) ≡ c.args.x = to_z-of_z w128 c.args.x c.ranges.x in
    let y : to_z w128 (of_z w128 c.args.y) ≡ c.args.y = to_z-of_z w128 c.args.y c.ranges.y in
    let need = c.requires in
    rw (x, y) (product_fits c.args.a c.args.b need.full.0 c.args.x c.args.y need.left need.right need.x_in_range need.y_in_range need.full.1)

pub returns : goal.returns
returns c =
    let x : to_z w128 (of_z w128 c.args.x) ≡ c.args.x = to_z-of_z w128 c.args.x c.ranges.x in
    let y : to_z w128 (of_z w128 c.args.y) ≡ c.args.y = to_z-of_z w128 c.args.y c.ranges.y in
    let need = c.requires in
    rw (x, y) (to_z-of_z w128 (c.args.x *ℤ c.args.y) (product_fits c.args.a c.args.b need.full.0 c.args.x c.args.y need.left need.right need.x_in_range need.y_in_range need.full.1))
