use Rattle.std.proofs.Common.{◌≡◌, ◌*ℤ◌, to_z, of_z, sym, ◌∙◌, refl}
use Rattle.std.specs.Int.{w16, w128}
use Rattle.std.proofs.lemmas.Int.{to_z-of_z}
use Rattle.fx_type.specs.FxType.{frac_of}
use Rattle.fx_type.proofs.Ranges.{frac_bounds}
use Rattle.dg_blocks.proofs.operation.times.Goals as goal
use Rattle.dg_blocks.proofs.operation.times.Goals.{After-product_frac}

-- the frac of the product is that of the full type
full_frac : (c : After-product_frac) → to_z w16 (of_z w16 c.product_frac.result) ≡ frac_of c.requires.full.0
full_frac c = to_z-of_z w16 c.product_frac.result (record { sfits = c.product_frac.type_inv }) ∙ c.product_frac.ensures ∙ sym c.requires.full.1.frac

pub exact_conversion-requires-clause-low : goal.exact_conversion-requires-clause-low
exact_conversion-requires-clause-low c = rw (full_frac (goal.at.exact_conversion-requires-clause-low c).After-product_frac) (frac_bounds c.requires.full.0 c.requires.full.1.valid).0

pub exact_conversion-requires-clause-high : goal.exact_conversion-requires-clause-high
exact_conversion-requires-clause-high c = rw (full_frac (goal.at.exact_conversion-requires-clause-high c).After-product_frac) (frac_bounds c.requires.full.0 c.requires.full.1.valid).1

pub returns : goal.returns
returns c =
    let full = c.requires.full.0 in
    let x : to_z w128 (of_z w128 c.args.x) ≡ c.args.x = to_z-of_z w128 c.args.x c.ranges.x in
    let y : to_z w128 (of_z w128 c.args.y) ≡ c.args.y = to_z-of_z w128 c.args.y c.ranges.y in
    let p = c.product.result in
    let product : to_z w128 (of_z w128 p) ≡ c.args.x *ℤ c.args.y = to_z-of_z w128 p (record { sfits = c.product.type_inv }) ∙ c.product.ensures ∙ rw (x, y) refl in
    let r : to_z w128 (of_z w128 c.exact_conversion.result) ≡ c.exact_conversion.result = to_z-of_z w128 c.exact_conversion.result (record { sfits = c.exact_conversion.type_inv }) in
    let converted = c.exact_conversion.ensures full (sym (full_frac (goal.at.returns c).After-product_frac)) in
    (full, c.requires.full.1, rw r (rw product at converted))

pub product-requires-clause-left : goal.product-requires-clause-left
product-requires-clause-left c = c.requires.left

pub product-requires-clause-right : goal.product-requires-clause-right
product-requires-clause-right c = c.requires.right

pub product-requires-clause-x_in_range : goal.product-requires-clause-x_in_range
product-requires-clause-x_in_range c = rw (to_z-of_z w128 c.args.x c.ranges.x) c.requires.x_in_range

pub product-requires-clause-y_in_range : goal.product-requires-clause-y_in_range
product-requires-clause-y_in_range c = rw (to_z-of_z w128 c.args.y c.ranges.y) c.requires.y_in_range

pub product-requires-clause-full : goal.product-requires-clause-full
product-requires-clause-full c = c.requires.full

pub exact_conversion-requires-clause-result : goal.exact_conversion-requires-clause-result
exact_conversion-requires-clause-result c = c.requires.result
