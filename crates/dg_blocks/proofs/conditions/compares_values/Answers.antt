use Rattle.std.proofs.Common.{◌≡◌, ℤ, to_z, of_z, ap₂, ◌∙◌, refl, arith}
use Rattle.std.specs.Int.{w16, w128, int_max}
use Rattle.std.proofs.lemmas.Int.{ints, clamps, to_z-of_z}
use Rattle.fx_type.specs.FxType.{frac_of}
use Rattle.fx_type.proofs.Ranges.{frac_bounds}
use Rattle.math_num.proofs.Integers.{int_max_most}
use Rattle.dg_model.specs.Operation.{compares}
use Rattle.dg_blocks.proofs.Ranges.{left_fits, right_fits}
use Rattle.dg_blocks.proofs.conditions.compares_values.Goals as goal
use Rattle.dg_blocks.proofs.conditions.compares_values.Goals.{After-max-frac}

-- the greater frac
max_frac : (c : After-max-frac) → to_z w16 (of_z w16 c.max-frac.result) ≡ int_max (frac_of c.args.a) (frac_of c.args.b)
max_frac c =
    let f : to_z w16 (of_z w16 c.frac.result) ≡ c.frac.result = to_z-of_z w16 c.frac.result (record { sfits = c.frac.type_inv }) in
    let g : to_z w16 (of_z w16 c.frac-2.result) ≡ c.frac-2.result = to_z-of_z w16 c.frac-2.result (record { sfits = c.frac-2.type_inv }) in
    to_z-of_z w16 c.max-frac.result (record { sfits = c.max-frac.type_inv }) ∙ c.max-frac.ensures.value ∙ rw (f, g, c.frac.ensures, c.frac-2.ensures) refl

pub aligned_value-requires-clause-fits : goal.aligned_value-requires-clause-fits
aligned_value-requires-clause-fits c =
    let x : to_z w128 (of_z w128 c.args.x) ≡ c.args.x = to_z-of_z w128 c.args.x c.ranges.x in
    rw (max_frac (goal.at.aligned_value-requires-clause-fits c).After-max-frac, x) (left_fits c.args.a c.args.b c.requires.union.0 c.requires.union.1 c.args.x c.requires.left c.requires.x_in_range)

pub aligned_value-requires-2-clause-high : goal.aligned_value-requires-2-clause-high
aligned_value-requires-2-clause-high c =
    rw (max_frac (goal.at.aligned_value-requires-2-clause-high c).After-max-frac)
    (int_max_most (frac_of c.args.a) (frac_of c.args.b) _ (frac_bounds c.args.a c.requires.left).1
    (frac_bounds c.args.b c.requires.right).1)

pub aligned_value-requires-2-clause-fits : goal.aligned_value-requires-2-clause-fits
aligned_value-requires-2-clause-fits c =
    let y : to_z w128 (of_z w128 c.args.y) ≡ c.args.y = to_z-of_z w128 c.args.y c.ranges.y in
    rw (max_frac (goal.at.aligned_value-requires-2-clause-fits c).After-max-frac, y)
    (right_fits c.args.a c.args.b c.requires.union.0 c.requires.union.1 c.args.y c.requires.right
    c.requires.y_in_range)

pub aligned_value-requires-clause-valid : goal.aligned_value-requires-clause-valid
aligned_value-requires-clause-valid c = c.requires.left

pub aligned_value-requires-2-clause-valid : goal.aligned_value-requires-2-clause-valid
aligned_value-requires-2-clause-valid c = c.requires.right

pub aligned_value-requires-clause-high : goal.aligned_value-requires-clause-high
aligned_value-requires-clause-high c =
    rw (max_frac (goal.at.aligned_value-requires-clause-high c).After-max-frac)
    (int_max_most (frac_of c.args.a) (frac_of c.args.b) _ (frac_bounds c.args.a c.requires.left).1
    (frac_bounds c.args.b c.requires.right).1)

pub aligned_value-requires-clause-above : goal.aligned_value-requires-clause-above
aligned_value-requires-clause-above c = rw (max_frac (goal.at.aligned_value-requires-clause-above c).After-max-frac) (omega (arith, ints, clamps))

pub aligned_value-requires-2-clause-above : goal.aligned_value-requires-2-clause-above
aligned_value-requires-2-clause-above c = rw (max_frac (goal.at.aligned_value-requires-2-clause-above c).After-max-frac) (omega (arith, ints, clamps))

pub returns : goal.returns
returns c =
    let frac = max_frac (goal.at.returns c).After-max-frac in
    let one = to_z-of_z w128 c.aligned_value.result (record { sfits = c.aligned_value.type_inv }) in
    let two = to_z-of_z w128 c.aligned_value-2.result (record { sfits = c.aligned_value-2.type_inv }) in
    let left = rw (frac, to_z-of_z w128 c.args.x c.ranges.x) at c.aligned_value.ensures in
    let right = rw (frac, to_z-of_z w128 c.args.y c.ranges.y) at c.aligned_value-2.ensures in
    (rw (one, two) at c.compares.ensures) ∙ ap₂ (λ (x y : ℤ). compares c.args.operator x y) left right
