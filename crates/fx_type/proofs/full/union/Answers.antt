use Rattle.std.proofs.Common.{◌≡◌, ◌≢◌, false, ℤ, pos, ◌≤ℤ◌, to_z, of_z, ◌∙◌, ap₂, arith, rules}
use Rattle.std.specs.Int.{w16, w128, int_max, int_min}
use Rattle.std.proofs.lemmas.Int.{ints, clamps, to_z-of_z}
use Rattle.fx_type.specs.declared.kind.FxType.{FxType}
use Rattle.fx_type.specs.FxType.{frac_of}
use Rattle.fx_type.specs.Span.{least_term, greatest_term}
use Rattle.fx_type.proofs.Ends.{least_sign, greatest_sign}
use Rattle.fx_type.proofs.Ranges.{frac_bounds}
use Rattle.math_num.proofs.Integers.{int_max_most}
use Rattle.fx_type.proofs.FullTypes.{OnErr-from, no_left, no_right, union_is}
use Rattle.fx_type.proofs.full.union.Goals as goal
use Rattle.fx_type.proofs.full.union.Goals.{After-max-frac}

-- the greater frac
max_frac : (c : After-max-frac) → to_z w16 (of_z w16 c.max-frac.result) ≡ int_max (frac_of c.args.a) (frac_of c.args.b)
max_frac c =
    let left = to_z-of_z w16 c.frac.result (record { sfits = c.frac.type_inv }) ∙ c.frac.ensures in
    let right = to_z-of_z w16 c.frac-2.result (record { sfits = c.frac-2.type_inv }) ∙ c.frac-2.ensures in
    to_z-of_z w16 c.max-frac.result (record { sfits = c.max-frac.type_inv }) ∙ c.max-frac.ensures.value ∙ ap₂ int_max left right

-- the types are not the same
differ : (c : After-max-frac) → c.args.a ≢ c.args.b
differ c = search rules

pub returns-in_err-left-clause-too_wide : goal.returns-in_err-left-clause-too_wide
returns-in_err-left-clause-too_wide c =
    let f = max_frac (goal.at.returns-in_err-left-clause-too_wide c).After-max-frac in
    let d = differ (goal.at.returns-in_err-left-clause-too_wide c).After-max-frac in
    OnErr-from c.from_residual.result _ (no_left c.args.a c.args.b d (rw f at c.in_err-left.ensures))

pub returns-in_err-right-clause-too_wide : goal.returns-in_err-right-clause-too_wide
returns-in_err-right-clause-too_wide c =
    let f = max_frac (goal.at.returns-in_err-right-clause-too_wide c).After-max-frac in
    let d = differ (goal.at.returns-in_err-right-clause-too_wide c).After-max-frac in
    OnErr-from c.from_residual-in_err-right.result _ (no_right c.args.a c.args.b d (rw f at c.in_err-right.ensures))

pub term_span-requires-clause-least : goal.term_span-requires-clause-least
term_span-requires-clause-least c =
    let bits = to_z-of_z w16 c.max-frac.result (record { sfits = c.max-frac.type_inv }) in
    let left : to_z w16 (of_z w16 c.frac.result) ≡ frac_of c.args.a = to_z-of_z w16 c.frac.result (record { sfits = c.frac.type_inv }) ∙ c.frac.ensures in
    rw bits (rw left at c.max-frac.ensures.self_bound)

pub term_span-requires-2-clause-least : goal.term_span-requires-2-clause-least
term_span-requires-2-clause-least c =
    let bits = to_z-of_z w16 c.max-frac.result (record { sfits = c.max-frac.type_inv }) in
    let right : to_z w16 (of_z w16 c.frac-2.result) ≡ frac_of c.args.b = to_z-of_z w16 c.frac-2.result (record { sfits = c.frac-2.type_inv }) ∙ c.frac-2.ensures in
    rw bits (rw right at c.max-frac.ensures.other_bound)

pub term_span-requires-clause-greatest : goal.term_span-requires-clause-greatest
term_span-requires-clause-greatest c =
    rw (max_frac (goal.at.term_span-requires-clause-greatest c).After-max-frac)
    (int_max_most (frac_of c.args.a) (frac_of c.args.b) (pos 128) (frac_bounds c.args.a c.requires.left).1 (frac_bounds c.args.b c.requires.right).1)

pub term_span-requires-2-clause-greatest : goal.term_span-requires-2-clause-greatest
term_span-requires-2-clause-greatest c =
    rw (max_frac (goal.at.term_span-requires-2-clause-greatest c).After-max-frac)
    (int_max_most (frac_of c.args.a) (frac_of c.args.b) (pos 128) (frac_bounds c.args.a c.requires.left).1 (frac_bounds c.args.b c.requires.right).1)

left_sign : (f : ℤ) (a : FxType) → least_term f (false, a) ≤ℤ pos 0
left_sign f a = least_sign f (false, a)

right_sign : (f : ℤ) (a : FxType) → pos 0 ≤ℤ greatest_term f (false, a)
right_sign f a = greatest_sign f (false, a)

pub narrowest-requires-clause-low : goal.narrowest-requires-clause-low
narrowest-requires-clause-low c =
    let f = to_z w16 (of_z w16 c.max-frac.result) in
    omega (arith, ints, c.in_ok-left.ensures.low, c.min.ensures.self_bound, left_sign f c.args.a)

pub narrowest-requires-clause-high : goal.narrowest-requires-clause-high
narrowest-requires-clause-high c =
    let f = to_z w16 (of_z w16 c.max-frac.result) in
    omega (arith, ints, c.in_ok-left.ensures.high, c.max.ensures.self_bound, right_sign f c.args.a)

pub narrowest-requires-clause-least : goal.narrowest-requires-clause-least
narrowest-requires-clause-least c =
    omega (arith, ints, c.max-frac.ensures.self_bound, c.frac.ensures, frac_bounds c.args.a c.requires.left)

pub narrowest-requires-clause-greatest : goal.narrowest-requires-clause-greatest
narrowest-requires-clause-greatest c =
    rw (max_frac (goal.at.narrowest-requires-clause-greatest c).After-max-frac)
    (int_max_most (frac_of c.args.a) (frac_of c.args.b) (pos 128) (frac_bounds c.args.a c.requires.left).1 (frac_bounds c.args.b c.requires.right).1)

pub returns-clause-ok : goal.returns-clause-ok
returns-clause-ok c =
    let f = max_frac (goal.at.returns-clause-ok c).After-max-frac in
    let d = differ (goal.at.returns-clause-ok c).After-max-frac in
    let l : to_z w128 (of_z w128 c.min.result) ≡ int_min c.in_ok-left.left.low c.in_ok-right.right.low = omega (arith, ints, clamps, c.min.ensures.value) in
    let h : to_z w128 (of_z w128 c.max.result) ≡ int_max c.in_ok-left.left.high c.in_ok-right.right.high = omega (arith, ints, clamps, c.max.ensures.value) in
    union_is c.args.a c.args.b c.in_ok-left.left c.in_ok-right.right c.narrowest.result _ _ _ d f c.in_ok-left.ensures c.in_ok-right.ensures l h c.narrowest.ensures
