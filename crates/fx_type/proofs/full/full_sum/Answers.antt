use Rattle.std.proofs.Common.{to_z, of_z, arith}
use Rattle.std.specs.Int.{w16}
use Rattle.std.proofs.lemmas.Int.{ints, to_z-of_z}
use Rattle.fx_type.specs.Span.{least_term, greatest_term, sum_of, IsSpan, FitSpan, IsNarrowest}
use Rattle.fx_type.proofs.Ends.{least_sign, greatest_sign, sum_of-at_most, sum_of-at_least}
use Rattle.fx_type.proofs.FullTypes.{OnErr-from, no_full_sum, full_sum_is}
use Rattle.fx_type.proofs.Fracs.{greatest_bounds}
use Rattle.fx_type.proofs.full.full_sum.Goals as goal

pub narrowest-requires-clause-low : goal.narrowest-requires-clause-low
narrowest-requires-clause-low c =
    let f = to_z w16 (of_z w16 c.greatest_frac-frac.result) in
    omega (arith, ints, c.in_ok-span.ensures.low, sum_of-at_most (least_term f) (least_sign f) c.args.terms.now)

pub narrowest-requires-clause-high : goal.narrowest-requires-clause-high
narrowest-requires-clause-high c =
    let f = to_z w16 (of_z w16 c.greatest_frac-frac.result) in
    omega (arith, ints, c.in_ok-span.ensures.high, sum_of-at_least (greatest_term f) (greatest_sign f) c.args.terms.now)

pub returns-in_err-span-clause-too_wide : goal.returns-in_err-span-clause-too_wide
returns-in_err-span-clause-too_wide c =
    let e = to_z-of_z w16 c.greatest_frac-frac.result (record { sfits = c.greatest_frac-frac.type_inv }) in
    let n : ¬ FitSpan (sum_of (least_term c.greatest_frac-frac.result) c.args.terms.now) (sum_of (greatest_term c.greatest_frac-frac.result) c.args.terms.now) = rw e at c.in_err-span.ensures in
    OnErr-from c.from_residual.result _ (no_full_sum c.args.terms.now c.greatest_frac-frac.result c.greatest_frac-frac.ensures n)

pub returns-clause-ok : goal.returns-clause-ok
returns-clause-ok c =
    let e = to_z-of_z w16 c.greatest_frac-frac.result (record { sfits = c.greatest_frac-frac.type_inv }) in
    let ends : IsSpan (sum_of (least_term c.greatest_frac-frac.result) c.args.terms.now)
    (sum_of (greatest_term c.greatest_frac-frac.result) c.args.terms.now) c.in_ok-span.span =
    rw e at c.in_ok-span.ensures in
    let n : IsNarrowest c.in_ok-span.span.low c.in_ok-span.span.high c.greatest_frac-frac.result c.narrowest.result = rw e at c.narrowest.ensures in
    full_sum_is c.args.terms.now c.greatest_frac-frac.result c.in_ok-span.span c.narrowest.result c.greatest_frac-frac.ensures ends n

pub sum_span-requires-clause-valid : goal.sum_span-requires-clause-valid
sum_span-requires-clause-valid c = c.requires.valid

pub sum_span-requires-clause-least : goal.sum_span-requires-clause-least
sum_span-requires-clause-least c = rw (to_z-of_z w16 c.greatest_frac-frac.result (record { sfits = c.greatest_frac-frac.type_inv })) c.greatest_frac-frac.ensures.bound

pub sum_span-requires-clause-greatest : goal.sum_span-requires-clause-greatest
sum_span-requires-clause-greatest c =
    rw (to_z-of_z w16 c.greatest_frac-frac.result (record { sfits = c.greatest_frac-frac.type_inv }))
    (greatest_bounds c.args.terms.now c.greatest_frac-frac.result c.requires.valid c.greatest_frac-frac.ensures).1

pub narrowest-requires-clause-least : goal.narrowest-requires-clause-least
narrowest-requires-clause-least c =
    rw (to_z-of_z w16 c.greatest_frac-frac.result (record { sfits = c.greatest_frac-frac.type_inv }))
    (greatest_bounds c.args.terms.now c.greatest_frac-frac.result c.requires.valid c.greatest_frac-frac.ensures).0

pub narrowest-requires-clause-greatest : goal.narrowest-requires-clause-greatest
narrowest-requires-clause-greatest c =
    rw (to_z-of_z w16 c.greatest_frac-frac.result (record { sfits = c.greatest_frac-frac.type_inv }))
    (greatest_bounds c.args.terms.now c.greatest_frac-frac.result c.requires.valid c.greatest_frac-frac.ensures).1
