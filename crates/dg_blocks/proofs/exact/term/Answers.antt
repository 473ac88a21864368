use Rattle.std.proofs.Common.{◌≡◌, ◌-ℤ◌, pos, neg_ℤ, to_z, of_z, FitsSigned, ◌^◌, ap, sym, subst, ◌∙◌, pow_pos}
use Rattle.std.specs.Int.{w16, w128, int_gap}
use Rattle.std.proofs.lemmas.Int.{to_z-of_z}
use Rattle.fx_type.specs.FxType.{frac_of, aligned}
use Rattle.fx_type.specs.FullType.{negated_if}
use Rattle.math_num.proofs.Arithmetic.{scaled-neg}
use Rattle.dg_blocks.proofs.Ranges.{minus_is, neg_fits}
use Rattle.dg_blocks.proofs.exact.term.Goals as goal

pub returns-then-negative : goal.returns-then-negative
returns-then-negative c =
    let negative = c.if-negative.true in
    let gap = int_gap (frac_of c.args.kind) c.args.frac in
    let fits : FitsSigned w128 (neg_ℤ (aligned c.args.frac c.args.kind c.args.v)) = rw negative at c.requires.fits in
    let minus : pos 0 -ℤ c.args.v ≡ neg_ℤ c.args.v = minus_is c.args.v in
    let minus_fits : FitsSigned w128 (neg_ℤ c.args.v) = neg_fits c.args.v _ (pow_pos gap) c.ranges.v fits in
    let r : to_z w128 (of_z w128 c.aligned_value.result) ≡ c.aligned_value.result = to_z-of_z w128 c.aligned_value.result (record { sfits = c.aligned_value.type_inv }) in
    let f : to_z w16 (of_z w16 c.args.frac) ≡ c.args.frac = to_z-of_z w16 c.args.frac c.ranges.frac in
    let v : to_z w128 (of_z w128 c.args.v) ≡ c.args.v = to_z-of_z w128 c.args.v c.ranges.v in
    let m : to_z w128 (of_z w128 (neg_ℤ c.args.v)) ≡ neg_ℤ c.args.v = to_z-of_z w128 (neg_ℤ c.args.v) minus_fits in
    let given : c.aligned_value.result ≡ aligned c.args.frac c.args.kind (neg_ℤ c.args.v) = rw (f, v, minus, m) at c.aligned_value.ensures in
    r ∙ given ∙ scaled-neg c.args.v _ ∙ ap (λ s. negated_if s (aligned c.args.frac c.args.kind c.args.v)) (sym negative)

pub overflow_sub-v : goal.overflow_sub-v
overflow_sub-v c =
    let fits : FitsSigned w128 (neg_ℤ (aligned c.args.frac c.args.kind c.args.v)) = rw c.if-negative.true at c.requires.fits in
    let v : to_z w128 (of_z w128 c.args.v) ≡ c.args.v = to_z-of_z w128 c.args.v c.ranges.v in
    let minus : pos 0 -ℤ c.args.v ≡ neg_ℤ c.args.v = minus_is c.args.v in
    rw (v, minus) (neg_fits c.args.v _ (pow_pos (int_gap (frac_of c.args.kind) c.args.frac)) c.ranges.v fits)

pub aligned_value-requires-clause-fits : goal.aligned_value-requires-clause-fits
aligned_value-requires-clause-fits c =
    let gap = int_gap (frac_of c.args.kind) c.args.frac in
    let fits : FitsSigned w128 (neg_ℤ (aligned c.args.frac c.args.kind c.args.v)) = rw c.if-negative.true at c.requires.fits in
    let minus : pos 0 -ℤ c.args.v ≡ neg_ℤ c.args.v = minus_is c.args.v in
    let f : to_z w16 (of_z w16 c.args.frac) ≡ c.args.frac = to_z-of_z w16 c.args.frac c.ranges.frac in
    let v : to_z w128 (of_z w128 c.args.v) ≡ c.args.v = to_z-of_z w128 c.args.v c.ranges.v in
    let m : to_z w128 (of_z w128 (neg_ℤ c.args.v)) ≡ neg_ℤ c.args.v = to_z-of_z w128 (neg_ℤ c.args.v) (neg_fits c.args.v _ (pow_pos gap) c.ranges.v fits) in
    rw (f, v, minus, m) (subst (FitsSigned w128) (sym (scaled-neg c.args.v (2 ^ gap))) fits)

pub aligned_value-requires-else-negative-clause-fits : goal.aligned_value-requires-else-negative-clause-fits
aligned_value-requires-else-negative-clause-fits c =
    let fits : FitsSigned w128 (aligned c.args.frac c.args.kind c.args.v) = rw c.if-negative.false at c.requires.fits in
    let f : to_z w16 (of_z w16 c.args.frac) ≡ c.args.frac = to_z-of_z w16 c.args.frac c.ranges.frac in
    let v : to_z w128 (of_z w128 c.args.v) ≡ c.args.v = to_z-of_z w128 c.args.v c.ranges.v in
    rw (f, v) fits

pub returns-else-negative : goal.returns-else-negative
returns-else-negative c =
    let r : to_z w128 (of_z w128 c.aligned_value-else-negative.result) ≡ c.aligned_value-else-negative.result =
    to_z-of_z w128 c.aligned_value-else-negative.result
    (record { sfits = c.aligned_value-else-negative.type_inv }) in
    let f : to_z w16 (of_z w16 c.args.frac) ≡ c.args.frac = to_z-of_z w16 c.args.frac c.ranges.frac in
    let v : to_z w128 (of_z w128 c.args.v) ≡ c.args.v = to_z-of_z w128 c.args.v c.ranges.v in
    let given : c.aligned_value-else-negative.result ≡ aligned c.args.frac c.args.kind c.args.v = rw (f, v) at c.aligned_value-else-negative.ensures in
    r ∙ given ∙ ap (λ s. negated_if s (aligned c.args.frac c.args.kind c.args.v)) (sym c.if-negative.false)
