use Rattle.std.proofs.Common.{◌≡◌, ℕ, ◌^◌, pos, ◌*ℤ◌, Bool, ℤ, ◌-ℤ◌, neg_ℤ, nat_abs, FitsSigned, to_z, of_z, ap, ap₂, sym, ◌∙◌, arith}
use Rattle.std.specs.Int.{w16, w128, int_gap}
use Rattle.std.proofs.lemmas.Int.{ints, to_z-of_z}
use Rattle.fx_type.specs.FxType.{frac_of, highest_of}
use Rattle.fx_type.specs.Span.{least_end, greatest_end}
use Rattle.fx_type.proofs.Ranges.{frac_bounds, highest_sign}
use Rattle.math_num.proofs.Integers.{gap_is}
use Rattle.fx_type.proofs.Ends.{same_span}
use Rattle.fx_type.proofs.full.term_span.Goals as goal

scaled_by : (z z' : ℤ) (n n' : ℕ) → z ≡ z' → n ≡ n' → z *ℤ pos (2 ^ n) ≡ z' *ℤ pos (2 ^ n')
scaled_by z z' n n' e f = ap₂ (λ (y : ℤ) (k : ℕ). y *ℤ pos (2 ^ k)) e f

pub returns-then-not-subtracted : goal.returns-then-not-subtracted
returns-then-not-subtracted c =
    let b = frac_bounds c.args.kind c.requires.valid in
    let x = to_z w16 (of_z w16 (to_z w16 (of_z w16 c.args.frac) -ℤ to_z w16 (of_z w16 c.frac.result))) in
    let g : nat_abs x ≡ int_gap (frac_of c.args.kind) c.args.frac = gap_is (frac_of c.args.kind) c.args.frac x c.requires.least (omega (arith, ints)) in
    let l = to_z-of_z w128 c.lowest-low.result (record { sfits = c.lowest-low.type_inv }) ∙ c.lowest-low.ensures ∙ sym (ap (λ (s : Bool). least_end s c.args.kind) c.if-not-subtracted.true) in
    let h = to_z-of_z w128 c.highest-high.result (record { sfits = c.highest-high.type_inv }) ∙ c.highest-high.ensures ∙ sym (ap (λ (s : Bool). greatest_end s c.args.kind) c.if-not-subtracted.true) in
    same_span c.shifted_span.result _ _ _ _ (scaled_by _ _ _ _ l g) (scaled_by _ _ _ _ h g) c.shifted_span.ensures

pub returns-in-Some : goal.returns-in-Some
returns-in-Some c =
    let b = frac_bounds c.args.kind c.requires.valid in
    let x = to_z w16 (of_z w16 (to_z w16 (of_z w16 c.args.frac) -ℤ to_z w16 (of_z w16 c.frac.result))) in
    let g : nat_abs x ≡ int_gap (frac_of c.args.kind) c.args.frac = gap_is (frac_of c.args.kind) c.args.frac x c.requires.least (omega (arith, ints)) in
    let low : to_z w128 (of_z w128 c.lowest-low.result) ≡ c.lowest-low.result = to_z-of_z w128 c.lowest-low.result (record { sfits = c.lowest-low.type_inv }) in
    let sign = highest_sign c.args.kind in
    let negated : to_z w128 (of_z w128 (pos 0 -ℤ to_z w128 (of_z w128 c.highest-high.result))) ≡ neg_ℤ (highest_of c.args.kind) = omega (arith, ints, c.highest-high.ensures) in
    let some = c.in-Some.ensures in
    let fits : FitsSigned w128 c.in-Some.greatest = omega (arith, ints, some.0, some.1) in
    let l = negated ∙ sym (ap (λ (s : Bool). least_end s c.args.kind) c.if-not-subtracted.false) in
    let h = to_z-of_z w128 c.in-Some.greatest fits ∙ some.1 ∙ ap neg_ℤ (low ∙ c.lowest-low.ensures) ∙ sym (ap (λ (s : Bool). greatest_end s c.args.kind) c.if-not-subtracted.false) in
    same_span c.shifted_span-in-Some.result _ _ _ _ (scaled_by _ _ _ _ l g) (scaled_by _ _ _ _ h g) c.shifted_span-in-Some.ensures

pub overflow_sub-by : goal.overflow_sub-by
overflow_sub-by c = omega (arith, ints, c.requires.least, c.requires.greatest, c.frac.ensures, frac_bounds c.args.kind c.requires.valid)

pub overflow_cast-by : goal.overflow_cast-by
overflow_cast-by c = omega (arith, ints, c.requires.least, c.requires.greatest, c.frac.ensures, frac_bounds c.args.kind c.requires.valid)

pub overflow_sub-high : goal.overflow_sub-high
overflow_sub-high c = omega (arith, ints, c.highest-high.ensures, highest_sign c.args.kind)
