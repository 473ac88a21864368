use Rattle.std.proofs.Common.{take, get_or, ℤ, ◌+ℤ◌, pos, false, Bool, ap₂, subst, subst₂, sym, ◌∙◌}
use Rattle.std.specs.Int.{w16}
use Rattle.std.proofs.lemmas.Int.{to_z-of_z}
use Rattle.std.proofs.lemmas.List.{take_all}
use Rattle.fx_type.specs.declared.kind.FxType.{FxType}
use Rattle.fx_type.specs.declared.kind.FxType.TheVariants.{Num}
use Rattle.fx_type.specs.FullType.{Terms}
use Rattle.fx_type.specs.Span.{least_term, greatest_term, sum_of, IsSpan, FitSpan}
use Rattle.fx_type.proofs.Ends.{term_fits, parts_fit, sum_of-more, refuses}
use Rattle.fx_type.proofs.full.sum_span.Goals as goal

no_term : Bool × FxType
no_term = (false, Num false 0 (pos 0))

pub returns-in_err-term_span : goal.returns-in_err-term_span
unfolding no_term
returns-in_err-term_span c =
    let f = to_z-of_z w16 c.args.frac c.ranges.frac in
    let x = get_or c.args.terms.now c.loop-subtracted.subtracted-index no_term in
    let n : ¬ FitSpan (least_term c.args.frac x) (greatest_term c.args.frac x) = rw f at c.in_err-term_span.ensures in
    refuses c.from_residual.result _ _ c.from_residual.ensures.0
    (λ fit. n (term_fits c.args.frac c.args.terms.now c.loop-subtracted.subtracted-index no_term c.loop-subtracted-test.true fit))

pub returns-in_err-total : goal.returns-in_err-total
unfolding no_term
returns-in_err-total c =
    let f = to_z-of_z w16 c.args.frac c.ranges.frac in
    let x = get_or c.args.terms.now c.loop-subtracted.subtracted-index no_term in
    let s : IsSpan (least_term c.args.frac x) (greatest_term c.args.frac x) c.in_ok-term_span.field-0 = rw f at c.in_ok-term_span.ensures in
    let inv : IsSpan (sum_of (least_term c.args.frac) (take c.loop-subtracted.subtracted-index c.args.terms.now))
    (sum_of (greatest_term c.args.frac) (take c.loop-subtracted.subtracted-index c.args.terms.now))
    c.loop-subtracted.total = rw f at c.loop-subtracted.invariant in
    refuses c.from_residual-in_err-total.result _ _ c.from_residual-in_err-total.ensures.0
    (λ fit. c.in_err-total.ensures (subst₂ (λ (a b : ℤ). FitSpan a b)
    (sym (ap₂ ◌+ℤ◌ inv.low s.low))
    (sym (ap₂ ◌+ℤ◌ inv.high s.high))
    (parts_fit c.args.frac c.args.terms.now c.loop-subtracted.subtracted-index no_term c.loop-subtracted-test.true fit)))

pub loop-subtracted-preserved : goal.loop-subtracted-preserved
unfolding no_term
loop-subtracted-preserved c =
    let f = to_z-of_z w16 c.args.frac c.ranges.frac in
    let i = c.loop-subtracted.subtracted-index in
    let x = get_or c.args.terms.now i no_term in
    let s : IsSpan (least_term c.args.frac x) (greatest_term c.args.frac x) c.in_ok-term_span.field-0 = rw f at c.in_ok-term_span.ensures in
    let inv : IsSpan (sum_of (least_term c.args.frac) (take c.loop-subtracted.subtracted-index c.args.terms.now))
    (sum_of (greatest_term c.args.frac) (take c.loop-subtracted.subtracted-index c.args.terms.now))
    c.loop-subtracted.total = rw f at c.loop-subtracted.invariant in
    rw f (record {
      low = c.in_ok-total.ensures.low ∙ ap₂ ◌+ℤ◌ inv.low s.low
          ∙ sym (sum_of-more (least_term c.args.frac) c.args.terms.now i no_term c.loop-subtracted-test.true);
      high = c.in_ok-total.ensures.high ∙ ap₂ ◌+ℤ◌ inv.high s.high
          ∙ sym (sum_of-more (greatest_term c.args.frac) c.args.terms.now i no_term c.loop-subtracted-test.true);
    })

pub term_span-requires-clause-valid : goal.term_span-requires-clause-valid
unfolding no_term
term_span-requires-clause-valid c = c.requires.valid c.loop-subtracted.subtracted-index no_term c.loop-subtracted-test.true

pub term_span-requires-clause-least : goal.term_span-requires-clause-least
unfolding no_term
term_span-requires-clause-least c = rw (to_z-of_z w16 c.args.frac c.ranges.frac) (c.requires.least c.loop-subtracted.subtracted-index no_term c.loop-subtracted-test.true)

pub term_span-requires-clause-greatest : goal.term_span-requires-clause-greatest
term_span-requires-clause-greatest c = rw (to_z-of_z w16 c.args.frac c.ranges.frac) c.requires.greatest

pub returns : goal.returns
returns c =
    let f = to_z-of_z w16 c.args.frac c.ranges.frac in
    let inv : IsSpan (sum_of (least_term c.args.frac) (take c.loop-subtracted.subtracted-index c.args.terms.now))
    (sum_of (greatest_term c.args.frac) (take c.loop-subtracted.subtracted-index c.args.terms.now))
    c.loop-subtracted.total = rw f at c.loop-subtracted.invariant in
    subst (λ (xs : Terms). IsSpan (sum_of (least_term c.args.frac) xs)
    (sum_of (greatest_term c.args.frac) xs) c.loop-subtracted.total)
    (take_all c.loop-subtracted.subtracted-index c.args.terms.now c.loop-subtracted-test.false) inv
