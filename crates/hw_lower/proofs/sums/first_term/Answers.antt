use Rattle.std.proofs.Common.{Bool, arith, subst, sym}
use Rattle.std.specs.Int.{w16}
use Rattle.std.proofs.lemmas.Int.{to_z-of_z}
use Rattle.math_num.specs.Word.{IsWrapped}
use Rattle.fx_type.specs.FxType.{aligned}
use Rattle.fx_type.specs.FullType.{negated_if}
use Rattle.dg_model.specs.Operation.{type_of}
use Rattle.hw_lower.proofs.StepChains.{made-map, made-then}
use Rattle.hw_lower.proofs.SumTerms.{IsTotal, total-first, wrapped-negative}
use Rattle.hw_lower.proofs.sums.first_term.Goals as goal

pub align-value-requires : goal.align-value-requires
align-value-requires c =
    rw (c.side_of-side.ensures, to_z-of_z w16 c.args.frac c.ranges.frac) (record {
      at = c.requires.terms.arguments.each 0 (omega (arith, c.requires.terms.some));
      kind = c.requires.terms.valid 0 _ (omega (arith, c.requires.terms.some));
      above = c.requires.above 0 _ (omega (arith, c.requires.terms.some));
      high = c.requires.high;
      word = c.requires.word;
    })

pub returns-then-signs : goal.returns-then-signs
returns-then-signs c =
    let f = to_z-of_z w16 c.args.frac c.ranges.frac in
    let value = rw (c.side_of-side.ensures, f) at c.align-value.ensures in
    made-then (λ numbers. IsTotal c.args.frac c.args.signs.now c.args.types.now c.args.word.width c.args.word.signed numbers 1 (numbers c.unary.result.place)) value c.unary.ensures
    (λ numbers has later p q. total-first c.args.frac c.args.signs.now c.args.types.now c.args.word.width
    c.args.word.signed numbers c.requires.terms.signed (numbers c.unary.result.place) c.requires.terms.some
    (subst (λ (negative : Bool). IsWrapped
    (negated_if negative (aligned c.args.frac (type_of c.args.types.now 0) (numbers 0))) c.args.word.width
    c.args.word.signed (numbers c.unary.result.place)) (sym c.if-signs.true)
    (wrapped-negative (aligned c.args.frac (type_of c.args.types.now 0) (numbers 0)) (numbers c.align-value.result.place) (numbers c.unary.result.place) c.args.word.width c.args.word.signed p q)))

pub returns : goal.returns
returns c =
    let f = to_z-of_z w16 c.args.frac c.ranges.frac in
    made-map (λ numbers. IsTotal c.args.frac c.args.signs.now c.args.types.now c.args.word.width c.args.word.signed
    numbers 1 (numbers c.align-value.result.place)) (rw (c.side_of-side.ensures, f) at c.align-value.ensures)
    (λ numbers has p. total-first c.args.frac c.args.signs.now c.args.types.now c.args.word.width c.args.word.signed
    numbers c.requires.terms.signed (numbers c.align-value.result.place) c.requires.terms.some
    (subst (λ (negative : Bool). IsWrapped
    (negated_if negative (aligned c.args.frac (type_of c.args.types.now 0) (numbers 0))) c.args.word.width
    c.args.word.signed (numbers c.align-value.result.place)) (sym c.if-signs.false) p))
