use Rattle.std.proofs.Common.{◌≡◌, ◌-◌, ◌<◌, take, get_or, Some, None, ℤ, pos, ◌-ℤ◌, to_z, of_z, ap, sym, ◌∙◌, arith}
use Rattle.std.specs.Int.{w16}
use Rattle.std.specs.List.{find, range_with_len}
use Rattle.std.proofs.lemmas.Int.{ints}
use Rattle.std.proofs.lemmas.List.{take_all}
use Rattle.std.proofs.lemmas.List.Elements.{All-take}
use Rattle.fx_type.specs.declared.decimal.Decimal.{Decimal}
use Rattle.dg_model.specs.GainParam.{frac_down}
use Rattle.dg_types.specs.inner.TypeFit.{at_step, HasSign}
use Rattle.dg_types.proofs.FracSearch.{lowered_more}
use Rattle.dg_types.proofs.GreatestFrac.{greatest_none, greatest_some}
use Rattle.dg_types.proofs.typed_param.greatest_fit.Goals as goal

pub returns-in_default-clause-value : goal.returns-in_default-clause-value
returns-in_default-clause-value c =
    let steps = c.loop-decimal.steps in
    let e : find (at_step (get_or c.args.value.now c.loop-decimal.decimal-index c.decimal-item.result) c.args.signed c.args.width) (range_with_len steps (193 - steps)) ≡ None =
    ap (λ (d : Decimal). find (at_step d c.args.signed c.args.width) (range_with_len steps (193 - steps))) (sym c.decimal-item.is) ∙ sym c.fitting_step.ensures ∙ c.in_default.is in
    sym (greatest_none c.args.value.now c.args.signed c.args.width c.loop-decimal.decimal-index steps c.decimal-item.result c.loop-decimal-test.true c.loop-decimal.invariant e)

pub loop-decimal-preserved : goal.loop-decimal-preserved
loop-decimal-preserved c =
    let steps = c.loop-decimal.steps in
    let e : find (at_step (get_or c.args.value.now c.loop-decimal.decimal-index c.decimal-item.result) c.args.signed c.args.width) (range_with_len steps (193 - steps)) ≡ Some c.in-Some.next =
    ap (λ (d : Decimal). find (at_step d c.args.signed c.args.width) (range_with_len steps (193 - steps))) (sym c.decimal-item.is) ∙ sym c.fitting_step.ensures ∙ c.in-Some.is in
    lowered_more c.args.value.now c.args.signed c.args.width c.loop-decimal.decimal-index steps c.in-Some.next c.decimal-item.result c.requires.word
    (All-take (HasSign c.args.signed) c.loop-decimal.decimal-index c.args.value.now c.requires.sign) c.loop-decimal-test.true c.loop-decimal.invariant e

pub returns-clause-value : goal.returns-clause-value
returns-clause-value c =
    let steps = c.loop-decimal.steps in
    let whole : take c.loop-decimal.decimal-index c.args.value.now ≡ c.args.value.now = take_all c.loop-decimal.decimal-index c.args.value.now c.loop-decimal-test.false in
    let few : steps < 193 = c.loop-decimal.invariant.few in
    let frac : to_z w16 (of_z w16 (pos 128 -ℤ to_z w16 (of_z w16 c.from.result))) ≡ frac_down steps = omega (arith, ints, c.from.ensures) in
    ap (λ (z : ℤ). Some z) frac ∙ sym (greatest_some c.args.value.now c.args.signed c.args.width steps (rw whole at c.loop-decimal.invariant))
