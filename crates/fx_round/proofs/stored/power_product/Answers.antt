use Rattle.std.proofs.Common.{◌≡◌, ◌*◌, ◌^◌, ℕ, ap, sym, ◌∙◌, refl, arith}
use Rattle.std.proofs.lemmas.Int.{ints}
use Rattle.fx_round.specs.inner.Parts.{mixed_count}
use Rattle.fx_round.proofs.Sizes.{double_step, too_much, magnitude_is}
use Rattle.fx_round.proofs.stored.power_product.Goals as goal

pub returns-then-mixed : goal.returns-then-mixed
returns-then-mixed c = too_much (mixed_count c.args.number c.args.unit)
    (mixed_count c.doubled_once-mixed.result c.args.unit) c.loop-done._done c.args.by c.args.unit
    c.doubled_once-mixed.result.whole c.doubled_once-mixed.result.rest
    (double_step _ (mixed_count c.loop-done.mixed c.args.unit) _ c.loop-done._done c.loop-done.invariant.count c.doubled_once-mixed.ensures.double) refl c.if-mixed.true c.loop-done-test.true

pub loop-done-preserved : goal.loop-done-preserved
loop-done-preserved c = record {
  count = double_step _ (mixed_count c.loop-done.mixed c.args.unit) _ c.loop-done._done c.loop-done.invariant.count c.doubled_once-mixed.ensures.double;
  whole = c.if-mixed.false;
  rest = c.doubled_once-mixed.ensures.rest;
}

pub returns : goal.returns
returns c =
    let e : c.loop-done._done ≡ c.args.by = omega arith in
    let k : mixed_count c.args.number c.args.unit * 2 ^ c.args.by ≡ mixed_count c.loop-done.mixed c.args.unit =
    sym (c.loop-done.invariant.count ∙ ap (λ (i : ℕ). mixed_count c.args.number c.args.unit * 2 ^ i) e) in
    magnitude_is _ c.loop-done.mixed.whole c.loop-done.mixed.rest c.args.unit c.part_of.result _ k (omega (arith, ints, c.loop-done.invariant.whole)) c.loop-done.invariant.rest c.part_of.ensures
