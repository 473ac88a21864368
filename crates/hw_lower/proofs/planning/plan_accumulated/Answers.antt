use Rattle.std.proofs.Common.{◌≡◌, ◌+◌, ◌<◌, ◌∙◌, ℕ, ℤ, false, length, get_or, to_z, of_z, refl, sym, subst, arith}
use Rattle.std.specs.Prelude.{zip}
use Rattle.std.specs.Int.{w16}
use Rattle.std.proofs.lemmas.Int.{to_z-of_z}
use Rattle.math_num.specs.Word.{InWord}
use Rattle.fx_type.specs.FxType.{InRange, frac_of}
use Rattle.dg_model.specs.declared.op.Op.{Op}
use Rattle.dg_model.specs.Operation.{operation_of, IsAddedUp, HasFullType, HasSigns, Gives, IsStep, OpGives, type_of}
use Rattle.hw_lower.specs.declared.plan.Word.{Word}
use Rattle.hw_lower.specs.inner.Spread.{OfArguments}
use Rattle.hw_lower.proofs.Accumulator.{GoesOn, goes_more, goes_all, full_at}
use Rattle.hw_lower.proofs.StepChains.{made-then, made-map}
use Rattle.hw_lower.proofs.Products.{word-range}
use Rattle.hw_lower.proofs.planning.plan_accumulated.Goals as goal

pub loop-input-init : goal.loop-input-init
loop-input-init c =
    made-map (λ numbers. OfArguments c.args.call.now.types.now numbers
    (λ values. GoesOn (operation_of c.args.call.now) c.args.accum values 0
    (numbers c.constant-total.result.place))) (rw c.word_of.ensures at c.constant-total.ensures)
    (λ numbers has p values are last h. subst (λ (z : ℤ). IsAddedUp (operation_of c.args.call.now) c.args.accum (zip c.args.call.now.signs.now c.args.call.now.types.now) values z last) p h)

pub plan_step-total-requires-clause-full : goal.plan_step-total-requires-clause-full
plan_step-total-requires-clause-full c =
    let call = c.args.call.now in
    let signs : length call.signs.now ≡ length call.types.now = subst (λ (op : Op). HasSigns op call.signs.now (length call.types.now)) c.requires.is_sum c.requires.can.prepared.signs in
    let full = subst (λ (op : Op). HasFullType op call.signs.now call.types.now) c.requires.is_sum c.requires.can.prepared.full_type in
    rw c.side_of-side.ensures (full_at c.args.accum call.signs.now call.types.now c.loop-input.input (omega (arith, c.loop-input-test.true)) signs full)

pub loop-input-preserved : goal.loop-input-preserved
loop-input-preserved c =
    let call = c.args.call.now in
    let i : ℕ = c.loop-input.input in
    let inside : i < length call.types.now = omega (arith, c.loop-input-test.true) in
    let signs : length call.signs.now ≡ length call.types.now = subst (λ (op : Op). HasSigns op call.signs.now (length call.types.now)) c.requires.is_sum c.requires.can.prepared.signs in
    made-then (λ numbers. OfArguments call.types.now numbers
    (λ values. GoesOn (operation_of call) c.args.accum values (i + 1) (numbers c.plan_step-total.result.place)))
    c.loop-input.invariant (rw c.side_of-side.ensures at c.plan_step-total.ensures)
    (λ numbers has later before step values are.
    let total : InRange c.args.accum (numbers c.loop-input.total.place) =
    word-range c.args.accum (numbers c.loop-input.total.place)
    (subst (λ (w : Word). InWord w.width w.signed (numbers c.loop-input.total.place))
    c.loop-input.invariant.has_word (later c.loop-input.total c.loop-input.invariant.at)) in
    let range : InRange (type_of call.types.now i) (numbers i) = subst (InRange (type_of call.types.now i)) (sym (are.each i inside)) (are.in_range.in_range i inside) in
    goes_more (operation_of call) c.args.accum values i (numbers c.loop-input.total.place) (numbers c.plan_step-total.result.place) inside signs are.in_range.count (before values are)
    (subst (λ (v : ℤ). IsStep (operation_of call) c.args.accum
    (get_or call.signs.now i false, type_of call.types.now i) v (numbers c.loop-input.total.place)
    (numbers c.plan_step-total.result.place)) (are.each i inside) (step total range)))

pub returns : goal.returns
returns c =
    let call = c.args.call.now in
    let f : to_z w16 (of_z w16 c.frac.result) ≡ frac_of c.args.accum = to_z-of_z w16 c.frac.result (record { sfits = c.frac.type_inv }) ∙ c.frac.ensures in
    made-then (λ numbers. OfArguments call.types.now numbers
    (λ values. OpGives (operation_of call) values (numbers c.convert_to_result.result.place)))
    c.loop-input.invariant (rw f at c.convert_to_result.ensures)
    (λ numbers has later p q values are.
    subst (λ (op : Op). Gives op (operation_of call) call.types.now values (numbers c.convert_to_result.result.place)) (sym c.requires.is_sum) (
      numbers c.loop-input.total.place,
      goes_all (operation_of call) c.args.accum values c.loop-input.input
          (numbers c.loop-input.total.place) (omega (arith, c.loop-input-test.false, are.in_range.count))
          (p values are),
      q c.args.accum refl,
    ))
