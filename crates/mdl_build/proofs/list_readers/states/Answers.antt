use Rattle.std.proofs.Common.{inl, inr, List, length, refl, ap, arith}
use Rattle.fx_type.specs.declared.decimal.Decimal.{Decimal}
use Rattle.mdl_build.proofs.list_readers.states.Goals as goal

pub returns-in_default : goal.returns-in_default
returns-in_default c = λ setting given. (rw c.in_default.is at c.in_ok-taps.ensures) (length given.1.taps) (given.1.taps, given.1.are_taps, refl)

pub returns-in_default-2 : goal.returns-in_default-2
returns-in_default-2 c = λ setting given. (rw c.in_default-2.is at c.in_ok-states.ensures) given.0 given.1.list

pub returns-then-not-fits : goal.returns-then-not-fits
returns-then-not-fits c = λ setting given.
    let values = c.values_are_one.ensures in
    let found = rw c.in-Some.is at c.in_ok-taps.ensures in
    let states = ap (λ (l : List Decimal). length l) (values.lists c.args.text.now given.0 c.in-Some-2.states given.1.list (rw c.in-Some-2.is at c.in_ok-states.ensures)) in
    let taps = ap (λ (l : List Decimal). length l) (values.lists c.args.coefficients.now given.1.taps found.0 given.1.are_taps.list found.1.list) in
    let here = ap (λ (l : List Decimal). length l) c.as_slice.ensures in
    elim given.1.count [
      | inl single ↦ c.if-not-fits.ensures.0 (omega (arith, single, states, here))
      | inr each ↦ c.if-not-fits.ensures.1 (omega (arith, each, states, taps, here, found.2))
    ]
