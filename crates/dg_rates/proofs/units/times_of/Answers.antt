use Rattle.std.proofs.Common.{◌≡◌, ◌^◌, ◌≤◌, sym, subst}
use Rattle.dg_model.specs.Periods.{units_of}
use Rattle.dg_rates.specs.inner.Units.{IsTimes, Shows}
use Rattle.dg_rates.proofs.OneUnit.{times_aligned, too_small, first_few, if_some_also}
use Rattle.dg_rates.proofs.units.times_of.Goals as goal

pub returns-in_default-second-clause-none : goal.returns-in_default-second-clause-none
returns-in_default-second-clause-none c = λ none times t.
    let a = c.in_one_unit-first.ensures in
    let large : 2 ^ 128 ≤ a.right = subst (Shows a.right) c.in_default-second.is a.right_shown in
    too_small a.left a.right times a.some_left (first_few a.left a.right a.small large) large
    ((times_aligned (units_of c.args.period) (units_of c.args.base) c.in_one_unit-first.result a times).1 t)

pub returns-clause-some : goal.returns-clause-some
returns-clause-some c =
    let a = c.in_one_unit-first.ensures in
    let left : c.in-Some.first ≡ a.left = subst (Shows a.left) c.in-Some.is a.left_shown in
    let right : c.in-Some-second.second ≡ a.right = subst (Shows a.right) c.in-Some-second.is a.right_shown in
    if_some_also c.quotient.result (IsTimes c.in-Some.first c.in-Some-second.second) (IsTimes (units_of c.args.period) (units_of c.args.base))
    (λ times t. (times_aligned (units_of c.args.period) (units_of c.args.base) c.in_one_unit-first.result a times).0
    (subst (λ n. IsTimes n a.right times) left (subst (λ n. IsTimes c.in-Some.first n times) right t))) c.quotient.ensures.some

pub returns-clause-none : goal.returns-clause-none
returns-clause-none c = λ none times t.
    let a = c.in_one_unit-first.ensures in
    let left : c.in-Some.first ≡ a.left = subst (Shows a.left) c.in-Some.is a.left_shown in
    let right : c.in-Some-second.second ≡ a.right = subst (Shows a.right) c.in-Some-second.is a.right_shown in
    c.quotient.ensures.none none times (subst (λ n. IsTimes n c.in-Some-second.second times) (sym left) (subst (λ n. IsTimes a.left n times) (sym right)
    ((times_aligned (units_of c.args.period) (units_of c.args.base) c.in_one_unit-first.result a times).1 t)))
