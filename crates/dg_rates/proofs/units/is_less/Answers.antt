use Rattle.std.proofs.Common.{◌≡◌, ◌^◌, ◌≤◌, sym, subst, true≢false, arith}
use Rattle.std.proofs.lemmas.Bool.{ltb-true, lt-ltb}
use Rattle.dg_model.specs.Periods.{units_of}
use Rattle.dg_rates.specs.inner.Units.{Shows}
use Rattle.dg_rates.proofs.OneUnit.{less_aligned, other_few}
use Rattle.dg_rates.proofs.units.is_less.Goals as goal

pub returns-in-Some-second : goal.returns-in-Some-second
returns-in-Some-second c =
    let a = c.in_one_unit-first.ensures in
    let left : c.in-Some.first ≡ a.left = subst (Shows a.left) c.in-Some.is a.left_shown in
    let right : c.in-Some-second.second ≡ a.right = subst (Shows a.right) c.in-Some-second.is a.right_shown in
    let less = less_aligned (units_of c.args.period) (units_of c.args.other) c.in_one_unit-first.result a in (
      λ e. less.0 (omega (arith, ltb-true c.in-Some.first c.in-Some-second.second e, left, right)),
      λ l. lt-ltb c.in-Some.first c.in-Some-second.second (omega (arith, less.1 l, left, right)),
    )

pub returns-in-None : goal.returns-in-None
returns-in-None c =
    let a = c.in_one_unit-first.ensures in
    let large : 2 ^ 128 ≤ a.left = subst (Shows a.left) c.in-None.is a.left_shown in
    let less = less_aligned (units_of c.args.period) (units_of c.args.other) c.in_one_unit-first.result a in
    (λ e. absurd (true≢false (sym e)), λ l. absurd (omega (arith, less.1 l, large, other_few a.left a.right a.small large)))
