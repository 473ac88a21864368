use Rattle.std.proofs.Common.{ℕ, List, length, subst, arith}
use Rattle.std.proofs.lemmas.Result.{IfOk-weaker}
use Rattle.hw_rules.specs.inner.Own.{IsCount}
use Rattle.hw_rules.specs.Times.{timing_in}
use Rattle.hw_rules.proofs.Multipliers.{units_are}
use Rattle.hw_rules.proofs.owing.multiplications.Goals as goal

pub returns : goal.returns
returns c =
    let shared = units_are c.slots_differ.ensures.units c.units_are_used.ensures c.args.checked.now.diagram
    c.args.plan.now (timing_in c.args.times.now) c.args.times.now.slots.units c.requires.times.slots.units
    c.in_ok-shared.shared
    (subst (λ (units : List ℕ). IsCount units (length units) c.in_ok-shared.shared) c.as_slice.ensures c.in_ok-shared.ensures) in
    let own = c.in_ok-own.ensures in
    IfOk-weaker c.total.result _ _ (λ count is. omega (arith, is, shared, own)) c.total.ensures
