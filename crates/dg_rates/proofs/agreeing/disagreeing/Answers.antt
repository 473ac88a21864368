use Rattle.std.proofs.Common.{◌≡◌, ℕ, Bool, List, [], drop, refl, subst}
use Rattle.std.specs.Prelude.{find, not}
use Rattle.std.proofs.lemmas.List.{drop_all}
use Rattle.dg_model.specs.Periods.{period_at}
use Rattle.dg_model.specs.Rate.{suits}
use Rattle.dg_rates.proofs.agreeing.disagreeing.Goals as goal

pub loop-source-init : goal.loop-source-init
loop-source-init c = refl

pub returns-clause-first : goal.returns-clause-first
returns-clause-first c =
    let asked = c.args.asked.now in
    let differs : ℕ → Bool = λ source. not (suits c.args.joins c.args.own (period_at c.args.periods.now source)) in
    let none : drop c.loop-source.source-index asked ≡ [] = drop_all c.loop-source.source-index asked c.loop-source-test.false in
    subst (λ (rest : List ℕ). find differs rest ≡ find differs asked) none c.loop-source.invariant
