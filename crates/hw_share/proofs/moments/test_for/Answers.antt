use Rattle.std.proofs.Common.{[], ◌≡◌, ◌∙◌, sym}
use Rattle.hw_share.specs.inner.Parts.{IsChoosing}
use Rattle.hw_share.proofs.Growth.{grows-self}
use Rattle.hw_share.proofs.ClockTests.{known-tested, put-tested}
use Rattle.hw_share.proofs.moments.test_for.Goals as goal

pub returns-in-Some-clause-test : goal.returns-in-Some-clause-test
returns-in-Some-clause-test c = λ before grew. known-tested before c.args.net.now c.args.moments.now.entries
    c.args.frame c.args.slot c.in-Some.number (sym c.get.ensures.value ∙ sym c.copied.ensures ∙ c.in-Some.is)

pub returns-in-Some-clause-grown : goal.returns-in-Some-clause-grown
returns-in-Some-clause-grown c = grows-self c.args.net.now [] (IsChoosing (λ other. other ≡ c.args.frame))

pub returns-clause-test : goal.returns-clause-test
returns-clause-test c = λ before grew.
    put-tested before c.args.net.now c.test_at.new.net c.args.moments.now.entries c.insert.new.self.entries c.args.frame c.args.slot c.in_ok-number.number c.in_ok-insert.ensures.updates.0
    grew c.in_ok-number.ensures.grown.appends.extends c.in_ok-number.ensures.test

pub returns-clause-grown : goal.returns-clause-grown
returns-clause-grown c = c.in_ok-number.ensures.grown
