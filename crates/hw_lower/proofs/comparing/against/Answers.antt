use Rattle.std.specs.Int.{w128}
use Rattle.std.proofs.lemmas.Int.{to_z-of_z}
use Rattle.dg_model.specs.Operation.{compares}
use Rattle.hw_lower.specs.inner.PlanSteps.{IsSwitched}
use Rattle.hw_lower.proofs.StepChains.{made-both, made-then}
use Rattle.hw_lower.proofs.Truths.{switched-is}
use Rattle.hw_lower.proofs.PlanSteps.{at-later}
use Rattle.hw_lower.proofs.comparing.against.Goals as goal

pub returns : goal.returns
returns c =
    let own = to_z-of_z w128 c.args.threshold c.ranges.threshold in
    made-then (λ numbers. IsSwitched (compares c.args.operator (numbers c.args.of.control.place) c.args.threshold)
    (numbers c.args.of.first.place) (numbers c.args.of.other.place) (numbers c.choose.result.place))
    (made-both c.constant-bound.ensures c.compare-test.ensures) c.choose.ensures
    (λ numbers has later p q. switched-is
    (compares c.args.operator (numbers c.args.of.control.place) c.args.threshold)
    (numbers c.compare-test.result.place) (numbers c.args.of.first.place) (numbers c.args.of.other.place)
    (numbers c.choose.result.place) (rw own at (rw p.0 at p.1)) q)

pub constant-bound-requires-clause-word : goal.constant-bound-requires-clause-word
constant-bound-requires-clause-word c = c.requires.control.valid

pub compare-test-requires-clause-one : goal.compare-test-requires-clause-one
compare-test-requires-clause-one c = at-later _ _ c.args.of.control c.constant-bound.ensures.grows c.requires.control

pub compare-test-requires-clause-other : goal.compare-test-requires-clause-other
compare-test-requires-clause-other c = c.constant-bound.ensures.at

pub choose-requires-clause-test : goal.choose-requires-clause-test
choose-requires-clause-test c = c.compare-test.ensures.at

pub choose-requires-clause-chosen : goal.choose-requires-clause-chosen
choose-requires-clause-chosen c = at-later _ _ c.args.of.first c.compare-test.ensures.grows (at-later _ _ c.args.of.first c.constant-bound.ensures.grows c.requires.first)

pub choose-requires-clause-other : goal.choose-requires-clause-other
choose-requires-clause-other c = at-later _ _ c.args.of.other c.compare-test.ensures.grows (at-later _ _ c.args.of.other c.constant-bound.ensures.grows c.requires.other)
