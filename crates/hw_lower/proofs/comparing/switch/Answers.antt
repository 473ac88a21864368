use Rattle.std.proofs.Common.{pos, not}
use Rattle.std.specs.Int.{w128}
use Rattle.std.specs.Ordering.{int_eq}
use Rattle.std.proofs.lemmas.Int.{to_z-of_z}
use Rattle.hw_lower.specs.inner.PlanSteps.{IsSwitched}
use Rattle.hw_lower.proofs.StepChains.{made-map}
use Rattle.hw_lower.proofs.Truths.{not-zero-is}
use Rattle.hw_lower.proofs.comparing.switch.Goals as goal

pub returns-in-AtLeast : goal.returns-in-AtLeast
returns-in-AtLeast c =
    let own = to_z-of_z w128 c.args.threshold c.ranges.threshold in
    rw c.in-AtLeast.is (rw own at c.against.ensures)

pub returns-in-Above : goal.returns-in-Above
returns-in-Above c =
    let own = to_z-of_z w128 c.args.threshold c.ranges.threshold in
    rw c.in-Above.is (rw own at c.against-in-Above.ensures)

pub returns-in-NotZero : goal.returns-in-NotZero
returns-in-NotZero c =
    rw c.in-NotZero.is
    (made-map (λ numbers. IsSwitched (not (int_eq (numbers c.args.of.control.place) (pos 0)))
    (numbers c.args.of.first.place) (numbers c.args.of.other.place) (numbers c.choose.result.place))
    c.choose.ensures
    (λ numbers has p. not-zero-is (numbers c.args.of.control.place) (numbers c.args.of.first.place) (numbers c.args.of.other.place) (numbers c.choose.result.place) p))

pub against-requires : goal.against-requires
against-requires c = rw (to_z-of_z w128 c.args.threshold c.ranges.threshold) c.requires

pub against-requires-in-Above : goal.against-requires-in-Above
against-requires-in-Above c = rw (to_z-of_z w128 c.args.threshold c.ranges.threshold) c.requires
