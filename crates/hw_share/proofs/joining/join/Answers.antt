use Rattle.hw_net.proofs.Growth.{extends-trans}
use Rattle.hw_share.proofs.Growth.{there-later}
use Rattle.hw_share.proofs.Joins.{has-joined, joined-part, begun-part, word-of-both}
use Rattle.hw_share.proofs.ClockTests.{tests-later}
use Rattle.hw_share.proofs.joining.join.Goals as goal

pub returns-in_default : goal.returns-in_default
returns-in_default c = λ before grew tests. (begun-part before c.args.net.now c.args.known c.args.one c.in_default.is, tests)

pub test_for-requires : goal.test_for-requires
test_for-requires c =
    let can = c.requires.can c.in-Some.ends c.in-Some.is in
    record { cycles = can.cycles; period = can.is.some; inside = can.is.inside }

pub choose-requires : goal.choose-requires
choose-requires c =
    let is = c.in_ok-test.ensures.test c.requires.tests.0 c.requires.tests.1 in
    let can = c.requires.can c.in-Some.ends c.in-Some.is in
    record {
      test = (is.test c.requires.tests.2).there;
      word = word-of-both c.args.net.now c.test_for.new.net c.args.one.left c.in-Some.ends.left c.in_ok-test.ensures.grown.appends.extends can.left;
    }

pub choose-requires-2-clause-word : goal.choose-requires-2-clause-word
choose-requires-2-clause-word c =
    let can = c.requires.can c.in-Some.ends c.in-Some.is in
    word-of-both c.args.net.now c.choose.new.net c.args.one.right c.in-Some.ends.right
    (extends-trans c.args.net.now c.test_for.new.net c.choose.new.net c.in_ok-test.ensures.grown.appends.extends c.in_ok-left.ensures.grown.appends.extends) can.right

pub choose-requires-2-clause-test : goal.choose-requires-2-clause-test
choose-requires-2-clause-test c =
    let is = c.in_ok-test.ensures.test c.requires.tests.0 c.requires.tests.1 in
    there-later c.test_for.new.net c.choose.new.net c.in_ok-test.test c.in_ok-left.ensures.grown.appends.extends (is.test c.requires.tests.2).there

pub returns : goal.returns
returns c = λ before grew tests.
    let can = c.requires.can c.in-Some.ends c.in-Some.is in
    let is = c.in_ok-test.ensures.test before grew in
    let more = extends-trans c.test_for.new.net c.choose.new.net c.choose-2.new.net c.in_ok-left.ensures.grown.appends.extends c.in_ok-right.ensures.grown.appends.extends in
    let has = has-joined before c.args.net.now c.test_for.new.net c.choose.new.net c.choose-2.new.net c.in-Some.ends c.args.one c.in_ok-test.test c.in_ok-left.left c.in_ok-right.right can grew
    (is.test tests) c.in_ok-test.ensures.grown c.in_ok-left.ensures.chosen c.in_ok-left.ensures.grown c.in_ok-right.ensures.chosen c.in_ok-right.ensures.grown in (
      joined-part before c.args.net.now c.choose-2.new.net c.args.known c.in-Some.ends c.args.one (record { left = c.in_ok-left.left; right = c.in_ok-right.right }) c.in-Some.is has,
      tests-later before c.test_for.new.net c.choose-2.new.net c.test_for.new.moments.entries more (is.tests tests),
    )
