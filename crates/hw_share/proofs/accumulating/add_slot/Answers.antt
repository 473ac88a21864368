use Rattle.hw_share.proofs.GateNets.{gate-first, gate-word, opens-first, open-part}
use Rattle.hw_share.proofs.accumulating.add_slot.Goals as goal

pub choose-requires : goal.choose-requires
choose-requires c = record {
  test = c.in_ok-test.ensures.test.there;
  word = gate-word c.args.net.now c.test_at.new.net c.in-Some.gate c.in_ok-test.test c.args.frame c.args.slot c.in_ok-test.ensures.test
      c.in_ok-test.ensures.grown.appends.extends (c.requires.known c.in-Some.gate c.in-Some.is);
}

pub returns-in_default : goal.returns-in_default
returns-in_default c = opens-first c.args.net.now c.test_at.new.net c.args.frame c.args.known c.args.slot c.in_ok-test.test c.in_default.is
    (gate-first c.args.net.now c.test_at.new.net c.args.frame c.args.slot c.in_ok-test.test c.in_ok-test.ensures.test c.in_ok-test.ensures.grown)

pub returns : goal.returns
returns c = open-part c.choose.result c.args.net.now c.test_at.new.net c.choose.new.net c.args.frame c.args.known c.args.slot c.in-Some.gate c.in_ok-test.test c.in-Some.is
    c.in_ok-test.ensures.test c.in_ok-test.ensures.grown c.choose.ensures.chosen c.choose.ensures.grown
