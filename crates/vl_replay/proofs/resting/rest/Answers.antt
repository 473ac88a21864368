use Rattle.std.proofs.Common.{◌≡◌, ◌<◌, ◌≤◌, ◌+◌, ◌-◌, sym, subst, ◌∙◌, arith}
use Rattle.vl_eval.specs.Given.{driven_ports, given}
use Rattle.vl_eval.specs.Machine.{AreFit, row_of, source_of}
use Rattle.vl_replay.specs.inner.Rest.{Leads}
use Rattle.vl_replay.proofs.Rounds.{edge-of, leads-more}
use Rattle.vl_replay.proofs.resting.rest.Goals as goal

pub loop-clock-preserved : goal.loop-clock-preserved
loop-clock-preserved c =
    let m = source_of c.args.machine.now in
    let inputs = given (driven_ports m) c.args.bits.now in
    let loop = c.loop-clock in
    let passed = c.args.clocks - c.come_back-left.result + loop._clock in
    let edge = edge-of m c.args.bits.now loop.machine c.edge.new.self loop.invariant.source c.edge.ensures.row in
    let more : c.args.clocks - c.come_back-left.result + loop._clock + 1 ≡ c.args.clocks - c.come_back-left.result + (loop._clock + 1) = omega arith in
    record {
      ready = c.edge.ensures.ready;
      source = c.edge.ensures.source ∙ loop.invariant.source;
      leads = subst (λ n. Leads m inputs (row_of c.args.machine.now) n (row_of c.edge.new.self)) more
          (leads-more m inputs (row_of c.args.machine.now) passed (row_of loop.machine)
          (row_of c.edge.new.self) loop.invariant.leads edge);
    }

pub come_back-left-requires : goal.come_back-left-requires
come_back-left-requires c = record {
  ready = c.requires.ready;
  fit = c.requires.fit;
  room = c.requires.room;
}

pub edge-requires : goal.edge-requires
edge-requires c = record {
  ready = c.loop-clock.invariant.ready;
  fit = subst (λ m. AreFit (driven_ports m) c.args.bits.now) (sym c.loop-clock.invariant.source) c.requires.fit;
}

pub loop-clock-init : goal.loop-clock-init
loop-clock-init c =
    let m = source_of c.args.machine.now in
    let inputs = given (driven_ports m) c.args.bits.now in
    let passed = c.args.clocks - c.come_back-left.result in
    let none : passed ≡ passed + 0 = omega arith in
    record {
      ready = c.come_back-left.ensures.ready;
      source = c.come_back-left.ensures.source;
      leads = subst (λ n. Leads m inputs (row_of c.args.machine.now) n (row_of c.come_back-left.new.machine)) none c.come_back-left.ensures.leads;
    }

pub loop-clock-smaller : goal.loop-clock-smaller
loop-clock-smaller c = let here : c.loop-clock._clock < c.come_back-left.result = c.loop-clock-test.true in omega (arith, here)

pub returns : goal.returns
returns c =
    let m = source_of c.args.machine.now in
    let inputs = given (driven_ports m) c.args.bits.now in
    let most : c.loop-clock._clock ≤ c.come_back-left.result = c.loop-clock.auto._clock-end in
    let least : c.come_back-left.result ≤ c.loop-clock._clock = c.loop-clock-test.false in
    let few : c.come_back-left.result ≤ c.args.clocks = c.come_back-left.ensures.left in
    let all : c.args.clocks - c.come_back-left.result + c.loop-clock._clock ≡ c.args.clocks = omega (arith, most, least, few) in
    record {
      leads = subst (λ n. Leads m inputs (row_of c.args.machine.now) n (row_of c.loop-clock.machine)) all c.loop-clock.invariant.leads;
      ready = c.loop-clock.invariant.ready;
      source = c.loop-clock.invariant.source;
    }
