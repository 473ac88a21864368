use Rattle.std.proofs.Common.{◌≡◌, ◌+◌, ◌-◌, refl, sym, subst, ◌∙◌, arith}
use Rattle.vl_eval.specs.Given.{driven_ports, given}
use Rattle.vl_eval.specs.Machine.{row_of, source_of}
use Rattle.vl_eval.specs.declared.machine.Snapshot.{Snapshot}
use Rattle.vl_replay.specs.inner.Rest.{IsSince, Leads}
use Rattle.vl_replay.proofs.Rounds.{since-all, since-anew, since-back, since-edge, since-none}
use Rattle.vl_replay.proofs.resting.come_back.Goals.{then-since-most, else-since-most}
use Rattle.vl_replay.proofs.resting.come_back.Goals as goal

pub loop-clock-init : goal.loop-clock-init
loop-clock-init c =
    let m = source_of c.args.machine.now in
    record {
      ready = c.requires.ready;
      source = refl;
      few = omega arith;
      is = since-none m (given (driven_ports m) c.args.bits.now) c.args.machine.now c.keep.new.snapshot c.keep.ensures;
    }

pub returns-then-is_at-clause-leads : goal.returns-then-is_at-clause-leads
returns-then-is_at-clause-leads c =
    let m = source_of c.args.machine.now in
    let inputs = given (driven_ports m) c.args.bits.now in
    let first = row_of c.args.machine.now in
    let loop = c.loop-clock in
    let is = since-edge m c.args.bits.now first loop.clock loop.since loop.machine loop.kept loop.invariant.is
    c.edge.new.self loop.invariant.source c.edge.ensures.row (c.edge.ensures.kept loop.kept) in
    let back = c.is_at.ensures.at c.if-is_at.true is.row is.kept in
    let below = c.loop-clock-test.true in
    since-back m inputs first (loop.clock + 1) (loop.since + 1) c.edge.new.self loop.kept is c.args.clocks _ (omega (arith, below)) back

pub keep-requires-then-since-most-clause-room : goal.keep-requires-then-since-most-clause-room
keep-requires-then-since-most-clause-room c =
    let m = source_of c.args.machine.now in
    let loop = c.loop-clock in
    let is = loop.invariant.is in
    (c.edge.ensures.kept loop.kept is.row is.kept).room

pub loop-clock-preserved : goal.loop-clock-preserved
loop-clock-preserved c =
    let m = source_of c.args.machine.now in
    let inputs = given (driven_ports m) c.args.bits.now in
    let first = row_of c.args.machine.now in
    let loop = c.loop-clock in
    let later = c.edge.new.self in
    let is = since-edge m c.args.bits.now first loop.clock loop.since loop.machine loop.kept loop.invariant.is later loop.invariant.source c.edge.ensures.row (c.edge.ensures.kept loop.kept) in
    let few = loop.invariant.few in
    record {
      ready = c.edge.ensures.ready;
      source = c.edge.ensures.source ∙ loop.invariant.source;
      few = elim c.if-since-most.branch [
        | then-since-most w ↦ (let s = w.since-is in omega (arith, s))
        | else-since-most w ↦ (let s = w.since-is in omega (arith, s, few))
      ];
      is = elim c.if-since-most.branch [
        | then-since-most w ↦ (
            subst (λ (k : Snapshot). IsSince m inputs first (loop.clock + 1) c.if-since-most.since later k) (sym w.kept-is)
            (subst (λ n. IsSince m inputs first (loop.clock + 1) n later w.keep-then-since-most.new.snapshot) (sym w.since-is)
            (since-anew m inputs first (loop.clock + 1) (loop.since + 1) later loop.kept is w.keep-then-since-most.new.snapshot w.keep-then-since-most.ensures)))
        | else-since-most w ↦ (
            subst (λ (k : Snapshot). IsSince m inputs first (loop.clock + 1) c.if-since-most.since later k) (sym w.kept-is)
            (subst (λ n. IsSince m inputs first (loop.clock + 1) n later loop.kept) (sym w.since-is) is))
      ];
    }

pub returns-clause-leads : goal.returns-clause-leads
returns-clause-leads c =
    let m = source_of c.args.machine.now in
    let inputs = given (driven_ports m) c.args.bits.now in
    let loop = c.loop-clock in
    let ended = c.loop-clock-test.false in
    let last = loop.auto.clock-end in
    let all : loop.clock ≡ c.args.clocks - 0 = omega (arith, ended, last) in
    subst (λ n. Leads m inputs (row_of c.args.machine.now) n (row_of loop.machine)) all
    (since-all m inputs (row_of c.args.machine.now) loop.clock loop.since loop.machine loop.kept loop.invariant.is)
