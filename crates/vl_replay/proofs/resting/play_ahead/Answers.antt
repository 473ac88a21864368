use Rattle.std.proofs.Common.{◌≤◌, ◌-◌, ◌*◌, List, length, sym, subst, ◌∙◌, arith}
use Rattle.std.proofs.Math.Nat.{mul-le-mul_right}
use Rattle.vl_ast.proofs.Ranges.{clocks-some}
use Rattle.vl_ast.specs.Control.{is_stallable}
use Rattle.vl_eval.specs.Machine.{source_of}
use Rattle.vl_replay.specs.Sampled.{numbers_of}
use Rattle.vl_replay.specs.declared.drivers.Driver.{Driver}
use Rattle.vl_replay.specs.inner.Drivers.{AreBits, AreWithin, driver_bits}
use Rattle.vl_replay.proofs.Bits.{driver-fits}
use Rattle.vl_replay.proofs.Rest.{rested}
use Rattle.vl_replay.proofs.Scores.{fit-score, within-columns}
use Rattle.vl_replay.proofs.resting.play_ahead.Goals as goal

pub put_bits-requires-clause-within : goal.put_bits-requires-clause-within
put_bits-requires-clause-within c =
    subst (λ (xs : List Driver). AreWithin c.args.score.now.stimulus.columns xs) (sym c.as_slice.ensures.value) (within-columns (source_of c.args.machine.now) c.args.score.now c.requires.begins.is)

pub overflow_mul-span : goal.overflow_mul-span
overflow_mul-span c =
    let late = c.requires.late in
    let cycles = c.requires.begins.is.cycles in
    let few = (clocks-some (source_of c.args.machine.now)).1 in
    let le : (c.args.span - c.quiet_from-quiet.result) * c.args.score.now.cycles ≤ 16777216 * c.args.score.now.cycles = mul-le-mul_right c.args.score.now.cycles (omega (arith, late)) in
    omega (arith, le, cycles, few)

pub rest-requires-clause-fit : goal.rest-requires-clause-fit
rest-requires-clause-fit c =
    let score = c.args.score.now in
    let m = source_of c.play-2.new.machine in
    let quiet = c.quiet_from-quiet.result in
    let numbers = numbers_of score.stimulus in
    let are = subst (λ (xs : List Driver). AreBits (driver_bits numbers score.stimulus.lines quiet) xs (length xs) c.put_bits.new.bits) c.as_slice.ensures.value c.put_bits.ensures in
    fit-score m score c.play-2.ensures.played.score_is (driver_bits numbers score.stimulus.lines quiet) (driver-fits numbers score.stimulus.lines quiet (is_stallable m)) c.put_bits.new.bits are

pub returns-clause-played : goal.returns-clause-played
returns-clause-played c =
    let score = c.args.score.now in
    let quiet = c.quiet_from-quiet.result in
    let are = subst (λ (xs : List Driver). AreBits
    (driver_bits (numbers_of score.stimulus) score.stimulus.lines quiet) xs (length xs) c.put_bits.new.bits)
    c.as_slice.ensures.value c.put_bits.ensures in
    let more = c.if-span-quiet.false in
    rested score c.args.score.now.window quiet c.args.span c.play-2.new.machine c.rest.new.machine
    c.put_bits.new.bits c.play-2.new.cells c.play-2.ensures.played c.quiet_from-quiet.ensures.quiet
    (omega (arith, more)) are
    c.rest.ensures.source c.rest.ensures.ready c.rest.ensures.leads

pub returns-then-span-quiet-clause-played : goal.returns-then-span-quiet-clause-played
returns-then-span-quiet-clause-played c = c.play.ensures.played

pub returns-then-span-quiet-clause-source : goal.returns-then-span-quiet-clause-source
returns-then-span-quiet-clause-source c = c.play.ensures.source

pub returns-in_err-kept-clause-source : goal.returns-in_err-kept-clause-source
returns-in_err-kept-clause-source c = c.play-2.ensures.source

pub returns-clause-source : goal.returns-clause-source
returns-clause-source c = c.rest.ensures.source ∙ c.play-2.ensures.source

pub rest-requires-clause-ready : goal.rest-requires-clause-ready
rest-requires-clause-ready c = c.play-2.ensures.played.ready

pub rest-requires-clause-room : goal.rest-requires-clause-room
rest-requires-clause-room c = c.in_ok-kept.ensures.room
