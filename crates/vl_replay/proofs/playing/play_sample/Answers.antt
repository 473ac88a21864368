use Rattle.std.proofs.Common.{◌≡◌, ◌+◌, ◌*◌, ◌≤◌, ℕ, List, length, refl, subst, sym, ◌∙◌, arith}
use Rattle.vl_eval.specs.Machine.{source_of}
use Rattle.vl_replay.specs.declared.drivers.Driver.{Driver}
use Rattle.vl_replay.specs.inner.Drivers.{AreBits, AreWithin, driver_bits}
use Rattle.vl_replay.specs.inner.Play.{IsPlayed}
use Rattle.vl_replay.specs.Sampled.{numbers_of}
use Rattle.vl_replay.proofs.Scores.{within-columns}
use Rattle.vl_replay.proofs.playing.play_sample.Goals as goal

pub put_bits-requires-clause-within : goal.put_bits-requires-clause-within
put_bits-requires-clause-within c =
    subst (λ (xs : List Driver). AreWithin c.args.score.now.stimulus.columns xs) (sym c.as_slice.ensures.value)
    (within-columns (source_of c.args.machine.now) c.args.score.now c.requires.played.score_is)

pub loop-phase-init : goal.loop-phase-init
loop-phase-init c =
    let before = c.args.sample * c.args.score.now.cycles in
    let start : before ≡ before + 0 = omega arith in
    record {
      played = subst (λ (clocks : ℕ). IsPlayed c.args.score.now c.args.score.now.window clocks c.args.machine.now c.args.cells.now) start c.requires.played;
      source = refl;
    }

pub loop-phase-preserved : goal.loop-phase-preserved
loop-phase-preserved c =
    let before = c.args.sample * c.args.score.now.cycles in
    let phase = c.loop-phase.phase in
    let next : before + phase + 1 ≡ before + (phase + 1) = omega arith in
    record {
      played = subst (λ (clocks : ℕ). IsPlayed c.args.score.now c.args.score.now.window clocks c.step.new.machine c.step.new.cells) next c.step.ensures.played;
      source = c.step.ensures.source ∙ c.loop-phase.invariant.source;
    }

pub step-requires : goal.step-requires
step-requires c =
    let score = c.args.score.now in
    record {
      played = c.loop-phase.invariant.played;
      phase = c.loop-phase-test.true;
      bits = subst (λ (xs : List Driver). AreBits
          (driver_bits (numbers_of score.stimulus) score.stimulus.lines c.args.sample) xs
          (length xs) c.put_bits.new.bits) c.as_slice.ensures.value c.put_bits.ensures;
    }

pub returns : goal.returns
returns c =
    let cycles = c.args.score.now.cycles in
    let phase = c.loop-phase.phase in
    let most : phase ≤ cycles = c.loop-phase.auto.phase-end in
    let least : cycles ≤ phase = c.loop-phase-test.false in
    let all : phase ≡ cycles = omega (arith, most, least) in
    record {
      played = subst (λ (n : ℕ). IsPlayed c.args.score.now c.args.score.now.window (c.args.sample * cycles + n) c.loop-phase.machine c.loop-phase.cells) all c.loop-phase.invariant.played;
      wide = c.put_bits.auto.bits ∙ c.requires.wide;
      source = c.loop-phase.invariant.source;
    }
