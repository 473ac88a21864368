use Rattle.std.proofs.Common.{◌≡◌, ◌<◌, ◌≤◌, ◌*◌, List, length, ap, sym, subst, ◌∙◌, arith}
use Rattle.std.proofs.Math.Nat.{suc-mul}
use Rattle.std.proofs.Math.Numerals.{suc-eq-add-one}
use Rattle.vl_ast.specs.Control.{is_stallable}
use Rattle.vl_eval.specs.Machine.{source_of}
use Rattle.vl_replay.specs.declared.drivers.Driver.{Driver}
use Rattle.vl_replay.specs.inner.Drivers.{AreBits, reset_bits}
use Rattle.vl_replay.specs.inner.Play.{IsPlayed}
use Rattle.vl_replay.proofs.Bits.{reset-fits}
use Rattle.vl_replay.proofs.Clocks.{begun}
use Rattle.vl_replay.proofs.Scores.{fit-score}
use Rattle.vl_replay.proofs.playing.play.Goals as goal

pub edge-requires : goal.edge-requires
edge-requires c =
    let m = source_of c.args.machine.now in
    record {
      ready = c.requires.ready;
      fit = fit-score m c.args.score.now c.requires.is reset_bits (reset-fits (is_stallable m)) c.put_reset.new.bits
          (subst (λ (xs : List Driver). AreBits reset_bits xs (length xs) c.put_reset.new.bits) c.as_slice.ensures.value c.put_reset.ensures);
    }

pub loop-sample-init : goal.loop-sample-init
loop-sample-init c =
    let start : 0 ≡ 0 * c.args.score.now.cycles = omega arith in
    let are = subst (λ (xs : List Driver). AreBits reset_bits xs (length xs) c.put_reset.new.bits) c.as_slice.ensures.value c.put_reset.ensures in
    let played = begun c.args.score.now c.args.score.now.window c.args.machine.now c.edge.new.self
    c.put_reset.new.bits c.args.cells.now c.requires.some c.requires.is c.edge.ensures.source
    c.edge.ensures.ready c.requires.row are c.edge.ensures.row c.requires.room in
    record {
      played = subst (λ clocks. IsPlayed c.args.score.now c.args.score.now.window clocks c.edge.new.self c.args.cells.now) start played;
      wide = c.put_reset.auto.bits ∙ c.requires.wide;
      source = c.edge.ensures.source;
    }

pub loop-sample-preserved : goal.loop-sample-preserved
loop-sample-preserved c =
    let sample = c.loop-sample.sample in
    let cycles = c.args.score.now.cycles in
    let next = sym (suc-mul sample cycles) ∙ ap (λ n. n * cycles) (suc-eq-add-one sample) in
    record {
      played = subst (λ clocks. IsPlayed c.args.score.now c.args.score.now.window clocks c.play_sample.new.machine c.play_sample.new.cells) next c.play_sample.ensures.played;
      wide = c.play_sample.ensures.wide;
      source = c.play_sample.ensures.source ∙ c.loop-sample.invariant.source;
    }

pub play_sample-requires : goal.play_sample-requires
play_sample-requires c = record {
  played = c.loop-sample.invariant.played;
  wide = c.loop-sample.invariant.wide;
}

pub loop-sample-smaller : goal.loop-sample-smaller
loop-sample-smaller c = let here : c.loop-sample.sample < c.args.span = c.loop-sample-test.true in omega (arith, here)

pub returns : goal.returns
returns c =
    let sample = c.loop-sample.sample in
    let most : sample ≤ c.args.span = c.loop-sample.auto.sample-end in
    let least : c.args.span ≤ sample = c.loop-sample-test.false in
    let all : sample ≡ c.args.span = omega (arith, most, least) in
    record {
      played = subst (λ n. IsPlayed c.args.score.now c.args.score.now.window (n * c.args.score.now.cycles) c.loop-sample.machine c.loop-sample.cells) all c.loop-sample.invariant.played;
      source = c.loop-sample.invariant.source;
    }
