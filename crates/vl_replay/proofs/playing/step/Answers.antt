use Rattle.vl_ast.specs.Control.{is_stallable}
use Rattle.std.proofs.Common.{◌*◌, ℕ, List, length, slice_get, ap, subst, sym, ◌∙◌}
use Rattle.vl_ast.specs.declared.modules.Module.{Module}
use Rattle.vl_ast.specs.Driven.{output_ports}
use Rattle.vl_eval.specs.Machine.{row_of, source_of}
use Rattle.vl_replay.specs.Sampled.{numbers_of}
use Rattle.vl_replay.specs.declared.samplers.Sampler.{Sampler}
use Rattle.vl_replay.specs.inner.Drivers.{driver_bits}
use Rattle.vl_replay.specs.inner.Samplers.{ArePut, number_at}
use Rattle.vl_replay.proofs.Bits.{driver-fits}
use Rattle.vl_replay.proofs.Clocks.{played-more}
use Rattle.vl_replay.proofs.Scores.{fit-score, samplers-many, samplers-step}
use Rattle.vl_replay.proofs.playing.step.Goals as goal

pub edge-requires-clause-fit : goal.edge-requires-clause-fit
edge-requires-clause-fit c =
    let score = c.args.score.now in
    fit-score (source_of c.args.machine.now) score c.requires.played.score_is
    (driver_bits (numbers_of score.stimulus) score.stimulus.lines c.args.sample)
    (driver-fits (numbers_of score.stimulus) score.stimulus.lines c.args.sample
    (is_stallable (source_of c.args.machine.now))) c.args.bits.now c.requires.bits

pub put_numbers-requires : goal.put_numbers-requires
put_numbers-requires c =
    let m = source_of c.args.machine.now in
    let score = c.args.score.now in
    let played = c.requires.played in
    let many = ap length c.as_slice.ensures.value ∙ samplers-many m score played.score_is in
    record {
      ready = c.edge.ensures.ready;
      outputs = many ∙ ap (λ (m : Module). length (output_ports m)) (sym c.edge.ensures.source);
      periods = λ place sampler e. samplers-step m score played.score_is place sampler (ap (λ (xs : List Sampler). slice_get xs place) (sym c.as_slice.ensures.value) ∙ e);
      some = played.some;
      room = played.have.long ∙ ap (λ (n : ℕ). c.args.score.now.window * n) (sym many);
    }

pub returns-clause-played : goal.returns-clause-played
returns-clause-played c =
    let put = subst (λ (xs : List Sampler). ArePut
    (number_at (source_of c.edge.new.self) (row_of c.edge.new.self)) xs c.count.result c.args.score.now.window
    c.args.sample c.args.phase (length xs) c.args.cells.now c.put_numbers.new.cells)
    c.as_slice.ensures.value c.put_numbers.ensures in
    played-more c.args.score.now c.args.score.now.window c.args.sample c.args.phase c.args.machine.now
    c.edge.new.self c.args.bits.now c.args.cells.now c.put_numbers.new.cells c.requires.played c.requires.phase
    c.requires.bits
    c.edge.ensures.source c.edge.ensures.ready c.edge.ensures.row (rw c.count.ensures at put)

pub edge-requires-clause-ready : goal.edge-requires-clause-ready
edge-requires-clause-ready c = c.requires.played.ready

pub returns-clause-source : goal.returns-clause-source
returns-clause-source c = c.edge.ensures.source
