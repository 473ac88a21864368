use Rattle.std.proofs.Common.{rules, ◌<◌, ◌-◌, ◌==◌, length, pos, ap, sym, ℕ, ◌∙◌, ◌+◌, arith}
use Rattle.std.specs.Int.{w128}
use Rattle.std.specs.Prelude.{slice_index_or}
use Rattle.std.proofs.lemmas.Bool.{cond-false, cond-true}
use Rattle.std.proofs.lemmas.Int.{to_z-of_z}
use Rattle.std.proofs.lemmas.Option.{slice_get-get_or}
use Rattle.vl_ast.specs.Driven.{output_ports}
use Rattle.vl_eval.specs.Machine.{row_of, source_of}
use Rattle.vl_replay.specs.Sampled.{hit_at}
use Rattle.vl_replay.specs.inner.Samplers.{cell_of, numbers_in, sampler_at}
use Rattle.vl_replay.proofs.CellPuts.{equal-test, number-shown, unequal-test}
use Rattle.vl_replay.proofs.samplers.number_for.Goals as goal

pub hit_at-hit-requires : goal.hit_at-hit-requires
hit_at-hit-requires c =
    let samplers = c.args.samplers.now in
    c.requires.ring.periods c.args.place (sampler_at samplers c.args.place) (slice_get-get_or samplers c.args.place (record { period = 0; delay = 0; phase = 0 }) c.requires.within)

pub returns-then-hit-sample : goal.returns-then-hit-sample
returns-then-hit-sample c =
    let m = source_of c.args.machine.now in
    let samplers = c.args.samplers.now in
    let sample = c.args.sample in
    let place = c.args.place in
    let period = (sampler_at samplers place).period in
    let hit = equal-test (hit_at period sample) sample (sym c.hit_at-hit.ensures ∙ c.if-hit-sample.true) in
    let within = c.requires.within in
    let outputs = c.requires.ring.outputs in
    let low : place < length (output_ports m) = omega (arith, within, outputs) in
    to_z-of_z w128 c.port.result (record { sfits = c.port.type_inv })
    ∙ number-shown m (row_of c.args.machine.now) place c.port.result low c.port.ensures
    ∙ sym (cond-true (hit_at period sample == sample) (numbers_in c.args.machine.now place) (slice_index_or c.args.cells.now (cell_of c.args.window (length samplers) place (sample - 1)) (pos 0)) hit)

pub returns : goal.returns
returns c =
    let samplers = c.args.samplers.now in
    let sample = c.args.sample in
    let place = c.args.place in
    let period = (sampler_at samplers place).period in
    let miss = unequal-test (hit_at period sample) sample (λ same. c.if-hit-sample.false (c.hit_at-hit.ensures ∙ same)) in
    to_z-of_z w128 (slice_index_or c.args.cells.now (c.start_of.result + place) (pos 0)) (search rules)
    ∙ ap (λ (start : ℕ). slice_index_or c.args.cells.now (start + place) (pos 0)) c.start_of.ensures.start
    ∙ sym (cond-false (hit_at period sample == sample) (numbers_in c.args.machine.now place)
    (slice_index_or c.args.cells.now (cell_of c.args.window (length samplers) place (sample - 1)) (pos 0)) miss)
