use Rattle.std.proofs.Common.{◌≡◌, ℕ, List, length, get_or, refl, ap, subst, ◌∙◌, arith}
use Rattle.std.proofs.lemmas.List.{get_or-map, length-map}
use Rattle.hw_rules.specs.Times.{timing_in}
use Rattle.cmd_check.specs.Gathered.{clocks_at}
use Rattle.cmd_check.specs.inner.OutputLines.{PutsOutputs}
use Rattle.cmd_check.proofs.OutputLines.{puts_more, puts_none}
use Rattle.cmd_check.proofs.outputs.put_outputs.Goals as goal

pub loop-place-init : goal.loop-place-init
loop-place-init g c = record {
  puts = puts_none c.args.checked.now.diagram c.args.planned.now.resolved (timing_in c.args.planned.now.times) c.args.names.now c.args.blocks.now c.args.out.now c.args.pending.now;
  room = c.requires.room;
}

pub loop-place-preserved : goal.loop-place-preserved
loop-place-preserved g c = record {
  puts =
      puts_more c.args.checked.now.diagram c.args.planned.now.resolved
      (timing_in c.args.planned.now.times) c.args.names.now c.args.blocks.now c.loop-place.place
      c.bytes.result.now c.index-names-place.result _ 0 c.args.out.now c.loop-place.out c.put_output.new.out
      c.args.pending.now c.loop-place.pending c.put_output.new.pending
      c.loop-place.invariant.puts c.loop-place-test.true c.requires.size (c.bytes.ensures ∙ c.index-names-place.is) refl c.put_output.ensures.puts;
  room = c.put_output.ensures.room ∙ c.loop-place.invariant.room;
}

pub bounds-names-place : goal.bounds-names-place
bounds-names-place g c = rw c.requires.size c.loop-place-test.true

pub bounds-clocks-place : goal.bounds-clocks-place
bounds-clocks-place g c =
    let clocks = clocks_at c.args.checked.now.diagram c.args.planned.now.resolved (timing_in c.args.planned.now.times) in
    rw (c.requires.clocks, length-map c.args.blocks.now clocks) c.loop-place-test.true

pub put_output-requires-clause-clocks : goal.put_output-requires-clause-clocks
put_output-requires-clause-clocks g c =
    let clocks = clocks_at c.args.checked.now.diagram c.args.planned.now.resolved (timing_in c.args.planned.now.times) in
    ap (λ (all : List ℕ). get_or all c.loop-place.place 0) c.requires.clocks ∙ get_or-map clocks c.args.blocks.now c.loop-place.place 0 0 c.loop-place-test.true

pub put_output-requires-clause-room : goal.put_output-requires-clause-room
put_output-requires-clause-room g c = c.loop-place.invariant.room

pub put_output-requires-clause-there : goal.put_output-requires-clause-there
put_output-requires-clause-there g c = c.requires.there c.loop-place.place 0 c.loop-place-test.true

pub returns : goal.returns
returns g c =
    let all : c.loop-place.place ≡ length c.args.blocks.now = omega (arith, c.loop-place-test.false, c.loop-place.auto.place-end) in
    subst
    (λ (count : ℕ).
    PutsOutputs c.args.checked.now.diagram c.args.planned.now.resolved
    (timing_in c.args.planned.now.times) c.args.names.now c.args.blocks.now count g.K.Sink.taken g.K.Sink.faults
    c.args.out.now c.args.pending.now c.loop-place.out c.loop-place.pending)
    all c.loop-place.invariant.puts
