use Rattle.std.proofs.Common.{◌≡◌, length}
use Rattle.hw_rules.specs.Times.{timing_in}
use Rattle.cmd_check.specs.inner.OutputLines.{PutsOutputs}
use Rattle.cmd_check.proofs.outputs.put_outputs.Given as goal

abbrev pub invariant-loop-place : goal.invariant-loop-place
invariant-loop-place g l = record {
  puts : PutsOutputs l.checked.diagram l.planned.resolved (timing_in l.planned.times) l.names l.blocks l.place g.K.Sink.taken g.K.Sink.faults l.initial.out l.initial.pending l.out l.pending;
  room : length l.room ≡ length l.checked.diagram.blocks;
}
