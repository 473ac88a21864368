use Rattle.std.specs.List.{flat_map}
use Rattle.math_list.specs.Numbers.{numbers_from}
use Rattle.hw_rules.specs.Times.{timing_in}
use Rattle.cmd_check.specs.CheckText.{block_line}
use Rattle.cmd_check.specs.Handed.{Adds}
use Rattle.cmd_check.proofs.writing.put_blocks.Given as goal

abbrev pub invariant-loop-place : goal.invariant-loop-place
invariant-loop-place g l = Adds g.K.Sink.taken g.K.Sink.faults l.initial.out l.initial.pending l.out l.pending
    (flat_map (block_line l.checked.diagram (timing_in l.planned.times)) (numbers_from 0 l.place))
