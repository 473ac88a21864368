use Rattle.std.proofs.Common.{length, ◌-◌, ◌≤◌, take}
use Rattle.std.specs.List.{flat_map}
use Rattle.cmd_model.specs.RuleLine.{quoted_byte}
use Rattle.cmd_check.specs.Handed.{Adds}
use Rattle.cmd_check.proofs.quoting.put_name.Given as goal

abbrev pub invariant-loop-done : goal.invariant-loop-done
invariant-loop-done g l = record {
  within : l.done ≤ length l.name;
  adds : Adds g.K.Sink.taken g.K.Sink.faults l.initial.out l.initial.pending l.out l.pending (flat_map quoted_byte (take l.done l.name));
}

abbrev pub decreases-loop-done : goal.decreases-loop-done
decreases-loop-done g l = length l.name - l.done
