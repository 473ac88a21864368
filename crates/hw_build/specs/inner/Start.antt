-- What stands in a netlist before the elements: its counts, and no ports and names yet (own).
use Rattle.std.specs.Prelude.{◌≡◌, ◌+◌, [], length}
use Rattle.dg_model.specs.declared.diagram.Diagram.{Diagram}
use Rattle.dg_model.specs.declared.resolved.Resolved.{Resolved}
use Rattle.dg_model.specs.Attributes.{attributes_of}
use Rattle.hw_net.specs.Circuit.{Circuit}
use Rattle.hw_sched.specs.Chained.{registers_of_lines, uses_in_all}
use Rattle.hw_sched.specs.Ready.{units_in_all}
use Rattle.hw_sched.specs.Slots.{Timing as Times, shared_operations}
use Rattle.hw_build.specs.Serving.{multipliers, others}
use Rattle.hw_build.specs.inner.FrameCounts.{HasMoreRegisters}

pub record IsReadied (diagram : Diagram) (plan : Resolved) (times : Times)
    (now : Circuit) : Type 0 where
  pub inputs : now.inputs ≡ []
  pub outputs : now.outputs ≡ []
  pub labels : now.labels ≡ []
  pub start : Circuit
  pub none : start.nets ≡ []
  pub registers : HasMoreRegisters diagram plan times start now
      (registers_of_lines (uses_in_all diagram (attributes_of diagram) plan times)
      + length (shared_operations diagram (attributes_of diagram) plan))
  pub own : length (others now) ≡ 0
  pub shared : length (multipliers now) ≡ units_in_all diagram (attributes_of diagram) plan times
