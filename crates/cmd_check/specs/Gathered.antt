-- What stands ready before the text is put, and how it was put (own).
use Rattle.std.specs.Prelude.{◌≡◌, ⊤, ℕ, List, Option, Result, length, map}
use Rattle.dg_model.specs.declared.diagram.Diagram.{Diagram}
use Rattle.dg_model.specs.declared.resolved.Resolved.{Resolved}
use Rattle.dg_model.specs.Attributes.{attributes_of}
use Rattle.dg_model.specs.RootElements.{root_outputs}
use Rattle.dg_tables.specs.Listing.{AreBlocksOf}
use Rattle.fx_io.specs.declared.sink.PutFault.{PutFault}
use Rattle.hw_names.specs.Names.{AreNames, wanted_names}
use Rattle.hw_sched.specs.Ready.{declared_latency}
use Rattle.hw_sched.specs.Slots.{Timing}
use Rattle.cmd_check.specs.CheckText.{IsCheckText}
use Rattle.cmd_check.specs.Handed.{IsEnd}
use Rattle.cmd_check.specs.declared.gathering.Gathered.{Gathered}

-- when the first number of a block is shown, in clocks
abbrev pub clocks_at : Diagram → Resolved → Timing → ℕ → ℕ
clocks_at diagram plan timing block =
    declared_latency diagram (attributes_of diagram) plan timing block

-- the names of all ports, the blocks of the root outputs and their clocks, and room for a path
pub record IsGathered (diagram : Diagram) (plan : Resolved) (timing : Timing)
    (gathered : Gathered) : Type 0 where
  pub named : AreNames diagram gathered.names
  pub size : length gathered.names ≡ length (wanted_names diagram)
  pub outputs : AreBlocksOf (root_outputs diagram (attributes_of diagram)) gathered.outputs
  pub clocks : gathered.clocks.items ≡ map (clocks_at diagram plan timing) gathered.outputs
  pub room : length gathered.room.items ≡ length diagram.blocks

-- the text was put whole, or a part of it after a fault
pub record WritesCheck (diagram : Diagram) (plan : Resolved) (timing : Timing) {K : Type 0}
    (taken : K → Option (List ℕ)) (faults : K → ℕ) (old new : K)
    (result : Result ⊤ PutFault) : Type 0 where
  pub text : List ℕ
  pub is : IsCheckText diagram plan timing text
  pub ends : IsEnd (taken old) (faults old) text (taken new) (faults new) result
