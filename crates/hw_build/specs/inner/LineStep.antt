-- What the step of lines leaves (own).
use Rattle.std.specs.Prelude.{◌≡◌, ℕ, ◌+◌, ◌<◌, ◌≤◌, List, Some, length, slice_get}
use Rattle.dg_model.specs.declared.diagram.Diagram.{Diagram}
use Rattle.dg_model.specs.declared.diagram.Block.{Block}
use Rattle.dg_model.specs.declared.diagram.Edge.{Edge}
use Rattle.dg_model.specs.declared.nested.Target.TheVariants.{Port}
use Rattle.dg_model.specs.declared.resolved.Resolved.{Resolved}
use Rattle.dg_model.specs.Attributes.{attributes_of}
use Rattle.dg_model.specs.RootElements.{root_inputs}
use Rattle.dg_model.specs.Solves.{shown_ports}
use Rattle.dg_model.specs.Wires.{driver_of}
use Rattle.hw_net.specs.declared.netlist.Frame.{Frame}
use Rattle.hw_net.specs.declared.netlist.Net.{Net}
use Rattle.hw_net.specs.declared.netlist.NetKind.TheVariants.{Counter}
use Rattle.hw_net.specs.Circuit.{Circuit}
use Rattle.hw_net.specs.Frames.{register_count}
use Rattle.hw_net.specs.Growing.{Extends}
use Rattle.hw_sched.specs.Chained.{registers_of_lines, uses_in_all}
use Rattle.hw_sched.specs.Slots.{Timing as Times}
use Rattle.hw_shows.specs.Timing.{Timing}
use Rattle.hw_shows.specs.Timed.{lag_into}
use Rattle.hw_build.specs.declared.operands.Operands.{Operands}
use Rattle.hw_build.specs.Places.{Places}
use Rattle.hw_build.specs.Times.{timing_by}
use Rattle.hw_build.specs.inner.Facts.{line_count}
use Rattle.hw_build.specs.inner.FrameCounts.{IsFramed}
use Rattle.hw_build.specs.inner.HubPlaces.{hubs_in_all, start_level, HasHubs}
use Rattle.hw_build.specs.inner.Operands.{AreLinePlaces}
use Rattle.hw_build.specs.inner.UnderWay.{IsUnderWay}
use Rattle.hw_build.specs.inner.Wants.{AreLineParts}

-- the hubs stand in a netlist, put behind what was there
abbrev pub StandHubs : Diagram → Circuit → List (List ℕ) → Type 0
StandHubs diagram netlist firsts = (earlier : Circuit) × HasHubs diagram earlier netlist firsts

-- what an end with registers is offered reads nothing in its own clock
pub record LateAreLow (diagram : Diagram) (places : Places) (level : ℕ → ℕ) : Type 0 where
  pub each : (block : ℕ) (b : Block) (port element : ℕ) (edge : Edge) (source lag : ℕ) → slice_get diagram.blocks block ≡ Some b
      → 1 ≤ shown_ports b.kind b.outputs → 1 ≤ port → port ≤ b.inputs → driver_of diagram block port ≡ Some edge
      → element < line_count diagram block b port edge → (attributes_of diagram).period_at edge.from ≡ Some source
      → lag_into diagram (attributes_of diagram) block b (Port port) source ≡ Some lag → level (places.offered block port element) ≡ 0

-- a netlist is under way whose ends have their nets, and whose hubs stand where they stood
pub record IsLinedWay (diagram : Diagram) (timing : Timing) (places : Places) (place_of : ℕ → ℕ) (before now : Circuit) : Type 0 where
  pub level : ℕ → ℕ
  pub same : (k : ℕ) → k < length before.nets → level k ≡ start_level diagram place_of k
  pub is : IsUnderWay diagram timing places place_of (length (root_inputs diagram (attributes_of diagram))) (hubs_in_all diagram) now level 0
  pub late : LateAreLow diagram places level

-- nothing but chains was put in, and these have no more registers than are counted for lines
pub record AreLinesPut (diagram : Diagram) (plan : Resolved) (times : Times) (before now : Circuit) (firsts : List (List ℕ)) (operands : Operands) : Type 0 where
  pub extends : Extends before now
  pub parts : AreLineParts before now
  pub counted : (k : ℕ) (net : Net) (frame : Frame) → length before.nets ≤ k → slice_get now.nets k ≡ Some net → net.kind ≡ Counter frame → IsFramed diagram plan times frame
  pub few : register_count now.nets ≤ register_count before.nets + registers_of_lines (uses_in_all diagram (attributes_of diagram) plan times)
  pub way : (places : Places) (place_of : ℕ → ℕ) → AreLinePlaces diagram firsts operands places → IsLinedWay diagram (timing_by diagram plan times) places place_of before now
