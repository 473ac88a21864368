-- Which frames the Counters of a netlist count, and how many registers it has (own).
use Rattle.std.specs.Prelude.{◌≡◌, ℕ, ◌+◌, ◌*◌, ◌<◌, ◌≤◌, ◌⊎◌, length, Some, slice_get}
use Rattle.dg_model.specs.declared.diagram.Diagram.{Diagram}
use Rattle.dg_model.specs.declared.resolved.Resolved.{Resolved}
use Rattle.dg_model.specs.Attributes.{attributes_of}
use Rattle.dg_model.specs.PlanOf.{stages_at}
use Rattle.hw_arcs.specs.Latencies.{latency_at}
use Rattle.hw_net.specs.declared.netlist.Frame.{Frame}
use Rattle.hw_net.specs.Circuit.{Circuit}
use Rattle.hw_net.specs.Frames.{IsCounterAt, register_count}
use Rattle.hw_sched.specs.Chained.{FramePair, frames_in_all}
use Rattle.hw_sched.specs.Slots.{Timing as Times}

abbrev pub pair_of : Frame → FramePair
pair_of frame = record { period = frame.period; latency = frame.latency }

-- a frame is one of those that are counted once for all blocks
pub record IsFramed (diagram : Diagram) (plan : Resolved) (times : Times)
    (frame : Frame) : Type 0 where
  pub place : ℕ
  pub at : slice_get (frames_in_all diagram (attributes_of diagram) plan times) place
      ≡ Some (pair_of frame)

-- a frame of a block: before its pipeline or behind it
pub record IsBlockFrame (diagram : Diagram) (plan : Resolved) (times : Times) (block : ℕ)
    (frame : Frame) : Type 0 where
  pub there : block < length diagram.blocks
  pub period_is : (attributes_of diagram).period_at block ≡ Some frame.period
  pub latency_is : (frame.latency ≡ latency_at times.lat block)
      ⊎ (frame.latency ≡ latency_at times.lat block + stages_at plan block * frame.period)

-- a netlist goes on from another with so many registers more at the most, and Counters of such
-- frames alone
pub record HasMoreRegisters (diagram : Diagram) (plan : Resolved) (times : Times)
    (before now : Circuit) (registers : ℕ) : Type 0 where
  pub few : register_count now.nets ≤ register_count before.nets + registers
  pub counters : (k : ℕ) (frame : Frame) → length before.nets ≤ k → IsCounterAt now.nets k frame
      → IsFramed diagram plan times frame
  pub kept : (k : ℕ) (frame : Frame) → k < length before.nets → IsCounterAt now.nets k frame
      → IsCounterAt before.nets k frame
