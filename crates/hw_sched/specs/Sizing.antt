-- How large a module is by what is known of its blocks, and how the rule of size is told (own).
use Rattle.std.specs.Prelude.{◌≡◌, ℕ, List, [], ⊤}
use Rattle.dg_model.specs.declared.diagram.Diagram.{Diagram}
use Rattle.dg_model.specs.declared.fault.Shown.TheVariants.{Size as SizeShown}
use Rattle.dg_model.specs.declared.resolved.Resolved.{Resolved}
use Rattle.dg_model.specs.declared.rule.Rule.{Rule}
use Rattle.dg_model.specs.Attributes.{attributes_of}
use Rattle.dg_model.specs.Faults.{fault_of}
use Rattle.hw_latency.specs.declared.latencies.Latencies.{Latencies}
use Rattle.hw_sched.specs.declared.sizing.Sizing.{Sizing}
use Rattle.hw_sched.specs.declared.sizing.SizeFault.{SizeFault}
use Rattle.hw_sched.specs.declared.sizing.SizeFault.TheVariants.{Size, OutOfMemory}
use Rattle.hw_sched.specs.Answer.{timing_of}
use Rattle.hw_sched.specs.Ready.{AreReady}
use Rattle.hw_sched.specs.Slots.{Timing}
use Rattle.hw_sched.specs.Storage.{storage, greatest_latency, KeepsSize, BreaksSize}

-- what holds for all depths by which these are the clocks at which outputs are ready
abbrev pub ForTimes : Diagram → Resolved → Latencies → List ℕ → (Timing → Type 0) → Type 0
ForTimes diagram plan latencies ready Holds =
    (depths : List ℕ) → AreReady diagram plan (timing_of latencies depths) ready
    → Holds (timing_of latencies depths)

-- the storage and the greatest declared latency are these
pub record IsSizeOf (diagram : Diagram) (plan : Resolved) (sizing : Sizing)
    (timing : Timing) : Type 0 where
  pub storage_is : sizing.storage ≡ storage diagram (attributes_of diagram) plan timing
  pub latency_is : sizing.latency ≡ greatest_latency diagram (attributes_of diagram) plan timing

-- they keep the rule of size
pub record IsKeptSize (diagram : Diagram) (plan : Resolved) (sizing : Sizing)
    (timing : Timing) : Type 0 where
  pub size : IsSizeOf diagram plan sizing timing
  pub keeps : KeepsSize diagram plan timing

-- what is answered where they don't: the fault of the rule, or want of memory
abbrev pub IsSizeFault : Diagram → Resolved → SizeFault → Timing → Type 0
IsSizeFault diagram plan (Size storage latency) timing =
    BreaksSize diagram plan timing (fault_of Rule.Size [] (SizeShown storage latency))
IsSizeFault diagram plan OutOfMemory timing = ⊤
