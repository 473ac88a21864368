-- What is worked out of a design before its module is made, and why a sample has no summary.
use Rattle.std.specs.Prelude.{◌≡◌, ⊤, ℕ, List}
use Rattle.dg_model.specs.declared.diagram.Diagram.{Diagram}
use Rattle.dg_model.specs.declared.resolved.Resolved.{Resolved}
use Rattle.dg_model.specs.Attributes.{attributes_of}
use Rattle.dg_model.specs.RootElements.{root_outputs}
use Rattle.dg_tables.specs.Listing.{AreBlocksOf}
use Rattle.cmd_sample.specs.declared.summing.Made.{Made}
use Rattle.fx_top.specs.declared.sample.SampleFault.{SampleFault}
use Rattle.fx_top.specs.declared.sample.SampleFault.TheVariants.{BreaksRule, OutOfMemory}
use Rattle.fx_top.specs.Summarized.{TellsSampleRule, latency_of_output}
use Rattle.hw_sched.specs.Ready.{owed}
use Rattle.hw_sched.specs.Slots.{Timing}

-- these are the blocks of its root output elements
abbrev pub AreOutputs : Diagram → List ℕ → Type 0
AreOutputs diagram blocks = AreBlocksOf (root_outputs diagram (attributes_of diagram)) blocks

-- the multiplications that are owed, and the latencies of the two outputs
pub record IsOwed (diagram : Diagram) (plan : Resolved) (timing : Timing)
    (made : Made) : Type 0 where
  pub multiplications_are : made.multiplications ≡ owed diagram (attributes_of diagram) plan timing
  pub out_is : made.out_latency ≡ latency_of_output diagram plan timing 0
  pub slow_is : made.slow_latency ≡ latency_of_output diagram plan timing 1

-- what a fault says of a sample
abbrev pub IsSampleFault : ℕ → SampleFault → Type 0
IsSampleFault count (BreaksRule line) = TellsSampleRule count line
IsSampleFault count OutOfMemory = ⊤
