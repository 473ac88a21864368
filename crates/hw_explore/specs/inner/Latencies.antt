-- The latencies by plans without pipelines (own).
use Rattle.std.specs.Prelude.{ℕ, ◌<◌}
use Rattle.dg_model.specs.declared.diagram.Diagram.{Diagram}
use Rattle.dg_model.specs.declared.resolved.Resolved.{Resolved}
use Rattle.hw_latency.specs.Latency.{AreLatencies, IsCycleTold}
use Rattle.hw_explore.specs.declared.range.Range.{Range}
use Rattle.hw_explore.specs.declared.timed.BySharing.{BySharing}
use Rattle.hw_explore.specs.declared.timed.Timed.{Timed}
use Rattle.hw_explore.specs.declared.timed.Timed.TheVariants.{Kept, Gaining}
use Rattle.hw_explore.specs.Candidates.{plain_plan}
use Rattle.hw_explore.specs.Range.{IsRange, pairs_of}

-- these are the latencies by a plan, or this cycle leaves none
abbrev pub IsTimed : Diagram → Resolved → Timed → Type 0
IsTimed diagram plan (Kept latencies) = AreLatencies diagram plan latencies
IsTimed diagram plan (Gaining blocks total) = IsCycleTold diagram plan blocks total

-- they are those by a plan of each way to share multiplications: none, those of periods above 1,
-- all
pub record AreTimed (diagram : Diagram) (timed : BySharing) : Type 0 where
  pub none : IsTimed diagram (plain_plan diagram 1 0) timed.none
  pub slower : IsTimed diagram (plain_plan diagram 1 1) timed.slower
  pub all : IsTimed diagram (plain_plan diagram 2 1) timed.all

-- what is found of the plan of this number can be found
pub record CanFind (diagram : Diagram) (timed : BySharing) (range : Range)
    (place : ℕ) : Type 0 where
  pub is_range : IsRange range
  pub there : place < pairs_of range
  pub timed_is : AreTimed diagram timed
