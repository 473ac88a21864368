-- What a plan without pipelines is worth on a diagram (own).
use Rattle.std.specs.Prelude.{◌≡◌, ℕ, [], replicate, length}
use Rattle.dg_model.specs.declared.diagram.Diagram.{Diagram}
use Rattle.dg_model.specs.declared.resolved.Resolved.{Resolved}
use Rattle.dg_model.specs.Attributes.{attributes_of}
use Rattle.dg_model.specs.Faults.{fault_of}
use Rattle.hw_sched.specs.Ready.{owed}
use Rattle.hw_sched.specs.Slots.{Timing}
use Rattle.hw_sched.specs.Storage.{greatest_latency}
use Rattle.hw_rules.specs.Rules.{KeepsTimes, BreaksTimes}
use Rattle.hw_explore.specs.declared.finding.Finding.{Finding}
use Rattle.hw_explore.specs.declared.finding.Judged.{Judged}
use Rattle.hw_explore.specs.declared.finding.Judged.TheVariants.{Good, Bad}
use Rattle.hw_explore.specs.declared.range.Range.{Range}
use Rattle.hw_explore.specs.Range.{cycles_of, multipliers_of}

-- the plan of these clocks and multipliers that sets no registers
abbrev pub plain_plan : Diagram → ℕ → ℕ → Resolved
plain_plan diagram cycles multipliers =
    record {
      cycles = cycles;
      multipliers = multipliers;
      stages = replicate (length diagram.blocks) 0;
    }

-- the plan keeps the rules: the module has so many multiplications, and declares at most this
-- latency
pub record IsGood (diagram : Diagram) (plan : Resolved) (multiplications latency : ℕ) : Type 0 where
  pub timing : Timing
  pub keeps : KeepsTimes diagram plan timing
  pub multiplications_are : multiplications ≡ owed diagram (attributes_of diagram) plan timing
  pub latency_is : latency ≡ greatest_latency diagram (attributes_of diagram) plan timing

-- it is good so, or this is the first rule that it breaks
abbrev pub IsJudged : Diagram → Resolved → Judged → Type 0
IsJudged diagram plan (Good multiplications latency) = IsGood diagram plan multiplications latency
IsJudged diagram plan (Bad rule shown) = BreaksTimes diagram plan (fault_of rule [] shown)

-- what is found of the plan of this number
pub record IsFinding (diagram : Diagram) (range : Range) (place : ℕ)
    (finding : Finding) : Type 0 where
  pub cycles : finding.cycles ≡ cycles_of range place
  pub multipliers : finding.multipliers ≡ multipliers_of range place
  pub verdict : IsJudged diagram
      (plain_plan diagram finding.cycles finding.multipliers) finding.verdict
