-- What models make by plans without sharing and pipelining (own).
use Rattle.std.specs.Prelude.{ℕ, ◌≤◌, List, []}
use Rattle.dg_model.specs.declared.diagram.Diagram.{Diagram}
use Rattle.dg_model.specs.declared.plan.Plan.{Plan}
use Rattle.dg_model.specs.declared.resolved.Resolved.{Resolved}
use Rattle.dg_model.specs.Attributes.{attributes_of}
use Rattle.cmd_design.specs.Design.{IsBadPlan, IsDesignOf}
use Rattle.cmd_generate.specs.Generated.{CanBeDesigned}
use Rattle.cmd_model.specs.Model.{IsAccepted, IsModelOf}
use Rattle.fx_tables.specs.declared.table.TableCause.{TableCause}
use Rattle.fx_tables.specs.Plan.{IsPlan}
use Rattle.hw_plain.specs.Plain.{IsAtOnce, IsPlain}
use Rattle.hw_rules.specs.Rules.{IsFoundIn}
use Rattle.hw_sched.specs.Scheduled.{IsTimingOf}
use Rattle.hw_sched.specs.Slots.{Timing}
use Rattle.hw_sched.specs.Storage.{most_storage, storage}

-- by the plan of the text no multiplier is shared and no block has registers behind it
abbrev pub IsPlainText : List ℕ → Type 0
IsPlainText text = (plan : Plan) → IsPlan text plan → IsPlain plan

-- in a design by such a plan no block is late, and each is ready at once
abbrev pub PlainDesignsAreAtOnce : Type 0
PlainDesignsAreAtOnce =
    (model text : List ℕ) (diagram : Diagram) (plan : Resolved) (timing : Timing)
    → IsPlainText text → IsDesignOf model text diagram plan timing → IsAtOnce diagram plan timing

-- what is stored of the model by the plan is within the limit
abbrev pub HaveStorage : List ℕ → List ℕ → Type 0
HaveStorage model text =
    (diagram : Diagram) (plan : Plan) (resolved : Resolved) (timing : Timing)
    → IsModelOf model diagram → IsPlan text plan → IsFoundIn diagram plan resolved
    → IsTimingOf diagram resolved timing
    → storage diagram (attributes_of diagram) resolved timing ≤ most_storage

-- a model that keeps its rules makes a design by such a plan, where storage is within the limit
abbrev pub PlainPlansMakeDesigns : Type 0
PlainPlansMakeDesigns =
    (model text : List ℕ) → IsAccepted model
    → ((line : ℕ) (cause : TableCause) → IsBadPlan model text line cause → ⊥)
    → IsPlainText text → HaveStorage model text → CanBeDesigned model text

-- so it does by the empty plan
abbrev pub EmptyPlansMakeDesigns : Type 0
EmptyPlansMakeDesigns =
    (model : List ℕ) → IsAccepted model → HaveStorage model [] → CanBeDesigned model []
