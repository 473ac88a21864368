-- When the paths of a plan are found in a diagram, and what they give its blocks (own; HDL Coder's
-- output pipelines).
use Rattle.std.specs.Prelude.{◌≡◌, ℕ, ◌<◌, IsTrue, List, map, All, Any, find, Option, Some, None, IsSome, slice_get}
use Rattle.std.specs.Str.{bytes_eq}
use Rattle.dg_model.specs.declared.diagram.Diagram.{Diagram}
use Rattle.dg_model.specs.declared.diagram.Block.{Block}
use Rattle.dg_model.specs.declared.fault.RuleFault.{RuleFault}
use Rattle.dg_model.specs.declared.fault.Shown.TheVariants.{Nothing}
use Rattle.dg_model.specs.declared.plan.Plan.{Plan}
use Rattle.dg_model.specs.declared.plan.Pipeline.{Pipeline}
use Rattle.dg_model.specs.declared.resolved.Resolved.{Resolved}
use Rattle.dg_model.specs.declared.rule.Rule.{Rule}
use Rattle.dg_model.specs.Faults.{fault_of}
use Rattle.dg_model.specs.Library.{row_of}
use Rattle.dg_model.specs.Signals.{Attributes}

-- registers may stand behind the block at this place
pub record MayBePipelined (attributes : Attributes) (place : ℕ) (block : Block) : Type 0 where
  pub kind : IsTrue (row_of block.kind).hardware.pipelines
  pub period : IsSome (attributes.period_at place)

-- a line of a plan names blocks, and registers may stand behind each of them
pub record IsFound (diagram : Diagram) (attributes : Attributes) (line : Pipeline) : Type 0 where
  pub some : Any (λ block. block.path ≡ line.path) diagram.blocks
  pub each : (place : ℕ) (block : Block) → slice_get diagram.blocks place ≡ Some block
      → block.path ≡ line.path → MayBePipelined attributes place block

-- the rule is kept
abbrev pub KeepsPlan : Diagram → Attributes → Plan → Type 0
KeepsPlan diagram attributes plan = All (IsFound diagram attributes) plan.pipelines

-- the rule is broken, with this fault: at the first path that isn't found
pub record BreaksPlan (diagram : Diagram) (attributes : Attributes) (plan : Plan)
    (fault : RuleFault) : Type 0 where
  pub number : ℕ
  pub line : Pipeline
  pub line_is : slice_get plan.pipelines number ≡ Some line
  pub missing : ¬ IsFound diagram attributes line
  pub before : (k : ℕ) (other : Pipeline) → k < number → slice_get plan.pipelines k ≡ Some other
      → IsFound diagram attributes other
  pub fault_is : fault ≡ fault_of Rule.Plan line.path Nothing

-- how many registers a plan sets behind the blocks of a path
abbrev pub count_of : Plan → List ℕ → ℕ
count_of plan path = count_if (find (λ line. bytes_eq line.path path) plan.pipelines) where
  count_if : Option Pipeline → ℕ
  count_if None = 0
  count_if (Some line) = line.count

-- the plan's numbers, and one count a block
pub record IsResolved (diagram : Diagram) (plan : Plan) (resolved : Resolved) : Type 0 where
  pub cycles : resolved.cycles ≡ plan.cycles
  pub multipliers : resolved.multipliers ≡ plan.multipliers
  pub stages : resolved.stages ≡ map (λ block. count_of plan block.path) diagram.blocks
