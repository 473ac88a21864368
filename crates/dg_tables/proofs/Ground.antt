-- What the rules of a model give the laws: widths and types that fit, and a rank of each block above those that it reads at once (own).
pub use Rattle.dg_tables.specs.Fit.{AreRepeated, FitShape, HasWidths, HasLists, KeepsType}
use Rattle.std.specs.Prelude.{◌≡◌, ℕ, ◌≤◌, ◌<◌, true, Some, slice_get}
use Rattle.fx_type.specs.FxType.{IsType}
use Rattle.dg_model.specs.declared.diagram.Diagram.{Diagram}
use Rattle.dg_model.specs.declared.diagram.Block.{Block}
use Rattle.dg_model.specs.declared.diagram.Edge.{Edge}
use Rattle.dg_model.specs.declared.op.Op.{Op}
use Rattle.dg_model.specs.Instant.{reads_now, asks_now}
use Rattle.dg_model.specs.Operation.{Operation, CanPrepare}
use Rattle.dg_model.specs.Signals.{Attributes, Stimulus, Table}
use Rattle.dg_model.specs.Equation.{IsOpOf, signs_of}
use Rattle.dg_model.specs.Solves.{IsStimulus, Solves, AgreeBelow, shown_ports}
use Rattle.dg_tables.specs.Laws.{EntriesAreInRange}
use Rattle.dg_model.specs.Wires.{driver_of, type_into, types_into}
use Rattle.dg_model.specs.Wired.{IsWired}

-- what makes two tables that solve agree
pub record IsRanked (diagram : Diagram) (attributes : Attributes) (rank : ℕ → ℕ) : Type 0 where
  pub wired : IsWired diagram
  pub widths : (block : ℕ) (b : Block) → slice_get diagram.blocks block ≡ Some b → HasWidths diagram attributes block b.kind b.inputs b.outputs
  pub types : (block : ℕ) (b : Block) (port : ℕ) → slice_get diagram.blocks block ≡ Some b → 1 ≤ port → port ≤ shown_ports b.kind b.outputs → IsType (attributes.type_at block port)
  pub params : (block : ℕ) (b : Block) → slice_get diagram.blocks block ≡ Some b → IsType (attributes.param_at block)
  pub drivers : (block : ℕ) (b : Block) (port : ℕ) (edge : Edge) → slice_get diagram.blocks block ≡ Some b
      → reads_now diagram attributes block b.kind ≡ true → driver_of diagram block port ≡ Some edge
      → rank edge.from < rank block
  pub controls : (block : ℕ) (b : Block) (control : ℕ) → slice_get diagram.blocks block ≡ Some b → asks_now b.kind ≡ true → b.enable ≡ Some control → rank control < rank block

-- the operation of a block
abbrev pub operation_at : Diagram → Attributes → ℕ → Block → Op → Operation
operation_at diagram attributes block b op =
    record { op = op; signs = signs_of b.kind; types = types_into diagram attributes block b.inputs; result = attributes.type_at block 1; rounding = b.rounding; saturate = b.saturate }

-- what makes some table solve: every value that an equation asks for is there
pub record IsRunnable (diagram : Diagram) (attributes : Attributes) (rank : ℕ → ℕ) : Type 0 where
  pub lists : (block : ℕ) (b : Block) → slice_get diagram.blocks block ≡ Some b → HasLists b.kind (attributes.width_at block 1)
  pub kept : (block : ℕ) (b : Block) → slice_get diagram.blocks block ≡ Some b → KeepsType diagram attributes block b.kind b.inputs b.outputs
  pub operations : (block : ℕ) (b : Block) (element : ℕ) (op : Op) → slice_get diagram.blocks block ≡ Some b
      → IsOpOf b.kind element (attributes.param_at block) (type_into diagram attributes block 2) op → CanPrepare (operation_at diagram attributes block b op)
  -- the ranks lie below a bound
  pub bound : ℕ
  pub ranks : (block : ℕ) (b : Block) → slice_get diagram.blocks block ≡ Some b → rank block < bound

-- ---- the laws, from a rank

-- at most one table solves
abbrev pub RankedTablesAreOne : Type 0
RankedTablesAreOne = (diagram : Diagram) (attributes : Attributes) (rank : ℕ → ℕ) (stimulus : Stimulus) (n : ℕ) (table other : Table)
    → IsRanked diagram attributes rank → Solves diagram attributes stimulus n table → Solves diagram attributes stimulus n other → AgreeBelow diagram attributes table other n

-- some table solves
abbrev pub RankedTableSolves : Type 0
RankedTableSolves = (diagram : Diagram) (attributes : Attributes) (rank : ℕ → ℕ) (stimulus : Stimulus) (n : ℕ)
    → IsRanked diagram attributes rank → IsRunnable diagram attributes rank → IsStimulus diagram attributes stimulus n → (table : Table) × Solves diagram attributes stimulus n table

-- what it shows is in range
abbrev pub RankedIsInRange : Type 0
RankedIsInRange = (diagram : Diagram) (attributes : Attributes) (rank : ℕ → ℕ) (stimulus : Stimulus) (n : ℕ) (table : Table)
    → IsRanked diagram attributes rank → IsRunnable diagram attributes rank
    → IsStimulus diagram attributes stimulus n → Solves diagram attributes stimulus n table
    → EntriesAreInRange diagram attributes table n
