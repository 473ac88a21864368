-- The greatest depth among the blocks that a block reads in its own sample at its own period (own).
use Rattle.std.specs.Prelude.{◌≡◌, ℕ, suc, ◌≤◌, ◌<◌, ◌⊎◌, Bool, true, false, List, length, Some, slice_get, if◌then◌else◌}
use Rattle.dg_model.specs.declared.diagram.Diagram.{Diagram}
use Rattle.dg_model.specs.declared.diagram.Block.{Block}
use Rattle.dg_model.specs.declared.diagram.Edge.{Edge}
use Rattle.dg_model.specs.declared.resolved.Resolved.{Resolved}
use Rattle.dg_model.specs.Attributes.{attributes_of}
use Rattle.dg_model.specs.Instant.{is_now}
use Rattle.dg_model.specs.Library.{row_of}
use Rattle.dg_sort.specs.Control.{control_now}
use Rattle.hw_latency.specs.Shared.{is_shared}
use Rattle.hw_sched.specs.Level.{depth_at, IsDepth}

-- a number is the greatest depth of the blocks that are so, 0 if none is
pub record IsGreatest (IsRead : ℕ → Type 0) (depths : List ℕ) (best : ℕ) : Type 0 where
  pub reached : (best ≡ 0) ⊎ ((source : ℕ) × IsRead source × (depth_at depths source ≡ best))
  pub most : (source : ℕ) → IsRead source → depth_at depths source ≤ best

-- lines before this place end at blocks before, and the others at this block or later ones
pub record IsFirstInto (edges : List Edge) (block first : ℕ) : Type 0 where
  pub within : first ≤ length edges
  pub before : (k : ℕ) (edge : Edge) → k < first → slice_get edges k ≡ Some edge → edge.to < block
  pub behind : (k : ℕ) (edge : Edge) → first ≤ k → slice_get edges k ≡ Some edge → block ≤ edge.to

-- one of the first lines leads to a block from one of its period
pub record IsLineFrom (diagram : Diagram) (count place source : ℕ) : Type 0 where
  pub number : ℕ
  pub line : Edge
  pub at : slice_get diagram.edges number ≡ Some line
  pub before : number < count
  pub to : line.to ≡ place
  pub from : line.from ≡ source
  pub period : (attributes_of diagram).period_at source ≡ (attributes_of diagram).period_at place

-- a block reads a line in its own sample, from a block of its period
pub record IsReadLine (diagram : Diagram) (place source : ℕ) : Type 0 where
  pub line : IsLineFrom diagram (length diagram.edges) place source
  pub block : Block
  pub there : slice_get diagram.blocks place ≡ Some block
  pub now : is_now (row_of block.kind).timing.reads false ≡ true

-- the control that a block asks in its own sample has its period
pub record IsReadControl (diagram : Diagram) (place source : ℕ) : Type 0 where
  pub block : Block
  pub there : slice_get diagram.blocks place ≡ Some block
  pub control : control_now block ≡ Some source
  pub period : (attributes_of diagram).period_at source ≡ (attributes_of diagram).period_at place

-- a block reads another of its period in its own sample
abbrev pub IsReadBy : Diagram → ℕ → ℕ → Type 0
IsReadBy diagram place source = IsReadLine diagram place source ⊎ IsReadControl diagram place source

-- a shared block stands behind those that it reads
abbrev pub own_depth : Bool → ℕ → ℕ
own_depth shared best = if shared then suc best else best

-- the depth of a block by those of the blocks that it reads
pub record IsNextDepth (diagram : Diagram) (plan : Resolved) (depths : List ℕ)
    (place depth : ℕ) : Type 0 where
  pub best : ℕ
  pub greatest : IsGreatest (IsReadBy diagram place) depths best
  pub is : depth ≡ own_depth (is_shared diagram (attributes_of diagram) plan place) best

-- the depths of the first blocks of an order are known
pub record AreDepthsTo (diagram : Diagram) (plan : Resolved) (order : List ℕ) (count : ℕ)
    (depths : List ℕ) : Type 0 where
  pub size : length depths ≡ length diagram.blocks
  pub are : (k place : ℕ) → k < count → slice_get order k ≡ Some place
      → IsDepth diagram (attributes_of diagram) plan place (depth_at depths place)
  pub small : (place : ℕ) → depth_at depths place ≤ count
