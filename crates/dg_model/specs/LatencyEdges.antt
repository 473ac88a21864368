-- The edges along which values, and what enables them, travel (own).
use Rattle.std.specs.Prelude.{ℕ, suc, Bool, true, false, if◌then◌else◌, List, [], ◌∷◌, ◌++◌, map, Option, Some, None}
use Rattle.dg_model.specs.declared.diagram.Diagram.{Diagram}
use Rattle.dg_model.specs.declared.diagram.Block.{Block}
use Rattle.dg_model.specs.declared.diagram.Edge.{Edge}
use Rattle.dg_model.specs.declared.nested.Target.{Target}
use Rattle.dg_model.specs.declared.nested.Target.TheVariants.{Port, Enable}
use Rattle.dg_model.specs.declared.row.Asking.{Asking}
use Rattle.dg_model.specs.Library.{row_of}

-- a line from an output port of a block to an input port of another, or from a control to a block
-- that it enables
pub record LatencyEdge : Type 0 where
  pub from : ℕ
  pub from_port : ℕ
  pub to : ℕ
  pub target : Target

-- the edge of a signal line
abbrev pub signal_edge : Edge → LatencyEdge
signal_edge edge = record { from = edge.from; from_port = edge.from_port; to = edge.to; target = Port edge.to_port }

-- a block asks at some time whether it is enabled
abbrev pub asks_ever : Asking → Bool
asks_ever Asking.Never = false
asks_ever Asking.Now = true
asks_ever Asking.Before = true

-- the edge from the control of its enabled subsystem into the block at this place, where it asks
abbrev pub enable_edge : ℕ → Bool → Option ℕ → List LatencyEdge
enable_edge place asks None = []
enable_edge place asks (Some control) = if asks then record { from = control; from_port = 1; to = place; target = Enable } ∷ [] else []

-- those of blocks that stand from this place on, in file order
abbrev pub enable_edges_from : ℕ → List Block → List LatencyEdge
enable_edges_from place [] = []
enable_edges_from place (block ∷ blocks) = enable_edge place (asks_ever (row_of block.kind).timing.asks) block.enable ++ enable_edges_from (suc place) blocks

-- the edges for latency: those of the diagram in their order, and then the enable edges. An edge is
-- named by its place in this list, from 0
abbrev pub latency_edges : Diagram → List LatencyEdge
latency_edges diagram = map signal_edge diagram.edges ++ enable_edges_from 0 diagram.blocks
