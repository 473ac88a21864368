-- The way that was followed back so far (own).
use Rattle.std.specs.Prelude.{◌≡◌, ℕ, suc, ◌<◌, List, length, Some, slice_get}
use Rattle.dg_model.specs.declared.diagram.Diagram.{Diagram}
use Rattle.dg_model.specs.declared.resolved.Resolved.{Resolved}
use Rattle.dg_model.specs.LatencyEdges.{LatencyEdge, latency_edges}
use Rattle.hw_arcs.specs.declared.arc.Arc.{Arc}
use Rattle.hw_arcs.specs.Latencies.{AreTight, latency_at}
use Rattle.hw_latency.specs.declared.latencies.Latencies.{Latencies}
use Rattle.hw_latency.specs.Weight.{latency_arcs}
use Rattle.cmd_check.specs.Paths.{LeadsTightly}

-- the edge of this number leads from there, where it leads into this block
pub record IsSource (diagram : Diagram) (block number source : ℕ) : Type 0 where
  pub is : (edge : LatencyEdge) → slice_get (latency_edges diagram) number ≡ Some edge
      → edge.to ≡ block → source ≡ edge.from

-- a way along such arcs from a block to another, by a rank that rises along them
pub record IsWay (arcs : List Arc) (lat : List ℕ) (count : ℕ) (rank : ℕ → ℕ) (first end : ℕ)
    (path : List ℕ) : Type 0 where
  pub begins : slice_get path 0 ≡ Some first
  pub last : ℕ
  pub ends : slice_get path last ≡ Some end
  pub whole : (k block : ℕ) → slice_get path k ≡ Some block → k < suc last
  pub leads : (k from to : ℕ) → slice_get path k ≡ Some from → slice_get path (suc k) ≡ Some to
      → (0 < latency_at lat to) × LeadsTightly arcs lat from to
  pub rises : (i j block other : ℕ) → i < j → slice_get path i ≡ Some block
      → slice_get path j ≡ Some other → rank block < rank other
  pub there : (k block : ℕ) → slice_get path k ≡ Some block → block < count

-- the way back from a block, by the rank that the tight edges of its latencies have
abbrev pub Follows : Diagram → Resolved → Latencies → ℕ → ℕ → List ℕ → Type 0
Follows diagram plan latencies end block path =
    (tight : AreTight (latency_arcs diagram plan latencies.fed) latencies.lat latencies.tight)
    → IsWay (latency_arcs diagram plan latencies.fed) latencies.lat
    (length diagram.blocks) tight.rank block end path
