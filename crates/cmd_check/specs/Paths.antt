-- A way along edges that are met with nothing to spare, from a block without latency (own; HDL
-- Coder, delay balancing).
use Rattle.std.specs.Prelude.{◌≡◌, ◌≢◌, ℕ, suc, ◌<◌, List, length, AllPairs, Some, slice_get}
use Rattle.hw_arcs.specs.declared.arc.Arc.{Arc}
use Rattle.hw_arcs.specs.Latencies.{latency_at, IsTightArc}

-- such an arc leads from one block to another
pub record LeadsTightly (arcs : List Arc) (lat : List ℕ) (from to : ℕ) : Type 0 where
  pub number : ℕ
  pub tight : IsTightArc arcs lat to number
  pub begins : tight.arc.from ≡ from

-- different blocks that have latencies, the first 0 and each later one more, of which such an arc
-- leads from each to the next, up to this one
pub record IsTightPath (arcs : List Arc) (lat : List ℕ) (end : ℕ) (path : List ℕ) : Type 0 where
  pub first : ℕ
  pub begins : slice_get path 0 ≡ Some first
  pub early : latency_at lat first ≡ 0
  pub last : ℕ
  pub ends : slice_get path last ≡ Some end
  pub whole : (k block : ℕ) → slice_get path k ≡ Some block → k < suc last
  pub there : (k block : ℕ) → slice_get path k ≡ Some block → block < length lat
  pub leads : (k from to : ℕ) → slice_get path k ≡ Some from → slice_get path (suc k) ≡ Some to
      → (0 < latency_at lat to) × LeadsTightly arcs lat from to
  pub different : AllPairs (λ block other. block ≢ other) path
