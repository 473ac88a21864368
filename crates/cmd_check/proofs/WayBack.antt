-- The tight edges of a diagram's latencies are followed back.
use Rattle.std.proofs.Common.{◌≡◌, ℕ, ◌+◌, ◌<◌, List, [], ◌∷◌, length, drop, Option, None, Some, ap, sym, ◌∙◌, subst, arith, length-drop}
use Rattle.std.specs.Prelude.{All, slice_get, slice_index_or}
use Rattle.std.proofs.lemmas.Option.{slice_get-get_or}
use Rattle.dg_model.specs.declared.diagram.Diagram.{Diagram}
use Rattle.dg_model.specs.declared.resolved.Resolved.{Resolved}
use Rattle.hw_arcs.specs.declared.arc.Arc.{Arc}
use Rattle.hw_latency.specs.declared.latencies.Latencies.{Latencies}
use Rattle.hw_latency.specs.Latency.{AreLatencies}
use Rattle.hw_latency.specs.Weight.{latency_arcs}
use Rattle.cmd_check.specs.Paths.{IsTightPath}
use Rattle.cmd_check.specs.inner.Way.{Follows, IsSource}
use Rattle.cmd_check.proofs.Sources.{arc_source}
use Rattle.cmd_check.proofs.Ways.{way_begins, way_ends, way_more, way_short}

module _ (diagram : Diagram) (plan : Resolved) (latencies : Latencies) (end : ℕ) (are : AreLatencies diagram plan latencies) where
  abbrev arcs : List Arc
  arcs = latency_arcs diagram plan latencies.fed

  pub follow_begins : end < length diagram.blocks → Follows diagram plan latencies end end (end ∷ [])
  follow_begins below tight = way_begins arcs latencies.lat (length diagram.blocks) tight.rank end below

  pub block_inside : (block : ℕ) (path : List ℕ) → Follows diagram plan latencies end block path → block < length diagram.blocks
  block_inside block path way = let is = way are.tight in is.there 0 block is.begins

  pub tight_inside : (block : ℕ) (path : List ℕ) → Follows diagram plan latencies end block path → block < length latencies.tight
  tight_inside block path way =
      let low = block_inside block path way in
      let size = are.size in
      let tight = are.tight.size in
      omega (arith, low, size, tight)

  -- what a list of them says at its block
  pub tight_at : (block : ℕ) (path : List ℕ) (tights : List (Option ℕ)) (number : Option ℕ)
      → Follows diagram plan latencies end block path → tights ≡ latencies.tight
      → slice_index_or tights block None ≡ number
      → slice_get latencies.tight block ≡ Some number
  tight_at block path tights number way same is =
      let inside = tight_inside block path way in
      let size = ap (λ (xs : List (Option ℕ)). length xs) same in
      ap (λ (xs : List (Option ℕ)). slice_get xs block) (sym same) ∙ slice_get-get_or tights block None (omega (arith, inside, size)) ∙ ap (λ (o : Option ℕ). Some o) is

  pub follow_more : (block number source : ℕ) (path : List ℕ) → Follows diagram plan latencies end block path
      → slice_get latencies.tight block ≡ Some (Some number) → IsSource diagram block number source
      → source < length diagram.blocks → Follows diagram plan latencies end source (source ∷ path)
  follow_more block number source path way at is below tight =
      let some = tight.some block number at in
      let from = arc_source diagram plan latencies.fed block number source some.1.arc is some.1.at some.1.ends in
      let falls = tight.falls block number some.1.arc at some.1.at in
      way_more arcs latencies.lat (length diagram.blocks) tight.rank end block source path (way tight) some.0
      (record { number = number; tight = some.1; begins = from })
      (subst (λ (x : ℕ). tight.rank x < tight.rank block) from falls) below

  pub follow_short : (block : ℕ) (path : List ℕ) → Follows diagram plan latencies end block path → length path < 1 + length diagram.blocks
  follow_short block path way = let short = way_short arcs latencies.lat (length diagram.blocks) are.tight.rank end block path (way are.tight) in omega (arith, short)

  pub follow_ends : (block : ℕ) (path : List ℕ) → Follows diagram plan latencies end block path → slice_get latencies.tight block ≡ Some None → IsTightPath arcs latencies.lat end path
  follow_ends block path way at = way_ends arcs latencies.lat (length diagram.blocks) are.tight.rank end block path (way are.tight) (are.tight.none block at) are.size

  pub follow_there : (block : ℕ) (path : List ℕ) → Follows diagram plan latencies end block path → All (λ other. other < length diagram.blocks) path
  follow_there block path way = λ k d below. let is = way are.tight in is.there k (slice_index_or path k d) (slice_get-get_or path k d below)

  -- where a way fills a room from its end, there is room for one more
  pub follow_room : (block start : ℕ) (room : List ℕ) → Follows diagram plan latencies end block (block ∷ drop start room) → length room ≡ length diagram.blocks → start < length room → 0 < start
  follow_room block start room way size within =
      let short = follow_short block (block ∷ drop start room) way in
      let left = length-drop start room in
      omega (arith, short, size, within, left)
