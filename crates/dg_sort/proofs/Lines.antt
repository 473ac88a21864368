-- What the edges of a wired diagram join, and its edges for latency one after another.
use Rattle.std.proofs.Common.{◌≡◌, ℕ, suc, ◌+◌, ◌<◌, ◌≤◌, List, ◌∷◌, ◌++◌, length, map, drop, refl, ap, subst, ◌∙◌, arith}
use Rattle.std.specs.Prelude.{slice_get, Some, None, Option, MatchOption}
use Rattle.std.proofs.lemmas.List.{drop_more}
use Rattle.std.proofs.lemmas.Option.{slice_get_within, get_or_from_slice_get}
use Rattle.dg_model.specs.declared.diagram.Diagram.{Diagram}
use Rattle.dg_model.specs.declared.diagram.Block.{Block}
use Rattle.dg_model.specs.declared.diagram.Edge.{Edge}
use Rattle.dg_model.specs.LatencyEdges.{LatencyEdge, signal_edge, asks_ever, enable_edge, enable_edges_from}
use Rattle.dg_model.specs.Library.{row_of}
use Rattle.dg_model.specs.Wired.{IsWired, NamesControl}
use Rattle.dg_model.proofs.Ports.{joins}

pub matched : {A : Type 0} (o : Option A) (P : A → Type 0) → MatchOption o ⊥ P → (x : A) × (o ≡ Some x) × P x
matched None P m = absurd m
matched (Some x) P m = (x, refl, m)

pub from_there : (diagram : Diagram) (k : ℕ) (edge : Edge) → IsWired diagram → slice_get diagram.edges k ≡ Some edge → edge.from < length diagram.blocks
from_there diagram k edge wired at =
    let m = matched (slice_get diagram.blocks edge.from) (λ block. (1 ≤ edge.from_port) × (edge.from_port ≤ block.outputs)) (joins diagram k edge wired at).source in
    slice_get_within diagram.blocks edge.from (m.0) (m.1)

pub to_there : (diagram : Diagram) (k : ℕ) (edge : Edge) → IsWired diagram → slice_get diagram.edges k ≡ Some edge → edge.to < length diagram.blocks
to_there diagram k edge wired at =
    let m = matched (slice_get diagram.blocks edge.to) (λ block. (1 ≤ edge.to_port) × (edge.to_port ≤ block.inputs)) (joins diagram k edge wired at).target in
    slice_get_within diagram.blocks edge.to (m.0) (m.1)

pub control_there : (diagram : Diagram) (place control : ℕ) (block : Block) → IsWired diagram
    → slice_get diagram.blocks place ≡ Some block → block.enable ≡ Some control → control < length diagram.blocks
control_there diagram place control block wired there enable =
    let names = subst (λ (b : Block). NamesControl diagram.blocks b.enable)
    (get_or_from_slice_get diagram.blocks place block block there)
    (wired.controls place block (slice_get_within diagram.blocks place block there)) in
    let some = subst (λ o. NamesControl diagram.blocks o) enable names in
    let m = matched (slice_get diagram.blocks control) _ some in
    slice_get_within diagram.blocks control (m.0) (m.1)

-- the edges from one on begin with it
pub lines_from : (diagram : Diagram) (i : ℕ) (edge : Edge) (tail : List LatencyEdge)
    → slice_get diagram.edges i ≡ Some edge
    → map signal_edge (drop i diagram.edges) ++ tail
    ≡ signal_edge edge ∷ (map signal_edge (drop (i + 1) diagram.edges) ++ tail)
lines_from diagram i edge tail at =
    let is = get_or_from_slice_get diagram.edges i edge edge at in
    ap (λ es. map signal_edge es ++ tail)
    (drop_more diagram.edges i edge (slice_get_within diagram.edges i edge at))
    ∙ ap (λ (e : Edge). signal_edge e ∷ (map signal_edge (drop (i + 1) diagram.edges) ++ tail)) is

-- the edges of the controls from one on begin with its own
pub controls_from : (diagram : Diagram) (i : ℕ) (block : Block) → slice_get diagram.blocks i ≡ Some block →
    enable_edges_from i (drop i diagram.blocks) ≡ enable_edge i (asks_ever (row_of block.kind).timing.asks) block.enable ++ enable_edges_from (i + 1) (drop (i + 1) diagram.blocks)
controls_from diagram i block at =
    let e : suc i ≡ i + 1 = omega arith in
    ap (enable_edges_from i) (drop_more diagram.blocks i block (slice_get_within diagram.blocks i block at))
    ∙ ap (λ (b : Block). enable_edge i (asks_ever (row_of b.kind).timing.asks) b.enable
    ++ enable_edges_from (suc i) (drop (i + 1) diagram.blocks))
    (get_or_from_slice_get diagram.blocks i block block at)
    ∙ ap (λ n. enable_edge i (asks_ever (row_of block.kind).timing.asks) block.enable ++ enable_edges_from n (drop (i + 1) diagram.blocks)) e
