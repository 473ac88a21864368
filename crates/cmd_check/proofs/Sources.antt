-- An edge leads from the block that is told, and its arc too.
use Rattle.std.proofs.Common.{◌≡◌, ◌⊎◌, inl, inr, ℕ, zero, suc, ◌+◌, ◌-◌, ◌<◌, ◌≤◌, Bool, true, false, List, [], ◌∷◌, ◌++◌, length, map, get_or, Option, None, Some, ap, sym, ◌∙◌, refl, arith}
use Rattle.std.specs.Prelude.{slice_get}
use Rattle.std.proofs.lemmas.Bool.{cases_lt}
use Rattle.std.proofs.lemmas.List.{length-map}
use Rattle.std.proofs.lemmas.Option.{none-some, same_Some, slice_get-get_or, slice_get_past, slice_get_within}
use Rattle.dg_model.specs.declared.diagram.Diagram.{Diagram}
use Rattle.dg_model.specs.declared.diagram.Block.{Block}
use Rattle.dg_model.specs.declared.diagram.Edge.{Edge}
use Rattle.dg_model.specs.declared.resolved.Resolved.{Resolved}
use Rattle.dg_model.specs.LatencyEdges.{LatencyEdge, asks_ever, enable_edge, enable_edges_from, latency_edges, signal_edge}
use Rattle.dg_model.specs.Library.{row_of}
use Rattle.dg_model.specs.Attributes.{attributes_of}
use Rattle.dg_model.specs.Checked.{IsChecked}
use Rattle.dg_sort.proofs.Lines.{control_there}
use Rattle.hw_arcs.specs.declared.arc.Arc.{Arc}
use Rattle.hw_latency.specs.Weight.{arc_from, arc_into, arc_of, latency_arcs}
use Rattle.cmd_check.specs.inner.Way.{IsSource}
use Rattle.math_list.proofs.Places.{get_front, map_there}

-- ---- enable edges

-- an edge into a block from what enables it
pub record IsEnabling (blocks : List Block) (from : ℕ) (edge : LatencyEdge) : Type 0 where
  pub place : ℕ
  pub block : Block
  pub at : slice_get blocks place ≡ Some block
  pub to_is : edge.to ≡ from + place
  pub from_is : block.enable ≡ Some edge.from

own_or_later : (asks : Bool) (enable : Option ℕ) (from : ℕ) (rest : List LatencyEdge) (k : ℕ) (edge : LatencyEdge) → slice_get (enable_edge from asks enable ++ rest) k ≡ Some edge
    → ((edge.to ≡ from) × (enable ≡ Some edge.from)) ⊎ ((j : ℕ) × (slice_get rest j ≡ Some edge))
own_or_later asks None from rest k edge at = inr (k, at)
own_or_later false (Some control) from rest k edge at = inr (k, at)
own_or_later true (Some control) from rest zero edge at =
    let same = same_Some _ edge at in
    inl (sym (ap (λ (e : LatencyEdge). e.to) same), ap (λ (e : LatencyEdge). Some e.from) same)
own_or_later true (Some control) from rest (suc k) edge at = inr (k, at)

enabling : (blocks : List Block) (from k : ℕ) (edge : LatencyEdge) → slice_get (enable_edges_from from blocks) k ≡ Some edge → IsEnabling blocks from edge
enabling [] from k edge at = absurd (none-some edge at)
enabling (block ∷ blocks) from k edge at = elim (own_or_later (asks_ever (row_of block.kind).timing.asks) block.enable from (enable_edges_from (suc from) blocks) k edge at) [
  | inl own ↦ let to = own.0 in record { place = 0; block = block; at = refl; to_is = omega (arith, to); from_is = own.1 }
  | inr later ↦
      let more = enabling blocks (suc from) later.0 edge later.1 in
      let to = more.to_is in
      record { place = suc more.place; block = more.block; at = more.at; to_is = omega (arith, to); from_is = more.from_is }
]

-- ---- all edges

get_behind : {A : Type 0} (xs ys : List A) (k : ℕ) → length xs ≤ k → slice_get (xs ++ ys) k ≡ slice_get ys (k - length xs)
get_behind [] ys k past = let e : k ≡ k - 0 = omega arith in ap (slice_get ys) e
get_behind (x ∷ xs) ys zero past = absurd (omega (arith, past))
get_behind (x ∷ xs) ys (suc k) past = let e : k - length xs ≡ suc k - suc (length xs) = omega arith in get_behind xs ys k (omega (arith, past)) ∙ ap (slice_get ys) e

pub control_source : (diagram : Diagram) (block number source : ℕ) (b : Block)
    → slice_get diagram.blocks block ≡ Some b → slice_get diagram.edges number ≡ None
    → ((control : ℕ) → b.enable ≡ Some control → source ≡ control) → IsSource diagram block number source
control_source diagram block number source b b_at none enables = record {
  is = λ edge edge_at to. elim (cases_lt number (length (map signal_edge diagram.edges))) [
    | inl less ↦
        let found = map_there signal_edge diagram.edges number edge (sym (get_front (map signal_edge diagram.edges) (enable_edges_from 0 diagram.blocks) number less) ∙ edge_at) in
        absurd (none-some found.0 (sym none ∙ found.1))
    | inr past ↦
        let more = enabling diagram.blocks 0 (number - length (map signal_edge diagram.edges)) edge
        (sym (get_behind (map signal_edge diagram.edges) (enable_edges_from 0 diagram.blocks) number past)
        ∙ edge_at) in
        let to_is = more.to_is in
        let place : more.place ≡ block = omega (arith, to_is, to) in
        let same : more.block ≡ b = same_Some more.block b (sym more.at ∙ ap (slice_get diagram.blocks) place ∙ b_at) in
        enables edge.from (sym (ap (λ (x : Block). x.enable) same) ∙ more.from_is)
  ];
}

pub line_source : (diagram : Diagram) (block number : ℕ) (line : Edge) → slice_get diagram.edges number ≡ Some line → IsSource diagram block number line.from
line_source diagram block number line at = record {
  is = λ edge edge_at to.
      let inside = slice_get_within diagram.edges number line at in
      let less : number < length (map signal_edge diagram.edges) = omega (arith, inside, length-map diagram.edges signal_edge) in
      let found = map_there signal_edge diagram.edges number edge (sym (get_front (map signal_edge diagram.edges) (enable_edges_from 0 diagram.blocks) number less) ∙ edge_at) in
      let same : line ≡ found.0 = same_Some line found.0 (sym at ∙ found.1) in
      ap (λ (e : Edge). e.from) same ∙ ap (λ (e : LatencyEdge). e.from) found.2;
}

-- ---- their arcs

ends_into : (from to : ℕ) (fed : Bool) (stages period own : ℕ) (found : Option Block)
    → ((arc_into from to fed stages period own found).from ≡ from)
    × ((arc_into from to fed stages period own found).to ≡ to)
ends_into from to fed stages period own None = (refl, refl)
ends_into from to fed stages period own (Some block) = (refl, refl)

ends_from : (diagram : Diagram) (plan : Resolved) (fed : List Bool) (from to : ℕ) (found : Option ℕ)
    → ((arc_from diagram (attributes_of diagram) plan fed from to found).from ≡ from)
    × ((arc_from diagram (attributes_of diagram) plan fed from to found).to ≡ to)
ends_from diagram plan fed from to None = (refl, refl)
ends_from diagram plan fed from to (Some period) = ends_into from to _ _ period _ (slice_get diagram.blocks to)

-- the arc of a number into a block leads from the source of the edge
pub arc_source : (diagram : Diagram) (plan : Resolved) (fed : List Bool) (block number source : ℕ) (arc : Arc)
    → IsSource diagram block number source → slice_get (latency_arcs diagram plan fed) number ≡ Some arc
    → arc.to ≡ block → arc.from ≡ source
arc_source diagram plan fed block number source arc is at to =
    let edge = map_there (arc_of diagram (attributes_of diagram) plan fed) (latency_edges diagram) number arc at in
    let ends = ends_from diagram plan fed edge.0.from edge.0.to ((attributes_of diagram).period_at edge.0.from) in
    let from_is : arc.from ≡ edge.0.from = sym (ap (λ (a : Arc). a.from) edge.2) ∙ ends.0 in
    let to_is : edge.0.to ≡ block = sym ends.1 ∙ ap (λ (a : Arc). a.to) edge.2 ∙ to in
    from_is ∙ sym (is.is edge.0 edge.1 to_is)

-- ---- as the code finds them

-- past the lines there is none
pub no_line : (diagram own : Diagram) (edges : List Edge) (number : ℕ) → edges ≡ own.edges → own ≡ diagram → length edges ≤ number → slice_get diagram.edges number ≡ None
no_line diagram own edges number edges_are own_is past = ap (λ (es : List Edge). slice_get es number) (sym (edges_are ∙ ap (λ (d : Diagram). d.edges) own_is)) ∙ slice_get_past edges number past

pub line_found : (diagram own : Diagram) (edges : List Edge) (number : ℕ) (edge : Edge) → edges ≡ own.edges
    → own ≡ diagram → number < length edges → edge ≡ get_or edges number edge
    → slice_get diagram.edges number ≡ Some edge
line_found diagram own edges number edge edges_are own_is inside is =
    ap (λ (es : List Edge). slice_get es number) (sym (edges_are ∙ ap (λ (d : Diagram). d.edges) own_is)) ∙ slice_get-get_or edges number edge inside ∙ ap Some (sym is)

pub control_found : (diagram : Diagram) (block number control : ℕ) (b : Block) → IsChecked diagram
    → slice_get diagram.blocks block ≡ Some b → slice_get diagram.edges number ≡ None → b.enable ≡ Some control
    → IsSource diagram block number control × (control < length diagram.blocks)
control_found diagram block number control b checked b_at none is = (
  control_source diagram block number control b b_at none (λ other other_is. same_Some control other (sym is ∙ other_is)),
  control_there diagram block control b checked.wired b_at is,
)

pub none_found : (diagram : Diagram) (block number : ℕ) (b : Block) → slice_get diagram.blocks block ≡ Some b
    → slice_get diagram.edges number ≡ None → b.enable ≡ None → IsSource diagram block number block
none_found diagram block number b b_at none is = control_source diagram block number block b b_at none (λ other other_is. absurd (none-some other (sym is ∙ other_is)))
