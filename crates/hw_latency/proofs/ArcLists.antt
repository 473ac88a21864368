-- The arcs of a diagram, edge by edge.
use Rattle.std.proofs.Common.{◌≡◌, ℕ, ◌+◌, ◌<◌, ◌≤◌, Bool, true, false, cond, List, [], ◌∷◌, ◌++◌, length, map, drop, get_or, ⊎_elim, refl, sym, ap, subst, ◌∙◌}
use Rattle.std.specs.Prelude.{slice_get, Some, None, Option}
use Rattle.std.proofs.lemmas.List.{append_assoc, append-nil, drop_all}
use Rattle.std.proofs.lemmas.Option.{none-some, same_Some, slice_get_within, slice_get-get_or}
use Rattle.dg_model.specs.declared.diagram.Diagram.{Diagram}
use Rattle.dg_model.specs.declared.diagram.Block.{Block}
use Rattle.dg_model.specs.declared.diagram.Edge.{Edge}
use Rattle.dg_model.specs.declared.nested.Target.TheVariants.{Enable}
use Rattle.dg_model.specs.declared.resolved.Resolved.{Resolved}
use Rattle.dg_model.specs.Attributes.{attributes_of}
use Rattle.dg_model.specs.LatencyEdges.{LatencyEdge, signal_edge, asks_ever, enable_edge, enable_edges_from}
use Rattle.dg_model.specs.Library.{row_of}
use Rattle.dg_model.specs.Wired.{IsWired}
use Rattle.hw_arcs.specs.declared.arc.Arc.{Arc}
use Rattle.hw_arcs.specs.Found.{AreKnown, most_gain}
use Rattle.hw_latency.specs.Control.{control_ever}
use Rattle.hw_latency.specs.Weight.{arc_between, arc_of, latency_arcs}
use Rattle.hw_latency.specs.inner.ArcLists.{IsArcPut, IsControlPut, IsPutBy}
use Rattle.dg_sort.proofs.Lines.{from_there, to_there, control_there, lines_from, controls_from}
use Rattle.math_list.proofs.Places.{push_cases, get_some}

-- the arcs of all edges but these are listed
pub record IsListing (diagram : Diagram) (plan : Resolved) (fed : List Bool) (arcs : List Arc) (rest : List LatencyEdge) : Type 0 where
  pub is : arcs ++ map (arc_of diagram (attributes_of diagram) plan fed) rest ≡ latency_arcs diagram plan fed
  pub known : AreKnown arcs (length diagram.blocks)

pub listing_begins : (diagram : Diagram) (plan : Resolved) (fed : List Bool) (arcs : List Arc) → arcs ≡ []
    → IsListing diagram plan fed arcs (map signal_edge (drop 0 diagram.edges) ++ enable_edges_from 0 diagram.blocks)
listing_begins diagram plan fed arcs none = rw none record {
  is = refl;
  known = record { from = λ number arc at. absurd (none-some arc at); to = λ number arc at. absurd (none-some arc at); gain = λ number arc at. absurd (none-some arc at) };
}

pub listing_more : (diagram : Diagram) (plan : Resolved) (fed : List Bool) (arcs : List Arc) (edge : LatencyEdge)
    (rest : List LatencyEdge) (arc : Arc) → arc ≡ arc_of diagram (attributes_of diagram) plan fed edge
    → arc.from < length diagram.blocks → arc.to < length diagram.blocks → arc.gain ≤ most_gain → IsListing diagram plan fed arcs (edge ∷ rest) → IsListing diagram plan fed (arcs ++ arc ∷ []) rest
listing_more diagram plan fed arcs edge rest arc is from to small listing = record {
  is = append_assoc arcs (arc ∷ []) (map (arc_of diagram (attributes_of diagram) plan fed) rest) ∙ ap (λ a. arcs ++ (a ∷ map (arc_of diagram (attributes_of diagram) plan fed) rest)) is ∙ listing.is;
  known = record {
    from = λ number other at. ⊎_elim (λ old. listing.known.from number other old) (λ new. subst (λ (a : Arc). a.from < length diagram.blocks) new.1 from) (push_cases arcs arc number other at);
    to = λ number other at. ⊎_elim (λ old. listing.known.to number other old) (λ new. subst (λ (a : Arc). a.to < length diagram.blocks) new.1 to) (push_cases arcs arc number other at);
    gain = λ number other at. ⊎_elim (λ old. listing.known.gain number other old) (λ new. subst (λ (a : Arc). a.gain ≤ most_gain) new.1 small) (push_cases arcs arc number other at);
  };
}

pub line_listed : (diagram : Diagram) (plan : Resolved) (fed : List Bool) (arcs : List Arc) (i : ℕ) (edge : Edge)
    (arc : Arc) → IsWired diagram → slice_get diagram.edges i ≡ Some edge
    → arc ≡ arc_between diagram (attributes_of diagram) plan fed edge.from edge.to
    → arc.from ≡ edge.from → arc.to ≡ edge.to → arc.gain ≤ most_gain → IsListing diagram plan fed arcs (map signal_edge (drop i diagram.edges) ++ enable_edges_from 0 diagram.blocks)
    → IsListing diagram plan fed (arcs ++ arc ∷ []) (map signal_edge (drop (i + 1) diagram.edges) ++ enable_edges_from 0 diagram.blocks)
line_listed diagram plan fed arcs i edge arc wired at is from to small listing =
    listing_more diagram plan fed arcs (signal_edge edge) (map signal_edge (drop (i + 1) diagram.edges) ++ enable_edges_from 0 diagram.blocks) arc is
    (subst (λ b. b < length diagram.blocks) (sym from) (from_there diagram i edge wired at))
    (subst (λ b. b < length diagram.blocks) (sym to) (to_there diagram i edge wired at)) small
    (subst (λ es. IsListing diagram plan fed arcs es) (lines_from diagram i edge (enable_edges_from 0 diagram.blocks) at) listing)

pub lines_listed : (diagram : Diagram) (plan : Resolved) (fed : List Bool) (arcs : List Arc) (i : ℕ)
    → length diagram.edges ≤ i → IsListing diagram plan fed arcs
    (map signal_edge (drop i diagram.edges) ++ enable_edges_from 0 diagram.blocks)
    → IsListing diagram plan fed arcs (enable_edges_from 0 (drop 0 diagram.blocks))
lines_listed diagram plan fed arcs i end listing =
    subst (λ es. IsListing diagram plan fed arcs es)
    (ap (λ es. map signal_edge es ++ enable_edges_from 0 diagram.blocks) (drop_all i diagram.edges end)) listing

-- ---- controls

pub record IsControlListed (diagram : Diagram) (plan : Resolved) (fed : List Bool) (arcs : List Arc) (place : ℕ) (rest : List LatencyEdge) (control : Option ℕ) : Type 0 where
  pub none : control ≡ None → IsListing diagram plan fed arcs rest
  pub some : (source : ℕ) (arc : Arc) → control ≡ Some source
      → arc ≡ arc_between diagram (attributes_of diagram) plan fed source place → arc.from ≡ source → arc.to ≡ place
      → arc.gain ≤ most_gain → IsListing diagram plan fed (arcs ++ arc ∷ []) rest

by_asking : (diagram : Diagram) (plan : Resolved) (fed : List Bool) (arcs : List Arc) (place : ℕ) (block : Block)
    (rest : List LatencyEdge) → IsWired diagram → slice_get diagram.blocks place ≡ Some block
    → (asks : Bool) (enable : Option ℕ) → block.enable ≡ enable
    → IsListing diagram plan fed arcs (enable_edge place asks enable ++ rest)
    → IsControlListed diagram plan fed arcs place rest (cond asks enable None)
by_asking diagram plan fed arcs place block rest wired there false None is listing = record { none = λ e. listing; some = λ source arc e. absurd (none-some source e) }
by_asking diagram plan fed arcs place block rest wired there false (Some control) is listing = record { none = λ e. listing; some = λ source arc e. absurd (none-some source e) }
by_asking diagram plan fed arcs place block rest wired there true None is listing = record { none = λ e. listing; some = λ source arc e. absurd (none-some source e) }
by_asking diagram plan fed arcs place block rest wired there true (Some control) is listing = record {
  none = λ e. absurd (none-some control (sym e));
  some = λ source arc e arc_is from to small.
      let same : source ≡ control = sym (same_Some control source e) in
      listing_more diagram plan fed arcs (record { from = control; from_port = 1; to = place; target = Enable }) rest arc
      (arc_is ∙ ap (λ s. arc_between diagram (attributes_of diagram) plan fed s place) same)
      (subst (λ b. b < length diagram.blocks) (sym (from ∙ same)) (control_there diagram place control block wired there is))
      (subst (λ b. b < length diagram.blocks) (sym to) (slice_get_within diagram.blocks place block there)) small listing;
}

pub control_listed : (diagram : Diagram) (plan : Resolved) (fed : List Bool) (arcs : List Arc) (i : ℕ)
    (block : Block) → IsWired diagram → slice_get diagram.blocks i ≡ Some block
    → IsListing diagram plan fed arcs (enable_edges_from i (drop i diagram.blocks))
    → IsControlListed diagram plan fed arcs i (enable_edges_from (i + 1) (drop (i + 1) diagram.blocks)) (control_ever block)
control_listed diagram plan fed arcs i block wired at listing =
    by_asking diagram plan fed arcs i block (enable_edges_from (i + 1) (drop (i + 1) diagram.blocks)) wired at (asks_ever (row_of block.kind).timing.asks) block.enable refl
    (subst (λ es. IsListing diagram plan fed arcs es) (controls_from diagram i block at) listing)

pub listing_ends : (diagram : Diagram) (plan : Resolved) (fed : List Bool) (arcs : List Arc) (i : ℕ)
    → length diagram.blocks ≤ i → IsListing diagram plan fed arcs (enable_edges_from i (drop i diagram.blocks))
    → arcs ≡ latency_arcs diagram plan fed
listing_ends diagram plan fed arcs i end listing =
    sym (append-nil arcs) ∙ ap (λ es. arcs ++ map (arc_of diagram (attributes_of diagram) plan fed) es) (sym (ap (enable_edges_from i) (drop_all i diagram.blocks end))) ∙ listing.is

-- ---- as the code puts them

pub line_put : (diagram : Diagram) (plan : Resolved) (fed : List Bool) (arcs after : List Arc) (i : ℕ)
    (slice : List Edge) (d : Edge) → IsWired diagram → slice ≡ diagram.edges → i < length slice
    → IsArcPut diagram plan fed arcs after (get_or slice i d).from (get_or slice i d).to
    → IsListing diagram plan fed arcs (map signal_edge (drop i diagram.edges) ++ enable_edges_from 0 diagram.blocks)
    → IsListing diagram plan fed after
    (map signal_edge (drop (i + 1) diagram.edges) ++ enable_edges_from 0 diagram.blocks)
line_put diagram plan fed arcs after i slice d wired same inside put listing =
    let at : slice_get diagram.edges i ≡ Some (get_or slice i d) = ap (λ (es : List Edge). slice_get es i) (sym same) ∙ slice_get-get_or slice i d inside in
    subst (λ (as_put : List Arc). IsListing diagram plan fed as_put (map signal_edge (drop (i + 1) diagram.edges) ++ enable_edges_from 0 diagram.blocks)) (sym put.put)
    (line_listed diagram plan fed arcs i (get_or slice i d) put.arc wired at put.is put.begins put.ends put.small listing)

pub control_put : (diagram : Diagram) (plan : Resolved) (fed : List Bool) (arcs after : List Arc) (i : ℕ)
    → IsWired diagram → i < length diagram.blocks → IsControlPut diagram plan fed arcs after i
    → IsListing diagram plan fed arcs (enable_edges_from i (drop i diagram.blocks))
    → IsListing diagram plan fed after (enable_edges_from (i + 1) (drop (i + 1) diagram.blocks))
control_put diagram plan fed arcs after i wired inside puts listing =
    let block = get_some diagram.blocks i inside in
    by_control (control_ever block.0) (control_listed diagram plan fed arcs i block.0 wired block.1 listing) (puts.put block.0 block.1)
  where
    by_control : (control : Option ℕ) → IsControlListed diagram plan fed arcs i
        (enable_edges_from (i + 1) (drop (i + 1) diagram.blocks)) control
        → IsPutBy diagram plan fed arcs after i control
        → IsListing diagram plan fed after (enable_edges_from (i + 1) (drop (i + 1) diagram.blocks))
    by_control None listed put = subst (λ (as_put : List Arc). IsListing diagram plan fed as_put (enable_edges_from (i + 1) (drop (i + 1) diagram.blocks))) (sym put) (listed.none refl)
    by_control (Some source) listed put =
        subst (λ (as_put : List Arc). IsListing diagram plan fed as_put (enable_edges_from (i + 1) (drop (i + 1) diagram.blocks))) (sym put.put)
        (listed.some source put.arc refl put.is put.begins put.ends put.small)

-- ---- a control that is asked

asked_there : (asks : Bool) (enable : Option ℕ) (control : ℕ) → cond asks enable None ≡ Some control → enable ≡ Some control
asked_there true enable control is = is
asked_there false enable control is = absurd (none-some control is)

pub control_inside : (diagram : Diagram) (place control : ℕ) (block : Block) (found : Option ℕ) → IsWired diagram
    → slice_get diagram.blocks place ≡ Some block → found ≡ control_ever block → found ≡ Some control
    → control < length diagram.blocks
control_inside diagram place control block found wired there is some =
    control_there diagram place control block wired there (asked_there (asks_ever (row_of block.kind).timing.asks) block.enable control (sym is ∙ some))

pub put_none : (diagram : Diagram) (plan : Resolved) (fed : List Bool) (arcs : List Arc) (place : ℕ) (block : Block)
    (found : Option ℕ) → slice_get diagram.blocks place ≡ Some block → found ≡ control_ever block → found ≡ None
    → IsControlPut diagram plan fed arcs arcs place
put_none diagram plan fed arcs place block found there is none = record {
  put = λ other at.
      let same : block ≡ other = same_Some block other (sym there ∙ at) in
      let control : None ≡ control_ever other = sym none ∙ is ∙ ap control_ever same in
      subst (λ (o : Option ℕ). IsPutBy diagram plan fed arcs arcs place o) control refl;
}

pub put_some : (diagram : Diagram) (plan : Resolved) (fed : List Bool) (arcs after : List Arc) (place control : ℕ)
    (block : Block) (found : Option ℕ) → slice_get diagram.blocks place ≡ Some block → found ≡ control_ever block
    → found ≡ Some control
    → IsArcPut diagram plan fed arcs after control place → IsControlPut diagram plan fed arcs after place
put_some diagram plan fed arcs after place control block found there is some put = record {
  put = λ other at.
      let same : block ≡ other = same_Some block other (sym there ∙ at) in
      let asked : Some control ≡ control_ever other = sym some ∙ is ∙ ap control_ever same in
      subst (λ (o : Option ℕ). IsPutBy diagram plan fed arcs after place o) asked put;
}
