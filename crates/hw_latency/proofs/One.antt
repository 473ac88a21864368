-- What is fed by shared operations is one thing, and so are the least latencies.
use Rattle.std.proofs.Common.{◌≡◌, ℕ, ◌<◌, ◌≤◌, Bool, true, false, List, [], ◌∷◌, length, map, ⊎_elim, refl, sym, ap, ◌∙◌, arith}
use Rattle.std.specs.Prelude.{Option, Some, None, slice_get}
use Rattle.std.proofs.lemmas.Bool.{cases_lt, cases_Bool, false≢true}
use Rattle.std.proofs.lemmas.List.{get_or_past}
use Rattle.dg_model.specs.declared.diagram.Diagram.{Diagram}
use Rattle.dg_model.specs.declared.resolved.Resolved.{Resolved}
use Rattle.dg_model.specs.Attributes.{attributes_of}
use Rattle.dg_model.specs.LatencyEdges.{LatencyEdge, latency_edges}
use Rattle.dg_model.specs.Signals.{Attributes}
use Rattle.hw_latency.specs.Cone.{AreFed, is_marked}
use Rattle.hw_latency.specs.Weight.{samples, arc_into, arc_from, arc_of, latency_arcs}
use Rattle.dg_model.specs.PlanOf.{stages_at}

marked_by : (diagram : Diagram) (attributes : Attributes) (plan : Resolved) (fed other : List Bool) (place : ℕ)
    → AreFed diagram attributes plan fed → AreFed diagram attributes plan other → is_marked fed place ≡ true
    → is_marked other place ≡ true
marked_by diagram attributes plan fed other place are too marked = ⊎_elim
    (λ (there : place < length diagram.blocks). too.whole place there (are.sound place marked))
    (λ (past : length diagram.blocks ≤ place).
    let size = are.size in
    absurd (false≢true (sym (get_or_past fed place false (omega (arith, size, past))) ∙ marked)))
    (cases_lt place (length diagram.blocks))

pub one_mark : (diagram : Diagram) (attributes : Attributes) (plan : Resolved) (fed other : List Bool) (place : ℕ)
    → AreFed diagram attributes plan fed → AreFed diagram attributes plan other
    → is_marked fed place ≡ is_marked other place
one_mark diagram attributes plan fed other place are too = ⊎_elim
    (λ (yes : is_marked fed place ≡ true). yes ∙ sym (marked_by diagram attributes plan fed other place are too yes))
    (λ (no : is_marked fed place ≡ false). ⊎_elim
    (λ (yes : is_marked other place ≡ true). absurd (false≢true (sym no ∙ marked_by diagram attributes plan other fed place too are yes)))
    (λ (neither : is_marked other place ≡ false). no ∙ sym neither)
    (cases_Bool (is_marked other place)))
    (cases_Bool (is_marked fed place))

one_arc : (diagram : Diagram) (attributes : Attributes) (plan : Resolved) (fed other : List Bool) (from to : ℕ)
    → is_marked fed from ≡ is_marked other from → (period : Option ℕ)
    → arc_from diagram attributes plan fed from to period
    ≡ arc_from diagram attributes plan other from to period
one_arc diagram attributes plan fed other from to same None = refl
one_arc diagram attributes plan fed other from to same (Some period) =
    ap (λ b. arc_into from to b (stages_at plan from) period (samples (attributes.period_at to)) (slice_get diagram.blocks to)) same

one_list : (diagram : Diagram) (attributes : Attributes) (plan : Resolved) (fed other : List Bool)
    (edges : List LatencyEdge) → ((place : ℕ) → is_marked fed place ≡ is_marked other place)
    → map (arc_of diagram attributes plan fed) edges ≡ map (arc_of diagram attributes plan other) edges
one_list diagram attributes plan fed other [] same = refl
one_list diagram attributes plan fed other (edge ∷ edges) same =
    ap (λ a. a ∷ map (arc_of diagram attributes plan fed) edges) (one_arc diagram attributes plan fed other edge.from edge.to (same edge.from) (attributes.period_at edge.from))
    ∙ ap (λ es. arc_of diagram attributes plan other edge ∷ es) (one_list diagram attributes plan fed other edges same)

pub arcs_are_one : (diagram : Diagram) (plan : Resolved) (fed other : List Bool)
    → AreFed diagram (attributes_of diagram) plan fed → AreFed diagram (attributes_of diagram) plan other
    → latency_arcs diagram plan fed ≡ latency_arcs diagram plan other
arcs_are_one diagram plan fed other are too =
    one_list diagram (attributes_of diagram) plan fed other (latency_edges diagram) (λ place. one_mark diagram (attributes_of diagram) plan fed other place are too)
