-- The edges of a diagram: its lines, and the controls of enabled subsystems.
use Rattle.std.proofs.Common.{◌≡◌, ℕ, zero, suc, ◌+◌, ◌≤◌, Bool, true, false, cond, eqb, List, [], ◌∷◌, map, find, refl, sym, ap, subst, ◌∙◌, inl, inr, arith}
use Rattle.std.specs.Prelude.{slice_get, Option, Some, None, count_by, MatchOption, ◌⊎◌}
use Rattle.std.proofs.lemmas.Bool.{false≢true, and_parts, and_from, eqb-true, eq-eqb}
use Rattle.std.proofs.lemmas.List.Sums.{sum_by-cons}
use Rattle.std.proofs.lemmas.Option.{none-some, same_Some}
use Rattle.dg_model.specs.declared.diagram.Diagram.{Diagram}
use Rattle.dg_model.specs.declared.diagram.Block.{Block}
use Rattle.dg_model.specs.declared.diagram.Edge.{Edge}
use Rattle.dg_model.specs.declared.nested.Target.TheVariants.{Port, Enable}
use Rattle.dg_model.specs.LatencyEdges.{LatencyEdge, signal_edge, asks_ever, enable_edge, enable_edges_from}
use Rattle.dg_model.specs.Library.{row_of}
use Rattle.dg_model.specs.Wired.{IsWired, Joins}
use Rattle.dg_model.specs.Wires.{enters, driver_of}
use Rattle.hw_sched.specs.Laws.{IsEdge, LinesAreEdges, ControlsAreEdges}
use Rattle.math_list.proofs.Places.{held, there_map}
use Rattle.hw_sched.proofs.Lists.{Stands, stands_either, stands_left, stands_right, stands_later, some_counted}

-- ---- what is found

pub found_there : {A : Type 0} (p : A → Bool) (xs : List A) (x : A) → find p xs ≡ Some x → Stands xs x × (p x ≡ true)
found_there p [] x e = absurd (none-some x e)
found_there {A} p (y ∷ xs) x e = go (p y) refl (found_there p xs x) e
  where
    go : (b : Bool) → p y ≡ b → (find p xs ≡ Some x → Stands xs x × (p x ≡ true)) → cond b (Some y) (find p xs) ≡ Some x → Stands (y ∷ xs) x × (p x ≡ true)
    go true is rest e = (record { place = 0; at = e }, ap p (sym (same_Some y x e)) ∙ is)
    go false is rest e = let later = rest e in (stands_later y xs x later.0, later.1)

pub not_found : {A : Type 0} (p : A → Bool) (xs : List A) (k : ℕ) (x : A) → find p xs ≡ None → slice_get xs k ≡ Some x → p x ≡ false
not_found p [] k x e at = absurd (none-some x at)
not_found {A} p (y ∷ xs) k x e at = go (p y) refl (λ j none later. not_found p xs j x none later) e k at
  where
    go : (b : Bool) → p y ≡ b → ((j : ℕ) → find p xs ≡ None → slice_get xs j ≡ Some x → p x ≡ false) → cond b (Some y) (find p xs) ≡ None → (k : ℕ) → slice_get (y ∷ xs) k ≡ Some x → p x ≡ false
    go true is rest e k at = absurd (none-some y (sym e))
    go false is rest e zero at = ap p (sym (same_Some y x at)) ∙ is
    go false is rest e (suc j) at = rest j e at

-- the only one that passes is found
pub found_only : {A : Type 0} (p : A → Bool) (xs : List A) (k : ℕ) (x : A) → count_by p xs ≡ 1 → slice_get xs k ≡ Some x → p x ≡ true → find p xs ≡ Some x
found_only p [] k x one at is = absurd (none-some x at)
found_only {A} p (y ∷ xs) k x one at is = go (p y) refl (λ j once later. found_only p xs j x once later is) (sum_by-cons (λ x. cond (p x) 1 0) y xs) k at
  where
    go : (b : Bool) → p y ≡ b → ((j : ℕ) → count_by p xs ≡ 1 → slice_get xs j ≡ Some x → find p xs ≡ Some x)
        → count_by p (y ∷ xs) ≡ cond b 1 0 + count_by p xs → (k : ℕ) → slice_get (y ∷ xs) k ≡ Some x
        → cond b (Some y) (find p xs) ≡ Some x
    go true passes rest sums zero at = at
    go true passes rest sums (suc j) at = let more = some_counted p xs j x at is in absurd (omega (arith, one, sums, more))
    go false fails rest sums zero at = absurd (false≢true (sym fails ∙ ap p (same_Some y x at) ∙ is))
    go false fails rest sums (suc j) at = rest j (omega (arith, one, sums)) at

-- ---- lines

pub lines_are_edges : LinesAreEdges
lines_are_edges diagram block port line e =
    let found = found_there (enters block port) diagram.edges line e in
    let ends = and_parts (eqb line.to block) (eqb line.to_port port) found.1 in
    let to : line.to ≡ block = eqb-true line.to block ends.0 in
    let to_port : line.to_port ≡ port = eqb-true line.to_port port ends.1 in
    let at = there_map signal_edge diagram.edges found.0.place line found.0.at in
    let stands = stands_left (map signal_edge diagram.edges) (enable_edges_from 0 diagram.blocks) found.0.place (signal_edge line) at in
    let same : ◌≡◌ {A = LatencyEdge} (signal_edge line) (record { from = line.from; from_port = line.from_port; to = block; target = Port port }) =
    ap (λ (n : ℕ). signal_edge (record line { to = n })) to ∙ ap (λ (n : ℕ). signal_edge (record line { to = block; to_port = n })) to_port in
    (stands.place, stands.at ∙ ap Some same)

-- each line is an edge
pub line_is_edge : (diagram : Diagram) (number : ℕ) (line : Edge) → slice_get diagram.edges number ≡ Some line → (k : ℕ) × IsEdge diagram k (signal_edge line)
line_is_edge diagram number line at =
    let stands = stands_left (map signal_edge diagram.edges) (enable_edges_from 0 diagram.blocks) number (signal_edge line) (there_map signal_edge diagram.edges number line at) in
    (stands.place, stands.at)

-- ---- controls

-- the edge that a block has from a control
abbrev pub control_edge : ℕ → ℕ → LatencyEdge
control_edge control place = record { from = control; from_port = 1; to = place; target = Enable }

enabling : (from : ℕ) (blocks : List Block) (k : ℕ) (b : Block) (control : ℕ) → slice_get blocks k ≡ Some b
    → b.enable ≡ Some control → asks_ever (row_of b.kind).timing.asks ≡ true
    → Stands (enable_edges_from from blocks) (control_edge control (from + k))
enabling from [] k b control at is asks = absurd (none-some b at)
enabling from (x ∷ blocks) zero b control at is asks =
    let same : x ≡ b = same_Some x b at in
    let first = go (asks_ever (row_of x.kind).timing.asks) x.enable (ap (λ (y : Block). asks_ever (row_of y.kind).timing.asks) same ∙ asks) (ap (λ (y : Block). y.enable) same ∙ is) in
    let stands = stands_left (enable_edge from (asks_ever (row_of x.kind).timing.asks) x.enable) (enable_edges_from (suc from) blocks) 0 (control_edge control from) first in
    let here : from ≡ from + zero = omega arith in
    subst (λ (n : ℕ). Stands (enable_edges_from from (x ∷ blocks)) (control_edge control n)) here stands
  where
    go : (a : Bool) (enable : Option ℕ) → a ≡ true → enable ≡ Some control → slice_get (enable_edge from a enable) 0 ≡ Some (control_edge control from)
    go a None holds e = absurd (none-some control e)
    go true (Some other) holds e = ap (λ (n : ℕ). Some (control_edge n from)) (same_Some other control e)
    go false (Some other) holds e = absurd (false≢true holds)
enabling from (x ∷ blocks) (suc k) b control at is asks =
    let later = stands_right (enable_edge from (asks_ever (row_of x.kind).timing.asks) x.enable)
    (enable_edges_from (suc from) blocks) (control_edge control (suc from + k))
    (enabling (suc from) blocks k b control at is asks) in
    let here : suc from + k ≡ from + suc k = omega arith in
    subst (λ (n : ℕ). Stands (enable_edges_from from (x ∷ blocks)) (control_edge control n)) here later

pub controls_are_edges : ControlsAreEdges
controls_are_edges diagram block b control at is asks =
    let stands = stands_right (map signal_edge diagram.edges) (enable_edges_from 0 diagram.blocks) (control_edge control (0 + block)) (enabling 0 diagram.blocks block b control at is asks) in
    let here : 0 + block ≡ block = omega arith in
    (stands.place, stands.at ∙ ap (λ (n : ℕ). Some (control_edge control n)) here)

-- ---- what an edge is

-- an edge is a line
pub record IsLine (diagram : Diagram) (edge : LatencyEdge) : Type 0 where
  pub place : ℕ
  pub line : Edge
  pub at : slice_get diagram.edges place ≡ Some line
  pub is : ◌≡◌ {A = LatencyEdge} edge (signal_edge line)

-- or that of a control into the block at a place of the list, which stands from a number on
pub record IsEnabling (from : ℕ) (blocks : List Block) (edge : LatencyEdge) : Type 0 where
  pub place : ℕ
  pub block : Block
  pub control : ℕ
  pub at : slice_get blocks place ≡ Some block
  pub enable : block.enable ≡ Some control
  pub asks : asks_ever (row_of block.kind).timing.asks ≡ true
  pub is : ◌≡◌ {A = LatencyEdge} edge (control_edge control (from + place))

line_there : (lines : List Edge) (k : ℕ) (edge : LatencyEdge) → slice_get (map signal_edge lines) k ≡ Some edge
    → (place : ℕ) × (line : Edge) × (slice_get lines place ≡ Some line)
    × (◌≡◌ {A = LatencyEdge} edge (signal_edge line))
line_there [] k edge at = absurd (none-some edge at)
line_there (line ∷ lines) zero edge at = (0, line, refl, sym (same_Some (signal_edge line) edge at))
line_there (line ∷ lines) (suc k) edge at = let more = line_there lines k edge at in (suc more.0, more.1, more.2, more.3)

enabling_there : (from : ℕ) (blocks : List Block) (k : ℕ) (edge : LatencyEdge) → slice_get (enable_edges_from from blocks) k ≡ Some edge → IsEnabling from blocks edge
enabling_there from [] k edge at = absurd (none-some edge at)
enabling_there from (x ∷ blocks) k edge at = elim (stands_either (enable_edge from (asks_ever (row_of x.kind).timing.asks) x.enable) (enable_edges_from (suc from) blocks) k edge at) [
  | inl here ↦ go (asks_ever (row_of x.kind).timing.asks) x.enable refl refl here.place here.at
  | inr later ↦
      let more = enabling_there (suc from) blocks later.place edge later.at in
      let place : suc from + more.place ≡ from + suc more.place = omega arith in
      record { place = suc more.place; block = more.block; control = more.control; at = more.at; enable = more.enable; asks = more.asks; is = more.is ∙ ap (control_edge more.control) place }
]
  where
    go : (a : Bool) (enable : Option ℕ) → asks_ever (row_of x.kind).timing.asks ≡ a → x.enable ≡ enable → (j : ℕ)
        → slice_get (enable_edge from a enable) j ≡ Some edge → IsEnabling from (x ∷ blocks) edge
    go a None p q j at = absurd (none-some edge at)
    go false (Some control) p q j at = absurd (none-some edge at)
    go true (Some control) p q (suc j) at = absurd (none-some edge at)
    go true (Some control) p q zero at =
        let place : from ≡ from + 0 = omega arith in
        record { place = 0; block = x; control = control; at = refl; enable = q; asks = p; is = sym (same_Some (control_edge control from) edge at) ∙ ap (control_edge control) place }

pub edge_cases : (diagram : Diagram) (number : ℕ) (edge : LatencyEdge) → IsEdge diagram number edge → IsLine diagram edge ⊎ IsEnabling 0 diagram.blocks edge
edge_cases diagram number edge at = elim (stands_either (map signal_edge diagram.edges) (enable_edges_from 0 diagram.blocks) number edge at) [
  | inl here ↦ let line = line_there diagram.edges here.place edge here.at in inl (record { place = line.0; line = line.1; at = line.2; is = line.3 })
  | inr there ↦ inr (enabling_there 0 diagram.blocks there.place edge there.at)
]

-- ---- the driver of a port

-- a line ends at a port of its block
pub ends_at : (diagram : Diagram) → IsWired diagram → (place : ℕ) (line : Edge) (b : Block)
    → slice_get diagram.edges place ≡ Some line → slice_get diagram.blocks line.to ≡ Some b
    → (1 ≤ line.to_port) × (line.to_port ≤ b.inputs)
ends_at diagram wired place line b at is = go (slice_get diagram.blocks line.to) is (held (Joins diagram.blocks) diagram.edges place line wired.edges at).target
  where
    go : (o : Option Block) → o ≡ Some b → MatchOption o ⊥ (λ (x : Block). (1 ≤ line.to_port) × (line.to_port ≤ x.inputs)) → (1 ≤ line.to_port) × (line.to_port ≤ b.inputs)
    go None e h = absurd h
    go (Some x) e h = subst (λ (y : Block). (1 ≤ line.to_port) × (line.to_port ≤ y.inputs)) (same_Some x b e) h

-- and drives it
pub drives : (diagram : Diagram) → IsWired diagram → (place : ℕ) (line : Edge) (b : Block)
    → slice_get diagram.edges place ≡ Some line → slice_get diagram.blocks line.to ≡ Some b
    → driver_of diagram line.to line.to_port ≡ Some line
drives diagram wired place line b at is =
    let ends = ends_at diagram wired place line b at is in
    found_only (enters line.to line.to_port) diagram.edges place line (wired.driven line.to line.to_port b is ends.0 ends.1) at
    (and_from (eqb line.to line.to) (eqb line.to_port line.to_port) (eq-eqb line.to line.to refl) (eq-eqb line.to_port line.to_port refl))
