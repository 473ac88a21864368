-- In a wired diagram the edges into a block stand in order of its input ports, one for each. Crates above may cite `inputs_are_sources`.
use Rattle.std.proofs.Common.{◌≡◌, ℕ, zero, suc, ◌+◌, ◌<◌, ◌≤◌, Bool, true, false, List, [], ◌∷◌, length, map, filter, cond, Some, Option, eqb, refl, sym, ap, subst, ◌∙◌, inl, inr, arith}
use Rattle.std.specs.Prelude.{None, MatchOption, slice_get, ⊤, find, count_by, AllPairs, ◌==◌, ◌&&◌}
use Rattle.std.proofs.lemmas.Bool.{eqb-true, eq-eqb, ne_eqb, cond-true, cond-false, cases_eq}
use Rattle.std.proofs.lemmas.List.Sums.{sum_by-cons}
use Rattle.std.proofs.lemmas.Option.{none-some, same_Some, slice_get_within, get_or_from_slice_get}
use Rattle.dg_model.specs.declared.diagram.Edge.{Edge}
use Rattle.dg_model.specs.declared.diagram.Diagram.{Diagram}
use Rattle.dg_model.specs.declared.diagram.Block.{Block}
use Rattle.math_list.specs.Numbers.{numbers_from}
use Rattle.dg_model.specs.Wires.{enters, driver_of, at_source}
use Rattle.dg_model.specs.Wired.{IsWired, StandsBefore}
use Rattle.dg_model.specs.Wires.{edges_into}
use Rattle.dg_model.specs.Wired.{Joins}

-- the edge ends at this port
abbrev pub at_port : ℕ → Edge → Bool
at_port port edge = edge.to_port == port

-- no port of these edges is below
record NoneBelow (low : ℕ) (edges : List Edge) : Type 0 where
  above : (k : ℕ) (edge : Edge) → slice_get edges k ≡ Some edge → low ≤ edge.to_port

-- the ports don't fall
abbrev AreOrdered : List Edge → Type 0
AreOrdered [] = ⊤
AreOrdered (x ∷ xs) = NoneBelow x.to_port xs × AreOrdered xs

counted : (port : ℕ) (x : Edge) (xs : List Edge) → count_by (at_port port) (x ∷ xs) ≡ cond (eqb x.to_port port) 1 0 + count_by (at_port port) xs
counted port x xs = sum_by-cons (λ (e : Edge). cond (at_port port e) 1 0) x xs

counted_here : (port : ℕ) (x : Edge) (xs : List Edge) → x.to_port ≡ port → count_by (at_port port) (x ∷ xs) ≡ 1 + count_by (at_port port) xs
counted_here port x xs same = counted port x xs ∙ ap (λ (n : ℕ). n + count_by (at_port port) xs) (cond-true (eqb x.to_port port) 1 0 (eq-eqb x.to_port port same))

counted_past : (port : ℕ) (x : Edge) (xs : List Edge) → (x.to_port ≡ port → ⊥) → count_by (at_port port) (x ∷ xs) ≡ count_by (at_port port) xs
counted_past port x xs other = counted port x xs ∙ ap (λ (n : ℕ). n + count_by (at_port port) xs) (cond-false (eqb x.to_port port) 1 0 (ne_eqb x.to_port port other)) ∙ omega arith

-- a port that no edge reaches isn't counted
none_counted : (port : ℕ) (edges : List Edge) → NoneBelow (suc port) edges → count_by (at_port port) edges ≡ 0
none_counted port [] none = refl
none_counted port (x ∷ xs) none =
    counted_past port x xs (λ same. absurd (omega (arith, none.above 0 x refl))) ∙ none_counted port xs (record { above = λ k edge at. none.above (suc k) edge at })

-- one that isn't counted is at no edge
not_counted : (port : ℕ) (edges : List Edge) → count_by (at_port port) edges ≡ 0 → (k : ℕ) (edge : Edge) → slice_get edges k ≡ Some edge → edge.to_port ≡ port → ⊥
not_counted port [] none k edge at same = none-some edge at
not_counted port (x ∷ xs) none zero edge at same =
    let e : x ≡ edge = same_Some x edge at in
    absurd (omega (arith, counted_here port x xs (ap (λ (o : Edge). o.to_port) e ∙ same)))
not_counted port (x ∷ xs) none (suc k) edge at same = not_counted port xs (omega (arith, counted port x xs)) k edge at same

found_past : (port : ℕ) (x : Edge) (xs : List Edge) → (x.to_port ≡ port → ⊥) → find (at_port port) (x ∷ xs) ≡ find (at_port port) xs
found_past port x xs other = cond-false (eqb x.to_port port) (Some x) (find (at_port port) xs) (ne_eqb x.to_port port other)

found_here : (port : ℕ) (x : Edge) (xs : List Edge) → x.to_port ≡ port → find (at_port port) (x ∷ xs) ≡ Some x
found_here port x xs same = cond-true (eqb x.to_port port) (Some x) (find (at_port port) xs) (eq-eqb x.to_port port same)

mapped_numbers : {A : Type 0} (f g : ℕ → A) (from n : ℕ) → ((k : ℕ) → from ≤ k → f k ≡ g k) → map f (numbers_from from n) ≡ map g (numbers_from from n)
mapped_numbers f g from zero same = refl
mapped_numbers f g from (suc n) same =
    let head : f from ≡ g from = same from (omega arith) in
    let tail = mapped_numbers f g (suc from) n (λ k above. same k (omega arith)) in cc

above_first : (low : ℕ) (x : Edge) (xs : List Edge) → NoneBelow x.to_port xs → (k : ℕ) (edge : Edge) → slice_get (x ∷ xs) k ≡ Some edge → low ≤ x.to_port → low ≤ edge.to_port
above_first low x xs none zero edge at least = subst (λ (e : Edge). low ≤ e.to_port) (same_Some x edge at) least
above_first low x xs none (suc k) edge at least = omega (arith, none.above k edge at)

first_then : (low n : ℕ) (x : Edge) (xs : List Edge) → x.to_port ≡ low
    → map (λ port. find (at_port port) xs) (numbers_from (suc low) n) ≡ map Some xs
    → map (λ port. find (at_port port) (x ∷ xs)) (numbers_from low (suc n)) ≡ map Some (x ∷ xs)
first_then low n x xs first later =
    let head : find (at_port low) (x ∷ xs) ≡ Some x = found_here low x xs first in
    let tail : map (λ port. find (at_port port) (x ∷ xs)) (numbers_from (suc low) n) ≡ map Some xs =
    mapped_numbers (λ port. find (at_port port) (x ∷ xs)) (λ port. find (at_port port) xs) (suc low) n (λ port high. found_past port x xs (λ same. absurd (omega (arith, same, first)))) ∙ later in
    cc

-- where each of n ports from `low` on is met once, the ports don't fall and there are no others, the edges are what is found port by port
in_order : (low n : ℕ) (edges : List Edge) → AreOrdered edges → NoneBelow low edges
    → ((k : ℕ) (edge : Edge) → slice_get edges k ≡ Some edge → edge.to_port < low + n)
    → ((port : ℕ) → low ≤ port → port < low + n → count_by (at_port port) edges ≡ 1) →
    map (λ port. find (at_port port) edges) (numbers_from low n) ≡ map Some edges
in_order low zero [] ordered below above once = refl
in_order low zero (x ∷ xs) ordered below above once = absurd (omega (arith, below.above 0 x refl, above 0 x refl))
in_order low (suc n) [] ordered below above once = let none : ◌≡◌ {A = ℕ} 0 1 = once low (omega arith) (omega arith) in absurd (omega arith)
in_order low (suc n) (x ∷ xs) ordered below above once =
    let least : low ≤ x.to_port = below.above 0 x refl in
    let here = once low (omega arith) (omega arith) in
    elim (cases_eq x.to_port low) [
      | inl first ↦
          let none : count_by (at_port low) xs ≡ 0 = omega (arith, here, counted_here low x xs first) in
          let below_more : NoneBelow (suc low) xs = record {
            above = λ k edge at.
                let higher : x.to_port ≤ edge.to_port = ordered.0.above k edge at in
                elim (cases_eq edge.to_port low) [ inl same ↦ absurd (not_counted low xs none k edge at same) | inr other ↦ omega (arith, higher, first, other) ];
          } in
          let ih = in_order (suc low) n xs (ordered.1) below_more
          (λ k edge at. omega (arith, above (suc k) edge at))
          (λ port high under. sym (counted_past port x xs (λ same. absurd (omega (arith, same, first)))) ∙ once port (omega arith) (omega arith)) in
          first_then low n x xs first ih
      | inr other ↦
          let higher : NoneBelow (suc low) (x ∷ xs) = record { above = λ k edge at. above_first (suc low) x xs (ordered.0) k edge at (omega (arith, least, other)) } in
          absurd (omega (arith, here, none_counted low (x ∷ xs) higher))
    ]

-- ---- the edges into a block

into_from : (P : Edge → Type 0) (to : ℕ) (edges : List Edge) → ((j : ℕ) (edge : Edge) → slice_get edges j ≡ Some edge → edge.to ≡ to → P edge) →
    (k : ℕ) (edge : Edge) → slice_get (filter (λ edge. edge.to == to) edges) k ≡ Some edge → P edge
into_from P to [] all k edge at = absurd (none-some edge at)
into_from P to (x ∷ xs) all k edge at = go (eqb x.to to) refl (into_from P to xs (λ j e is same. all (suc j) e is same)) k at where
  go : (b : Bool) → eqb x.to to ≡ b → ((i : ℕ) (z : Edge) → slice_get (filter (λ edge. edge.to == to) xs) i ≡ Some z
      → P z) → (i : ℕ) → slice_get (cond b (x ∷ filter (λ edge. edge.to == to) xs)
      (filter (λ edge. edge.to == to) xs)) i ≡ Some edge → P edge
  go true e later zero here = subst P (same_Some x edge here) (all 0 x refl (eqb-true x.to to e))
  go true e later (suc i) here = later i edge here
  go false e later i here = later i edge here

pairs_later : (x : Edge) (xs : List Edge) → AllPairs StandsBefore (x ∷ xs) → AllPairs StandsBefore xs
pairs_later x xs pairs i j d before inside = pairs (suc i) (suc j) d (omega arith) (omega arith)

pairs_first : (x : Edge) (xs : List Edge) → AllPairs StandsBefore (x ∷ xs) → (j : ℕ) (edge : Edge) → slice_get xs j ≡ Some edge → StandsBefore x edge
pairs_first x xs pairs j edge at =
    let inside : j < length xs = slice_get_within xs j edge at in
    subst (StandsBefore x) (get_or_from_slice_get xs j edge edge at) (pairs 0 (suc j) edge (omega arith) (omega arith))

port_before : (x edge : Edge) (to : ℕ) → x.to ≡ to → edge.to ≡ to → StandsBefore x edge → x.to_port ≤ edge.to_port
port_before x edge to x_to edge_to (inl less) = absurd (omega arith)
port_before x edge to x_to edge_to (inr same) = same.1

into_ordered : (to : ℕ) (edges : List Edge) → AllPairs StandsBefore edges → AreOrdered (filter (λ edge. edge.to == to) edges)
into_ordered to [] pairs = tt
into_ordered to (x ∷ xs) pairs = go (eqb x.to to) refl (into_ordered to xs (pairs_later x xs pairs)) where
  go : (b : Bool) → eqb x.to to ≡ b → AreOrdered (filter (λ edge. edge.to == to) xs) → AreOrdered (cond b (x ∷ filter (λ edge. edge.to == to) xs) (filter (λ edge. edge.to == to) xs))
  go true e later = (
    record {
      above = into_from (λ (edge : Edge). x.to_port ≤ edge.to_port) to xs
          (λ j edge at same. port_before x edge to (eqb-true x.to to e) same (pairs_first x xs pairs j edge at));
    },
    later,
  )
  go false e later = later

found_into : (to port : ℕ) (edges : List Edge) → find (enters to port) edges ≡ find (at_port port) (filter (λ edge. edge.to == to) edges)
found_into to port [] = refl
found_into to port (x ∷ xs) = go (eqb x.to to) (found_into to port xs) where
  go : (b : Bool) → find (enters to port) xs ≡ find (at_port port) (filter (λ edge. edge.to == to) xs)
      → cond (b && eqb x.to_port port) (Some x) (find (enters to port) xs)
      ≡ find (at_port port) (cond b (x ∷ filter (λ edge. edge.to == to) xs) (filter (λ edge. edge.to == to) xs))
  go true later = ap (cond (eqb x.to_port port) (Some x)) later
  go false later = later

counted_into : (to port : ℕ) (edges : List Edge) → count_by (enters to port) edges ≡ count_by (at_port port) (filter (λ edge. edge.to == to) edges)
counted_into to port [] = refl
counted_into to port (x ∷ xs) = sum_by-cons (λ (e : Edge). cond (enters to port e) 1 0) x xs ∙ go (eqb x.to to) (counted_into to port xs) where
  go : (b : Bool) → count_by (enters to port) xs ≡ count_by (at_port port) (filter (λ edge. edge.to == to) xs)
      → cond (b && eqb x.to_port port) 1 0 + count_by (enters to port) xs
      ≡ count_by (at_port port)
      (cond b (x ∷ filter (λ edge. edge.to == to) xs) (filter (λ edge. edge.to == to) xs))
  go true later = ap (λ (n : ℕ). cond (eqb x.to_port port) 1 0 + n) later ∙ sym (counted port x (filter (λ edge. edge.to == to) xs))
  go false later = omega (arith, later)

all_found : (f g : ℕ → Option Edge) (from n : ℕ) → ((k : ℕ) → f k ≡ g k) → map f (numbers_from from n) ≡ map g (numbers_from from n)
all_found f g from n same = mapped_numbers f g from n (λ k above. same k)

pub found : (o : Option Block) (P : Block → Type 0) → MatchOption o ⊥ P → (block : Block) × (o ≡ Some block) × P block
found None P is = absurd is
found (Some block) P is = (block, refl, is)

pub joins : (diagram : Diagram) (k : ℕ) (edge : Edge) → IsWired diagram → slice_get diagram.edges k ≡ Some edge → Joins diagram.blocks edge
joins diagram k edge wired at = subst (Joins diagram.blocks) (get_or_from_slice_get diagram.edges k edge edge at) (wired.edges k edge (slice_get_within diagram.edges k edge at))

-- the drivers of a block's ports in order are the edges into it
pub drivers_are_edges : (diagram : Diagram) (place : ℕ) (block : Block) → IsWired diagram
    → slice_get diagram.blocks place ≡ Some block
    → map (driver_of diagram place) (numbers_from 1 block.inputs) ≡ map Some (edges_into diagram place)
drivers_are_edges diagram place block wired at =
    let edges = edges_into diagram place in
    let ports : (j : ℕ) (edge : Edge) → slice_get diagram.edges j ≡ Some edge → edge.to ≡ place → (1 ≤ edge.to_port) × (edge.to_port ≤ block.inputs) = λ j edge here same.
    let to = found (slice_get diagram.blocks edge.to) (λ b. (1 ≤ edge.to_port) × (edge.to_port ≤ b.inputs)) (joins diagram j edge wired here).target in
    let is : to.0 ≡ block = same_Some (to.0) block (sym (to.1) ∙ ap (slice_get diagram.blocks) same ∙ at) in
    subst (λ (b : Block). (1 ≤ edge.to_port) × (edge.to_port ≤ b.inputs)) is (to.2) in
    all_found (driver_of diagram place) (λ port. find (at_port port) edges) 1 block.inputs (λ port. found_into place port diagram.edges)
    ∙ in_order 1 block.inputs edges (into_ordered place diagram.edges wired.ordered)
    (record { above = into_from (λ (edge : Edge). 1 ≤ edge.to_port) place diagram.edges (λ j edge here same. (ports j edge here same).0) })
    (into_from (λ (edge : Edge). edge.to_port < 1 + block.inputs) place diagram.edges (λ j edge here same. omega (arith, (ports j edge here same).1)))
    (λ port low under. sym (counted_into place port diagram.edges) ∙ wired.driven place port block at low (omega arith))

pub map_twice : {A B C : Type 0} (f : A → B) (g : B → C) (xs : List A) → map g (map f xs) ≡ map (λ (x : A). g (f x)) xs
map_twice f g [] = refl
map_twice f g (x ∷ xs) = let tail = map_twice f g xs in cc

-- what holds at the source of each port in order is what holds at the source of each edge
pub inputs_are_sources : {A : Type 0} (other : A) (of_port : ℕ → ℕ → A) (diagram : Diagram) (place : ℕ) (block : Block) → IsWired diagram → slice_get diagram.blocks place ≡ Some block →
    map (λ port. at_source (driver_of diagram place port) other of_port) (numbers_from 1 block.inputs) ≡ map (λ edge. of_port edge.from edge.from_port) (edges_into diagram place)
inputs_are_sources {A} other of_port diagram place block wired at =
    let show : Option Edge → A = λ driver. at_source driver other of_port in
    sym (map_twice (driver_of diagram place) show (numbers_from 1 block.inputs))
    ∙ ap (map show) (drivers_are_edges diagram place block wired at)
    ∙ map_twice {B = Option Edge} (λ edge. Some edge) show (edges_into diagram place)

pub enters_self : (edge : Edge) → enters edge.to edge.to_port edge ≡ true
enters_self edge = rw (eq-eqb edge.to edge.to refl, eq-eqb edge.to_port edge.to_port refl) refl
