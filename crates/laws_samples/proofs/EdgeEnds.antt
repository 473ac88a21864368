-- The edges into a block, and where they come from.
use Rattle.std.proofs.Common.{◌≡◌, ℕ, zero, suc, ◌<◌, ◌≤◌, length, arith, ◌==◌, Bool, true, false, cond, count_by, find, List, [], ◌∷◌, filter, Option, Some, None, slice_get, ap, sym, ◌∙◌, refl, eqb-true}
use Rattle.std.specs.Prelude.{MatchOption}
use Rattle.std.proofs.lemmas.Option.{none-some, same_Some}
use Rattle.math_list.proofs.Places.{held, count_cons}
use Rattle.math_list.proofs.Tests.{left_true}
use Rattle.dg_model.specs.declared.diagram.Block.{Block}
use Rattle.dg_model.specs.declared.diagram.Diagram.{Diagram}
use Rattle.dg_model.specs.declared.diagram.Edge.{Edge}
use Rattle.dg_model.specs.Wired.{IsWired, Joins}
use Rattle.dg_model.specs.Wires.{driver_of, edges_into, enters}

-- what passes a test stands in the list, and passes it
filtered : {A : Type 0} (test : A → Bool) (xs : List A) (k : ℕ) (x : A) → slice_get (filter test xs) k ≡ Some x → (j : ℕ) × (slice_get xs j ≡ Some x) × (test x ≡ true)
filtered test [] k x at = absurd (none-some x at)
filtered {A} test (y ∷ ys) k x at = by (test y) refl (λ i. filtered test ys i x) k at
  where
    by : (t : Bool) → test y ≡ t → ((i : ℕ) → slice_get (filter test ys) i ≡ Some x → (j : ℕ) × (slice_get ys j ≡ Some x) × (test x ≡ true))
        → (i : ℕ) → slice_get (cond t (y ∷ filter test ys) (filter test ys)) i ≡ Some x → (j : ℕ) × (slice_get (y ∷ ys) j ≡ Some x) × (test x ≡ true)
    by true is again zero at = (0, at, ap test (sym (same_Some y x at)) ∙ is)
    by true is again (suc i) at = let more = again i at in (suc more.0, more.1, more.2)
    by false is again i at = let more = again i at in (suc more.0, more.1, more.2)

-- an edge into a block is one of the diagram, and ends there
pub into_edge : (diagram : Diagram) (place k : ℕ) (edge : Edge) → slice_get (edges_into diagram place) k ≡ Some edge → (j : ℕ) × (slice_get diagram.edges j ≡ Some edge) × (edge.to ≡ place)
into_edge diagram place k edge at =
    let is = filtered (λ (e : Edge). e.to == place) diagram.edges k edge at in
    (is.0, is.1, eqb-true edge.to place is.2)

-- the block that an edge comes from, and its output port
pub record Source (diagram : Diagram) (edge : Edge) : Type 0 where
  pub block : Block
  pub there : slice_get diagram.blocks edge.from ≡ Some block
  pub above : 1 ≤ edge.from_port
  pub within : edge.from_port ≤ block.outputs

pub source_of : (diagram : Diagram) → IsWired diagram → (j : ℕ) (edge : Edge) → slice_get diagram.edges j ≡ Some edge → Source diagram edge
source_of diagram wired j edge at = by (slice_get diagram.blocks edge.from) refl (held (Joins diagram.blocks) diagram.edges j edge wired.edges at).source
  where
    by : (o : Option Block) → slice_get diagram.blocks edge.from ≡ o → MatchOption o ⊥ (λ block. (1 ≤ edge.from_port) × (edge.from_port ≤ block.outputs)) → Source diagram edge
    by None is joins = absurd joins
    by (Some block) is joins = record { block = block; there = is; above = joins.0; within = joins.1 }

-- ---- the driver of an input

-- where a list has one element that passes a test, a search finds it
found_one : {A : Type 0} (test : A → Bool) (xs : List A) → count_by test xs ≡ 1 → (x : A) × (j : ℕ) × (slice_get xs j ≡ Some x) × (find test xs ≡ Some x) × (test x ≡ true)
found_one test [] one = absurd (omega (arith, one))
found_one {A} test (y ∷ ys) one = by (test y) refl (λ more. found_one test ys more)
  where
    by : (t : Bool) → test y ≡ t → (count_by test ys ≡ 1 → (x : A) × (j : ℕ) × (slice_get ys j ≡ Some x) × (find test ys ≡ Some x) × (test x ≡ true))
        → (x : A) × (j : ℕ) × (slice_get (y ∷ ys) j ≡ Some x) × (cond t (Some y) (find test ys) ≡ Some x) × (test x ≡ true)
    by true is again = (y, 0, refl, refl, is)
    by false is again =
        let count = count_cons test y ys in
        let own : Bool → ℕ = λ b. cond b 1 0 in
        let none : own (test y) ≡ 0 = ap own is in
        let more = again (omega (arith, count, none, one)) in
        (more.0, suc more.1, more.2, more.3, more.4)

-- the edge into the one input of a block
pub record Driver (diagram : Diagram) (place : ℕ) : Type 0 where
  pub edge : Edge
  pub number : ℕ
  pub there : slice_get diagram.edges number ≡ Some edge
  pub drives : driver_of diagram place 1 ≡ Some edge
  pub ends : edge.to ≡ place

pub driver_at : (diagram : Diagram) → IsWired diagram → (place : ℕ) (b : Block) → slice_get diagram.blocks place ≡ Some b → b.inputs ≡ 1 → Driver diagram place
driver_at diagram wired place b at one =
    let is = found_one (enters place 1) diagram.edges (wired.driven place 1 b at (omega arith) (omega (arith, one))) in
    record { edge = is.0; number = is.1; there = is.2; drives = is.3; ends = eqb-true is.0.to place (left_true (is.0.to == place) (is.0.to_port == 1) is.4) }

-- what stands in a list and passes a test isn't passed over
some_filtered : {A : Type 0} (test : A → Bool) (xs : List A) (j : ℕ) (x : A) → slice_get xs j ≡ Some x → test x ≡ true → 0 < length (filter test xs)
some_filtered test [] j x at is = absurd (none-some x at)
some_filtered test (y ∷ ys) zero x at is = rw (ap test (same_Some y x at) ∙ is) (omega arith)
some_filtered test (y ∷ ys) (suc j) x at is = by (test y) (some_filtered test ys j x at is)
  where
    by : (t : Bool) → 0 < length (filter test ys) → 0 < length (cond t (y ∷ filter test ys) (filter test ys))
    by true some = omega arith
    by false some = some

pub some_into : (diagram : Diagram) (place : ℕ) → Driver diagram place → 0 < length (edges_into diagram place)
some_into diagram place driver = some_filtered (λ (e : Edge). e.to == place) diagram.edges driver.number driver.edge driver.there (by driver.edge.to driver.ends)
  where
    by : (to : ℕ) → to ≡ place → (to == place) ≡ true
    by to same = grind arith
