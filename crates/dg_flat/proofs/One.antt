-- A wired flat diagram is one: its edges have different ends, so they stand in one order.
use Rattle.std.proofs.Common.{◌≡◌, ℕ, zero, suc, ◌+◌, ◌<◌, ◌≤◌, inl, inr, Bool, true, false, cond, List, [], ◌∷◌, get_or, All, Option, Some, None, refl, sym, ◌∙◌, ap, arith, true≢false, eqb-true}
use Rattle.std.proofs.Common.{eq-eqb}
use Rattle.std.specs.Prelude.{◌==◌, ◌&&◌, ◌⊎◌, count_by, slice_get, AllPairs, MatchOption}
use Rattle.std.specs.List.{filter_map}
use Rattle.std.proofs.lemmas.Bool.{cases_order, and_parts}
use Rattle.std.proofs.lemmas.Bool.Decides.{nat_tests}
use Rattle.std.proofs.lemmas.List.Sorted.{sum_by-IsPermutation}
use Rattle.std.proofs.lemmas.List.Sums.{sum_by-append}
use Rattle.dg_model.specs.declared.diagram.Block.{Block}
use Rattle.dg_model.specs.declared.diagram.Diagram.{Diagram}
use Rattle.dg_model.specs.declared.diagram.Edge.{Edge}
use Rattle.dg_model.specs.declared.nested.Nested.{Nested}
use Rattle.dg_model.specs.Wired.{IsWired, Joins, StandsBefore}
use Rattle.dg_model.specs.Wires.{enters}
use Rattle.dg_flat.specs.Flat.{IsFlatOf, edge_of}
use Rattle.dg_model.proofs.Ports.{enters_self}

-- ---- counts

count_cons : (p : Edge → Bool) (x : Edge) (xs : List Edge) → count_by p (x ∷ xs) ≡ (0 + cond (p x) 1 0) + count_by p xs
count_cons p x xs = sum_by-append (λ y. cond (p y) 1 0) (x ∷ []) xs

count_yes : (p : Edge → Bool) (x : Edge) (xs : List Edge) → p x ≡ true → count_by p (x ∷ xs) ≡ 1 + count_by p xs
count_yes p x xs passes = let e = count_cons p x xs ∙ ap (λ (b : Bool). (0 + cond b 1 0) + count_by p xs) passes in omega (arith, e)

count_no : (p : Edge → Bool) (x : Edge) (xs : List Edge) → p x ≡ false → count_by p (x ∷ xs) ≡ count_by p xs
count_no p x xs fails = let e = count_cons p x xs ∙ ap (λ (b : Bool). (0 + cond b 1 0) + count_by p xs) fails in omega (arith, e)

-- what passes is there, with what all have
counted : (P : Edge → Type 0) (p : Edge → Bool) (xs : List Edge) → All P xs → 1 ≤ count_by p xs → (x : Edge) × P x × (p x ≡ true)
counted P p [] all some = absurd (omega (arith, some))
counted P p (x ∷ xs) all some = by (λ more. counted P p xs (λ k d inside. all (suc k) d (omega (arith, inside))) more) (p x) refl
  where
    by : (1 ≤ count_by p xs → (y : Edge) × P y × (p y ≡ true)) → (b : Bool) → p x ≡ b → (y : Edge) × P y × (p y ≡ true)
    by later true passes = (x, all 0 x (omega arith), passes)
    by later false fails = later (omega (arith, some, count_no p x xs fails))

-- none passes
abbrev NonePass : (Edge → Bool) → List Edge → Type 0
NonePass p xs = All (λ x. p x ≡ false) xs

none_counted : (p : Edge → Bool) (xs : List Edge) → NonePass p xs → 1 ≤ count_by p xs → ⊥
none_counted p xs none some =
    let found = counted (λ x. p x ≡ false) p xs none some in
    true≢false (sym found.2 ∙ found.1)

-- ---- edges

-- the two edges are one
abbrev same_edge : Edge → Edge → Bool
same_edge edge other = (other.from == edge.from) && (other.from_port == edge.from_port) && enters edge.to edge.to_port other

edge_self : (edge : Edge) → same_edge edge edge ≡ true
edge_self edge = rw (eq-eqb edge.from edge.from refl, eq-eqb edge.from_port edge.from_port refl, eq-eqb edge.to edge.to refl, eq-eqb edge.to_port edge.to_port refl) refl

edge_with : (edge other : Edge) → same_edge edge other ≡ true → edge ≡ other
edge_with edge other same =
    let outer = and_parts ((other.from == edge.from) && (other.from_port == edge.from_port)) (enters edge.to edge.to_port other) same in
    let from = and_parts (other.from == edge.from) (other.from_port == edge.from_port) outer.0 in
    let to = and_parts (other.to == edge.to) (other.to_port == edge.to_port) outer.1 in
    equal edge other (sym (eqb-true other.from edge.from from.0))
    (sym (eqb-true other.from_port edge.from_port from.1)) (sym (eqb-true other.to edge.to to.0))
    (sym (eqb-true other.to_port edge.to_port to.1))
  where
    equal : (a b : Edge) → a.from ≡ b.from → a.from_port ≡ b.from_port → a.to ≡ b.to → a.to_port ≡ b.to_port → a ≡ b
    equal a b e f g h =
        let one : ◌≡◌ {A = Edge} a (record {
          from = b.from;
          from_port = a.from_port;
          to = a.to;
          to_port =
              a.to_port;
        }) =
        ap (λ (n : ℕ). record { from = n; from_port = a.from_port; to = a.to; to_port = a.to_port }) e in
        let two : ◌≡◌ {A = Edge} (record { from = b.from; from_port = a.from_port; to = a.to; to_port = a.to_port })
        (record { from = b.from; from_port = b.from_port; to = a.to; to_port = a.to_port }) =
        ap (λ (n : ℕ). record { from = b.from; from_port = n; to = a.to; to_port = a.to_port }) f in
        let three : ◌≡◌ {A = Edge} (record {
          from = b.from;
          from_port = b.from_port;
          to = a.to;
          to_port =
              a.to_port;
        }) (record { from = b.from; from_port = b.from_port; to = b.to; to_port = a.to_port }) =
        ap (λ (n : ℕ). record { from = b.from; from_port = b.from_port; to = n; to_port = a.to_port }) g in
        let four : ◌≡◌ {A = Edge} (record {
          from = b.from;
          from_port = b.from_port;
          to = b.to;
          to_port =
              a.to_port;
        }) b =
        ap (λ (n : ℕ). record { from = b.from; from_port = b.from_port; to = b.to; to_port = n }) h in
        one ∙ two ∙ three ∙ four

enters_of_same : (edge other : Edge) → same_edge edge other ≡ true → enters edge.to edge.to_port other ≡ true
enters_of_same edge other same = (and_parts ((other.from == edge.from) && (other.from_port == edge.from_port)) (enters edge.to edge.to_port other) same).1

-- ---- ordered edges of different ends

-- each end has one edge at most
abbrev AreApart : List Edge → Type 0
AreApart edges = (block port : ℕ) → count_by (enters block port) edges ≤ 1

abbrev AreAlike : List Edge → List Edge → Type 0
AreAlike edges others = (p : Edge → Bool) → count_by p edges ≡ count_by p others

-- an edge that stands before all others meets an end before theirs
passed : (edge other later : Edge) → (edge.to < other.to) ⊎ ((edge.to ≡ other.to) × (edge.to_port < other.to_port)) → StandsBefore other later → enters edge.to edge.to_port later ≡ false
passed edge other later (inl less) (inl before) = grind (arith, nat_tests)
passed edge other later (inl less) (inr before) = grind (arith, nat_tests)
passed edge other later (inr less) (inl before) = grind (arith, nat_tests)
passed edge other later (inr less) (inr before) = grind (arith, nat_tests)

passed_here : (edge other : Edge) → (edge.to < other.to) ⊎ ((edge.to ≡ other.to) × (edge.to_port < other.to_port)) → enters edge.to edge.to_port other ≡ false
passed_here edge other less = passed edge other other less (inr (refl, omega arith))

-- so it isn't among them
not_first : (edge other : Edge) (edges others : List Edge) → AreAlike (edge ∷ edges) (other ∷ others)
    → AllPairs StandsBefore (other ∷ others)
    → (edge.to < other.to) ⊎ ((edge.to ≡ other.to) × (edge.to_port < other.to_port)) → ⊥
not_first edge other edges others alike ordered less =
    let test = enters edge.to edge.to_port in
    none_counted test others (λ k d inside. passed edge other (get_or others k d) less (ordered 0 (suc k) d (omega arith) (omega (arith, inside))))
    (omega (arith, count_yes test edge edges (enters_self edge), alike test, count_no test other others (passed_here edge other less)))

-- where none meets the end of an edge, that one isn't there
none_same : (edge : Edge) (xs : List Edge) → 1 ≤ count_by (same_edge edge) xs → count_by (enters edge.to edge.to_port) xs ≡ 0 → ⊥
none_same edge [] some none = absurd (omega (arith, some))
none_same edge (x ∷ xs) some none = test (λ a b. none_same edge xs a b) (same_edge edge x) refl (enters edge.to edge.to_port x) refl
  where
    test : (1 ≤ count_by (same_edge edge) xs → count_by (enters edge.to edge.to_port) xs ≡ 0 → ⊥) → (b : Bool) → same_edge edge x ≡ b → (c : Bool) → enters edge.to edge.to_port x ≡ c → ⊥
    test later b is true meets = absurd (omega (arith, none, count_yes (enters edge.to edge.to_port) x xs meets))
    test later true is false passes = true≢false (sym (enters_of_same edge x is) ∙ passes)
    test later false is false passes = later (omega (arith, some, count_no (same_edge edge) x xs is)) (omega (arith, none, count_no (enters edge.to edge.to_port) x xs passes))

-- two first edges that meet one end are one
first_is : (edge other : Edge) (edges others : List Edge) → AreAlike (edge ∷ edges) (other ∷ others) → AreApart (other ∷ others) → other.to ≡ edge.to → other.to_port ≡ edge.to_port → edge ≡ other
first_is edge other edges others alike apart to port = by (same_edge edge other) refl
  where
    here : enters edge.to edge.to_port other ≡ true
    here = rw (eq-eqb other.to edge.to to, eq-eqb other.to_port edge.to_port port) refl

    by : (b : Bool) → same_edge edge other ≡ b → edge ≡ other
    by true same = edge_with edge other same
    by false differs =
        let some : 1 ≤ count_by (same_edge edge) others =
        omega (
          arith,
          count_yes (same_edge edge) edge edges (edge_self edge),
          alike (same_edge edge),
          count_no (same_edge edge) other others differs,
        ) in
        let none : count_by (enters edge.to edge.to_port) others ≡ 0 = omega (arith, apart edge.to edge.to_port, count_yes (enters edge.to edge.to_port) other others here) in
        absurd (none_same edge others some none)

one_order : (edges others : List Edge) → AreAlike edges others → AreApart others → AllPairs StandsBefore edges → AllPairs StandsBefore others → edges ≡ others
one_order [] [] alike apart ordered too = refl
one_order [] (other ∷ others) alike apart ordered too = absurd (omega (arith, alike (λ x. true), count_yes (λ x. true) other others refl))
one_order (edge ∷ edges) [] alike apart ordered too = absurd (omega (arith, alike (λ x. true), count_yes (λ x. true) edge edges refl))
one_order (edge ∷ edges) (other ∷ others) alike apart ordered too =
    let first : edge ≡ other = elim (cases_order edge.to other.to) [
      | inl to ↦ elim (cases_order edge.to_port other.to_port) [
        | inl port ↦ first_is edge other edges others alike apart (sym to) (sym port)
        | inr differ ↦ elim differ [
          | inl less ↦ absurd (not_first edge other edges others alike too (inr (to, less)))
          | inr more ↦ absurd (not_first other edge others edges (λ p. sym (alike p)) ordered (inr (sym to, more)))
        ]
      ]
      | inr differ ↦ elim differ [
        | inl less ↦ absurd (not_first edge other edges others alike too (inl less))
        | inr more ↦ absurd (not_first other edge others edges (λ p. sym (alike p)) ordered (inl more))
      ]
    ] in
    let rest : edges ≡ others = one_order edges others
    (λ p. omega (arith, alike p, count_cons p edge edges, count_cons p other others, ap {B = ℕ} (λ (e : Edge). cond (p e) 1 0) first))
    (λ block port. omega (arith, apart block port, count_cons (enters block port) other others))
    (λ i j d less inside. ordered (suc i) (suc j) d (omega (arith, less)) (omega (arith, inside)))
    (λ i j d less inside. too (suc i) (suc j) d (omega (arith, less)) (omega (arith, inside))) in
    ap (λ (e : Edge). e ∷ edges) first ∙ ap (λ (l : List Edge). other ∷ l) rest

-- ---- the diagram

apart : (diagram : Diagram) → IsWired diagram → AreApart diagram.edges
apart diagram wired block port = by (count_by (enters block port) diagram.edges) refl
  where
    at_port : (edge : Edge) → Joins diagram.blocks edge → enters block port edge ≡ true → count_by (enters block port) diagram.edges ≡ 1
    at_port edge joins enter =
        let both = and_parts (edge.to == block) (edge.to_port == port) enter in
        let to = eqb-true edge.to block both.0 in
        let at = eqb-true edge.to_port port both.1 in
        of_block (slice_get diagram.blocks edge.to) refl joins.target
      where
        of_block : (found : Option Block) → slice_get diagram.blocks edge.to ≡ found
            → MatchOption found ⊥ (λ b. (1 ≤ edge.to_port) × (edge.to_port ≤ b.inputs))
            → count_by (enters block port) diagram.edges ≡ 1
        of_block None is none = absurd none
        of_block (Some b) is has =
            let both = and_parts (edge.to == block) (edge.to_port == port) enter in
            let to = eqb-true edge.to block both.0 in
            let at = eqb-true edge.to_port port both.1 in
            wired.driven block port b (ap (slice_get diagram.blocks) (sym to) ∙ is) (omega (arith, at, has.0)) (omega (arith, at, has.1))

    by : (n : ℕ) → count_by (enters block port) diagram.edges ≡ n → count_by (enters block port) diagram.edges ≤ 1
    by zero is = omega (arith, is)
    by (suc n) is =
        let found = counted (Joins diagram.blocks) (enters block port) diagram.edges wired.edges (omega (arith, is)) in
        omega (arith, at_port found.0 found.1 found.2)

pub one_flat : (nested : Nested) (one other : Diagram) → IsFlatOf nested one → IsWired one → IsFlatOf nested other → one ≡ other
one_flat nested one other is wired too =
    let base : List Edge = filter_map (edge_of nested.blocks) nested.lines in
    let alike : AreAlike other.edges one.edges =
    λ p. sum_by-IsPermutation (λ x. cond (p x) 1 0) base other.edges too.edges
    ∙ sym (sum_by-IsPermutation (λ x. cond (p x) 1 0) base one.edges is.edges) in
    let edges : other.edges ≡ one.edges = one_order other.edges one.edges alike (apart one wired) too.ordered is.ordered in
    equal one other (is.blocks ∙ sym too.blocks) (sym edges)
  where
    equal : (a b : Diagram) → a.blocks ≡ b.blocks → a.edges ≡ b.edges → a ≡ b
    equal a b e f =
        let one : ◌≡◌ {A = Diagram} a (record { blocks = b.blocks; edges = a.edges }) = ap (λ (blocks : List Block). record { blocks = blocks; edges = a.edges }) e in
        let two : ◌≡◌ {A = Diagram} (record { blocks = b.blocks; edges = a.edges }) b = ap (λ (edges : List Edge). record { blocks = b.blocks; edges = edges }) f in
        one ∙ two
