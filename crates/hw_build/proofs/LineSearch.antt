-- The line into a port is found by the order of the lines.
use Rattle.std.proofs.Common.{◌≡◌, ℕ, zero, suc, ◌+◌, ◌<◌, ◌≤◌, ◌⊎◌, inl, inr, ◌||◌, ◌&&◌, ◌==◌, Bool, true, false, cond, count_by, find, List, [], ◌∷◌, length, Some, ap, sym, ◌∙◌, subst, refl, arith}
use Rattle.std.specs.Prelude.{AllPairs, nat_lt, slice_get, get_or}
use Rattle.std.specs.List.Sorted.{IsPartitionedBy, IsPartitionPoint}
use Rattle.std.proofs.lemmas.Bool.{and_from, and_parts, cases_Bool, cases_lt, eq-eqb, eqb-true, ltb-true, lt-ltb, le-ltb}
use Rattle.std.proofs.lemmas.List.Sums.{sum_by-cons}
use Rattle.std.proofs.lemmas.Option.{none-some, same_Some, slice_get_within, get_or_from_slice_get}
use Rattle.dg_model.specs.declared.diagram.Diagram.{Diagram}
use Rattle.dg_model.specs.declared.diagram.Block.{Block}
use Rattle.dg_model.specs.declared.diagram.Edge.{Edge}
use Rattle.dg_model.specs.Wired.{IsWired, StandsBefore}
use Rattle.dg_model.specs.Wires.{driver_of, enters}
use Rattle.dg_model.proofs.Ports.{joins, enters_self}
use Rattle.dg_sort.proofs.Lines.{matched}
use Rattle.hw_build.specs.inner.Operands.{is_line_before, first_not, line_number}
use Rattle.dg_tables.proofs.Drivers.{some_counted, found_one}
use Rattle.dg_tables.proofs.Ranks.{found_at}

-- ---- a search

-- it ends at the first that isn't so
pub first_is : {A : Type 0} (test : A → Bool) (xs : List A) (i : ℕ) → i ≤ length xs
    → ((k : ℕ) (x : A) → k < i → slice_get xs k ≡ Some x → test x ≡ true)
    → ((x : A) → slice_get xs i ≡ Some x → test x ≡ false) → i ≡ first_not test xs
first_is test [] i within before at = omega (arith, within)
first_is test (x ∷ xs) zero within before at = sym (ap (λ (b : Bool). cond b (suc (first_not test xs)) 0) (at x refl))
first_is test (x ∷ xs) (suc i) within before at =
    let rest = first_is test xs i (omega (arith, within)) (λ k y less there. before (suc k) y (omega (arith, less)) there) at in
    ap suc rest ∙ sym (ap (λ (b : Bool). cond b (suc (first_not test xs)) 0) (before 0 x (omega arith) refl))

pub number_is : (edges : List Edge) (block port place : ℕ) → place ≤ length edges
    → IsPartitionPoint (λ (edge : Edge). is_line_before block port edge ≡ true)
    (λ (edge : Edge). is_line_before block port edge ≡ false) edges place
    → place ≡ first_not (is_line_before block port) edges
number_is edges block port place within point = first_is (is_line_before block port) edges place within
    (λ k edge less at. ap (is_line_before block port) (sym (get_or_from_slice_get edges k edge edge at)) ∙ point.0 k edge (omega arith) less)
    (λ edge at. ap (is_line_before block port) (sym (get_or_from_slice_get edges place edge edge at)) ∙ point.1 place edge (omega arith) (slice_get_within edges place edge at))

-- ---- lines before a port

is_before : (block port : ℕ) (edge : Edge) → is_line_before block port edge ≡ true → (edge.to < block) ⊎ ((edge.to ≡ block) × (edge.to_port < port))
is_before block port edge is = go (nat_lt edge.to block) refl is
  where
    go : (b : Bool) → nat_lt edge.to block ≡ b → (b || ((edge.to == block) && nat_lt edge.to_port port)) ≡ true → (edge.to < block) ⊎ ((edge.to ≡ block) × (edge.to_port < port))
    go true less h = inl (ltb-true edge.to block less)
    go false less h = let parts = and_parts (edge.to == block) (nat_lt edge.to_port port) h in inr (eqb-true edge.to block parts.0, ltb-true edge.to_port port parts.1)

stands_before : (block port : ℕ) (edge : Edge) → (edge.to < block) ⊎ ((edge.to ≡ block) × (edge.to_port < port)) → is_line_before block port edge ≡ true
stands_before block port edge (inl less) = ap (λ (b : Bool). b || ((edge.to == block) && nat_lt edge.to_port port)) (lt-ltb edge.to block less)
stands_before block port edge (inr same) =
    let e = same.0 in
    ap (λ (b : Bool). b || ((edge.to == block) && nat_lt edge.to_port port)) (le-ltb edge.to block (omega (arith, e)))
    ∙ and_from (edge.to == block) (nat_lt edge.to_port port) (eq-eqb edge.to block same.0) (lt-ltb edge.to_port port same.1)

not_before : (edge : Edge) → is_line_before edge.to edge.to_port edge ≡ false
not_before edge = elim (cases_Bool (is_line_before edge.to edge.to_port edge)) [
  | inl is ↦ elim (is_before edge.to edge.to_port edge is) [
    | inl less ↦ absurd (omega (arith, less))
    | inr same ↦ let less = same.1 in absurd (omega (arith, less))
  ]
  | inr other ↦ other
]

-- what stands before one that stands before a port does so, too
earlier : (block port : ℕ) (one other : Edge) → StandsBefore one other → is_line_before block port other ≡ true → is_line_before block port one ≡ true
earlier block port one other stands is = go stands (is_before block port other is)
  where
    go : (one.to < other.to) ⊎ ((one.to ≡ other.to) × (one.to_port ≤ other.to_port)) → (other.to < block) ⊎ ((other.to ≡ block) × (other.to_port < port)) → is_line_before block port one ≡ true
    go (inl less) (inl under) = stands_before block port one (inl (omega (arith, less, under)))
    go (inl less) (inr same) = let e = same.0 in stands_before block port one (inl (omega (arith, less, e)))
    go (inr equal) (inl under) = let e = equal.0 in stands_before block port one (inl (omega (arith, e, under)))
    go (inr equal) (inr same) = let e = same.1 in let low = equal.1 in stands_before block port one (inr (equal.0 ∙ same.0, omega (arith, e, low)))

pub parted : (edges : List Edge) (block port : ℕ) → AllPairs StandsBefore edges → IsPartitionedBy (is_line_before block port) edges
parted edges block port ordered i j d low within is = elim (cases_lt i j) [
  | inl less ↦ earlier block port (get_or edges i d) (get_or edges j d) (ordered i j d less within) is
  | inr past ↦ let same : i ≡ j = omega (arith, low, past) in ap (λ (n : ℕ). is_line_before block port (get_or edges n d)) same ∙ is
]

-- ---- the line into a port

abbrev unit_if : Bool → ℕ
unit_if b = cond b 1 0

count_more : {A : Type 0} (p : A → Bool) (y : A) (ys : List A) → count_by p (y ∷ ys) ≡ unit_if (p y) + count_by p ys
count_more p y ys = sum_by-cons (λ x. unit_if (p x)) y ys

stands_once : {A : Type 0} (p : A → Bool) (xs : List A) (i j : ℕ) (x y : A) → count_by p xs ≡ 1 → i < j → slice_get xs i ≡ Some x → slice_get xs j ≡ Some y → p x ≡ true → p y ≡ true → ⊥
stands_once p [] i j x y one less at there is passes = none-some x at
stands_once p (z ∷ zs) i zero x y one less at there is passes = absurd (omega (arith, less))
stands_once p (z ∷ zs) zero (suc j) x y one less at there is passes =
    let here : unit_if (p z) ≡ 1 = ap (λ (b : Bool). unit_if b) (ap p (same_Some z x at) ∙ is) in
    absurd (omega (arith, one, here, count_more p z zs, some_counted p zs j y there passes))
stands_once p (z ∷ zs) (suc i) (suc j) x y one less at there is passes =
    let some = some_counted p zs j y there passes in
    stands_once p zs i j x y (omega (arith, one, count_more p z zs, some)) (omega (arith, less)) at there is passes

-- a line has its own number
pub line_is : (diagram : Diagram) (number : ℕ) (edge : Edge) → IsWired diagram → slice_get diagram.edges number ≡ Some edge → line_number diagram edge.to edge.to_port ≡ number
line_is diagram number edge wired at =
    sym (first_is (is_line_before edge.to edge.to_port) diagram.edges number
    (let inside = slice_get_within diagram.edges number edge at in omega (arith, inside)) before here)
  where
    here : (x : Edge) → slice_get diagram.edges number ≡ Some x → is_line_before edge.to edge.to_port x ≡ false
    here x there = ap (is_line_before edge.to edge.to_port) (same_Some x edge (sym there ∙ at)) ∙ not_before edge

    once : (k : ℕ) (other : Edge) → k < number → slice_get diagram.edges k ≡ Some other → other.to ≡ edge.to → other.to_port ≡ edge.to_port → ⊥
    once k other less there to port =
        let target = matched (slice_get diagram.blocks edge.to) (λ (b : Block). (1 ≤ edge.to_port) × (edge.to_port ≤ b.inputs)) (joins diagram number edge wired at).target in
        stands_once (enters edge.to edge.to_port) diagram.edges k number other edge (wired.driven edge.to edge.to_port target.0 target.1 target.2.0 target.2.1) less there at
        (and_from (other.to == edge.to) (other.to_port == edge.to_port) (eq-eqb other.to edge.to to) (eq-eqb other.to_port edge.to_port port)) (enters_self edge)

    by : (k : ℕ) (other : Edge) → k < number → slice_get diagram.edges k ≡ Some other → StandsBefore other edge → is_line_before edge.to edge.to_port other ≡ true
    by k other less there (inl under) = stands_before edge.to edge.to_port other (inl under)
    by k other less there (inr same) = elim (cases_lt other.to_port edge.to_port) [
      | inl under ↦ stands_before edge.to edge.to_port other (inr (same.0, under))
      | inr past ↦ let low = same.1 in absurd (once k other less there same.0 (omega (arith, past, low)))
    ]

    before : (k : ℕ) (other : Edge) → k < number → slice_get diagram.edges k ≡ Some other → is_line_before edge.to edge.to_port other ≡ true
    before k other less there =
        let stands = wired.ordered k number other less (slice_get_within diagram.edges number edge at) in
        by k other less there (subst (λ (x : Edge). StandsBefore x edge)
        (get_or_from_slice_get diagram.edges k other other there)
        (subst (λ (x : Edge). StandsBefore (get_or diagram.edges k other) x)
        (get_or_from_slice_get diagram.edges number edge other at) stands))

-- a port has the line that ends at it
pub record IsLineInto (diagram : Diagram) (edge : Edge) : Type 0 where
  pub block : Block
  pub is : slice_get diagram.blocks edge.to ≡ Some block
  pub from : 1 ≤ edge.to_port
  pub to : edge.to_port ≤ block.inputs
  pub drives : driver_of diagram edge.to edge.to_port ≡ Some edge

pub line_into_is : (diagram : Diagram) (number : ℕ) (edge : Edge) → IsWired diagram → slice_get diagram.edges number ≡ Some edge → IsLineInto diagram edge
line_into_is diagram number edge wired at =
    let target = matched (slice_get diagram.blocks edge.to) (λ (b : Block). (1 ≤ edge.to_port) × (edge.to_port ≤ b.inputs)) (joins diagram number edge wired at).target in
    record {
      block = target.0;
      is = target.1;
      from = target.2.0;
      to = target.2.1;
      drives = found_one (enters edge.to edge.to_port) diagram.edges number edge at (enters_self edge) (wired.driven edge.to edge.to_port target.0 target.1 target.2.0 target.2.1);
    }

-- the line that drives a port has the number that is found
pub driver_number : (diagram : Diagram) (block port : ℕ) (edge : Edge) → IsWired diagram
    → driver_of diagram block port ≡ Some edge
    → (slice_get diagram.edges (line_number diagram block port) ≡ Some edge) × (edge.to ≡ block)
    × (edge.to_port ≡ port)
driver_number diagram block port edge wired drives =
    let found = found_at (enters block port) diagram.edges edge drives in
    let parts = and_parts (edge.to == block) (edge.to_port == port) found.2 in
    let to : edge.to ≡ block = eqb-true edge.to block parts.0 in
    let to_port : edge.to_port ≡ port = eqb-true edge.to_port port parts.1 in
    let here : line_number diagram block port ≡ found.0 =
    ap (λ (n : ℕ). line_number diagram n port) (sym to) ∙ ap (line_number diagram edge.to) (sym to_port)
    ∙ line_is diagram found.0 edge wired found.1 in
    (ap (slice_get diagram.edges) here ∙ found.1, to, to_port)

-- each port has one
some_find : {A : Type 0} (p : A → Bool) (xs : List A) → 1 ≤ count_by p xs → (x : A) × (find p xs ≡ Some x)
some_find p [] some = absurd (omega (arith, some))
some_find {A} p (y ∷ ys) some = go (p y) (count_more p y ys) (some_find p ys)
  where
    go : (b : Bool) → count_by p (y ∷ ys) ≡ unit_if b + count_by p ys → (1 ≤ count_by p ys → (x : A) × (find p ys ≡ Some x)) → (x : A) × (cond b (Some y) (find p ys) ≡ Some x)
    go true e rest = (y, refl)
    go false e rest = rest (omega (arith, e, some))

pub driver_some : (diagram : Diagram) (block port : ℕ) (b : Block) → IsWired diagram
    → slice_get diagram.blocks block ≡ Some b → 1 ≤ port → port ≤ b.inputs
    → (edge : Edge) × (driver_of diagram block port ≡ Some edge)
driver_some diagram block port b wired at from to = let one = wired.driven block port b at from to in some_find (enters block port) diagram.edges (omega (arith, one))

-- the line into an input is read at its number
pub line_read : (diagram : Diagram) (block port : ℕ) (b : Block) (edges : List Edge) (number : ℕ) → IsWired diagram
    → slice_get diagram.blocks block ≡ Some b → 1 ≤ port → port ≤ b.inputs → edges ≡ diagram.edges
    → number ≡ line_number diagram block port
    → (edge : Edge) × (driver_of diagram block port ≡ Some edge) × (slice_get edges number ≡ Some edge)
line_read diagram block port b edges number wired at from to all is =
    let some = driver_some diagram block port b wired at from to in
    (some.0, some.1, ap (λ (xs : List Edge). slice_get xs number) all ∙ ap (slice_get diagram.edges) is ∙ (driver_number diagram block port some.0 wired some.1).0)
