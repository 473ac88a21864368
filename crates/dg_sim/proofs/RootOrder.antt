-- The elements of root ports stand in order, and where one stands in a list in order.
use Rattle.std.proofs.Common.{◌≡◌, ℕ, zero, suc, ◌<◌, ◌≤◌, ◌==◌, ◌&&◌, ◌||◌, ◌⊎◌, inl, inr, Bool, true, false, true≢false, List, [], ◌∷◌, ◌++◌, map, Option, Some, None, slice_get, All, refl, sym, ap}
use Rattle.std.proofs.Common.{subst, subst₂, ◌∙◌, arith}
use Rattle.std.specs.Prelude.{nat_lt}
use Rattle.std.specs.List.{flat_map, position}
use Rattle.std.proofs.lemmas.Bool.{and_parts, and_from, cases_eq, cases_lt, eq-eqb, eqb-true, lt-ltb, le-ltb, ltb-true}
use Rattle.std.proofs.lemmas.List.Elements.{All-nil, All-cons, All-head, All-tail, All-append, All-weaker}
use Rattle.std.proofs.lemmas.List.Kept.{AllPairs-cons}
use Rattle.std.proofs.lemmas.List.{map-append}
use Rattle.std.proofs.lemmas.Option.{slice_get_within, get_or_from_slice_get}
use Rattle.math_list.specs.Numbers.{numbers_from}
use Rattle.dg_model.specs.declared.diagram.Diagram.{Diagram}
use Rattle.dg_model.specs.declared.row.Role.{Role}
use Rattle.dg_model.specs.Signals.{Attributes}
use Rattle.dg_model.specs.RootElements.{RootElement, elements_of_port, has_number, root_elements}
use Rattle.dg_tables.specs.declared.roots.Root.{Root}
use Rattle.dg_sim.specs.inner.Columns.{AreSorted, is_root_before}
use Rattle.dg_tables.specs.Roots.{root_at, roots_of}
use Rattle.dg_tables.proofs.RootElements.{roots_port}

-- ---- what it means to stand before

lower_number : (root other : Root) → root.number < other.number → is_root_before root other ≡ true
lower_number root other less = ap (λ (b : Bool). b || ((root.number == other.number) && nat_lt root.element other.element)) (lt-ltb root.number other.number less)

lower_element : (root other : Root) → root.number ≡ other.number → root.element < other.element → is_root_before root other ≡ true
lower_element root other same less =
    ap (λ (b : Bool). b || ((root.number == other.number) && nat_lt root.element other.element)) (le-ltb root.number other.number (omega (arith, same)))
    ∙ and_from (root.number == other.number) (nat_lt root.element other.element) (eq-eqb root.number other.number same) (lt-ltb root.element other.element less)

is_lower : (root other : Root) → is_root_before root other ≡ true → (root.number < other.number) ⊎ ((root.number ≡ other.number) × (root.element < other.element))
is_lower root other is = go (nat_lt root.number other.number) refl is
  where
    go : (b : Bool) → nat_lt root.number other.number ≡ b
        → (b || ((root.number == other.number) && nat_lt root.element other.element)) ≡ true
        → (root.number < other.number) ⊎ ((root.number ≡ other.number) × (root.element < other.element))
    go true less is = inl (ltb-true root.number other.number less)
    go false less is =
        let parts = and_parts (root.number == other.number) (nat_lt root.element other.element) is in
        inr (eqb-true root.number other.number parts.0, ltb-true root.element other.element parts.1)

one_way : (root other : Root) → is_root_before root other ≡ true → is_root_before other root ≡ true → ⊥
one_way root other is back = go (is_lower root other is) (is_lower other root back)
  where
    go : (root.number < other.number) ⊎ ((root.number ≡ other.number) × (root.element < other.element))
        → (other.number < root.number) ⊎ ((other.number ≡ root.number) × (other.element < root.element)) → ⊥
    go (inl less) (inl more) = absurd (omega (arith, less, more))
    go (inl less) (inr more) = absurd (omega (arith, less, more.0))
    go (inr less) (inl more) = absurd (omega (arith, less.0, more))
    go (inr less) (inr more) = absurd (omega (arith, less.1, more.1))

-- ---- where an element stands

module _ (roots : List Root) (sorted : AreSorted roots) (place middle : ℕ) (root one : Root) (at : slice_get roots place ≡ Some root) (here : slice_get roots middle ≡ Some one) where
  in_order : (i j : ℕ) (a b : Root) → slice_get roots i ≡ Some a → slice_get roots j ≡ Some b → i < j → is_root_before a b ≡ true
  in_order i j a b at_i at_j less =
      subst₂ (λ (a b : Root). is_root_before a b ≡ true) (get_or_from_slice_get roots i a a at_i) (get_or_from_slice_get roots j b a at_j) (sorted i j a less (slice_get_within roots j b at_j))

  pub stands_after : is_root_before one root ≡ true → middle < place
  stands_after is = elim (cases_lt middle place) [
    | inl less ↦ less
    | inr most ↦ elim (cases_eq place middle) [
      | inl same ↦
          let equal : Some root ≡ Some one = sym at ∙ ap (slice_get roots) same ∙ here in
          let own : root ≡ one = ap (λ (o : Option Root). root_of o) equal in
          let self : is_root_before one one ≡ true = subst (λ (r : Root). is_root_before one r ≡ true) own is in
          absurd (one_way one one self self)
      | inr other ↦ absurd (one_way one root is (in_order place middle root one at here (omega (arith, most, other))))
    ]
  ]
    where
      root_of : Option Root → Root
      root_of None = root
      root_of (Some r) = r

  pub stands_up_to : is_root_before one root ≡ false → place ≤ middle
  stands_up_to is = elim (cases_lt middle place) [
    | inl less ↦ absurd (true≢false (sym (in_order middle place one root here at less) ∙ is))
    | inr most ↦ most
  ]

-- ---- the elements of all ports

sorted_append : (xs ys : List Root) → AreSorted xs → AreSorted ys → All (λ x. All (λ y. is_root_before x y ≡ true) ys) xs → AreSorted (xs ++ ys)
sorted_append [] ys first second across = second
sorted_append (x ∷ xs) ys first second across =
    AllPairs-cons (λ root other. is_root_before root other ≡ true) x (xs ++ ys)
    (All-append (λ y. is_root_before x y ≡ true) xs ys (head_before x xs first) (All-head (λ x. All (λ y. is_root_before x y ≡ true) ys) x xs across))
    (sorted_append xs ys (tail_sorted x xs first) second (All-tail (λ x. All (λ y. is_root_before x y ≡ true) ys) x xs across))
  where
    head_before : (x : Root) (xs : List Root) → AreSorted (x ∷ xs) → All (λ y. is_root_before x y ≡ true) xs
    head_before x xs first = λ k d below. first 0 (suc k) d (omega arith) (omega (arith, below))

    tail_sorted : (x : Root) (xs : List Root) → AreSorted (x ∷ xs) → AreSorted xs
    tail_sorted x xs first = λ i j d less below. first (suc i) (suc j) d (omega (arith, less)) (omega (arith, below))

of_port : (number block from n : ℕ) → All (λ (root : Root). (root.number ≡ number) × (from ≤ root.element)) (map (root_at number block) (numbers_from from n))
of_port number block from zero = All-nil (λ (root : Root). (root.number ≡ number) × (from ≤ root.element))
of_port number block from (suc n) =
    All-cons (λ (root : Root). (root.number ≡ number) × (from ≤ root.element)) (root_at number block from) (map (root_at number block) (numbers_from (suc from) n)) (refl, omega arith)
    (All-weaker (λ (root : Root). (root.number ≡ number) × (suc from ≤ root.element)) (λ (root : Root). (root.number ≡ number) × (from ≤ root.element))
    (λ root is. (is.0, omega (arith, is.1))) (map (root_at number block) (numbers_from (suc from) n)) (of_port number block (suc from) n))

port_sorted : (number block from n : ℕ) → AreSorted (map (root_at number block) (numbers_from from n))
port_sorted number block from zero = λ i j d less below. absurd (omega (arith, below))
port_sorted number block from (suc n) =
    AllPairs-cons (λ root other. is_root_before root other ≡ true) (root_at number block from) (map (root_at number block) (numbers_from (suc from) n))
    (All-weaker (λ (root : Root). (root.number ≡ number) × (suc from ≤ root.element)) (λ (root : Root). is_root_before (root_at number block from) root ≡ true)
    (λ root is. lower_element (root_at number block from) root (sym is.0) (omega (arith, is.1))) (map (root_at number block) (numbers_from (suc from) n)) (of_port number block (suc from) n))
    (port_sorted number block (suc from) n)

module _ (number_of : Role → Option ℕ) (width_of : ℕ → ℕ) (diagram : Diagram) (attributes : Attributes) where
  abbrev part : ℕ → List RootElement
  part number = elements_of_port attributes width_of number (position (has_number number_of number) diagram.blocks)

  part_roots : (number : ℕ) → AreSorted (roots_of (part number)) × All (λ (root : Root). root.number ≡ number) (roots_of (part number))
  part_roots number = go (position (has_number number_of number) diagram.blocks)
    where
      go : (o : Option ℕ) → AreSorted (roots_of (elements_of_port attributes width_of number o))
          × All (λ (root : Root). root.number ≡ number) (roots_of (elements_of_port attributes width_of number o))
      go None = ((λ i j d less below. absurd (omega (arith, below))), All-nil (λ (root : Root). root.number ≡ number))
      go (Some block) =
          let same = sym (roots_port attributes number block (width_of block)) in (
            subst AreSorted same (port_sorted number block 0 (width_of block)),
            subst (λ (roots : List Root). All (λ (root : Root). root.number ≡ number) roots) same
                (All-weaker (λ (root : Root). (root.number ≡ number) × (0 ≤ root.element))
                (λ (root : Root). root.number ≡ number) (λ root is. is.0)
                (map (root_at number block) (numbers_from 0 (width_of block)))
                (of_port number block 0 (width_of block))),
          )

  joined : (xs ys : List RootElement) → roots_of (xs ++ ys) ≡ roots_of xs ++ roots_of ys
  joined xs ys = map-append (λ (e : RootElement). root_at e.number e.block e.element) xs ys

  later_ports : (from n : ℕ) → All (λ (root : Root). from ≤ root.number) (roots_of (flat_map part (numbers_from from n)))
  later_ports from zero = All-nil (λ (root : Root). from ≤ root.number)
  later_ports from (suc n) =
      subst (λ (roots : List Root). All (λ (root : Root). from ≤ root.number) roots) (sym (joined (part from) (flat_map part (numbers_from (suc from) n))))
      (All-append (λ (root : Root). from ≤ root.number) (roots_of (part from)) (roots_of (flat_map part (numbers_from (suc from) n)))
      (All-weaker (λ (root : Root). root.number ≡ from) (λ (root : Root). from ≤ root.number) (λ root is. omega (arith, is)) (roots_of (part from)) (part_roots from).1)
      (All-weaker (λ (root : Root). suc from ≤ root.number) (λ (root : Root). from ≤ root.number)
      (λ root is. omega (arith, is)) (roots_of (flat_map part (numbers_from (suc from) n)))
      (later_ports (suc from) n)))

  ports_sorted : (from n : ℕ) → AreSorted (roots_of (flat_map part (numbers_from from n)))
  ports_sorted from zero = λ i j d less below. absurd (omega (arith, below))
  ports_sorted from (suc n) =
      let rest = roots_of (flat_map part (numbers_from (suc from) n)) in
      subst AreSorted (sym (joined (part from) (flat_map part (numbers_from (suc from) n))))
      (sorted_append (roots_of (part from)) rest (part_roots from).0 (ports_sorted (suc from) n)
      (All-weaker (λ (root : Root). root.number ≡ from) (λ (root : Root). All (λ (other : Root). is_root_before root other ≡ true) rest)
      (λ root is. All-weaker (λ (other : Root). suc from ≤ other.number)
      (λ (other : Root). is_root_before root other ≡ true)
      (λ other more. lower_number root other (omega (arith, is, more))) rest (later_ports (suc from) n))
      (roots_of (part from)) (part_roots from).1))

  pub roots_sorted : AreSorted (roots_of (root_elements number_of width_of diagram attributes))
  roots_sorted = ports_sorted 1 _
