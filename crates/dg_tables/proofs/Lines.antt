-- Where the lines into a block stand: one behind another, by their ports.
use Rattle.std.proofs.Common.{◌≡◌, ℕ, zero, suc, ◌+◌, ◌-◌, ◌<◌, ◌≤◌, inl, inr, ◌==◌, Bool, true, false, true≢false, List, [], ◌∷◌, length, count_by, Option, Some, None, slice_get, slice_index_or}
use Rattle.std.proofs.Common.{MatchOption, if◌then◌else◌, length-set, get_or-set_other, get_or-set_same, ap, sym, ◌∙◌, subst, subst₂, refl, arith}
use Rattle.std.specs.Prelude.{slice_set}
use Rattle.std.proofs.lemmas.Bool.{and_from, and_parts, cases_lt, eq-eqb, eqb-true}
use Rattle.std.proofs.lemmas.Option.{none-some, same_Some, slice_get_within, get_or_from_slice_get}
use Rattle.dg_model.specs.declared.diagram.Diagram.{Diagram}
use Rattle.dg_model.specs.declared.diagram.Block.{Block}
use Rattle.dg_model.specs.declared.diagram.Edge.{Edge}
use Rattle.dg_model.specs.Wires.{driver_of, enters}
use Rattle.dg_model.specs.Wired.{IsWired, Joins, StandsBefore}
use Rattle.dg_tables.specs.Finding.{AreLines}
use Rattle.dg_tables.specs.inner.Layout.{AreLinesTo, line_put}
use Rattle.dg_tables.proofs.Drivers.{unit_if, count_by-cons, some_counted, driver_is}
use Rattle.math_list.proofs.Places.{held, get_some}
use Rattle.dg_tables.proofs.Ranks.{found_at}

-- ---- one that is counted once

-- stands at one place
once : {X : Type 0} (p : X → Bool) (xs : List X) (i j : ℕ) (x y : X) → slice_get xs i ≡ Some x → slice_get xs j ≡ Some y → p x ≡ true → p y ≡ true → count_by p xs ≡ 1 → i ≡ j
once p [] i j x y at_i at_j is_x is_y one = absurd (none-some x at_i)
once p (z ∷ zs) zero zero x y at_i at_j is_x is_y one = refl
once p (z ∷ zs) zero (suc j) x y at_i at_j is_x is_y one =
    let here : unit_if (p z) ≡ 1 = ap (λ (b : Bool). unit_if b) (ap p (same_Some z x at_i) ∙ is_x) in
    absurd (omega (arith, here, one, count_by-cons p z zs, some_counted p zs j y at_j is_y))
once p (z ∷ zs) (suc i) zero x y at_i at_j is_x is_y one =
    let here : unit_if (p z) ≡ 1 = ap (λ (b : Bool). unit_if b) (ap p (same_Some z y at_j) ∙ is_y) in
    absurd (omega (arith, here, one, count_by-cons p z zs, some_counted p zs i x at_i is_x))
once p (z ∷ zs) (suc i) (suc j) x y at_i at_j is_x is_y one =
    ap suc (once p zs i j x y at_i at_j is_x is_y (omega (arith, one, count_by-cons p z zs, some_counted p zs i x at_i is_x)))

-- and is there
some_there : {X : Type 0} (p : X → Bool) (xs : List X) → count_by p xs ≡ 1 → (k : ℕ) × (x : X) × (slice_get xs k ≡ Some x) × (p x ≡ true)
some_there p [] one = absurd (omega (arith, one))
some_there {X} p (z ∷ zs) one = go (p z) refl (some_there p zs)
  where
    go : (b : Bool) → p z ≡ b → (count_by p zs ≡ 1 → (k : ℕ) × (x : X) × (slice_get zs k ≡ Some x) × (p x ≡ true)) → (k : ℕ) × (x : X) × (slice_get (z ∷ zs) k ≡ Some x) × (p x ≡ true)
    go true is rest = (0, z, refl, is)
    go false is rest =
        let none : unit_if (p z) ≡ 0 = ap (λ (b : Bool). unit_if b) is in
        let r = rest (omega (arith, one, none, count_by-cons p z zs)) in
        (suc r.0, r.1, r.2, r.3)

module _ (diagram : Diagram) (wired : IsWired diagram) where
  into_own : (edge : Edge) (block port : ℕ) → edge.to ≡ block → edge.to_port ≡ port → enters block port edge ≡ true
  into_own edge block port to to_port = and_from (edge.to == block) (edge.to_port == port) (eq-eqb edge.to block to) (eq-eqb edge.to_port port to_port)

  ends_at : (edge : Edge) (block port : ℕ) → enters block port edge ≡ true → (edge.to ≡ block) × (edge.to_port ≡ port)
  ends_at edge block port is = let parts = and_parts (edge.to == block) (edge.to_port == port) is in (eqb-true edge.to block parts.0, eqb-true edge.to_port port parts.1)

  pub target : (k : ℕ) (edge : Edge) → slice_get diagram.edges k ≡ Some edge → (b : Block) × (slice_get diagram.blocks edge.to ≡ Some b) × (1 ≤ edge.to_port) × (edge.to_port ≤ b.inputs)
  target k edge at = go (slice_get diagram.blocks edge.to) refl (held (Joins diagram.blocks) diagram.edges k edge wired.edges at).target
    where
      go : (o : Option Block) → slice_get diagram.blocks edge.to ≡ o
          → MatchOption o ⊥ (λ block. (1 ≤ edge.to_port) × (edge.to_port ≤ block.inputs))
          → (b : Block) × (slice_get diagram.blocks edge.to ≡ Some b) × (1 ≤ edge.to_port)
          × (edge.to_port ≤ b.inputs)
      go None is h = absurd h
      go (Some b) is h = (b, is, h.0, h.1)

  before : (i j : ℕ) (x y : Edge) → slice_get diagram.edges i ≡ Some x → slice_get diagram.edges j ≡ Some y → i < j → StandsBefore x y
  before i j x y at_i at_j less =
      subst₂ StandsBefore (get_or_from_slice_get diagram.edges i x x at_i) (get_or_from_slice_get diagram.edges j y x at_j) (wired.ordered i j x less (slice_get_within diagram.edges j y at_j))

  one_line : (i j : ℕ) (x y : Edge) → slice_get diagram.edges i ≡ Some x → slice_get diagram.edges j ≡ Some y → x.to ≡ y.to → x.to_port ≡ y.to_port → i ≡ j
  one_line i j x y at_i at_j to port =
      let t = target j y at_j in
      once (enters y.to y.to_port) diagram.edges i j x y at_i at_j (into_own x y.to y.to_port to port) (into_own y y.to y.to_port refl refl) (wired.driven y.to y.to_port t.0 t.1 t.2 t.3)

  no_later : (x y : Edge) → StandsBefore x y → (x.to ≡ y.to → x.to_port ≤ y.to_port) × (x.to ≤ y.to)
  no_later x y (inl less) = ((λ same. absurd (omega (arith, less, same))), omega (arith, less))
  no_later x y (inr same) = let to = same.0 in ((λ e. same.1), omega (arith, to))

  -- the line into the next port is the next line
  next_line : (i j : ℕ) (x y : Edge) → slice_get diagram.edges i ≡ Some x → slice_get diagram.edges j ≡ Some y → x.to ≡ y.to → y.to_port ≡ x.to_port + 1 → j ≡ i + 1
  next_line i j x y at_i at_j to port = elim (cases_lt i j) [
    | inl less ↦ elim (cases_lt (i + 1) j) [
      | inl far ↦
          let m = get_some diagram.edges (i + 1) (omega (arith, far, slice_get_within diagram.edges j y at_j)) in
          let low = no_later x m.0 (before i (i + 1) x m.0 at_i m.1 (omega arith)) in
          let high = no_later m.0 y (before (i + 1) j m.0 y m.1 at_j far) in
          let low_to = low.1 in
          let high_to = high.1 in
          let to_low : x.to ≡ m.0.to = omega (arith, low_to, high_to, to) in
          let to_high : m.0.to ≡ y.to = omega (arith, low_to, high_to, to) in
          let from = low.0 to_low in
          let until = high.0 to_high in
          elim (cases_lt x.to_port m.0.to_port) [
            | inl above ↦ let same = one_line (i + 1) j m.0 y m.1 at_j to_high (omega (arith, above, until, port)) in absurd (omega (arith, same, far))
            | inr under ↦ let same = one_line i (i + 1) x m.0 at_i m.1 to_low (omega (arith, under, from)) in absurd (omega (arith, same))
          ]
      | inr near ↦ omega (arith, less, near)
    ]
    | inr past ↦ elim (cases_lt j i) [
      | inl less ↦ let late = (no_later y x (before j i y x at_j at_i less)).0 (sym to) in absurd (omega (arith, late, port))
      | inr other ↦
          let same : i ≡ j = omega (arith, past, other) in
          let one : x ≡ y = same_Some x y (sym at_i ∙ ap (slice_get diagram.edges) same ∙ at_j) in
          let equal : x.to_port ≡ y.to_port = ap (λ (e : Edge). e.to_port) one in
          absurd (omega (arith, equal, port))
    ]
  ]

  stands_at : (firsts : List ℕ) → ((k : ℕ) (edge : Edge) → slice_get diagram.edges k ≡ Some edge → edge.to_port ≡ 1 → slice_index_or firsts edge.to 0 ≡ k)
      → (p k : ℕ) (edge : Edge) → slice_get diagram.edges k ≡ Some edge → edge.to_port ≡ suc p → k ≡ slice_index_or firsts edge.to 0 + p
  stands_at firsts first zero k edge at port = let here = first k edge at port in omega (arith, here)
  stands_at firsts first (suc p) k edge at port =
      let t = target k edge at in
      let inputs = t.3 in
      let there = some_there (enters edge.to (suc p)) diagram.edges (wired.driven edge.to (suc p) t.0 t.1 (omega arith) (omega (arith, inputs, port))) in
      let ends = ends_at there.1 edge.to (suc p) there.3 in
      let earlier = stands_at firsts first p there.0 there.1 there.2 ends.1 in
      let ports = ends.1 in
      let here = next_line there.0 k there.1 edge there.2 at ends.0 (omega (arith, ports, port)) in
      let same : slice_index_or firsts there.1.to 0 ≡ slice_index_or firsts edge.to 0 = ap (λ (n : ℕ). slice_index_or firsts n 0) ends.0 in
      omega (arith, here, earlier, same)

  -- ---- the loop over the lines
  pub lines_none : (firsts : List ℕ) → length firsts ≡ length diagram.blocks → AreLinesTo diagram 0 firsts
  lines_none firsts size = record { size = size; first = λ k edge below at port. absurd (omega (arith, below)) }

  pub lines_more : (firsts : List ℕ) (k : ℕ) (edge : Edge) → slice_get diagram.edges k ≡ Some edge → AreLinesTo diagram k firsts → AreLinesTo diagram (k + 1) (line_put firsts k edge)
  lines_more firsts k edge at are = go (edge.to_port == 1) refl
    where
      here : (n : ℕ) (e : Edge) → n < k + 1 → k ≤ n → slice_get diagram.edges n ≡ Some e → (n ≡ k) × (e ≡ edge)
      here n e below past there =
          let same : n ≡ k = omega (arith, below, past) in
          (same, same_Some e edge (sym there ∙ ap (slice_get diagram.edges) same ∙ at))

      go : (b : Bool) → (edge.to_port == 1) ≡ b → AreLinesTo diagram (k + 1) (if b then slice_set firsts edge.to k else firsts)
      go false other = record {
        size = are.size;
        first = λ n e below there port. elim (cases_lt n k) [
          | inl less ↦ are.first n e less there port
          | inr past ↦
              let one = here n e below past there in
              absurd (true≢false (sym (eq-eqb edge.to_port 1 (ap (λ (x : Edge). x.to_port) (sym one.1) ∙ port)) ∙ other))
        ];
      }
      go true is = record {
        size = length-set firsts edge.to k ∙ are.size;
        first = λ n e below there port. elim (cases_lt n k) [
          | inl less ↦
              get_or-set_other firsts edge.to e.to k 0 (λ to. let same = one_line n k e edge there at to (port ∙ sym (eqb-true edge.to_port 1 is)) in omega (arith, same, less))
              ∙ are.first n e less there port
          | inr past ↦
              let one = here n e below past there in
              let t = target k edge at in
              let within : edge.to < length firsts = subst (λ (n : ℕ). edge.to < n) (sym are.size) (slice_get_within diagram.blocks edge.to t.0 t.1) in
              ap (λ (x : Edge). slice_index_or (slice_set firsts edge.to k) x.to 0) one.1 ∙ get_or-set_same firsts edge.to k 0 within ∙ sym one.0
        ];
      }

  pub lines_all : (firsts : List ℕ) (count : ℕ) → length diagram.edges ≤ count → AreLinesTo diagram count firsts → AreLines diagram firsts
  lines_all firsts count end are = record {
    each = λ k edge at.
        let t = target k edge at in
        let from = t.2 in
        let port : edge.to_port ≡ suc (edge.to_port - 1) = omega (arith, from) in
        let stands = stands_at firsts (λ n e there is. are.first n e (omega (arith, end, slice_get_within diagram.edges n e there)) there is) (edge.to_port - 1) k edge at port in
        omega (arith, stands, from);
  }

  -- ---- the line into a port
  module _ (firsts : List ℕ) (are : AreLines diagram firsts) (block port at : ℕ) (here : (k : ℕ) → k < length diagram.edges → k ≡ slice_index_or firsts block 0 + port - 1 → k ≡ at) where
    pub found_line : (edge : Edge) → slice_get diagram.edges at ≡ Some edge → enters block port edge ≡ true → Some edge ≡ driver_of diagram block port
    found_line edge there is =
        let ends = ends_at edge block port is in
        sym (subst₂ (λ (block port : ℕ). driver_of diagram block port ≡ Some edge) ends.0 ends.1 (driver_is diagram wired at edge there))

    pub no_line : ((edge : Edge) → slice_get diagram.edges at ≡ Some edge → enters block port edge ≡ false) → None ≡ driver_of diagram block port
    no_line none = go (driver_of diagram block port) refl
      where
        go : (o : Option Edge) → driver_of diagram block port ≡ o → None ≡ driver_of diagram block port
        go None is = sym is
        go (Some edge) is =
            let f = found_at (enters block port) diagram.edges edge is in
            let ends = ends_at edge block port f.2 in
            let stands = are.each f.0 edge f.1 in
            let to : slice_index_or firsts edge.to 0 ≡ slice_index_or firsts block 0 = ap (λ (n : ℕ). slice_index_or firsts n 0) ends.0 in
            let to_port = ends.1 in
            let same : f.0 ≡ at = here f.0 (slice_get_within diagram.edges f.0 edge f.1) (omega (arith, stands, to, to_port)) in
            absurd (true≢false (sym f.2 ∙ none edge (ap (slice_get diagram.edges) (sym same) ∙ f.1)))

    pub past_lines : length diagram.edges ≤ at → None ≡ driver_of diagram block port
    past_lines past = no_line (λ edge there. absurd (omega (arith, past, slice_get_within diagram.edges at edge there)))
