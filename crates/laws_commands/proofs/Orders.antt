-- A diagram that keeps the rules has an order of its blocks along the instant edges.
use Rattle.std.proofs.Common.{◌≡◌, ℕ, zero, suc, ◌+◌, ◌<◌, ◌≤◌, ◌⊎◌, inl, inr, ⊎_elim, Bool, true, false, List, [], ◌∷◌, ◌++◌, length, map, get_or, Option, None, Some, refl, sym, ap, subst, ◌∙◌}
use Rattle.std.proofs.Common.{arith}
use Rattle.std.specs.Prelude.{slice_get}
use Rattle.std.proofs.lemmas.Bool.{cases_Bool, cases_eq, false≢true}
use Rattle.std.proofs.lemmas.List.{length-append}
use Rattle.std.proofs.lemmas.Option.{none-some, same_Some, slice_get_within, slice_get-get_or, get_or_from_slice_get}
use Rattle.dg_model.specs.declared.diagram.Block.{Block}
use Rattle.dg_model.specs.declared.diagram.Diagram.{Diagram}
use Rattle.dg_model.specs.Attributes.{attributes_of}
use Rattle.dg_model.specs.Checked.{IsChecked}
use Rattle.dg_model.specs.Instant.{IsInstant, is_instant}
use Rattle.dg_model.specs.LatencyEdges.{LatencyEdge, asks_ever, enable_edge, enable_edges_from, latency_edges, signal_edge}
use Rattle.dg_model.specs.Library.{row_of}
use Rattle.dg_model.specs.Loop.{IsOrder, LeadsNow}
use Rattle.dg_model.specs.Signals.{Attributes}
use Rattle.dg_sort.proofs.Lines.{control_there, from_there}
use Rattle.dg_tables.specs.Laws.{IsOrdered}
use Rattle.laws_commands.proofs.Walks.{AreOnce, IsIn, back, different, in-or, no-longer, once-before, once-behind}
use Rattle.math_list.proofs.Places.{get_cases, get_left, get_some, map_there, push_cases, there_within}

-- ---- edges begin at blocks

-- the control of an edge of controls
enabling : (from : ℕ) (blocks : List Block) (k : ℕ) (edge : LatencyEdge)
    → slice_get (enable_edges_from from blocks) k ≡ Some edge
    → (place : ℕ) × (b : Block) × (slice_get blocks place ≡ Some b) × (b.enable ≡ Some edge.from)
enabling from [] k edge at = absurd (none-some edge at)
enabling from (x ∷ blocks) k edge at = ⊎_elim
    (λ here. go (asks_ever (row_of x.kind).timing.asks) x.enable refl k here)
    (λ later. let more = enabling (suc from) blocks _ edge later.1 in (suc more.0, more.1, more.2, more.3))
    (get_cases (enable_edge from (asks_ever (row_of x.kind).timing.asks) x.enable) (enable_edges_from (suc from) blocks) k edge at)
  where
    go : (a : Bool) (enable : Option ℕ) → x.enable ≡ enable → (j : ℕ)
        → slice_get (enable_edge from a enable) j ≡ Some edge
        → (place : ℕ) × (b : Block) × (slice_get (x ∷ blocks) place ≡ Some b) × (b.enable ≡ Some edge.from)
    go a None q j is = absurd (none-some edge is)
    go false (Some control) q j is = absurd (none-some edge is)
    go true (Some control) q (suc j) is = absurd (none-some edge is)
    go true (Some control) q zero is = (0, x, refl, q ∙ ap (λ (o : Option LatencyEdge). from-of o) is)
      where
        from-of : Option LatencyEdge → Option ℕ
        from-of None = None
        from-of (Some e) = Some e.from

module _ (diagram : Diagram) (checked : IsChecked diagram) where
  abbrev A : Attributes
  A = attributes_of diagram

  abbrev n : ℕ
  n = length diagram.blocks

  source-below : (a b : ℕ) → LeadsNow diagram A a b → a < n
  source-below a b (k, edge, below, is, (from, to, now)) =
      let at : slice_get (latency_edges diagram) k ≡ Some edge = slice_get-get_or (latency_edges diagram) k edge below ∙ ap (λ (e : LatencyEdge). Some e) is in
      subst (λ x. x < n) from (⊎_elim
      (λ line.
      let of = map_there signal_edge diagram.edges k edge line in
      subst (λ (e : LatencyEdge). e.from < n) of.2 (from_there diagram k of.0 checked.wired of.1))
      (λ control.
      let of = enabling 0 diagram.blocks _ edge control.1 in
      control_there diagram of.0 edge.from of.1 checked.wired of.2 of.3)
      (get_cases (map signal_edge diagram.edges) (enable_edges_from 0 diagram.blocks) k edge at))

  -- ---- what is left

  module _ (order : List ℕ) where
    -- a source that isn't in the order yet
    abbrev HasLeft : ℕ → Type 0
    HasLeft b = (a : ℕ) × (LeadsNow diagram A a b) × (IsIn a order → ⊥)

    abbrev AreAllIn : ℕ → ℕ → Type 0
    AreAllIn b many = (k : ℕ) (edge : LatencyEdge) → k < many → slice_get (latency_edges diagram) k ≡ Some edge → edge.to ≡ b → IsInstant diagram A edge → IsIn edge.from order

    one-more : (b many : ℕ) (edge : LatencyEdge) → slice_get (latency_edges diagram) many ≡ Some edge
        → AreAllIn b many → (edge.to ≡ b → IsInstant diagram A edge → IsIn edge.from order) → AreAllIn b (suc many)
    one-more b many edge at rest here k other below is to now = ⊎_elim
        (λ (same : k ≡ many).
        let e : ◌≡◌ {A = LatencyEdge} edge other = same_Some edge other (sym at ∙ ap (slice_get (latency_edges diagram)) (sym same) ∙ is) in
        subst (λ (x : LatencyEdge). x.to ≡ b → IsInstant diagram A x → IsIn x.from order) e here to now)
        (λ (differs : k ≡ many → ⊥). rest k other (omega (arith, below, differs)) is to now)
        (cases_eq k many)

    among : (b many : ℕ) → many ≤ length (latency_edges diagram) → HasLeft b ⊎ AreAllIn b many
    among b zero within = inr (λ k edge below. absurd (omega (arith, below)))
    among b (suc many) within = ⊎_elim
        (λ (found : HasLeft b). inl found)
        (λ (rest : AreAllIn b many).
        let e = get_some (latency_edges diagram) many (omega (arith, within)) in
        by e.0 e.1 rest (cases_eq e.0.to b) (cases_Bool (is_instant diagram A e.0)) (in-or e.0.from order))
        (among b many (omega (arith, within)))
      where
        by : (edge : LatencyEdge) → slice_get (latency_edges diagram) many ≡ Some edge → AreAllIn b many
            → (edge.to ≡ b) ⊎ (edge.to ≡ b → ⊥)
            → (is_instant diagram A edge ≡ true) ⊎ (is_instant diagram A edge ≡ false)
            → IsIn edge.from order ⊎ (IsIn edge.from order → ⊥) → HasLeft b ⊎ AreAllIn b (suc many)
        by edge at rest to now (inl there) = inr (one-more b many edge at rest (λ _ _. there))
        by edge at rest (inr other) now (inr absent) = inr (one-more b many edge at rest (λ to _. absurd (other to)))
        by edge at rest (inl to) (inr later) (inr absent) = inr (one-more b many edge at rest (λ _ is. absurd (false≢true (sym later ∙ is))))
        by edge at rest (inl to) (inl now) (inr absent) =
            inl (edge.from, (many, edge, slice_get_within (latency_edges diagram) many edge at, get_or_from_slice_get (latency_edges diagram) many edge edge at, (refl, to, now)), absent)

    left-or : (b : ℕ) → HasLeft b ⊎ ((a : ℕ) → LeadsNow diagram A a b → IsIn a order)
    left-or b = ⊎_elim
        (λ (found : HasLeft b). inl found)
        (λ (all : AreAllIn b (length (latency_edges diagram))). inr (λ a lead. of all a lead))
        (among b (length (latency_edges diagram)) (omega arith))
      where
        of : AreAllIn b (length (latency_edges diagram)) → (a : ℕ) → LeadsNow diagram A a b → IsIn a order
        of all a (k, edge, below, is, (from, to, now)) =
            let at : slice_get (latency_edges diagram) k ≡ Some edge = slice_get-get_or (latency_edges diagram) k edge below ∙ ap (λ (e : LatencyEdge). Some e) is in
            subst (λ x. IsIn x order) from (all k edge below at to now)

    -- a block whose sources are all in the order
    abbrev IsFree : ℕ → Type 0
    IsFree b = (b < n) × (IsIn b order → ⊥) × ((a : ℕ) → LeadsNow diagram A a b → IsIn a order)

    free-or : (m : ℕ) → m ≤ n → ((b : ℕ) × IsFree b) ⊎ ((b : ℕ) → b < m → (IsIn b order → ⊥) → HasLeft b)
    free-or zero within = inr (λ b below. absurd (omega (arith, below)))
    free-or (suc m) within = ⊎_elim
        (λ (free : (b : ℕ) × IsFree b). inl free)
        (λ (rest : (b : ℕ) → b < m → (IsIn b order → ⊥) → HasLeft b). by rest (in-or m order) (left-or m))
        (free-or m (omega (arith, within)))
      where
        more : ((b : ℕ) → b < m → (IsIn b order → ⊥) → HasLeft b) → ((IsIn m order → ⊥) → HasLeft m) → (b : ℕ) → b < suc m → (IsIn b order → ⊥) → HasLeft b
        more rest here b below absent = ⊎_elim
            (λ (same : m ≡ b). subst (λ x. (IsIn x order → ⊥) → HasLeft x) same here absent)
            (λ (differs : m ≡ b → ⊥). rest b (omega (arith, below, differs)) absent)
            (cases_eq m b)

        by : ((b : ℕ) → b < m → (IsIn b order → ⊥) → HasLeft b) → IsIn m order ⊎ (IsIn m order → ⊥)
            → HasLeft m ⊎ ((a : ℕ) → LeadsNow diagram A a m → IsIn a order)
            → ((b : ℕ) × IsFree b) ⊎ ((b : ℕ) → b < suc m → (IsIn b order → ⊥) → HasLeft b)
        by rest (inl there) sources = inr (more rest (λ absent. absurd (absent there)))
        by rest (inr absent) (inl left) = inr (more rest (λ _. left))
        by rest (inr absent) (inr sources) = inl (m, (omega (arith, within), absent, sources))

    -- a block that isn't in the order yet
    missing-or : (m : ℕ) → ((b : ℕ) × (b < m) × (IsIn b order → ⊥)) ⊎ ((b : ℕ) → b < m → IsIn b order)
    missing-or zero = inr (λ b below. absurd (omega (arith, below)))
    missing-or (suc m) = ⊎_elim
        (λ (found : (b : ℕ) × (b < m) × (IsIn b order → ⊥)). inl (found.0, (let low = found.1 in omega (arith, low)), found.2))
        (λ (rest : (b : ℕ) → b < m → IsIn b order). ⊎_elim
        (λ (there : IsIn m order). inr (λ b below. ⊎_elim
        (λ (same : m ≡ b). subst (λ x. IsIn x order) same there)
        (λ (differs : m ≡ b → ⊥). rest b (omega (arith, below, differs)))
        (cases_eq m b)))
        (λ (absent : IsIn m order → ⊥). inl (m, omega arith, absent))
        (in-or m order))
        (missing-or m)

  -- ---- the order grows

  record IsBegun (order : List ℕ) : Type 0 where
    pub inside : (k x : ℕ) → slice_get order k ≡ Some x → x < n
    pub once : AreOnce order
    pub after : (k place source : ℕ) → slice_get order k ≡ Some place → LeadsNow diagram A source place → (j : ℕ) × (j < k) × (slice_get order j ≡ Some source)

  begun-more : (order : List ℕ) (b : ℕ) → IsBegun order → IsFree order b → IsBegun (order ++ b ∷ [])
  begun-more order b begun free = record {
    inside = λ k x at. ⊎_elim
        (λ old. begun.inside k x old)
        (λ new. subst (λ y. y < n) new.1 free.0)
        (push_cases order b k x at);
    once = once-behind b order free.1 begun.once;
    after = λ k place source at lead. ⊎_elim
        (λ old. let f = begun.after k place source old lead in (f.0, f.1, get_left order (b ∷ []) f.0 source f.2))
        (λ new.
        let f = free.2 source (subst (λ y. LeadsNow diagram A source y) (sym new.1) lead) in
        let low = there_within order f.0 source f.1 in
        let last = new.0 in
        (f.0, omega (arith, low, last), get_left order (b ∷ []) f.0 source f.1))
        (push_cases order b k place at);
  }

  ends : (order : List ℕ) → IsBegun order → ((b : ℕ) → b < n → IsIn b order) → IsOrder diagram A order
  ends order begun all = record {
    there = λ k d below. begun.inside k (get_or order k d) (slice_get-get_or order k d below);
    different = different order begun.once;
    all = λ place below. let at = all place below in (at.0, place, slice_get_within order at.0 place at.1, get_or_from_slice_get order at.0 place place at.1, refl);
    after = begun.after;
  }

  grow : (fuel : ℕ) (order : List ℕ) → IsBegun order → length order + fuel ≡ n → (order : List ℕ) × IsOrder diagram A order
  grow zero order begun size = ⊎_elim
      (λ (missing : (b : ℕ) × (b < n) × (IsIn b order → ⊥)).
      let few = no-longer (missing.0 ∷ order) n (once-before missing.0 order missing.2 begun.once) (below missing.0 missing.1) in
      absurd (omega (arith, few, size)))
      (λ (all : (b : ℕ) → b < n → IsIn b order). (order, ends order begun all))
      (missing-or order n)
    where
      below : (b : ℕ) → b < n → (k x : ℕ) → slice_get (b ∷ order) k ≡ Some x → x < n
      below b low zero x at = subst (λ y. y < n) (same_Some b x at) low
      below b low (suc k) x at = begun.inside k x at
  grow (suc fuel) order begun size = ⊎_elim
      (λ (free : (b : ℕ) × IsFree order b).
      let longer = length-append order (free.0 ∷ []) in
      grow fuel (order ++ free.0 ∷ []) (begun-more order free.0 begun free.1) (omega (arith, size, longer)))
      (λ (stuck : (b : ℕ) → b < n → (IsIn b order → ⊥) → HasLeft order b). ⊎_elim
      (λ (missing : (b : ℕ) × (b < n) × (IsIn b order → ⊥)). absurd
      (back diagram A checked.loops n (λ b. IsIn b order → ⊥)
      (λ b low left. let s = stuck b low left in (s.0, source-below s.0 b s.1, s.2, s.1))
      n missing.0 [] (alone missing.0) (λ k from to p q. absurd (none-some to q)) (low missing.0 missing.1) missing.2 (omega arith)))
      (λ (all : (b : ℕ) → b < n → IsIn b order). (order, ends order begun all))
      (missing-or order n))
      (free-or order n (omega arith))
    where
      alone : (b : ℕ) → AreOnce (b ∷ [])
      alone b zero zero x p q = refl
      alone b zero (suc j) x p q = absurd (none-some x q)
      alone b (suc i) j x p q = absurd (none-some x p)

      low : (b : ℕ) → b < n → (k x : ℕ) → slice_get (b ∷ []) k ≡ Some x → x < n
      low b less zero x at = subst (λ y. y < n) (same_Some b x at) less
      low b less (suc k) x at = absurd (none-some x at)

  pub some-order : (order : List ℕ) × IsOrdered diagram order
  some-order =
      let found = grow n [] (record {
        inside = λ k x at. absurd (none-some x at);
        once =
            λ i j x p q. absurd (none-some x p);
        after = λ k place source at lead. absurd (none-some place at);
      })
      (omega arith) in
      (found.0, record { checked = checked; ordered = found.1 })
