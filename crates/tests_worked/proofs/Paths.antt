-- What instant edges lead to, by tests over the edges of a small diagram: paths, depths, what is fed, and that no cycle is there.
use Rattle.std.proofs.Common.{◌≡◌, ℕ, zero, suc, ◌+◌, ◌-◌, ◌%◌, ◌≤◌, ◌<◌, Bool, true, false, true≢false, cond, ◌&&◌, List, [], ◌∷◌, length, get_or, Option, Some, None, slice_get, inl, inr, refl, sym}
use Rattle.std.proofs.Common.{ap, subst, ◌∙◌, arith}
use Rattle.std.specs.Prelude.{◌==◌, count_by, nat_le, slice_index}
use Rattle.std.specs.List.{list_all, list_any}
use Rattle.std.proofs.Math.Nat.{mod_self, mod-eq_of_lt}
use Rattle.std.proofs.lemmas.Bool.{and_parts, cases_lt, eqb-true, leb-true}
use Rattle.std.proofs.lemmas.List.Folds.{Any-from_list_any}
use Rattle.std.proofs.lemmas.List.Sums.{AllPass-from_list_all, sum_by-cons}
use Rattle.std.proofs.lemmas.Option.{none-some, same_Some, slice_get_within}
use Rattle.dg_model.specs.declared.diagram.Block.{Block}
use Rattle.dg_model.specs.declared.diagram.Diagram.{Diagram}
use Rattle.dg_model.specs.declared.resolved.Resolved.{Resolved}
use Rattle.dg_model.specs.Instant.{is_instant}
use Rattle.dg_model.specs.LatencyEdges.{LatencyEdge, latency_edges}
use Rattle.dg_model.specs.Loop.{LeadsNow, IsInstantPath, KeepsLoop}
use Rattle.dg_model.specs.Signals.{Attributes}
use Rattle.hw_latency.specs.Cone.{IsFed, is_marked}
use Rattle.hw_latency.specs.Shared.{is_shared, multiplies_if, shares}
use Rattle.hw_sched.specs.Level.{EndsWith, IsDepth, is_same_period, shared_on}

-- ---- tests
abbrev pub each_below : (ℕ → Bool) → ℕ → Bool
each_below test zero = true
each_below test (suc n) = test n && each_below test n

pub below_by : (test : ℕ → Bool) (n : ℕ) → each_below test n ≡ true → (x : ℕ) → x < n → test x ≡ true
below_by test zero all x less = absurd (omega (arith, less))
below_by test (suc n) all x less =
    let parts = and_parts (test n) (each_below test n) all in
    elim (cases_lt x n) [
      | inl lower ↦ below_by test n parts.1 x lower
      | inr not ↦ let last : n ≡ x = omega (arith, less, not) in subst (λ (m : ℕ). test m ≡ true) last parts.0
    ]

if_true : (b r : Bool) → b ≡ true → cond b r true ≡ true → r ≡ true
if_true true r is holds = holds
if_true false r is holds = absurd (true≢false (sym is))

abbrev pub one_if : Bool → ℕ
one_if b = cond b 1 0

module _ (diagram : Diagram) (attributes : Attributes) where
  -- ---- paths
  abbrev leads_by : ℕ → ℕ → LatencyEdge → Bool
  leads_by from to edge = ((edge.from == from) && (edge.to == to)) && is_instant diagram attributes edge

  abbrev pub is_path : List ℕ → Bool
  is_path [] = true
  is_path (x ∷ []) = true
  is_path (x ∷ y ∷ path) = list_any (leads_by x y) (latency_edges diagram) && is_path (y ∷ path)

  leads_now : (from to : ℕ) → list_any (leads_by from to) (latency_edges diagram) ≡ true → LeadsNow diagram attributes from to
  leads_now from to is = by (Any-from_list_any (leads_by from to) (latency_edges diagram) is) where
    by : (k : ℕ) × (edge : LatencyEdge) × (k < length (latency_edges diagram))
        × (◌≡◌ {A = LatencyEdge} (get_or (latency_edges diagram) k edge) edge) × (leads_by from to edge ≡ true)
        → LeadsNow diagram attributes from to
    by (k, edge, below, at, holds) =
        let parts = and_parts ((edge.from == from) && (edge.to == to)) (is_instant diagram attributes edge) holds in
        let ends = and_parts (edge.from == from) (edge.to == to) parts.0 in
        (k, edge, below, at, (eqb-true edge.from from ends.0, eqb-true edge.to to ends.1, parts.1))

  pub path_by : (path : List ℕ) → is_path path ≡ true → IsInstantPath diagram attributes path
  path_by [] is k from to at next = absurd (none-some from at)
  path_by (x ∷ []) is k from to at next = absurd (none-some to next)
  path_by (x ∷ y ∷ path) is zero from to at next =
      let first = (and_parts (list_any (leads_by x y) (latency_edges diagram)) (is_path (y ∷ path)) is).0 in
      subst (λ (n : ℕ). LeadsNow diagram attributes n to) (same_Some x from at) (subst (λ (n : ℕ). LeadsNow diagram attributes x n) (same_Some y to next) (leads_now x y first))
  path_by (x ∷ y ∷ path) is (suc k) from to at next =
      path_by (y ∷ path) (and_parts (list_any (leads_by x y) (latency_edges diagram)) (is_path (y ∷ path)) is).1 k from to at next

  -- ---- heights that rise along instant edges, by what each end weighs
  module _ (height weight : ℕ → ℕ) where
    abbrev rises_by : LatencyEdge → Bool
    rises_by edge = cond (is_instant diagram attributes edge) (nat_le (height edge.from + weight edge.to) (height edge.to)) true

    abbrev pub is_rising : Bool
    is_rising = list_all rises_by (latency_edges diagram)

    pub rises : is_rising ≡ true → (from to : ℕ) → LeadsNow diagram attributes from to → height from + weight to ≤ height to
    rises all from to (k, edge, below, at, (from_is, to_is, now)) =
        let test = sym (ap rises_by at) ∙ AllPass-from_list_all rises_by (latency_edges diagram) all k edge below in
        let less = if_true (is_instant diagram attributes edge) (nat_le (height edge.from + weight edge.to) (height edge.to)) now test in
        let here : height edge.from + weight edge.to ≤ height edge.to = leb-true (height edge.from + weight edge.to) (height edge.to) less in
        subst (λ (x : ℕ). height x + weight to ≤ height to) from_is (subst (λ (x : ℕ). height edge.from + weight x ≤ height x) to_is here)

    -- what stands before a block of a path
    before : (path : List ℕ) (k x : ℕ) → slice_get path (suc k) ≡ Some x → (y : ℕ) × (slice_get path k ≡ Some y)
    before [] k x at = absurd (none-some x at)
    before (y ∷ path) zero x at = (y, refl)
    before (y ∷ path) (suc k) x at = before path k x at

    pub climbs : is_rising ≡ true → (path : List ℕ) → IsInstantPath diagram attributes path → (first k x : ℕ) → slice_get path 0 ≡ Some first → slice_get path k ≡ Some x → height first ≤ height x
    climbs all path leads first zero x begins at = let same : first ≡ x = same_Some first x (sym begins ∙ at) in subst (λ (y : ℕ). height first ≤ height y) same (omega arith)
    climbs all path leads first (suc k) x begins at =
        let earlier = before path k x at in
        let rest : height first ≤ height earlier.0 = climbs all path leads first k earlier.0 begins earlier.1 in
        let next : height earlier.0 + weight x ≤ height x = rises all earlier.0 x (leads k earlier.0 x earlier.1 at) in
        omega (arith, rest, next)

  -- what weighs one each: those that a path counts are no more than its last is high
  module _ (height : ℕ → ℕ) (counts : ℕ → Bool) (all : is_rising height (λ x. one_if (counts x)) ≡ true) (own : (x : ℕ) → one_if (counts x) ≤ height x) where
    later : (x : ℕ) (path : List ℕ) (last place : ℕ) → IsInstantPath diagram attributes (x ∷ path)
        → length (x ∷ path) ≡ suc last → slice_get (x ∷ path) last ≡ Some place
        → count_by counts path + height x ≤ height place
    later x [] last place leads size ends =
        let none : last ≡ 0 = omega (arith, size) in
        let same : x ≡ place = same_Some x place (sym (ap (λ (k : ℕ). slice_get (x ∷ []) k) none) ∙ ends) in
        subst (λ (y : ℕ). 0 + height x ≤ height y) same (omega arith)
    later x (y ∷ path) zero place leads size ends = absurd (omega (arith, size))
    later x (y ∷ path) (suc last) place leads size ends =
        let rest : count_by counts path + height y ≤ height place = later y path last place (λ k. leads (suc k)) (omega (arith, size)) ends in
        let step : height x + one_if (counts y) ≤ height y = rises height (λ z. one_if (counts z)) all x y (leads 0 x y refl refl) in
        let sums : count_by counts (y ∷ path) ≡ one_if (counts y) + count_by counts path = sum_by-cons (λ z. cond (counts z) 1 0) y path in
        omega (arith, rest, step, sums)

    pub most : (path : List ℕ) (place : ℕ) → EndsWith diagram attributes path place → count_by counts path ≤ height place
    most [] place ends = absurd (omega (arith, ends.size))
    most (x ∷ path) place ends =
        let rest : count_by counts path + height x ≤ height place = later x path ends.last place ends.leads ends.size ends.ends in
        let here = own x in
        let sums : count_by counts (x ∷ path) ≡ one_if (counts x) + count_by counts path = sum_by-cons (λ z. cond (counts z) 1 0) x path in
        omega (arith, rest, here, sums)

  module _ (plan : Resolved) where
    abbrev shared : ℕ → Bool
    shared place = is_shared diagram attributes plan place

    -- only blocks that are there are shared
    multiplies_some : (b : Option Block) (more : Bool) → (multiplies_if b && more) ≡ true → (block : Block) × (b ≡ Some block)
    multiplies_some None more is = absurd (true≢false (sym is))
    multiplies_some (Some block) more is = (block, refl)

    there : (place : ℕ) → shared place ≡ true → place < length diagram.blocks
    there place is =
        let some = multiplies_some (slice_get diagram.blocks place) (shares plan (attributes.period_at place)) is in
        slice_get_within diagram.blocks place some.0 some.1

    -- ---- what is fed, by marks that rise
    module _ (fed : List Bool) where
      abbrev mark : ℕ → ℕ
      mark place = one_if (is_marked fed place)

      abbrev pub are_marked : Bool
      are_marked = is_rising mark (λ x. 0) && each_below (λ place. cond (shared place) (is_marked fed place) true) (length diagram.blocks)

      one_at_least : (b : Bool) → 1 ≤ one_if b → b ≡ true
      one_at_least true some = refl
      one_at_least false some = absurd (omega (arith, some))

      pub marked : are_marked ≡ true → (place : ℕ) → IsFed diagram attributes plan place → is_marked fed place ≡ true
      marked all place is =
          let parts = and_parts (is_rising mark (λ x. 0)) (each_below (λ place. cond (shared place) (is_marked fed place) true) (length diagram.blocks)) all in
          let own = below_by (λ place. cond (shared place) (is_marked fed place) true) (length diagram.blocks) parts.1 is.source (there is.source is.shared) in
          let begun = if_true (shared is.source) (is_marked fed is.source) is.shared own in
          let risen : mark is.source ≤ mark place = climbs mark (λ x. 0) parts.0 is.cone.path is.cone.leads is.source is.cone.last place is.cone.begins is.cone.ends in
          one_at_least (is_marked fed place) (subst (λ (b : Bool). one_if b ≤ mark place) begun risen)

    -- ---- depths, by heights that count
    module _ (period : Option ℕ) (heights : List ℕ) where
      abbrev height_at : ℕ → ℕ
      height_at place = slice_index heights place

      abbrev counted : ℕ → Bool
      counted place = shared place && is_same_period (attributes.period_at place) period

      abbrev pub are_heights : Bool
      are_heights = is_rising height_at (λ x. one_if (counted x)) && each_below (λ place. nat_le (one_if (counted place)) (height_at place)) (length diagram.blocks)

      own_by : (b : Bool) (x : ℕ) → counted x ≡ b → (b ≡ true → one_if (counted x) ≤ height_at x) → one_if (counted x) ≤ height_at x
      own_by true x is holds = holds refl
      own_by false x is holds = subst (λ (b : Bool). one_if b ≤ height_at x) (sym is) (omega arith)

      pub own_height : are_heights ≡ true → (x : ℕ) → one_if (counted x) ≤ height_at x
      own_height all x = own_by (counted x) x refl (λ is.
          let parts = and_parts (is_rising height_at (λ x. one_if (counted x))) (each_below (λ place. nat_le (one_if (counted place)) (height_at place)) (length diagram.blocks)) all in
          let here = there x (and_parts (shared x) (is_same_period (attributes.period_at x) period) is).0 in
          leb-true (one_if (counted x)) (height_at x) (below_by (λ place. nat_le (one_if (counted place)) (height_at place)) (length diagram.blocks) parts.1 x here))

      pub most_shared : are_heights ≡ true → (path : List ℕ) (place : ℕ) → EndsWith diagram attributes path place → shared_on diagram attributes plan period path ≤ height_at place
      most_shared all path place ends =
          let parts = and_parts (is_rising height_at (λ x. one_if (counted x))) (each_below (λ place. nat_le (one_if (counted place)) (height_at place)) (length diagram.blocks)) all in
          most height_at counted parts.0 (own_height all) path place ends

    -- the depth of a block: a path to it counts so many, and no other counts more
    pub depth_by : (place last : ℕ) (path heights : List ℕ) → is_path path ≡ true → length path ≡ suc last → slice_get path last ≡ Some place
        → are_heights (attributes.period_at place) heights ≡ true → shared_on diagram attributes plan (attributes.period_at place) path ≡ slice_index heights place
        → IsDepth diagram attributes plan place (slice_index heights place)
    depth_by place last path heights is size ends all reached = record {
      path = path;
      ends = record { leads = path_by path is; last = last; size = size; ends = ends };
      reached = reached;
      most = λ other ends. most_shared (attributes.period_at place) heights all other place ends;
    }

  -- ---- no cycle, where each instant edge leads up
  module _ (height : ℕ → ℕ) (all : is_rising height (λ x. 1) ≡ true) where
    pub no_cycle : KeepsLoop diagram attributes
    no_cycle cycle is = ends (rising last (omega (arith, is.some))) (is.leads last (omega (arith, is.some)))
      where
        last : ℕ
        last = length cycle - 1

        rising : (k : ℕ) → k < length cycle → height (slice_index cycle 0) + k ≤ height (slice_index cycle k)
        rising zero below = omega arith
        rising (suc k) below =
            let next : height (slice_index cycle k) + 1 ≤ height (slice_index cycle (suc k)) =
            subst (λ (i : ℕ). height (slice_index cycle k) + 1 ≤ height (slice_index cycle i)) (mod-eq_of_lt below)
            (rises height (λ x. 1) all (slice_index cycle k) (slice_index cycle (suc k % length cycle))
            (is.leads k (omega (arith, below)))) in
            omega (arith, next, rising k (omega (arith, below)))

        ends : height (slice_index cycle 0) + last ≤ height (slice_index cycle last) → LeadsNow diagram attributes (slice_index cycle last) (slice_index cycle (suc last % length cycle)) → ⊥
        ends far leads =
            let whole : suc last ≡ length cycle = omega (arith, is.some) in
            let round : suc last % length cycle ≡ 0 = ap (λ (m : ℕ). m % length cycle) whole ∙ mod_self (length cycle) in
            let less : height (slice_index cycle last) + 1 ≤ height (slice_index cycle 0) =
            subst (λ (i : ℕ). height (slice_index cycle last) + 1 ≤ height (slice_index cycle i)) round
            (rises height (λ x. 1) all (slice_index cycle last)
            (slice_index cycle (suc last % length cycle)) leads) in
            omega (arith, far, less)
