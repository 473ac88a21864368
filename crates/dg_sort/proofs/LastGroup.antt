-- Nothing is left that the last group reads: its blocks are placed.
use Rattle.std.proofs.Common.{◌≡◌, ℕ, zero, suc, ◌+◌, ◌-◌, ◌<◌, ◌≤◌, Bool, true, false, List, [], ◌∷◌, ◌++◌, length, take, drop, inl, inr, ⊎_elim, refl, sym, ap, subst, ◌∙◌, arith}
use Rattle.std.specs.Prelude.{slice_get, set, Some, None, Option, MatchOption, ⊤, min, ◌⊎◌}
use Rattle.std.proofs.lemmas.Bool.{cases_eq, cases_lt, false≢true}
use Rattle.std.proofs.lemmas.List.{length-set, length-take-le}
use Rattle.std.proofs.lemmas.Option.{none-some, same_Some, slice_get_within}
use Rattle.dg_sort.specs.declared.search.Mark.{Mark}
use Rattle.dg_sort.specs.declared.search.Mark.TheVariants.{Unmet, Held, Placed}
use Rattle.dg_sort.specs.declared.search.Group.{Group}
use Rattle.dg_sort.specs.Rows.{Reads}
use Rattle.dg_sort.specs.inner.Back.{IsOnCycle}
use Rattle.dg_sort.specs.inner.Search.{placed_marks, least_of, lowered}
use Rattle.dg_sort.specs.inner.State.{IsBelow, IsLooked, IsPlaced, IsPlacedAt, IsSettled, IsHeldFrom, IsLeft, IsRead, NoneBetween, BeginsAfter, floor_of, ArePlaced, AreGroups, AreLooked}
use Rattle.math_list.proofs.Places.{set_same, set_other, get_left, get_right, get_cases, get_take, get_taken, get_drop}
use Rattle.dg_sort.proofs.Pop.{last_highest}

-- ---- marks

placed_stays : (rank : ℕ) (blocks : List ℕ) (marks : List Mark) (block : ℕ) → slice_get marks block ≡ Some (Placed rank) → slice_get (placed_marks rank blocks marks) block ≡ Some (Placed rank)
placed_stays rank [] marks block at = at
placed_stays rank (x ∷ blocks) marks block at = placed_stays rank blocks (set marks x (Placed rank)) block (⊎_elim
    (λ (same : x ≡ block). subst (λ u. slice_get (set marks u (Placed rank)) block ≡ Some (Placed rank)) (sym same)
    (set_same marks block (Placed rank) (slice_get_within marks block (Placed rank) at)))
    (λ (differ : x ≡ block → ⊥). set_other marks x block (Placed rank) differ ∙ at)
    (cases_eq x block))

placed_in : (rank : ℕ) (blocks : List ℕ) (marks : List Mark) (k block : ℕ) → slice_get blocks k ≡ Some block
    → block < length marks → slice_get (placed_marks rank blocks marks) block ≡ Some (Placed rank)
placed_in rank [] marks k block at inside = absurd (none-some block at)
placed_in rank (x ∷ blocks) marks zero block at inside =
    let same : x ≡ block = same_Some x block at in
    placed_stays rank blocks (set marks x (Placed rank)) block (subst (λ u. slice_get (set marks u (Placed rank)) block ≡ Some (Placed rank)) (sym same) (set_same marks block (Placed rank) inside))
placed_in rank (x ∷ blocks) marks (suc k) block at inside =
    let size = length-set marks x (Placed rank) in
    placed_in rank blocks (set marks x (Placed rank)) k block at (omega (arith, size, inside))

placed_other : (rank : ℕ) (blocks : List ℕ) (marks : List Mark) (block : ℕ) → ((k : ℕ) → slice_get blocks k ≡ Some block → ⊥) → slice_get (placed_marks rank blocks marks) block ≡ slice_get marks block
placed_other rank [] marks block out = refl
placed_other rank (x ∷ blocks) marks block out =
    placed_other rank blocks (set marks x (Placed rank)) block (λ k at. out (suc k) at) ∙ set_other marks x block (Placed rank) (λ same. out 0 (ap Some same))

length_placed : (rank : ℕ) (blocks : List ℕ) (marks : List Mark) → length (placed_marks rank blocks marks) ≡ length marks
length_placed rank [] marks = refl
length_placed rank (x ∷ blocks) marks = length_placed rank blocks (set marks x (Placed rank)) ∙ length-set marks x (Placed rank)

-- ---- the least on a cycle

below_lowered : (first : Option ℕ) (x block : ℕ) → IsBelow (lowered first x) block → IsBelow first block
below_lowered None x block below = tt
below_lowered (Some other) x block below = omega (arith, below)

not_lowered : (first : Option ℕ) (block : ℕ) → IsBelow (lowered first block) block → ⊥
not_lowered None block below = omega (arith, below)
not_lowered (Some other) block below = omega (arith, below)

least_below : (is_cycle : Bool) (blocks : List ℕ) (first : Option ℕ) (block : ℕ) → IsBelow (least_of is_cycle blocks first) block → IsBelow first block
least_below is_cycle [] first block below = below
least_below true (x ∷ blocks) first block below = below_lowered first x block (least_below true blocks (lowered first x) block below)
least_below false (x ∷ blocks) first block below = least_below false blocks first block below

least_not : (blocks : List ℕ) (first : Option ℕ) (k block : ℕ) → slice_get blocks k ≡ Some block → IsBelow (least_of true blocks first) block → ⊥
least_not [] first k block at below = none-some block at
least_not (x ∷ blocks) first zero block at below =
    not_lowered first block (subst (λ u. IsBelow (lowered first u) block) (same_Some x block at) (least_below true blocks (lowered first x) block below))
least_not (x ∷ blocks) first (suc k) block at below = least_not blocks (lowered first x) k block at below

lowered_on : (P : ℕ → Type 0) (first : Option ℕ) (x : ℕ) → MatchOption first ⊤ P → P x → MatchOption (lowered first x) ⊤ P
lowered_on P None x old new = new
lowered_on P (Some other) x old new = ⊎_elim
    (λ (less : other < x). let e : other ≡ min other x = omega (arith, less) in subst P e old)
    (λ (more : x ≤ other). let e : x ≡ min other x = omega (arith, more) in subst P e new)
    (cases_lt other x)

least_on : (P : ℕ → Type 0) (is_cycle : Bool) (blocks : List ℕ) (first : Option ℕ) → MatchOption first ⊤ P
    → (is_cycle ≡ true → (k block : ℕ) → slice_get blocks k ≡ Some block → P block)
    → MatchOption (least_of is_cycle blocks first) ⊤ P
least_on P is_cycle [] first old all = old
least_on P true (x ∷ blocks) first old all = least_on P true blocks (lowered first x) (lowered_on P first x old (all refl 0 x refl)) (λ on k block at. all refl (suc k) block at)
least_on P false (x ∷ blocks) first old all = least_on P false blocks first old (λ on k block at. absurd (false≢true on))

-- ---- the last group

-- a block of the last group
record Closing (held : List ℕ) (start block : ℕ) : Type 0 where
  place : ℕ
  at : slice_get held place ≡ Some block
  from : start ≤ place

abbrev closed_marks : List Mark → List ℕ → List ℕ → ℕ → List Mark
closed_marks marks held order start = placed_marks (length order) (drop start held) marks

abbrev closed_first : Option ℕ → List ℕ → Group → Option ℕ
closed_first first held group = least_of group.is_cycle (drop group.start held) first

mark_place : (place other : ℕ) → Some (Held place) ≡ Some (Held other) → place ≡ other
mark_place place other e = cc

pub mark_rank : (rank other : ℕ) → Some (Placed rank) ≡ Some (Placed other) → rank ≡ other
mark_rank rank other e = cc

mark_apart : (place rank : ℕ) → Some (Held place) ≡ Some (Placed rank) → ⊥
mark_apart place rank e = cc

unmet_apart : (place : ℕ) → Some Unmet ≡ Some (Held place) → ⊥
unmet_apart place e = cc

in_drop : (start : ℕ) (held : List ℕ) (place block : ℕ) → start ≤ place → slice_get held place ≡ Some block → slice_get (drop start held) (place - start) ≡ Some block
in_drop start held place block from at =
    let e : start + (place - start) ≡ place = omega (arith, from) in
    get_drop start held (place - start) ∙ ap (slice_get held) e ∙ at

nil_of : {A : Type 0} (xs : List A) → length xs ≡ 0 → xs ≡ []
nil_of [] e = refl
nil_of (x ∷ xs) e = absurd (omega arith)

module _ (rows : List (List ℕ)) (marks : List Mark) (held order : List ℕ) (first : Option ℕ) (groups : List Group) (edges : List ℕ) (group : Group)
    (places : ArePlaced rows marks held order first) (are : AreGroups groups held edges) (reads : AreLooked rows marks held groups edges)
    (last : slice_get groups (length groups - 1) ≡ Some group) (spent : length edges ≡ group.edges) where
  closing_at : (k block : ℕ) → slice_get (drop group.start held) k ≡ Some block → Closing held group.start block
  closing_at k block at = record { place = group.start + k; at = sym (get_drop group.start held k) ∙ at; from = omega arith }

  decides : (block : ℕ) (mark : Option Mark) → slice_get marks block ≡ mark → Closing held group.start block ⊎ (Closing held group.start block → ⊥)
  decides block None is = inr (λ c. none-some (Held c.place) (sym is ∙ places.holds c.place block c.at))
  decides block (Some Unmet) is = inr (λ c. unmet_apart c.place (sym is ∙ places.holds c.place block c.at))
  decides block (Some (Placed rank)) is = inr (λ c. mark_apart c.place rank (sym (places.holds c.place block c.at) ∙ is))
  decides block (Some (Held place)) is = ⊎_elim
      (λ (below : place < group.start). inr (λ c.
      let same : place ≡ c.place = mark_place place c.place (sym is ∙ places.holds c.place block c.at) in
      let from = c.from in
      omega (arith, same, from, below)))
      (λ (above : group.start ≤ place). inl (record { place = place; at = places.held_at block place is; from = above }))
      (cases_lt place group.start)

  is_closing : (block : ℕ) → Closing held group.start block ⊎ (Closing held group.start block → ⊥)
  is_closing block = decides block (slice_get marks block) refl

  mark_in : (block : ℕ) → Closing held group.start block → slice_get (closed_marks marks held order group.start) block ≡ Some (Placed (length order))
  mark_in block c =
      placed_in (length order) (drop group.start held) marks (c.place - group.start) block
      (in_drop group.start held c.place block c.from c.at)
      (slice_get_within marks block (Held c.place) (places.holds c.place block c.at))

  mark_out : (block : ℕ) → (Closing held group.start block → ⊥) → slice_get (closed_marks marks held order group.start) block ≡ slice_get marks block
  mark_out block out = placed_other (length order) (drop group.start held) marks block (λ k at. out (closing_at k block at))

  -- a placed block isn't of the group, nor is one that is held below it
  placed_out : (block rank : ℕ) → slice_get marks block ≡ Some (Placed rank) → Closing held group.start block → ⊥
  placed_out block rank at c = mark_apart c.place rank (sym (places.holds c.place block c.at) ∙ at)

  held_out : (block place : ℕ) → place < group.start → slice_get marks block ≡ Some (Held place) → Closing held group.start block → ⊥
  held_out block place below at c =
      let same : place ≡ c.place = mark_place place c.place (sym at ∙ places.holds c.place block c.at) in
      let from = c.from in
      omega (arith, same, from, below)

  -- a group that lies on no cycle has one block
  alone : (place : ℕ) → group.is_cycle ≡ false → group.start < place → place < length held → ⊥
  alone place single above below =
      let more = are.single (length groups - 1) place group last single above below in
      let high = (last_highest groups held edges more.index more.group group are last more.there).0 in
      let after = more.after in
      omega (arith, high, after)

  on_or_alone : (block : ℕ) → Closing held group.start block → IsBelow (closed_first first held group) block → group.is_cycle ≡ false
  on_or_alone block c below = by_cases group.is_cycle refl
    where
      by_cases : (is : Bool) → group.is_cycle ≡ is → group.is_cycle ≡ false
      by_cases false is = is
      by_cases true is = absurd (least_not (drop group.start held) first (c.place - group.start) block (in_drop group.start held c.place block c.from c.at)
          (subst (λ b. IsBelow (least_of b (drop group.start held) first) block) is below))

  still_below : (block : ℕ) → IsBelow (closed_first first held group) block → IsBelow first block
  still_below block below = least_below group.is_cycle (drop group.start held) first block below

  -- ---- places

  placed_at' : (block rank : ℕ) → slice_get (closed_marks marks held order group.start) block ≡ Some (Placed rank)
      → IsPlacedAt (order ++ drop group.start held) (closed_first first held group) block rank
  placed_at' block rank at = ⊎_elim
      (λ (c : Closing held group.start block).
      let is : length order ≡ rank = mark_rank (length order) rank (sym (mark_in block c) ∙ at) in
      record {
        place = length order + (c.place - group.start);
        at = get_right order (drop group.start held) (c.place - group.start) ∙ in_drop group.start held c.place block c.from c.at;
        low = omega (arith, is);
        exact = λ below.
            let single = on_or_alone block c below in
            let start : c.place ≡ group.start = ⊎_elim
            (λ (more : group.start < c.place). absurd (alone c.place single more (slice_get_within held c.place block c.at)))
            (λ (less : c.place ≤ group.start). let from = c.from in omega (arith, less, from))
            (cases_lt group.start c.place) in
            omega (arith, is, start);
      })
      (λ (out : Closing held group.start block → ⊥).
      let old = places.placed_at block rank (sym (mark_out block out) ∙ at) in
      record { place = old.place; at = get_left order (drop group.start held) old.place block old.at; low = old.low; exact = λ below. old.exact (still_below block below) })
      (is_closing block)

  places' : (place block : ℕ) → slice_get (order ++ drop group.start held) place ≡ Some block → IsPlaced (closed_marks marks held order group.start) block
  places' place block at = ⊎_elim
      (λ old. let is = places.places place block old in record { rank = is.rank; at = mark_out block (placed_out block is.rank is.at) ∙ is.at })
      (λ new. record { rank = length order; at = mark_in block (closing_at (place - length order) block new.1) })
      (get_cases order (drop group.start held) place block at)

  once' : (place other block : ℕ) → slice_get (order ++ drop group.start held) place ≡ Some block → slice_get (order ++ drop group.start held) other ≡ Some block → place ≡ other
  unfolding closing_at
  once' place other block at there = ⊎_elim
      (λ old. ⊎_elim
      (λ late. places.once place other block old late)
      (λ new. let is = places.places place block old in absurd (placed_out block is.rank is.at (closing_at (other - length order) block new.1)))
      (get_cases order (drop group.start held) other block there))
      (λ new. ⊎_elim
      (λ late. let is = places.places other block late in absurd (placed_out block is.rank is.at (closing_at (place - length order) block new.1)))
      (λ late.
      let one = closing_at (place - length order) block new.1 in
      let two = closing_at (other - length order) block late.1 in
      let same = mark_place (group.start + (place - length order)) (group.start + (other - length order)) (sym (places.holds one.place block one.at) ∙ places.holds two.place block two.at) in
      let low = new.0 in
      let high = late.0 in
      omega (arith, same, low, high))
      (get_cases order (drop group.start held) other block there))
      (get_cases order (drop group.start held) place block at)

  -- what a block of the group reads
  settled_in : (block source : ℕ) → Closing held group.start block → Reads rows block source
      → IsSettled (closed_marks marks held order group.start) (closed_first first held group) block
      (length order) source
  settled_in block source c reads_it = ⊎_elim
      (λ (is : IsPlaced marks source).
      let at = places.placed_at source is.rank is.at in
      let inside = slice_get_within order at.place source at.at in
      let low = at.low in
      record { other = is.rank; at = mark_out source (placed_out source is.rank is.at) ∙ is.at; low = omega (arith, inside, low); lower = λ below. omega (arith, inside, low) })
      (λ more. ⊎_elim
      (λ (in_held : IsHeldFrom marks (floor_of group.is_cycle group.start) source).
      let there = places.held_at source in_held.place in_held.at in
      let from = over_start group.is_cycle in_held.place in_held.from in
      record {
        other = length order;
        at = mark_in source (record { place = in_held.place; at = there; from = from });
        low = omega arith;
        lower = λ below.
            let single = on_or_alone block c below in
            let above = subst (λ b. floor_of b group.start ≤ in_held.place) single in_held.from in
            absurd (alone in_held.place single (omega (arith, above)) (slice_get_within held in_held.place source there));
      })
      (λ (left : IsLeft edges group.edges source).
      let inside = slice_get_within edges left.place source left.at in
      let from = left.from in
      absurd (omega (arith, inside, from, spent)))
      more)
      (reads.looked (length groups - 1) c.place block source group last c.from c.at reads_it)
    where
      over_start : (is_cycle : Bool) (n : ℕ) → floor_of is_cycle group.start ≤ n → group.start ≤ n
      over_start true n above = above
      over_start false n above = omega (arith, above)

  settled' : (block rank source : ℕ) → slice_get (closed_marks marks held order group.start) block
      ≡ Some (Placed rank) → Reads rows block source
      → IsSettled (closed_marks marks held order group.start) (closed_first first held group) block rank source
  settled' block rank source at reads_it = ⊎_elim
      (λ (c : Closing held group.start block).
      let is : length order ≡ rank = mark_rank (length order) rank (sym (mark_in block c) ∙ at) in
      subst (λ r. IsSettled (closed_marks marks held order group.start) (closed_first first held group) block r source) is (settled_in block source c reads_it))
      (λ (out : Closing held group.start block → ⊥).
      let old = places.settled block rank source (sym (mark_out block out) ∙ at) reads_it in
      record { other = old.other; at = mark_out source (placed_out source old.other old.at) ∙ old.at; low = old.low; lower = λ below. old.lower (still_below block below) })
      (is_closing block)

  pub placed_places : ArePlaced rows (closed_marks marks held order group.start) (take group.start held) (order ++ drop group.start held) (closed_first first held group)
  placed_places = record {
    marked = length_placed (length order) (drop group.start held) marks ∙ places.marked;
    held_at = λ block place at. ⊎_elim
        (λ (c : Closing held group.start block). absurd (mark_apart place (length order) (sym at ∙ mark_in block c)))
        (λ (out : Closing held group.start block → ⊥).
        let there = places.held_at block place (sym (mark_out block out) ∙ at) in
        ⊎_elim
        (λ (below : place < group.start). get_taken group.start held place block below there)
        (λ (above : group.start ≤ place). absurd (out (record { place = place; at = there; from = above })))
        (cases_lt place group.start))
        (is_closing block);
    holds = λ place block at.
        let taken = get_take group.start held place block at in
        let is = places.holds place block taken.1 in
        mark_out block (held_out block place taken.0 is) ∙ is;
    placed_at = placed_at';
    places = places';
    once = once';
    settled = settled';
    first_on = least_on (IsOnCycle rows) group.is_cycle (drop group.start held) first places.first_on (λ on k block at.
        let c = closing_at k block at in
        reads.cycles (length groups - 1) c.place block group last on c.from c.at (record { begins = λ j other there low. (last_highest groups held edges j other group are last there).0 }));
  }

  -- ---- groups

  low_group : (k : ℕ) (other : Group) → slice_get (take (length groups - 1) groups) k ≡ Some other → (slice_get groups k ≡ Some other) × (other.start < group.start)
  low_group k other at =
      let taken = get_take (length groups - 1) groups k other at in
      (taken.1, (are.rising k (length groups - 1) other group taken.0 taken.1 last).0)

  held_size : length (take group.start held) ≡ group.start
  held_size = let low = (are.within (length groups - 1) group last).0 in length-take-le group.start held (omega (arith, low))

  low_begins : (low high : ℕ) → high < group.start → BeginsAfter groups low high → BeginsAfter (take (length groups - 1) groups) low high
  low_begins low high below more = record {
    index = more.index;
    group = more.group;
    there = get_taken (length groups - 1) groups more.index more.group (not_last (cases_eq more.index (length groups - 1))) more.there;
    after = more.after;
    within = more.within;
  }
    where
      not_last : (more.index ≡ length groups - 1) ⊎ (more.index ≡ length groups - 1 → ⊥) → more.index < length groups - 1
      not_last (inl same) =
          let is : more.group ≡ group = same_Some more.group group (sym more.there ∙ ap (slice_get groups) same ∙ last) in
          let up = subst (λ (g : Group). g.start ≤ high) is more.within in
          absurd (omega (arith, up, below))
      not_last (inr other) = let inside = slice_get_within groups more.index more.group more.there in omega (arith, inside, other)

  pub placed_groups : AreGroups (take (length groups - 1) groups) (take group.start held) edges
  placed_groups = record {
    none = λ empty.
        let inside = slice_get_within groups (length groups - 1) group last in
        let size = length-take-le (length groups - 1) groups (omega (arith, inside)) in
        let none : length (take (length groups - 1) groups) ≡ 0 = ap length empty in
        let zeroth : length groups - 1 ≡ 0 = omega (arith, size, none) in
        let floor = are.bottom group (sym (ap (slice_get groups) zeroth) ∙ last) in
        let spent_all : length edges ≡ 0 = spent ∙ floor.1 in
        (nil_of (take group.start held) (held_size ∙ floor.0), nil_of edges spent_all);
    bottom = λ other at. are.bottom other (low_group 0 other at).0;
    rising = λ k later other another below at there. are.rising k later other another below (low_group k other at).0 (low_group later another there).0;
    within = λ k other at.
        let low = low_group k other at in
        let under = low.1 in
        (omega (arith, under, held_size), (are.within k other low.0).1);
    single = λ k place other at single above below.
        let inside = (are.within (length groups - 1) group last).0 in
        let under : place < group.start = omega (arith, below, held_size) in
        low_begins other.start place under (are.single k place other (low_group k other at).0 single above (omega (arith, under, inside)));
  }

  -- ---- readings

  looked' : (k place block source : ℕ) (other : Group) → slice_get (take (length groups - 1) groups) k ≡ Some other
      → other.start ≤ place → slice_get (take group.start held) place ≡ Some block → Reads rows block source
      → IsLooked (closed_marks marks held order group.start) edges other source
  looked' k place block source other at from here reads_it = ⊎_elim
      (λ (is : IsPlaced marks source). inl (record { rank = is.rank; at = mark_out source (placed_out source is.rank is.at) ∙ is.at }))
      (λ more. ⊎_elim
      (λ (in_held : IsHeldFrom marks (floor_of other.is_cycle other.start) source). ⊎_elim
      (λ (below : in_held.place < group.start).
      inr (inl (record { place = in_held.place; at = mark_out source (held_out source in_held.place below in_held.at) ∙ in_held.at; from = in_held.from })))
      (λ (above : group.start ≤ in_held.place).
      inl (record { rank = length order; at = mark_in source (record { place = in_held.place; at = places.held_at source in_held.place in_held.at; from = above }) }))
      (cases_lt in_held.place group.start))
      (λ left. inr (inr left))
      more)
      (reads.looked k place block source other (low_group k other at).0 from (get_take group.start held place block here).1 reads_it)

  left' : (k edge source : ℕ) (other : Group) → slice_get (take (length groups - 1) groups) k ≡ Some other → other.edges ≤ edge → slice_get edges edge ≡ Some source
      → IsRead rows (take group.start held) (take (length groups - 1) groups) other.start edge source
  left' k edge source other at from here =
      let read = reads.left k edge source other (low_group k other at).0 from here in
      let inside = slice_get_within edges edge source here in
      let reader = read.reader in
      let at = get_taken group.start held read.place reader.block (read.before (length groups - 1) group last (omega (arith, inside, spent))) reader.at in
      record {
        place = read.place;
        reader = record { block = reader.block; at = at; reads = reader.reads; from = reader.from };
        before = λ j another there below. read.before j another (low_group j another there).0 below;
      }

  none' : (later place : ℕ) → later < group.start → NoneBetween (take (length groups - 1) groups) later place → NoneBetween groups later place
  none' later place below none = record {
    begins = λ k other at low. ⊎_elim
        (λ (less : k < length groups - 1). none.begins k other (get_taken (length groups - 1) groups k other less at) low)
        (λ (more : length groups - 1 ≤ k).
        let inside = slice_get_within groups k other at in
        let same : k ≡ length groups - 1 = omega (arith, inside, more) in
        let is : other ≡ group = same_Some other group (sym at ∙ ap (slice_get groups) same ∙ last) in
        let up = subst (λ (g : Group). g.start ≤ later) is low in
        absurd (omega (arith, up, below)))
        (cases_lt k (length groups - 1));
  }

  pub placed_reads : AreLooked rows (closed_marks marks held order group.start) (take group.start held) (take (length groups - 1) groups) edges
  placed_reads = record {
    looked = looked';
    left = left';
    leads = λ place later block source at there none.
        let here = get_take group.start held place block at in
        let after = get_take group.start held later source there in
        reads.leads place later block source here.1 after.1 (none' place later here.0 none);
    cycles = λ k place block other at on from here none.
        let taken = get_take group.start held place block here in
        reads.cycles k place block other (low_group k other at).0 on from taken.1 (none' place other.start taken.0 none);
  }
