-- A block that was not met is held: what that leaves.
use Rattle.std.proofs.Common.{◌≡◌, ℕ, ◌+◌, ◌-◌, ◌<◌, ◌≤◌, Bool, true, false, List, [], ◌∷◌, ◌++◌, length, inl, inr, ⊎_elim, refl, sym, ap, subst, ◌∙◌, arith}
use Rattle.std.specs.Prelude.{slice_get, set, Some, Option, ◌⊎◌}
use Rattle.std.proofs.lemmas.Bool.{cases_eq, false≢true}
use Rattle.std.proofs.lemmas.List.{length-append, length-set}
use Rattle.std.proofs.lemmas.Option.{none-some, same_Some, slice_get_within}
use Rattle.dg_sort.specs.declared.search.Mark.{Mark}
use Rattle.dg_sort.specs.declared.search.Mark.TheVariants.{Unmet, Held, Placed}
use Rattle.dg_sort.specs.declared.search.Group.{Group}
use Rattle.dg_sort.specs.Rows.{Reads}
use Rattle.fx_io.specs.Rows.{row_at}
use Rattle.dg_sort.specs.inner.Back.{LeadsBack, IsOnCycle}
use Rattle.dg_sort.specs.inner.State.{IsLooked, IsPlaced, IsSettled, IsHeldFrom, IsLeft, IsRead, NoneBetween, BeginsAfter, floor_of, ArePlaced, AreGroups, AreLooked}
use Rattle.math_list.proofs.Places.{set_same, set_other, get_left, get_right, get_cases, last_at, push_cases}
use Rattle.dg_sort.proofs.Ways.{way_stays}
use Rattle.dg_sort.proofs.Pop.{Popped}

-- another mark than that of one block
apart : (marks : List Mark) (block other : ℕ) (mark new : Mark) → slice_get marks block ≡ Some Unmet
    → slice_get marks other ≡ Some mark → (Unmet ≡ mark → ⊥) → slice_get (set marks block new) other ≡ Some mark
apart marks block other mark new unmet at differ =
    set_other marks block other new (λ same. differ (same_Some Unmet mark (sym unmet ∙ ap (slice_get marks) same ∙ at))) ∙ at

unmet-held : (place : ℕ) → Unmet ≡ Held place → ⊥
unmet-held place e = cc

unmet-placed : (rank : ℕ) → Unmet ≡ Placed rank → ⊥
unmet-placed rank e = cc

held-placed : (place rank : ℕ) → Held place ≡ Placed rank → ⊥
held-placed place rank e = cc

held-place : (place other : ℕ) → Held place ≡ Held other → place ≡ other
held-place place other e = cc

module _ (rows : List (List ℕ)) (marks : List Mark) (held order : List ℕ) (first : Option ℕ) (block : ℕ)
    (are : ArePlaced rows marks held order first) (inside : block < length rows)
    (unmet : slice_get marks block ≡ Some Unmet) where
  own_mark : slice_get (set marks block (Held (length held))) block ≡ Some (Held (length held))
  own_mark = let size = are.marked in set_same marks block (Held (length held)) (omega (arith, size, inside))

  -- the mark of a block that isn't unmet, which then is another one or the held one
  other_mark : (other : ℕ) (mark : Mark) → slice_get (set marks block (Held (length held))) other ≡ Some mark → (slice_get marks other ≡ Some mark) ⊎ ((block ≡ other) × (Held (length held) ≡ mark))
  other_mark other mark at = ⊎_elim
      (λ (same : block ≡ other). inr (same, same_Some (Held (length held)) mark (sym own_mark ∙ ap (slice_get (set marks block (Held (length held)))) same ∙ at)))
      (λ (differ : block ≡ other → ⊥). inl (sym (set_other marks block other (Held (length held)) differ) ∙ at))
      (cases_eq block other)

  still_placed : (other : ℕ) → IsPlaced marks other → IsPlaced (set marks block (Held (length held))) other
  still_placed other placed = record { rank = placed.rank; at = apart marks block other (Placed placed.rank) (Held (length held)) unmet placed.at (unmet-placed placed.rank) }

  was_placed : (other rank : ℕ) → slice_get (set marks block (Held (length held))) other ≡ Some (Placed rank) → slice_get marks other ≡ Some (Placed rank)
  was_placed other rank at = ⊎_elim (λ old. old) (λ new. absurd (held-placed (length held) rank new.1)) (other_mark other (Placed rank) at)

  met_settled : (other rank source : ℕ) → IsSettled marks first other rank source → IsSettled (set marks block (Held (length held))) first other rank source
  met_settled other rank source settled = record {
    other = settled.other;
    at = apart marks block source (Placed settled.other) (Held (length held)) unmet settled.at (unmet-placed settled.other);
    low = settled.low;
    lower = settled.lower;
  }

  pub met_places : ArePlaced rows (set marks block (Held (length held))) (held ++ block ∷ []) order first
  met_places = record {
    marked = length-set marks block (Held (length held)) ∙ are.marked;
    held_at = λ other place at. ⊎_elim
        (λ old. get_left held (block ∷ []) place other (are.held_at other place old))
        (λ new.
        let same : length held ≡ place = held-place (length held) place new.1 in
        subst (λ k. slice_get (held ++ block ∷ []) k ≡ Some other) same (last_at held block ∙ ap Some new.0))
        (other_mark other (Held place) at);
    holds = λ place other at. ⊎_elim
        (λ old. apart marks block other (Held place) (Held (length held)) unmet (are.holds place other old) (unmet-held place))
        (λ new.
        ap (slice_get (set marks block (Held (length held)))) (sym new.1) ∙ own_mark ∙ ap (λ k. Some (Held k)) (sym new.0))
        (push_cases held block place other at);
    placed_at = λ other rank at. are.placed_at other rank (was_placed other rank at);
    places = λ place other at. still_placed other (are.places place other at);
    once = are.once;
    settled = λ other rank source at reads. met_settled other rank source (are.settled other rank source (was_placed other rank at) reads);
    first_on = are.first_on;
  }

-- the group of a block that is held now
abbrev pub new_group : List ℕ → List ℕ → Group
new_group held front = record { start = length held; edges = length front; is_cycle = false }

pub floor_low : (is_cycle : Bool) (start n : ℕ) → start < n → floor_of is_cycle start ≤ n
floor_low true start n below = omega arith
floor_low false start n below = omega arith

module _ (rows : List (List ℕ)) (held : List ℕ) (groups : List Group) (edges front : List ℕ) (block : ℕ) (are : AreGroups groups held edges) (popped : Popped groups edges front block) where
  before_new : (k : ℕ) (group : Group) → slice_get groups k ≡ Some group → slice_get (groups ++ new_group held front ∷ []) k ≡ Some group
  before_new k group at = get_left groups (new_group held front ∷ []) k group at

  new_at : slice_get (groups ++ new_group held front ∷ []) (length groups) ≡ Some (new_group held front)
  new_at = last_at groups (new_group held front)

  rises : (k later : ℕ) (group other : Group) → k < later
      → slice_get (groups ++ new_group held front ∷ []) k ≡ Some group
      → slice_get (groups ++ new_group held front ∷ []) later ≡ Some other
      → (group.start < other.start) × (group.edges ≤ other.edges)
  rises k later group other below at there = ⊎_elim
      (λ (old : slice_get groups k ≡ Some group). ⊎_elim
      (λ (late : slice_get groups later ≡ Some other). are.rising k later group other below old late)
      (λ new. subst (λ (g : Group). (group.start < g.start) × (group.edges ≤ g.edges)) new.1 ((are.within k group old).0, popped.room k group old))
      (push_cases groups (new_group held front) later other there))
      (λ new. ⊎_elim
      (λ (late : slice_get groups later ≡ Some other). let inside = slice_get_within groups later other late in let e = new.0 in absurd (omega (arith, inside, e, below)))
      (λ late. let e = new.0 in let l = late.0 in absurd (omega (arith, e, l, below)))
      (push_cases groups (new_group held front) later other there))
      (push_cases groups (new_group held front) k group at)

  single_met : (k place : ℕ) (group : Group) → slice_get (groups ++ new_group held front ∷ []) k ≡ Some group
      → group.is_cycle ≡ false → group.start < place → place < length (held ++ block ∷ [])
      → BeginsAfter (groups ++ new_group held front ∷ []) group.start place
  single_met k place group at single above below =
      let size = length-append held (block ∷ []) in
      ⊎_elim
      (λ (old : slice_get groups k ≡ Some group). ⊎_elim
      (λ (same : place ≡ length held). record {
        index = length groups;
        group = new_group held front;
        there = new_at;
        after = (are.within k group old).0;
        within = omega arith;
      })
      (λ (other : place ≡ length held → ⊥).
      let more = are.single k place group old single above (omega (arith, size)) in
      record { index = more.index; group = more.group; there = before_new more.index more.group more.there; after = more.after; within = more.within })
      (cases_eq place (length held)))
      (λ new. let high = subst (λ (g : Group). g.start < place) (sym new.1) above in absurd (omega (arith, high, size)))
      (push_cases groups (new_group held front) k group at)

  pub met_groups : AreGroups (groups ++ new_group held front ∷ []) (held ++ block ∷ []) (front ++ row_at rows block)
  met_groups = record {
    none = λ empty. absurd (none-some (new_group held front) (ap (λ gs. slice_get gs (length groups)) (sym empty) ∙ new_at));
    bottom = λ group at. ⊎_elim
        (λ (old : slice_get groups 0 ≡ Some group). are.bottom group old)
        (λ new. subst (λ (g : Group). (g.start ≡ 0) × (g.edges ≡ 0)) new.1 (at-start (sym new.0)))
        (push_cases groups (new_group held front) 0 group at);
    rising = rises;
    within = λ k group at.
        let size = length-append held (block ∷ []) in
        let more = length-append front (row_at rows block) in
        ⊎_elim
        (λ (old : slice_get groups k ≡ Some group). let low = (are.within k group old).0 in let few = popped.room k group old in (omega (arith, low, size), omega (arith, few, more)))
        (λ new. subst (λ (g : Group). (g.start < length (held ++ block ∷ [])) × (g.edges ≤ length (front ++ row_at rows block))) new.1 (omega (arith, size), omega (arith, more)))
        (push_cases groups (new_group held front) k group at);
    single = single_met;
  }
    where
      no_groups : (gs : List Group) → length gs ≡ 0 → gs ≡ []
      no_groups [] e = refl
      no_groups (g ∷ gs) e = absurd (omega arith)

      at-start : length groups ≡ 0 → (length held ≡ 0) × (length front ≡ 0)
      at-start e =
          let free = are.none (no_groups groups e) in
          let short = popped.short in
          let held_none : length held ≡ 0 = ap length free.0 in
          let edges_none : length edges ≡ 0 = ap length free.1 in
          (held_none, omega (arith, short, edges_none))

  -- no group of the old ones stands between either
  none_before : (later place : ℕ) → NoneBetween (groups ++ new_group held front ∷ []) later place → NoneBetween groups later place
  none_before later place none = record { begins = λ k group at low. none.begins k group (before_new k group at) low }

  -- nothing after the new group's beginning lies before it
  none_new : (place : ℕ) → NoneBetween (groups ++ new_group held front ∷ []) (length held) place → length held ≤ place
  none_new place none = none.begins (length groups) (new_group held front) new_at (omega arith)

  module _ (marks : List Mark) (order : List ℕ) (first : Option ℕ) (places : ArePlaced rows marks held order first) (inside : block < length rows) (unmet : slice_get marks block ≡ Some Unmet)
      (reads : AreLooked rows marks held groups edges) (led : (place other : ℕ) → slice_get held place ≡ Some other → LeadsBack rows other block) where
    still_looked_at : (group : Group) (source : ℕ) → group.start < length held → IsLooked marks edges group source
        → IsLooked (set marks block (Held (length held))) (front ++ row_at rows block) group source
    still_looked_at group source low looked = ⊎_elim
        (λ placed. inl (still_placed rows marks held order first block places inside unmet source placed))
        (λ more. ⊎_elim
        (λ (in_held : IsHeldFrom marks (floor_of group.is_cycle group.start) source).
        inr (inl (record { place = in_held.place; at = apart marks block source (Held in_held.place) (Held (length held)) unmet in_held.at (unmet-held in_held.place); from = in_held.from })))
        (λ (left : IsLeft edges group.edges source). ⊎_elim
        (λ at. inr (inr (record { place = left.place; at = get_left front (row_at rows block) left.place source at; from = left.from })))
        (λ same. inr (inl (record {
          place = length held;
          at = ap (slice_get (set marks block (Held (length held)))) (sym same) ∙ own_mark rows marks held order first block places inside unmet;
          from = floor_low group.is_cycle group.start (length held) low;
        })))
        (popped.less left.place source left.at))
        more)
        looked

    -- what the new block reads is left to be looked at
    own_left : (low source : ℕ) → low ≤ length front → Reads rows block source → IsLeft (front ++ row_at rows block) low source
    own_left low source from reads_it = record { place = length front + reads_it.place; at = get_right front (row_at rows block) reads_it.place ∙ reads_it.at; from = omega arith }

    met_looked_at : (k place other source : ℕ) (group : Group)
        → slice_get (groups ++ new_group held front ∷ []) k ≡ Some group → group.start ≤ place
        → slice_get (held ++ block ∷ []) place ≡ Some other → Reads rows other source
        → IsLooked (set marks block (Held (length held))) (front ++ row_at rows block) group source
    met_looked_at k place other source group at from here reads_it = ⊎_elim
        (λ (old : slice_get groups k ≡ Some group). ⊎_elim
        (λ (there : slice_get held place ≡ Some other). still_looked_at group source (are.within k group old).0 (reads.looked k place other source group old from there reads_it))
        (λ new. inr (inr (own_left group.edges source (popped.room k group old) (subst (λ u. Reads rows u source) (sym new.1) reads_it))))
        (push_cases held block place other here))
        (λ fresh. ⊎_elim
        (λ (there : slice_get held place ≡ Some other).
        let low = slice_get_within held place other there in
        let high = subst (λ (g : Group). g.start ≤ place) (sym fresh.1) from in
        absurd (omega (arith, low, high)))
        (λ new. inr (inr (subst (λ (g : Group). IsLeft (front ++ row_at rows block) g.edges source) fresh.1
        (own_left (length front) source (omega arith)
        (subst (λ u. Reads rows u source) (sym new.1) reads_it)))))
        (push_cases held block place other here))
        (push_cases groups (new_group held front) k group at)

    -- an edge from before is read by a block from before
    left_before : (low edge source : ℕ) → slice_get front edge ≡ Some source
        → IsRead rows held groups low edge source
        → IsRead rows (held ++ block ∷ []) (groups ++ new_group held front ∷ []) low edge source
    left_before low edge source at read = record {
      place = read.place;
      reader = record { block = read.reader.block; at = get_left held (block ∷ []) read.place read.reader.block read.reader.at; reads = read.reader.reads; from = read.reader.from };
      before = λ k group there below. ⊎_elim
          (λ (old : slice_get groups k ≡ Some group). read.before k group old below)
          (λ new. subst (λ (g : Group). read.place < g.start) new.1 (slice_get_within held read.place read.reader.block read.reader.at))
          (push_cases groups (new_group held front) k group there);
    }

    -- an edge of the new block is read by it
    left_new : (low edge source : ℕ) → low ≤ length held → length front ≤ edge
        → slice_get (row_at rows block) (edge - length front) ≡ Some source
        → IsRead rows (held ++ block ∷ []) (groups ++ new_group held front ∷ []) low edge source
    left_new low edge source from above at = record {
      place = length held;
      reader = record { block = block; at = last_at held block; reads = record { place = edge - length front; at = at }; from = from };
      before = λ k group there below. ⊎_elim
          (λ (old : slice_get groups k ≡ Some group). let few = popped.room k group old in absurd (omega (arith, few, below, above)))
          (λ new. let high = subst (λ (g : Group). edge < g.edges) (sym new.1) below in absurd (omega (arith, high, above)))
          (push_cases groups (new_group held front) k group there);
    }

    met_left : (k edge source : ℕ) (group : Group) → slice_get (groups ++ new_group held front ∷ []) k ≡ Some group → group.edges ≤ edge → slice_get (front ++ row_at rows block) edge ≡ Some source
        → IsRead rows (held ++ block ∷ []) (groups ++ new_group held front ∷ []) group.start edge source
    met_left k edge source group at from here = ⊎_elim
        (λ (there : slice_get front edge ≡ Some source). ⊎_elim
        (λ (old : slice_get groups k ≡ Some group). left_before group.start edge source there (reads.left k edge source group old from (popped.part edge source there)))
        (λ fresh.
        let low = slice_get_within front edge source there in
        let high = subst (λ (g : Group). g.edges ≤ edge) (sym fresh.1) from in
        absurd (omega (arith, low, high)))
        (push_cases groups (new_group held front) k group at))
        (λ new. ⊎_elim
        (λ (old : slice_get groups k ≡ Some group). let low = (are.within k group old).0 in left_new group.start edge source (omega (arith, low)) new.0 new.1)
        (λ fresh. subst (λ (g : Group). IsRead rows (held ++ block ∷ [])
        (groups ++ new_group held front ∷ []) g.start edge source) fresh.1
        (left_new (length held) edge source (omega arith) new.0 new.1))
        (push_cases groups (new_group held front) k group at))
        (get_cases front (row_at rows block) edge source here)

    met_leads : (place later other source : ℕ) → slice_get (held ++ block ∷ []) place ≡ Some other
        → slice_get (held ++ block ∷ []) later ≡ Some source
        → NoneBetween (groups ++ new_group held front ∷ []) place later → LeadsBack rows other source
    met_leads place later other source at there none = ⊎_elim
        (λ (old : slice_get held place ≡ Some other). ⊎_elim
        (λ (late : slice_get held later ≡ Some source). reads.leads place later other source old late (none_before place later none))
        (λ new. subst (λ u. LeadsBack rows other u) new.1 (led place other old))
        (push_cases held block later source there))
        (λ fresh. ⊎_elim
        (λ (late : slice_get held later ≡ Some source).
        let low = slice_get_within held later source late in
        let high = none_new later (subst (λ n. NoneBetween (groups ++ new_group held front ∷ []) n later) fresh.0 none) in
        absurd (omega (arith, low, high)))
        (λ new. way_stays rows other source (sym fresh.1 ∙ new.1))
        (push_cases held block later source there))
        (push_cases held block place other at)

    met_cycles : (k place other : ℕ) (group : Group)
        → slice_get (groups ++ new_group held front ∷ []) k ≡ Some group → group.is_cycle ≡ true
        → group.start ≤ place → slice_get (held ++ block ∷ []) place ≡ Some other
        → NoneBetween (groups ++ new_group held front ∷ []) place group.start → IsOnCycle rows other
    met_cycles k place other group at on from here none = ⊎_elim
        (λ (old : slice_get groups k ≡ Some group). ⊎_elim
        (λ (there : slice_get held place ≡ Some other). reads.cycles k place other group old on from there (none_before place group.start none))
        (λ new.
        let low = (are.within k group old).0 in
        let high = none_new group.start (subst (λ n. NoneBetween (groups ++ new_group held front ∷ []) n group.start) new.0 none) in
        absurd (omega (arith, low, high)))
        (push_cases held block place other here))
        (λ fresh. absurd (false≢true (subst (λ (g : Group). g.is_cycle ≡ true) (sym fresh.1) on)))
        (push_cases groups (new_group held front) k group at)

    pub met_reads : AreLooked rows (set marks block (Held (length held))) (held ++ block ∷ []) (groups ++ new_group held front ∷ []) (front ++ row_at rows block)
    met_reads = record { looked = met_looked_at; left = met_left; leads = met_leads; cycles = met_cycles }
