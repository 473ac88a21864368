-- A held block is read: the groups from its own on are one.
use Rattle.std.proofs.Common.{◌≡◌, ℕ, ◌+◌, ◌<◌, ◌≤◌, Bool, true, false, List, [], ◌∷◌, ◌++◌, length, take, get_or, inl, inr, ⊎_elim, refl, sym, ap, subst, ◌∙◌, arith}
use Rattle.std.specs.Prelude.{slice_get, set, Some, ◌⊎◌}
use Rattle.std.proofs.lemmas.Bool.{cases_eq, cases_lt, cases_order, true≢false}
use Rattle.std.proofs.lemmas.List.{length-take-le, get_or-take, take_more, set_at}
use Rattle.std.proofs.lemmas.Option.{none-some, same_Some, slice_get_within, slice_get_read, get_or_from_slice_get}
use Rattle.dg_sort.specs.declared.search.Mark.{Mark}
use Rattle.dg_sort.specs.declared.search.Mark.TheVariants.{Held}
use Rattle.dg_sort.specs.declared.search.Group.{Group}
use Rattle.dg_sort.specs.Rows.{Reads}
use Rattle.dg_sort.specs.inner.Back.{LeadsBack, IsOnCycle}
use Rattle.dg_sort.specs.inner.Search.{on_cycle, IsJoined}
use Rattle.dg_sort.specs.inner.State.{IsLooked, IsHeldFrom, IsLeft, IsRead, NoneBetween, BeginsAfter, floor_of, AreGroups, AreLooked}
use Rattle.math_list.proofs.Places.{get_left, get_take, get_taken, last_at, push_cases}
use Rattle.dg_sort.proofs.Ways.{ways_join, way_reads, way_closes}
use Rattle.dg_sort.proofs.Pop.{Popped, still_looked}
use Rattle.dg_sort.proofs.Meet.{floor_low}

floor_over : (is_cycle : Bool) (start n : ℕ) → floor_of is_cycle start ≤ n → start ≤ n
floor_over true start n above = above
floor_over false start n above = omega (arith, above)

-- what the last group reads: a block held at this place
pub record Closes (rows : List (List ℕ)) (held : List ℕ) (groups : List Group) (source place : ℕ) : Type 0 where
  pub at : slice_get held place ≡ Some source
  pub top : ℕ
  pub reader : ℕ
  pub reads_at : slice_get held top ≡ Some reader
  pub reads : Reads rows reader source
  pub highest : (k : ℕ) (group : Group) → slice_get groups k ≡ Some group → group.start ≤ top

module _ (rows : List (List ℕ)) (marks : List Mark) (held : List ℕ) (groups joined : List Group) (edges front : List ℕ) (source place : ℕ)
    (are : AreGroups groups held edges) (reads : AreLooked rows marks held groups edges)
    (popped : Popped groups edges front source) (join : IsJoined groups joined place)
    (closes : Closes rows held groups source place)
    (marked : slice_get marks source ≡ Some (Held place)) where
  size : length (take join.last groups) ≡ join.last
  size = let inside = slice_get_within groups join.last join.group join.there in length-take-le join.last groups (omega (arith, inside))

  kept_below : (k : ℕ) (group : Group) → k < join.last → slice_get groups k ≡ Some group → slice_get joined k ≡ Some group
  kept_below k group below at =
      ap (λ gs. slice_get gs k) join.are ∙ get_left (take join.last groups) (on_cycle join.group ∷ []) k group (get_taken join.last groups k group below at)

  joined_at : slice_get joined join.last ≡ Some (on_cycle join.group)
  joined_at =
      ap (λ gs. slice_get gs join.last) join.are ∙ ap (slice_get (take join.last groups ++ on_cycle join.group ∷ [])) (sym size) ∙ last_at (take join.last groups) (on_cycle join.group)

  cases : (k : ℕ) (group : Group) → slice_get joined k ≡ Some group → ((k < join.last) × (slice_get groups k ≡ Some group)) ⊎ ((k ≡ join.last) × (on_cycle join.group ≡ group))
  cases k group at = ⊎_elim
      (λ old. inl (get_take join.last groups k group old))
      (λ new. inr (new.0 ∙ size, new.1))
      (push_cases (take join.last groups) (on_cycle join.group) k group (sym (ap (λ gs. slice_get gs k) join.are) ∙ at))

  -- a group below begins before the joined one
  under : (k : ℕ) (group : Group) → k < join.last → slice_get groups k ≡ Some group → (group.start < join.group.start) × (group.edges ≤ join.group.edges)
  under k group below at = are.rising k join.last group join.group below at join.there

  single_joined : (k at : ℕ) (group : Group) → slice_get joined k ≡ Some group → group.is_cycle ≡ false → group.start < at → at < length held → BeginsAfter joined group.start at
  single_joined k at group there single above below = ⊎_elim
      (λ old. from_old old.0 (are.single k at group old.1 single above below) (under k group old.0 old.1).0)
      (λ new. absurd (true≢false (subst (λ (g : Group). g.is_cycle ≡ false) (sym new.1) single)))
      (cases k group there)
    where
      from_old : k < join.last → BeginsAfter groups group.start at → group.start < join.group.start → BeginsAfter joined group.start at
      from_old low begins rise = ⊎_elim
          (λ (same : begins.index ≡ join.last).
          let is : begins.group ≡ join.group = same_Some begins.group join.group (sym begins.there ∙ ap (slice_get groups) same ∙ join.there) in
          record { index = join.last; group = on_cycle join.group; there = joined_at; after = rise; within = subst (λ (g : Group). g.start ≤ at) is begins.within })
          (λ other. ⊎_elim
          (λ (less : begins.index < join.last).
          record {
            index = begins.index;
            group = begins.group;
            there =
                kept_below begins.index begins.group less begins.there;
            after =
                begins.after;
            within = begins.within;
          })
          (λ (more : join.last < begins.index).
          let up = (are.rising join.last begins.index join.group begins.group more join.there begins.there).0 in
          let high = begins.within in
          record { index = join.last; group = on_cycle join.group; there = joined_at; after = rise; within = omega (arith, up, high) })
          other)
          (cases_order begins.index join.last)

  pub joined_groups : AreGroups joined held front
  joined_groups = record {
    none = λ empty. absurd (none-some (on_cycle join.group) (ap (λ gs. slice_get gs join.last) (sym empty) ∙ joined_at));
    bottom = λ group at. ⊎_elim
        (λ old. are.bottom group old.1)
        (λ new.
        subst (λ (g : Group). (g.start ≡ 0) × (g.edges ≡ 0)) new.1 (are.bottom join.group (ap (slice_get groups) new.0 ∙ join.there)))
        (cases 0 group at);
    rising = λ k later group other below at there. ⊎_elim
        (λ late. ⊎_elim
        (λ old. are.rising k later group other below old.1 late.1)
        (λ new. let e = new.0 in let l = late.0 in absurd (omega (arith, e, l, below)))
        (cases k group at))
        (λ late. ⊎_elim
        (λ old. subst (λ (g : Group). (group.start < g.start) × (group.edges ≤ g.edges)) late.1 (under k group old.0 old.1))
        (λ new. let e = new.0 in let l = late.0 in absurd (omega (arith, e, l, below)))
        (cases k group at))
        (cases later other there);
    within = λ k group at. ⊎_elim
        (λ old. ((are.within k group old.1).0, popped.room k group old.1))
        (λ new. subst (λ (g : Group). (g.start < length held) × (g.edges ≤ length front)) new.1 ((are.within join.last join.group join.there).0, popped.room join.last join.group join.there))
        (cases k group at);
    single = single_joined;
  }

  looked_joined : (k at block other : ℕ) (group : Group) → slice_get joined k ≡ Some group → group.start ≤ at
      → slice_get held at ≡ Some block → Reads rows block other → IsLooked marks front group other
  looked_joined k at block other group there from here reads_it = ⊎_elim
      (λ old.
      let rise = (under k group old.0 old.1).0 in
      let low = join.low in
      still_looked marks groups edges front source other group popped
      (λ same. inr (record { place = place; at = ap (slice_get marks) (sym same) ∙ marked; from = floor_low group.is_cycle group.start place (omega (arith, rise, low)) }))
      (reads.looked k at block other group old.1 from here reads_it))
      (λ new. subst (λ (g : Group). IsLooked marks front g other) new.1
      (at_joined (reads.looked join.last at block other join.group join.there (subst (λ (g : Group). g.start ≤ at) (sym new.1) from) here reads_it)))
      (cases k group there)
    where
      at_joined : IsLooked marks edges join.group other → IsLooked marks front (on_cycle join.group) other
      at_joined looked = ⊎_elim
          (λ placed. inl placed)
          (λ more. ⊎_elim
          (λ (in_held : IsHeldFrom marks (floor_of join.group.is_cycle join.group.start) other).
          inr (inl (record { place = in_held.place; at = in_held.at; from = floor_over join.group.is_cycle join.group.start in_held.place in_held.from })))
          (λ (left : IsLeft edges join.group.edges other). ⊎_elim
          (λ at. inr (inr (record { place = left.place; at = at; from = left.from })))
          (λ same. inr (inl (record { place = place; at = ap (slice_get marks) (sym same) ∙ marked; from = join.low })))
          (popped.less left.place other left.at))
          more)
          looked

  read_joined : (low edge other : ℕ) → IsRead rows held groups low edge other → IsRead rows held joined low edge other
  read_joined low edge other read = record {
    place = read.place;
    reader = read.reader;
    before = λ k group there below. ⊎_elim
        (λ old. read.before k group old.1 below)
        (λ new. subst (λ (g : Group). read.place < g.start) new.1 (read.before join.last join.group join.there (subst (λ (g : Group). edge < g.edges) (sym new.1) below)))
        (cases k group there);
  }

  left_joined : (k edge other : ℕ) (group : Group) → slice_get joined k ≡ Some group → group.edges ≤ edge → slice_get front edge ≡ Some other → IsRead rows held joined group.start edge other
  left_joined k edge other group there from here = ⊎_elim
      (λ old. read_joined group.start edge other (reads.left k edge other group old.1 from (popped.part edge other here)))
      (λ new. subst (λ (g : Group). IsRead rows held joined g.start edge other) new.1
      (read_joined join.group.start edge other (reads.left join.last edge other join.group join.there (subst (λ (g : Group). g.edges ≤ edge) (sym new.1) from) (popped.part edge other here))))
      (cases k group there)

  -- each group that begins no later than the held block's place stands no higher than the joined one
  not_above : (k at : ℕ) (group : Group) → slice_get groups k ≡ Some group → group.start ≤ place → join.group.start ≤ at → group.start ≤ at
  not_above k at group there low from = ⊎_elim
      (λ (same : k ≡ join.last).
      let is : group ≡ join.group = same_Some group join.group (sym there ∙ ap (slice_get groups) same ∙ join.there) in
      subst (λ (g : Group). g.start ≤ at) (sym is) from)
      (λ other. ⊎_elim
      (λ (less : k < join.last). let rise = (under k group less there).0 in omega (arith, rise, from))
      (λ (more : join.last < k). let high = join.above k group more there in absurd (omega (arith, high, low)))
      other)
      (cases_order k join.last)

  -- every held block leads back to the reader of the last group, and from there over the held block to those from the joined group on
  to_reader : (at block : ℕ) → slice_get held at ≡ Some block → LeadsBack rows block closes.reader
  to_reader at block here = reads.leads at closes.top block closes.reader here closes.reads_at (record { begins = λ k group there low. closes.highest k group there })

  from_source : (at block : ℕ) → slice_get held at ≡ Some block → join.group.start ≤ at → LeadsBack rows source block
  from_source at block here from = reads.leads place at source block closes.at here (record { begins = λ k group there low. not_above k at group there low from })

  over : (at later block other : ℕ) → slice_get held at ≡ Some block → slice_get held later ≡ Some other → join.group.start ≤ later → LeadsBack rows block other
  over at later block other here there from =
      ways_join rows block closes.reader other (to_reader at block here)
      (ways_join rows closes.reader source other (way_reads rows closes.reader source closes.reads)
      (from_source later other there from))

  -- below the joined group nothing changed
  none_below : (at later : ℕ) → at < join.group.start → NoneBetween joined at later → NoneBetween groups at later
  none_below at later below none = record {
    begins = λ k group there low. ⊎_elim
        (λ (less : k < join.last). none.begins k group (kept_below k group less there) low)
        (λ (more : join.last ≤ k).
        let rise = at_least k group more there in absurd (omega (arith, rise, low, below)))
        (cases_lt k join.last);
  }
    where
      at_least : (k : ℕ) (group : Group) → join.last ≤ k → slice_get groups k ≡ Some group → join.group.start ≤ group.start
      at_least k group more there = ⊎_elim
          (λ (same : k ≡ join.last).
          let is : group ≡ join.group = same_Some group join.group (sym there ∙ ap (slice_get groups) same ∙ join.there) in
          subst (λ (g : Group). join.group.start ≤ g.start) (sym is) (omega arith))
          (λ (other : k ≡ join.last → ⊥).
          let up = (are.rising join.last k join.group group (omega arith) join.there there).0 in omega (arith, up))
          (cases_eq k join.last)

  leads_joined : (at later block other : ℕ) → slice_get held at ≡ Some block → slice_get held later ≡ Some other → NoneBetween joined at later → LeadsBack rows block other
  leads_joined at later block other here there none = ⊎_elim
      (λ (below : at < join.group.start). reads.leads at later block other here there (none_below at later below none))
      (λ (above : join.group.start ≤ at). over at later block other here there (none.begins join.last (on_cycle join.group) joined_at above))
      (cases_lt at join.group.start)

  cycles_joined : (k at block : ℕ) (group : Group) → slice_get joined k ≡ Some group → group.is_cycle ≡ true
      → group.start ≤ at → slice_get held at ≡ Some block → NoneBetween joined at group.start → IsOnCycle rows block
  cycles_joined k at block group there on from here none = ⊎_elim
      (λ (below : at < join.group.start). ⊎_elim
      (λ old. reads.cycles k at block group old.1 on from here (none_below at group.start below none))
      (λ new. let low = subst (λ (g : Group). g.start ≤ at) (sym new.1) from in absurd (omega (arith, low, below)))
      (cases k group there))
      (λ (above : join.group.start ≤ at). way_closes rows block closes.reader source (to_reader at block here) closes.reads (from_source at block here above))
      (cases_lt at join.group.start)

  pub joined_reads : AreLooked rows marks held joined front
  joined_reads = record { looked = looked_joined; left = left_joined; leads = leads_joined; cycles = cycles_joined }

-- what a search down the groups finds, once the groups above are cut off
pub joins : (groups cut : List Group) (last place : ℕ) (group other : Group) → cut ≡ take (last + 1) groups
    → last < length groups → group ≡ get_or groups last group → other ≡ get_or cut last other → group.start ≤ place
    → ((k : ℕ) (g : Group) → last < k → slice_get groups k ≡ Some g → place < g.start) → IsJoined groups (set cut last (record { start = other.start; edges = other.edges; is_cycle = true })) place
joins groups cut last place group other shape inside is also low above =
    let at : slice_get groups last ≡ Some group = slice_get_read groups (length groups) last group refl inside is in
    let same : other ≡ group = also ∙ ap (λ gs. get_or gs last other) shape ∙ get_or-take (last + 1) groups last other (omega arith) ∙ get_or_from_slice_get groups last group other at in
    let size = length-take-le last groups (omega arith) in
    let whole = take_more groups last group inside in
    let are : set cut last (record { start = other.start; edges = other.edges; is_cycle = true }) ≡ take last groups ++ on_cycle group ∷ [] =
    ap (λ gs. set gs last (record { start = other.start; edges = other.edges; is_cycle = true })) (shape ∙ whole)
    ∙ set_at (take last groups) (get_or groups last group) [] (record { start = other.start; edges = other.edges; is_cycle = true }) last size
    ∙ ap (λ (g : Group). take last groups ++ on_cycle g ∷ []) same in
    record { last = last; group = group; there = at; low = low; above = above; are = are }
