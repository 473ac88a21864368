-- When every block is placed: an order, or the least block that lies on a cycle.
use Rattle.std.proofs.Common.{◌≡◌, ℕ, zero, suc, ◌<◌, ◌≤◌, List, [], length, ⊎_elim, refl, sym, ap, subst, ◌∙◌, arith}
use Rattle.std.specs.Prelude.{slice_get, Some, None, Option}
use Rattle.std.proofs.lemmas.Bool.{cases_lt}
use Rattle.std.proofs.lemmas.Option.{none-some, slice_get_within, slice_get-get_or}
use Rattle.dg_sort.specs.declared.search.Mark.{Mark}
use Rattle.dg_sort.specs.declared.search.Mark.TheVariants.{Unmet, Held, Placed}
use Rattle.dg_sort.specs.Rows.{AreKnown}
use Rattle.dg_sort.specs.inner.Back.{LeadsBackIn, IsOnCycle}
use Rattle.dg_sort.specs.inner.Search.{Walk}
use Rattle.dg_sort.specs.inner.State.{IsBelow, IsPlaced, ArePlaced, IsState, IsInOrder, IsFirst, IsFound}
use Rattle.dg_sort.proofs.LastGroup.{mark_rank}

module _ (rows : List (List ℕ)) (marks : List Mark) (held order : List ℕ) (first : Option ℕ) (places : ArePlaced rows marks held order first) where
  -- back over readings ranks never rise
  ranks_fall : (steps block rank source : ℕ) → slice_get marks block ≡ Some (Placed rank)
      → LeadsBackIn rows steps block source
      → (other : ℕ) × (slice_get marks source ≡ Some (Placed other)) × (other ≤ rank)
  ranks_fall zero block rank source at way = (rank, ap (slice_get marks) (sym way) ∙ at, omega arith)
  ranks_fall (suc steps) block rank source at way =
      let one = places.settled block rank (way.0) at (way.1) in
      let rest = ranks_fall steps (way.0) one.other source one.at (way.2) in
      let low = one.low in
      let more = rest.2 in
      (rest.0, rest.1, omega (arith, low, more))

  -- so no block below the first lies on a cycle
  below_is_off : (block rank : ℕ) → slice_get marks block ≡ Some (Placed rank) → IsBelow first block → IsOnCycle rows block → ⊥
  below_is_off block rank at below on =
      let one = places.settled block rank on.next at on.reads in
      let round = ranks_fall on.back.steps on.next one.other block one.at on.back.walk in
      let same = mark_rank rank (round.0) (sym at ∙ round.1) in
      let less = one.lower below in
      let low = round.2 in
      omega (arith, same, less, low)

-- every block is placed once nothing is held and all were met
record AllPlaced (rows : List (List ℕ)) (marks : List Mark) : Type 0 where
  at : (block : ℕ) → block < length rows → IsPlaced marks block

all_placed : (rows : List (List ℕ)) (walk : Walk) → IsState rows walk → walk.groups ≡ [] → ((block : ℕ) → block < length rows → slice_get walk.marks block ≡ Some Unmet → ⊥) → AllPlaced rows walk.marks
all_placed rows walk state free met = record { at = λ block inside. by_mark block inside (slice_get walk.marks block) refl }
  where
    by_mark : (block : ℕ) → block < length rows → (mark : Option Mark) → slice_get walk.marks block ≡ mark → IsPlaced walk.marks block
    by_mark block inside None is =
        let size = state.places.marked in
        let there = slice_get-get_or walk.marks block Unmet (omega (arith, size, inside)) in
        absurd (none-some _ (sym is ∙ there))
    by_mark block inside (Some Unmet) is = absurd (met block inside is)
    by_mark block inside (Some (Held place)) is =
        let held = (state.groups.none free).0 in
        absurd (none-some block (ap (λ hs. slice_get hs place) (sym held) ∙ state.places.held_at block place is))
    by_mark block inside (Some (Placed rank)) is = record { rank = rank; at = is }

-- a block on a cycle is there
on_is_there : (rows : List (List ℕ)) (block : ℕ) → AreKnown rows → IsOnCycle rows block → block < length rows
on_is_there rows block known on = from_way on.back.steps on.next on.back.walk (known.there block on.next on.reads)
  where
    from_way : (steps next : ℕ) → LeadsBackIn rows steps next block → next < length rows → block < length rows
    from_way zero next way inside = subst (λ u. u < length rows) way inside
    from_way (suc steps) next way inside = from_way steps (way.0) (way.2) (known.there next (way.0) (way.1))

found_order : (rows : List (List ℕ)) (marks : List Mark) (held order : List ℕ) → AreKnown rows → ArePlaced rows marks held order None → AllPlaced rows marks → IsInOrder rows order
found_order rows marks held order known places all = record {
  there = λ place block at.
      let is = places.places place block at in
      let size = places.marked in
      let inside = slice_get_within marks block (Placed is.rank) is.at in
      omega (arith, size, inside);
  once = places.once;
  all = λ block inside.
      let is = all.at block inside in
      let at = places.placed_at block is.rank is.at in (at.place, at.at);
  after = λ place block source at reads.
      let is = places.places place block at in
      let own = places.placed_at block is.rank is.at in
      let same = places.once place own.place block at own.at in
      let exact = own.exact tt in
      let one = places.settled block is.rank source is.at reads in
      let there = places.placed_at source one.other one.at in
      let exactly = there.exact tt in
      let less = one.lower tt in
      (there.place, omega (arith, same, exact, exactly, less), there.at);
  none = λ block on.
      let is = all.at block (on_is_there rows block known on) in
      below_is_off rows marks held order None places block is.rank is.at tt on;
}

found_first : (rows : List (List ℕ)) (marks : List Mark) (held order : List ℕ) (first : ℕ) → AreKnown rows → ArePlaced rows marks held order (Some first) → AllPlaced rows marks → IsFirst rows first
found_first rows marks held order first known places all = record {
  there = on_is_there rows first known places.first_on;
  on = places.first_on;
  least = λ block on. ⊎_elim
      (λ (below : block < first).
      let is = all.at block (on_is_there rows block known on) in
      absurd (below_is_off rows marks held order (Some first) places block is.rank is.at below on))
      (λ (above : first ≤ block). above)
      (cases_lt block first);
}

pub found : (rows : List (List ℕ)) (walk : Walk) → AreKnown rows → IsState rows walk → walk.groups ≡ []
    → ((block : ℕ) → block < length rows → slice_get walk.marks block ≡ Some Unmet → ⊥)
    → IsFound rows walk.order walk.first
found rows walk known state free met = by_first walk.first state.places
  where
    by_first : (first : Option ℕ) → ArePlaced rows walk.marks walk.held walk.order first → IsFound rows walk.order first
    by_first None places = found_order rows walk.marks walk.held walk.order known places (all_placed rows walk state free met)
    by_first (Some first) places = found_first rows walk.marks walk.held walk.order first known places (all_placed rows walk state free met)
