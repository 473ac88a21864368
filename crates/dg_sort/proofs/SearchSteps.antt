-- Each step of the search keeps its state and leaves less to do.
use Rattle.std.proofs.Common.{◌≡◌, ℕ, zero, suc, ◌+◌, ◌-◌, ◌<◌, ◌≤◌, false, List, [], ◌∷◌, ◌++◌, length, take, drop, replicate, get_or, ⊎_elim, refl, sym, ap, subst, ◌∙◌, arith}
use Rattle.std.specs.Prelude.{slice_get, set, Some, None}
use Rattle.std.proofs.lemmas.Bool.{cases_eq}
use Rattle.std.proofs.lemmas.List.{length-append, length-replicate, length-take-le, get_or-replicate}
use Rattle.std.proofs.lemmas.Option.{none-some, same_Some, slice_get_within, slice_get-get_or}
use Rattle.dg_sort.specs.declared.search.Mark.{Mark}
use Rattle.dg_sort.specs.declared.search.Mark.TheVariants.{Unmet, Held, Placed}
use Rattle.dg_sort.specs.declared.search.Group.{Group}
use Rattle.dg_sort.specs.Rows.{Reads, AreKnown}
use Rattle.fx_io.specs.Rows.{row_at}
use Rattle.dg_sort.specs.inner.Back.{LeadsBack}
use Rattle.dg_sort.specs.inner.Search.{Walk, begun, met, placed, placed_marks, CanJoin, IsJoined, KeepsAllButGroups, on_cycle}
use Rattle.dg_sort.specs.inner.State.{AreGroups, IsState, IsStep, IsSearched, unmet_weight}
use Rattle.math_list.proofs.Places.{set_same}
use Rattle.dg_sort.proofs.Ways.{ways_join, way_reads}
use Rattle.dg_sort.proofs.Pop.{Popped, none_popped, one_popped, last_highest, passed_groups, passed_looked}
use Rattle.dg_sort.proofs.Meet.{met_places, met_groups, met_reads}
use Rattle.dg_sort.proofs.Join.{Closes, joined_groups, joined_reads}
use Rattle.dg_sort.proofs.LastGroup.{placed_places, placed_groups, placed_reads}

-- ---- what is left to do

weight_met : (marks : List Mark) (rows : List (List ℕ)) (block place : ℕ) → slice_get marks block ≡ Some Unmet
    → block < length rows → unmet_weight (set marks block (Held place)) rows + (length (row_at rows block) + 2)
    ≡ unmet_weight marks rows
weight_met [] rows block place unmet inside = absurd (none-some Unmet unmet)
weight_met (mark ∷ marks) [] block place unmet inside = absurd (omega arith)
weight_met (Unmet ∷ marks) (row ∷ rows) zero place unmet inside = omega arith
weight_met (Held other ∷ marks) (row ∷ rows) zero place unmet inside = absurd (cc unmet)
weight_met (Placed rank ∷ marks) (row ∷ rows) zero place unmet inside = absurd (cc unmet)
weight_met (Unmet ∷ marks) (row ∷ rows) (suc block) place unmet inside = let rest = weight_met marks rows block place unmet (omega arith) in omega (arith, rest)
weight_met (Held other ∷ marks) (row ∷ rows) (suc block) place unmet inside = weight_met marks rows block place unmet (omega arith)
weight_met (Placed rank ∷ marks) (row ∷ rows) (suc block) place unmet inside = weight_met marks rows block place unmet (omega arith)

weight_set : (marks : List Mark) (rows : List (List ℕ)) (block rank : ℕ) → unmet_weight (set marks block (Placed rank)) rows ≤ unmet_weight marks rows
weight_set [] rows block rank = omega arith
weight_set (mark ∷ marks) [] zero rank = omega arith
weight_set (mark ∷ marks) [] (suc block) rank = omega arith
weight_set (Unmet ∷ marks) (row ∷ rows) zero rank = omega arith
weight_set (Held other ∷ marks) (row ∷ rows) zero rank = omega arith
weight_set (Placed other ∷ marks) (row ∷ rows) zero rank = omega arith
weight_set (Unmet ∷ marks) (row ∷ rows) (suc block) rank = let rest = weight_set marks rows block rank in omega (arith, rest)
weight_set (Held other ∷ marks) (row ∷ rows) (suc block) rank = weight_set marks rows block rank
weight_set (Placed other ∷ marks) (row ∷ rows) (suc block) rank = weight_set marks rows block rank

weight_placed : (rank : ℕ) (blocks : List ℕ) (marks : List Mark) (rows : List (List ℕ)) → unmet_weight (placed_marks rank blocks marks) rows ≤ unmet_weight marks rows
weight_placed rank [] marks rows = omega arith
weight_placed rank (block ∷ blocks) marks rows =
    let rest = weight_placed rank blocks (set marks block (Placed rank)) rows in
    let here = weight_set marks rows block rank in
    omega (arith, rest, here)

-- ---- what stays unmet

unmet_set : (marks : List Mark) (block other : ℕ) (mark : Mark) → (Some mark ≡ Some Unmet → ⊥) → slice_get (set marks block mark) other ≡ Some Unmet → slice_get marks other ≡ Some Unmet
unmet_set [] block other mark differ at = at
unmet_set (x ∷ marks) zero zero mark differ at = absurd (differ at)
unmet_set (x ∷ marks) zero (suc other) mark differ at = at
unmet_set (x ∷ marks) (suc block) zero mark differ at = at
unmet_set (x ∷ marks) (suc block) (suc other) mark differ at = unmet_set marks block other mark differ at

held_unmet : (place : ℕ) → Some (Held place) ≡ Some Unmet → ⊥
held_unmet place e = cc

placed_unmet : (rank : ℕ) → Some (Placed rank) ≡ Some Unmet → ⊥
placed_unmet rank e = cc

unmet_placed : (rank : ℕ) (blocks : List ℕ) (marks : List Mark) (other : ℕ) → slice_get (placed_marks rank blocks marks) other ≡ Some Unmet → slice_get marks other ≡ Some Unmet
unmet_placed rank [] marks other at = at
unmet_placed rank (block ∷ blocks) marks other at = unmet_set marks block other (Placed rank) (placed_unmet rank) (unmet_placed rank blocks (set marks block (Placed rank)) other at)

-- ---- steps

-- the group whose readings are looked at
pub record Last (walk : Walk) (group : Group) : Type 0 where
  pub at : slice_get walk.groups (length walk.groups - 1) ≡ Some group

-- the last group is placed
pub step_placed : (rows : List (List ℕ)) (walk : Walk) (group : Group) → IsState rows walk
    → slice_get walk.groups (length walk.groups - 1) ≡ Some group → length walk.edges ≡ group.edges
    → IsStep rows walk (placed walk group)
step_placed rows walk group state last spent = record {
  state = record {
    places = placed_places rows walk.marks walk.held walk.order walk.first walk.groups walk.edges group state.places state.groups state.reads last spent;
    groups = placed_groups rows walk.marks walk.held walk.order walk.first walk.groups walk.edges group state.places state.groups state.reads last spent;
    reads = placed_reads rows walk.marks walk.held walk.order walk.first walk.groups walk.edges group state.places state.groups state.reads last spent;
  };
  less =
      let fewer = weight_placed (length walk.order) (drop group.start walk.held) walk.marks rows in
      let some = slice_get_within walk.groups (length walk.groups - 1) group last in
      let size = length-take-le (length walk.groups - 1) walk.groups (omega (arith, some)) in
      omega (arith, fewer, some, size);
  unmet = λ block at. unmet_placed (length walk.order) (drop group.start walk.held) walk.marks block at;
}

-- a source of the last group is taken off
pub record IsNext (rows : List (List ℕ)) (walk : Walk) (group : Group) (front : List ℕ) (source : ℕ) : Type 0 where
  pub state : IsState rows walk
  pub last : slice_get walk.groups (length walk.groups - 1) ≡ Some group
  pub more : length walk.edges ≡ group.edges → ⊥
  pub shape : walk.edges ≡ front ++ source ∷ []

-- the walk behind it
abbrev pub without : Walk → List ℕ → Walk
without walk front = record { marks = walk.marks; held = walk.held; groups = walk.groups; edges = front; order = walk.order; first = walk.first }

-- how the source is read
record IsTaken (rows : List (List ℕ)) (walk : Walk) (front : List ℕ) (source : ℕ) : Type 0 where
  popped : Popped walk.groups walk.edges front source
  top : ℕ
  reader : ℕ
  at : slice_get walk.held top ≡ Some reader
  reads : Reads rows reader source
  highest : (k : ℕ) (group : Group) → slice_get walk.groups k ≡ Some group → group.start ≤ top
  shorter : length front + 1 ≡ length walk.edges

taken : (rows : List (List ℕ)) (walk : Walk) (group : Group) (front : List ℕ) (source : ℕ) → IsNext rows walk group front source → IsTaken rows walk front source
taken rows walk group front source next =
    let state = next.state in
    let last = next.last in
    let more = next.more in
    let shape = next.shape in
    let size = ap length shape ∙ length-append front (source ∷ []) in
    let few = (state.groups.within (length walk.groups - 1) group last).1 in
    let room : group.edges ≤ length front = omega (arith, size, few, more) in
    let here : slice_get walk.edges (length front) ≡ Some source = ap (λ es. slice_get es (length front)) shape ∙ last_is front source in
    let read = state.reads.left (length walk.groups - 1) (length front) source group last room here in
    record {
      popped = one_popped walk.groups walk.held walk.edges front source group state.groups last shape room;
      top = read.place;
      reader = read.reader.block;
      at = read.reader.at;
      reads = read.reader.reads;
      highest = λ k other at.
          let high = (last_highest walk.groups walk.held walk.edges k other group state.groups last at).0 in
          let from = read.reader.from in
          omega (arith, high, from);
      shorter = omega (arith, size);
    }
  where
    last_is : (xs : List ℕ) (x : ℕ) → slice_get (xs ++ x ∷ []) (length xs) ≡ Some x
    last_is [] x = refl
    last_is (y ∷ xs) x = last_is xs x

pub step_passed : (rows : List (List ℕ)) (walk : Walk) (group : Group) (front : List ℕ) (source rank : ℕ) → IsNext rows walk group front source
    → slice_get walk.marks source ≡ Some (Placed rank) → IsStep rows walk (without walk front)
step_passed rows walk group front source rank next is =
    let t = taken rows walk group front source next in
    let shorter = t.shorter in
    record {
      state = record {
        places = next.state.places;
        groups = passed_groups walk.groups walk.held walk.edges front source group next.state.groups t.popped next.last;
        reads = passed_looked rows walk.marks walk.held walk.groups walk.edges front source next.state.reads t.popped (record { rank = rank; at = is });
      };
      less = omega (arith, shorter);
      unmet = λ block at. at;
    }

pub step_met : (rows : List (List ℕ)) (walk : Walk) (group : Group) (front : List ℕ) (source : ℕ) → IsNext rows walk group front source → AreKnown rows
    → slice_get walk.marks source ≡ Some Unmet → IsStep rows walk (met rows (without walk front) source)
step_met rows walk group front source next known is =
    let t = taken rows walk group front source next in
    let state = next.state in
    let shorter = t.shorter in
    let inside = known.there t.reader source t.reads in
    let weight = weight_met walk.marks rows source (length walk.held) is inside in
    let edges = length-append front (row_at rows source) in
    let groups = length-append walk.groups (record { start = length walk.held; edges = length front; is_cycle = false } ∷ []) in
    let led : (place other : ℕ) → slice_get walk.held place ≡ Some other → LeadsBack rows other source = λ place other at.
    ways_join rows other t.reader source (state.reads.leads place t.top other t.reader at t.at (record { begins = λ k g there low. t.highest k g there })) (way_reads rows t.reader source t.reads) in
    record {
      state = record {
        places = met_places rows walk.marks walk.held walk.order walk.first source state.places inside is;
        groups = met_groups rows walk.held walk.groups walk.edges front source state.groups t.popped;
        reads = met_reads rows walk.held walk.groups walk.edges front source state.groups t.popped walk.marks walk.order walk.first state.places inside is state.reads led;
      };
      less = omega (arith, shorter, weight, edges, groups);
      unmet = λ block at. unmet_set walk.marks source block (Held (length walk.held)) (held_unmet (length walk.held)) at;
    }

-- the groups from that of the source on are one
abbrev pub with_groups : Walk → List ℕ → List Group → Walk
with_groups walk front joined = record { marks = walk.marks; held = walk.held; groups = joined; edges = front; order = walk.order; first = walk.first }

pub step_joined : (rows : List (List ℕ)) (walk : Walk) (group : Group) (front : List ℕ) (source place : ℕ) (joined : List Group) → IsNext rows walk group front source
    → slice_get walk.marks source ≡ Some (Held place) → IsJoined walk.groups joined place → IsStep rows walk (with_groups walk front joined)
step_joined rows walk group front source place joined next is join =
    let t = taken rows walk group front source next in
    let state = next.state in
    let shorter = t.shorter in
    let closes : Closes rows walk.held walk.groups source place = record {
      at = state.places.held_at source place is;
      top = t.top;
      reader = t.reader;
      reads_at = t.at;
      reads = t.reads;
      highest = t.highest;
    } in
    let inside = slice_get_within walk.groups join.last join.group join.there in
    let size = ap length join.are ∙ length-append (take join.last walk.groups) (on_cycle join.group ∷ []) in
    let part = length-take-le join.last walk.groups (omega (arith, inside)) in
    record {
      state = record {
        places = state.places;
        groups = joined_groups rows walk.marks walk.held walk.groups joined walk.edges front source place state.groups state.reads t.popped join closes is;
        reads = joined_reads rows walk.marks walk.held walk.groups joined walk.edges front source place state.groups state.reads t.popped join closes is;
      };
      less = omega (arith, shorter, inside, size, part);
      unmet = λ block at. at;
    }

-- ---- roots

-- nothing is held
empty_edges : (walk : Walk) → AreGroups walk.groups walk.held walk.edges → walk.groups ≡ [] → (walk.held ≡ []) × (walk.edges ≡ [])
empty_edges walk are free = are.none free

-- a block is met as a root
pub root_met : (rows : List (List ℕ)) (walk : Walk) (root : ℕ) → IsState rows walk → walk.groups ≡ [] → root < length rows → slice_get walk.marks root ≡ Some Unmet → IsState rows (met rows walk root)
root_met rows walk root state free inside unmet =
    let popped = none_popped walk.groups walk.held walk.edges root state.groups in
    let held = (state.groups.none free).0 in
    record {
      places = met_places rows walk.marks walk.held walk.order walk.first root state.places inside unmet;
      groups = met_groups rows walk.held walk.groups walk.edges walk.edges root state.groups popped;
      reads = met_reads rows walk.held walk.groups walk.edges walk.edges root state.groups popped walk.marks walk.order walk.first state.places inside unmet state.reads
          (λ place other at. absurd (none-some other (ap (λ hs. slice_get hs place) (sym held) ∙ at)));
    }

pub root_unmet : (rows : List (List ℕ)) (walk : Walk) (root block : ℕ) → slice_get (met rows walk root).marks block ≡ Some Unmet → slice_get walk.marks block ≡ Some Unmet
root_unmet rows walk root block at = unmet_set walk.marks root block (Held (length walk.held)) (held_unmet (length walk.held)) at

pub root_is_met : (rows : List (List ℕ)) (walk : Walk) (root : ℕ) → root < length walk.marks → slice_get (met rows walk root).marks root ≡ Some Unmet → ⊥
root_is_met rows walk root inside at = held_unmet (length walk.held) (sym (set_same walk.marks root (Held (length walk.held)) inside) ∙ at)

-- ---- the start

all_unmet : (count block : ℕ) (mark : Mark) → slice_get (replicate count Unmet) block ≡ Some mark → mark ≡ Unmet
all_unmet count block mark at =
    let size = length-replicate count Unmet in
    let inside = slice_get_within (replicate count Unmet) block mark at in
    let is = get_or-replicate count block Unmet Unmet (omega (arith, size, inside)) in
    same_Some mark Unmet (sym at ∙ slice_get-get_or (replicate count Unmet) block Unmet inside ∙ ap Some is)

begun_held : (place : ℕ) → Held place ≡ Unmet → ⊥
begun_held place e = cc

begun_placed : (rank : ℕ) → Placed rank ≡ Unmet → ⊥
begun_placed rank e = cc

pub begun_state : (rows : List (List ℕ)) → IsState rows (begun (length rows))
begun_state rows = record {
  places = record {
    marked = length-replicate (length rows) Unmet;
    held_at = λ block place at. absurd (begun_held place (all_unmet (length rows) block (Held place) at));
    holds = λ place block at. absurd (none-some block at);
    placed_at = λ block rank at. absurd (begun_placed rank (all_unmet (length rows) block (Placed rank) at));
    places = λ place block at. absurd (none-some block at);
    once = λ place other block at. absurd (none-some block at);
    settled = λ block rank source at. absurd (begun_placed rank (all_unmet (length rows) block (Placed rank) at));
    first_on = tt;
  };
  groups = record {
    none = λ free. (refl, refl);
    bottom = λ group at. absurd (none-some group at);
    rising = λ k later group other below at. absurd (none-some group at);
    within = λ k group at. absurd (none-some group at);
    single = λ k place group at. absurd (none-some group at);
  };
  reads = record {
    looked = λ k place block source group at. absurd (none-some group at);
    left = λ k edge source group at. absurd (none-some group at);
    leads = λ place later block source at. absurd (none-some block at);
    cycles = λ k place block group at. absurd (none-some group at);
  };
}

-- ---- as the code has it

pub held_there : (rows : List (List ℕ)) (walk : Walk) → IsState rows walk → (k d : ℕ) → k < length walk.held → get_or walk.held k d < length walk.marks
held_there rows walk state k d below =
    let at = slice_get-get_or walk.held k d below in
    slice_get_within walk.marks (get_or walk.held k d) (Held k) (state.places.holds k (get_or walk.held k d) at)

pub source_there : (rows : List (List ℕ)) (walk : Walk) (group : Group) (front : List ℕ) (source : ℕ) → IsNext rows walk group front source → AreKnown rows
    → source < length rows
source_there rows walk group front source next known =
    let t = taken rows walk group front source next in
    known.there t.reader source t.reads

pub mark_is : (marks : List Mark) (block : ℕ) (mark is : Mark) → block < length marks → mark ≡ get_or marks block mark → mark ≡ is → slice_get marks block ≡ Some is
mark_is marks block mark is inside at same = slice_get-get_or marks block mark inside ∙ ap Some (sym at ∙ same)

-- its mark, as the code reads it
pub next_mark : (rows : List (List ℕ)) (walk : Walk) (group : Group) (front : List ℕ) (source : ℕ) (mark is : Mark)
    → IsNext rows walk group front source → AreKnown rows → mark ≡ get_or walk.marks source mark → mark ≡ is
    → slice_get walk.marks source ≡ Some is
next_mark rows walk group front source mark is next known at same =
    let inside = source_there rows walk group front source next known in
    let size = next.state.places.marked in
    mark_is walk.marks source mark is (omega (arith, inside, size)) at same

pub can_join : (rows : List (List ℕ)) (walk : Walk) (source place : ℕ) (group : Group) → IsState rows walk → slice_get walk.groups (length walk.groups - 1) ≡ Some group → CanJoin walk.groups place
can_join rows walk source place group state last =
    let inside = slice_get_within walk.groups (length walk.groups - 1) group last in
    let at = slice_get-get_or walk.groups 0 group (omega (arith, inside)) in
    let low = (state.groups.bottom (get_or walk.groups 0 group) at).0 in
    record { bottom = get_or walk.groups 0 group; there = at; low = omega (arith, low) }

kept_is : (walk after : Walk) → KeepsAllButGroups walk after
    → after ≡ record {
      marks = walk.marks;
      held = walk.held;
      groups = after.groups;
      edges = walk.edges;
      order =
          walk.order;
      first = walk.first;
    }
kept_is walk after kept = λ i. record { marks = kept.marks i; held = kept.held i; groups = after.groups; edges = kept.edges i; order = kept.order i; first = kept.first i }

pub step_kept : (rows : List (List ℕ)) (walk after : Walk) (group : Group) (front : List ℕ) (source place : ℕ) → IsNext rows walk group front source
    → slice_get walk.marks source ≡ Some (Held place) → IsJoined walk.groups after.groups place → KeepsAllButGroups (without walk front) after → IsStep rows walk after
step_kept rows walk after group front source place next is join kept =
    subst (λ w. IsStep rows walk w) (sym (kept_is (without walk front) after kept)) (step_joined rows walk group front source place after.groups next is join)

pub step_is : (rows : List (List ℕ)) (walk after known : Walk) → IsStep rows walk known → after ≡ known → IsStep rows walk after
step_is rows walk after known step same = subst (λ w. IsStep rows walk w) (sym same) step

pub root_state : (rows : List (List ℕ)) (walk after : Walk) (root : ℕ) → IsState rows walk → walk.groups ≡ []
    → root < length rows → slice_get walk.marks root ≡ Some Unmet → after ≡ met rows walk root → IsState rows after
root_state rows walk after root state free inside unmet same = subst (λ w. IsState rows w) (sym same) (root_met rows walk root state free inside unmet)

pub root_kept : (rows : List (List ℕ)) (walk after : Walk) (root block : ℕ) → after ≡ met rows walk root → slice_get after.marks block ≡ Some Unmet → slice_get walk.marks block ≡ Some Unmet
root_kept rows walk after root block same at = root_unmet rows walk root block (ap (λ (w : Walk). slice_get w.marks block) (sym same) ∙ at)

pub root_is : (rows : List (List ℕ)) (walk after : Walk) (root : ℕ) → root < length walk.marks → after ≡ met rows walk root → slice_get after.marks root ≡ Some Unmet → ⊥
root_is rows walk after root inside same at = root_is_met rows walk root inside (ap (λ (w : Walk). slice_get w.marks root) (sym same) ∙ at)

-- one more root is met
pub roots_more : (rows : List (List ℕ)) (walk after : Walk) (root : ℕ) → IsSearched rows walk after root
    → ((block : ℕ) → block < root → slice_get walk.marks block ≡ Some Unmet → ⊥) → (block : ℕ) → block < root + 1
    → slice_get after.marks block ≡ Some Unmet → ⊥
roots_more rows walk after root searched met block below at = ⊎_elim
    (λ (same : block ≡ root). searched.met (subst (λ b. slice_get after.marks b ≡ Some Unmet) same at))
    (λ (other : block ≡ root → ⊥). met block (omega (arith, below, other)) (searched.unmet block at))
    (cases_eq block root)

pub roots_same : (marks : List Mark) (root : ℕ) (mark : Mark) → root < length marks → mark ≡ get_or marks root mark
    → (mark ≡ Unmet → ⊥) → ((block : ℕ) → block < root → slice_get marks block ≡ Some Unmet → ⊥) → (block : ℕ)
    → block < root + 1 → slice_get marks block ≡ Some Unmet → ⊥
roots_same marks root mark inside is differ met block below at = ⊎_elim
    (λ (same : block ≡ root).
    let there = mark_is marks root mark mark inside is refl in
    differ (same_Some mark Unmet (sym there ∙ subst (λ b. slice_get marks b ≡ Some Unmet) same at)))
    (λ (other : block ≡ root → ⊥). met block (omega (arith, below, other)) at)
    (cases_eq block root)

pub none_last : {A : Type 0} (xs : List A) → slice_get xs (length xs - 1) ≡ None → xs ≡ []
none_last [] at = refl
none_last (x ∷ xs) at = absurd (none-some _ (sym at ∙ slice_get-get_or (x ∷ xs) (length (x ∷ xs) - 1) x (omega arith)))
