-- A relaxation's steps: what it begins with, a block that is taken from the queue, and what stands when none is left.
use Rattle.std.proofs.Common.{◌≡◌, ℕ, zero, suc, ◌+◌, ◌<◌, ◌≤◌, Bool, true, false, cond, List, [], ◌∷◌, ◌++◌, length, drop, get_or, replicate, inl, inr, ⊎_elim, refl, sym, ap, subst, ◌∙◌, arith}
use Rattle.std.specs.Prelude.{slice_get, Some, None, Option, ◌⊎◌, nat_lt}
use Rattle.std.proofs.lemmas.Bool.{cases_eq, cases_lt, false≢true, ltb-true, ltb-false}
use Rattle.std.proofs.lemmas.List.{length-set, length-replicate, get_or-replicate, drop_more}
use Rattle.std.proofs.lemmas.Option.{none-some, same_Some, slice_get_within, slice_get-get_or, get_or_from_slice_get}
use Rattle.hw_arcs.specs.declared.arc.Arc.{Arc}
use Rattle.hw_arcs.specs.Latencies.{latency_at, IsFeasible}
use Rattle.hw_arcs.specs.Found.{IsIn, IsWhole, AreKnown, AreLeast}
use Rattle.hw_arcs.specs.inner.Parts.{IsTakenFrom}
use Rattle.hw_arcs.specs.inner.State.{State, label_of, taken, relaxed, begun, popped, IsState, AreSettled, AreWithin, work_of, AreCounted, AreRows, AreRowsOf, IsRowEnd, IsStepOn}
use Rattle.fx_io.specs.Rows.{noted, row_at}
use Rattle.math_list.proofs.Places.{get_left, last_at, push_cases}
use Rattle.hw_arcs.proofs.Moves.{set_moves}
use Rattle.hw_arcs.proofs.ArcEnds.{IsRest, state_taken, settled_taken, settled_passed, work_taken, within_taken}

-- ---- one arc of a row

-- what the loop over a row keeps
pub record IsOnRow (arcs : List Arc) (count limit : ℕ) (s now : State) (left : List ℕ) : Type 0 where
  pub size : length now.lat ≡ count
  pub state : IsState arcs count now
  pub within : AreWithin limit now
  pub settled : AreSettled arcs now left
  pub work : work_of limit now ≤ work_of limit s

-- one arc more was looked at
pub record IsLooked (arcs : List Arc) (count limit : ℕ) (s now after : State) (left : List ℕ) (arc : Arc) : Type 0 where
  pub size : length after.lat ≡ count
  pub state : IsState arcs count after
  pub there : arc.to < count
  pub on : latency_at after.lat arc.to ≤ limit → IsOnRow arcs count limit s after left

pub looked : (arcs : List Arc) (count limit : ℕ) (s now : State) (left rest : List ℕ) (number : ℕ) (arc : Arc)
    → AreKnown arcs count → slice_get arcs number ≡ Some arc → arc.counts ≡ true → IsRest left rest number
    → IsOnRow arcs count limit s now left
    → IsLooked arcs count limit s now (relaxed now arc number) rest arc
looked arcs count limit s now left rest number arc known at counts next on = by_test (nat_lt (latency_at now.lat arc.to) (label_of now.lat arc)) refl
  where
    by_test : (b : Bool) → nat_lt (latency_at now.lat arc.to) (label_of now.lat arc) ≡ b → IsLooked arcs count limit s now (cond b (taken now arc number) now) rest arc
    by_test true is =
        let more : latency_at now.lat arc.to < label_of now.lat arc = ltb-true (latency_at now.lat arc.to) (label_of now.lat arc) is in
        let size = on.size in
        let to = known.to number arc at in
        let inside : arc.to < length now.lat = omega (arith, size, to) in
        let after = state_taken arcs count now number arc known at counts more on.state in
        record {
          size = after.size;
          state = after;
          there = to;
          on = λ below.
              let label : latency_at (taken now arc number).lat arc.to ≡ label_of now.lat arc = (set_moves now.lat arc.to (label_of now.lat arc) 0 inside).same arc.to refl in
              let low : label_of now.lat arc ≤ limit = omega (arith, label, below) in
              let work = work_taken now number limit arc inside more low in
              let before = on.work in
              record {
                size = after.size;
                state = after;
                within = within_taken now number limit arc inside low on.within;
                settled = settled_taken arcs count now left rest number arc known on.state at more next on.settled;
                work = omega (arith, work, before);
              };
        }
    by_test false is =
        let enough : label_of now.lat arc ≤ latency_at now.lat arc.to = ltb-false (latency_at now.lat arc.to) (label_of now.lat arc) is in
        record {
          size = on.size;
          state = on.state;
          there = known.to number arc at;
          on = λ below. record {
            size = on.size;
            state = on.state;
            within = on.within;
            settled = settled_passed arcs now left rest number arc at enough next on.settled;
            work = on.work;
          };
        }

-- the rest of a row
pub row_rest : (row : List ℕ) (i number : ℕ) → i < length row → get_or row i 0 ≡ number → IsRest (drop i row) (drop (i + 1) row) number
row_rest row i number inside is = record {
  goes = λ other there. by_place other there.place (ap (λ (xs : List ℕ). slice_get xs there.place) (sym (drop_more row i 0 inside ∙ ap (λ n. n ∷ drop (i + 1) row) is)) ∙ there.at);
}
  where
    by_place : (other place : ℕ) → slice_get (number ∷ drop (i + 1) row) place ≡ Some other → (number ≡ other) ⊎ IsIn (drop (i + 1) row) other
    by_place other zero at = inl (same_Some number other at)
    by_place other (suc place) at = inr (record { place = place; at = at })

-- the next arc of a row, as the code reads it
pub row_looked : (arcs : List Arc) (count limit : ℕ) (s now after : State) (row : List ℕ) (i : ℕ) (d : Arc)
    → AreKnown arcs count → AreCounted arcs row → i < length row
    → after ≡ relaxed now (get_or arcs (get_or row i 0) d) (get_or row i 0)
    → IsOnRow arcs count limit s now (drop i row) → IsLooked arcs count limit s now after (drop (i + 1) row) (get_or arcs (get_or row i 0) d)
row_looked arcs count limit s now after row i d known counted inside is on =
    let number = get_or row i 0 in
    let here = counted.counted i number (slice_get-get_or row i 0 inside) in
    let there = slice_get_within arcs number here.0 here.1 in
    let same : get_or arcs number d ≡ here.0 = get_or_from_slice_get arcs number here.0 d here.1 in
    subst (λ (a : State). IsLooked arcs count limit s now a (drop (i + 1) row) (get_or arcs number d)) (sym is)
    (looked arcs count limit s now (drop i row) (drop (i + 1) row) number (get_or arcs number d) known
    (slice_get-get_or arcs number d there) (ap (λ (a : Arc). a.counts) same ∙ here.2)
    (row_rest row i number inside refl) on)

-- ---- a block of the queue

pub pop_state : (arcs : List Arc) (count block : ℕ) (rest : List ℕ) (s after : State) → IsState arcs count s → IsTakenFrom s.queue block rest → after ≡ popped s block rest → IsState arcs count after
pop_state arcs count block rest s after state takes is =
    let there = state.inside takes.here.place block takes.here.at in
    let pending = state.pending in
    let marks = set_moves s.pending block false false (omega (arith, pending, there)) in
    rw is record {
      size = state.size;
      pending = length-set s.pending block false ∙ state.pending;
      labels = state.labels;
      queued = λ b is_it. ⊎_elim
          (λ (e : block ≡ b). absurd (false≢true (sym (marks.same b e) ∙ is_it)))
          (λ (differs : block ≡ b → ⊥). ⊎_elim
          (λ (e : block ≡ b). absurd (differs e))
          (λ left. left)
          (takes.keeps b (state.queued b (sym (marks.other b differs) ∙ is_it))))
          (cases_eq block b);
      inside = λ place b at. let old = takes.of place b at in state.inside old.place b old.at;
    }

pub pop_there : (arcs : List Arc) (count block : ℕ) (rest : List ℕ) (s : State) → IsState arcs count s → IsTakenFrom s.queue block rest → block < count
pop_there arcs count block rest s state takes = state.inside takes.here.place block takes.here.at

pub pop_settled : (arcs : List Arc) (count block : ℕ) (rest : List ℕ) (rows : List (List ℕ)) (s after : State) → IsState arcs count s → IsTakenFrom s.queue block rest → AreRows arcs count rows
    → after ≡ popped s block rest → AreSettled arcs s [] → AreSettled arcs after (row_at rows block)
pop_settled arcs count block rest rows s after state takes known is settled =
    let there = state.inside takes.here.place block takes.here.at in
    let pending = state.pending in
    let marks = set_moves s.pending block false false (omega (arith, pending, there)) in
    rw is record {
      settled = λ number arc at counts. ⊎_elim
          (λ kept. inl kept)
          (λ later. ⊎_elim
          (λ waits. ⊎_elim
          (λ (e : block ≡ arc.from). inr (inr (subst (λ b. IsIn (row_at rows b) number) (sym e) (known.whole number arc at counts))))
          (λ (differs : block ≡ arc.from → ⊥). inr (inl (marks.other arc.from differs ∙ waits)))
          (cases_eq block arc.from))
          (λ (none : IsIn [] number). absurd (none-some number none.at))
          later)
          (settled.settled number arc at counts);
    }

pub pop_work : (limit block : ℕ) (rest : List ℕ) (s after : State) → IsTakenFrom s.queue block rest → after ≡ popped s block rest → work_of limit after < work_of limit s
pop_work limit block rest s after takes is = rw is (let less = takes.less in omega (arith, less))

pub nothing_left : (arcs : List Arc) (count : ℕ) (s : State) → IsState arcs count s → s.queue ≡ [] → AreSettled arcs s [] → IsFeasible arcs s.lat
nothing_left arcs count s state none settled = record {
  keeps = λ number arc at counts. ⊎_elim
      (λ kept. kept)
      (λ later. ⊎_elim
      (λ waits. let q = state.queued arc.from waits in absurd (none-some arc.from (ap (λ (xs : List ℕ). slice_get xs q.place) (sym none) ∙ q.at)))
      (λ (empty : IsIn [] number). absurd (none-some number empty.at))
      later)
      (settled.settled number arc at counts);
}

-- the row of a block was looked at
pub step_on : (arcs : List Arc) (count limit block : ℕ) (rest : List ℕ) (s before after : State) (above : Option ℕ) → above ≡ None → IsRowEnd arcs limit count before after above
    → before ≡ popped s block rest → IsState arcs count s → IsTakenFrom s.queue block rest → IsStepOn arcs count limit s after block
step_on arcs count limit block rest s before after None none end is state takes = record {
  there = pop_there arcs count block rest s state takes;
  within = end.within;
  settled = end.settled;
  work = let less = pop_work limit block rest s before takes is in let more = end.work in omega (arith, less, more);
}
step_on arcs count limit block rest s before after (Some other) none end is state takes = absurd (none-some other (sym none))

-- ---- the beginning

zero_at : (n block : ℕ) → latency_at (replicate n 0) block ≡ 0
zero_at zero block = refl
zero_at (suc n) zero = refl
zero_at (suc n) (suc block) = zero_at n block

none_at : (n block number : ℕ) → slice_get (replicate n None) block ≡ Some (Some number) → ⊥
none_at zero block number at = none-some (Some number) at
none_at (suc n) zero number at = none-some number (same_Some None (Some number) at)
none_at (suc n) (suc block) number at = none_at n block number at

waiting : (n block : ℕ) → get_or (replicate n true) block false ≡ true → block < n
waiting zero block is = absurd (false≢true is)
waiting (suc n) zero is = omega arith
waiting (suc n) (suc block) is = let below = waiting n block is in omega (arith, below)

waits_at : (n block : ℕ) → block < n → get_or (replicate n true) block false ≡ true
waits_at n block below = get_or-replicate n block true false below

pub begun_state : (arcs : List Arc) (order : List ℕ) (count : ℕ) → IsWhole order count → IsState arcs count (begun order count)
begun_state arcs order count whole = record {
  size = length-replicate count 0;
  pending = length-replicate count true;
  labels = record {
    size = length-replicate count None ∙ sym (length-replicate count 0);
    time = λ b. 0;
    now = 1;
    past = λ b. omega arith;
    none = λ block at. zero_at count block;
    some = λ block number at. absurd (none_at count block number at);
    least = λ other feasible block. let z = zero_at count block in omega (arith, z);
  };
  queued = λ block is. whole.all block (waiting count block is);
  inside = whole.there;
}

pub begun_within : (order : List ℕ) (count : ℕ) → AreWithin 0 (begun order count)
begun_within order count = record { within = λ block. let z = zero_at count block in omega (arith, z) }

pub begun_settled : (arcs : List Arc) (order : List ℕ) (count : ℕ) → AreKnown arcs count → AreSettled arcs (begun order count) []
begun_settled arcs order count known = record { settled = λ number arc at counts. inr (inl (waits_at count arc.from (known.from number arc at))) }

-- what is begun as the code tells it
pub record IsBegun (arcs : List Arc) (count : ℕ) (s : State) : Type 0 where
  pub size : length s.lat ≡ count
  pub state : IsState arcs (length s.lat) s
  pub settled : AreSettled arcs s []

pub begun_is : (arcs : List Arc) (order : List ℕ) (count : ℕ) (s : State) → AreKnown arcs count → IsWhole order count → s ≡ begun order count → IsBegun arcs count s
begun_is arcs order count s known whole is =
    let size : length s.lat ≡ count = ap (λ (b : State). length b.lat) is ∙ length-replicate count 0 in
    record {
      size = size;
      state = subst (λ n. IsState arcs n s) (sym size) (subst (λ (b : State). IsState arcs count b) (sym is) (begun_state arcs order count whole));
      settled = subst (λ (b : State). AreSettled arcs b []) (sym is) (begun_settled arcs order count known);
    }

-- the same of blocks that were placed, over rows that are as many
pub begun_by : (arcs : List Arc) (count : ℕ) (rows : List (List ℕ)) (blocks : List ℕ) (s : State)
    → AreKnown arcs count → length rows ≡ count → IsWhole blocks (length rows) → s ≡ begun blocks count
    → IsBegun arcs count s
begun_by arcs count rows blocks s known size whole is = begun_is arcs blocks count s known (subst (IsWhole blocks) size whole) is

pub within_more : (limit : ℕ) (s : State) → AreWithin 0 s → AreWithin limit s
within_more limit s within = record { within = λ block. let w = within.within block in omega (arith, w) }

-- ---- the end

pub least_of : (arcs : List Arc) (count : ℕ) (s : State) → IsState arcs count s → IsFeasible arcs s.lat → AreLeast arcs count s.lat s.tight
least_of arcs count s state feasible =
    let labels = state.labels in
    record {
      size = state.size;
      least = record { feasible = feasible; least = labels.least };
      asked = record {
        size = labels.size;
        none = labels.none;
        some = λ block number given.
            let pulled = labels.some block number given in
            let keeps = feasible.keeps number pulled.arc pulled.at pulled.counts in
            let ends : latency_at s.lat pulled.arc.to ≡ latency_at s.lat block = ap (latency_at s.lat) pulled.ends in
            let weak = pulled.weak in
            (pulled.above, record { arc = pulled.arc; at = pulled.at; counts = pulled.counts; ends = pulled.ends; equal = omega (arith, keeps, ends, weak) });
        rank = labels.time;
        falls = λ block number arc given at.
            let pulled = labels.some block number given in
            let same : pulled.arc ≡ arc = same_Some pulled.arc arc (sym pulled.at ∙ at) in
            let keeps = feasible.keeps number pulled.arc pulled.at pulled.counts in
            let ends : latency_at s.lat pulled.arc.to ≡ latency_at s.lat block = ap (latency_at s.lat) pulled.ends in
            let strict = pulled.strict in
            let from : labels.time pulled.arc.from ≡ labels.time arc.from = ap (λ (a : Arc). labels.time a.from) same in
            ⊎_elim
            (λ (less : labels.time pulled.arc.from < labels.time block). omega (arith, less, from))
            (λ (late : labels.time block ≤ labels.time pulled.arc.from). let l = strict late in absurd (omega (arith, l, keeps, ends)))
            (cases_lt (labels.time pulled.arc.from) (labels.time block));
      };
    }

-- ---- rows

row_noted : (rows : List (List ℕ)) (block number other : ℕ) → block < length rows
    → ((block ≡ other) × (row_at (noted rows block number) other ≡ row_at rows block ++ number ∷ []))
    ⊎ ((block ≡ other → ⊥) × (row_at (noted rows block number) other ≡ row_at rows other))
row_noted rows block number other inside = ⊎_elim
    (λ (e : block ≡ other). inl (e, (set_moves rows block (row_at rows block ++ number ∷ []) [] inside).same other e))
    (λ (differs : block ≡ other → ⊥). inr (differs, (set_moves rows block (row_at rows block ++ number ∷ []) [] inside).other other differs))
    (cases_eq block other)

pub rows_begin : (arcs : List Arc) (count : ℕ) (rows : List (List ℕ)) → rows ≡ replicate count [] → AreRowsOf arcs count 0 rows
rows_begin arcs count rows are = rw are record {
  size = length-replicate count [];
  counted = λ block. record { counted = λ place number at. absurd (none-some number (sym (ap (λ (r : List ℕ). slice_get r place) (empty_at count block)) ∙ at)) };
  whole = λ number arc below at counts. absurd (omega (arith, below));
}
  where
    empty_at : (n block : ℕ) → row_at {A = ℕ} (replicate n []) block ≡ []
    empty_at zero block = refl
    empty_at (suc n) zero = refl
    empty_at (suc n) (suc block) = empty_at n block

pub rows_skip : (arcs : List Arc) (count i : ℕ) (arc : Arc) (rows : List (List ℕ)) → slice_get arcs i ≡ Some arc → arc.counts ≡ false → AreRowsOf arcs count i rows → AreRowsOf arcs count (i + 1) rows
rows_skip arcs count i arc rows at idle rows_of = record {
  size = rows_of.size;
  counted = rows_of.counted;
  whole = λ number other below there counts. ⊎_elim
      (λ (e : number ≡ i). absurd (false≢true (sym idle ∙ ap (λ (a : Arc). a.counts) (same_Some arc other (sym at ∙ ap (slice_get arcs) (sym e) ∙ there)) ∙ counts)))
      (λ (differs : number ≡ i → ⊥). rows_of.whole number other (omega arith) there counts)
      (cases_eq number i);
}

pub rows_more : (arcs : List Arc) (count i : ℕ) (arc : Arc) (rows : List (List ℕ)) → arc.from < count
    → slice_get arcs i ≡ Some arc → arc.counts ≡ true → AreRowsOf arcs count i rows
    → AreRowsOf arcs count (i + 1) (noted rows arc.from i)
rows_more arcs count i arc rows from at counts rows_of =
    let size = rows_of.size in
    let inside : arc.from < length rows = omega (arith, size, from) in
    record {
      size = length-set rows arc.from (row_at rows arc.from ++ i ∷ []) ∙ rows_of.size;
      counted = λ block. record {
        counted = λ place number there. ⊎_elim
            (λ new. ⊎_elim
            (λ old. (rows_of.counted arc.from).counted place number old)
            (λ last. subst (λ n. (a : Arc) × (slice_get arcs n ≡ Some a) × (a.counts ≡ true)) last.1 (arc, at, counts))
            (push_cases (row_at rows arc.from) i place number (ap (λ (r : List ℕ). slice_get r place) (sym new.1) ∙ there)))
            (λ old. (rows_of.counted block).counted place number (ap (λ (r : List ℕ). slice_get r place) (sym old.1) ∙ there))
            (row_noted rows arc.from i block inside);
      };
      whole = λ number other below there other_counts. ⊎_elim
          (λ (e : number ≡ i).
          let same : arc ≡ other = same_Some arc other (sym at ∙ ap (slice_get arcs) (sym e) ∙ there) in
          subst (λ (a : Arc). IsIn (row_at (noted rows arc.from i) a.from) number) same
          (let new = (set_moves rows arc.from (row_at rows arc.from ++ i ∷ []) [] inside).same arc.from refl in
          record { place = length (row_at rows arc.from); at = ap (λ (r : List ℕ). slice_get r (length (row_at rows arc.from))) new ∙ last_at (row_at rows arc.from) i ∙ ap Some (sym e) }))
          (λ (differs : number ≡ i → ⊥).
          let old = rows_of.whole number other (omega arith) there other_counts in
          ⊎_elim
          (λ new. record {
            place = old.place;
            at =
                ap (λ (r : List ℕ). slice_get r old.place) new.1
                ∙ get_left (row_at rows arc.from) (i ∷ []) old.place number
                (ap (λ b. slice_get (row_at rows b) old.place) new.0 ∙ old.at);
          })
          (λ kept. record { place = old.place; at = ap (λ (r : List ℕ). slice_get r old.place) kept.1 ∙ old.at })
          (row_noted rows arc.from i other.from inside))
          (cases_eq number i);
    }

-- the same of the arc that the code reads
pub rows_next : (arcs : List Arc) (count i : ℕ) (d : Arc) (rows : List (List ℕ)) → AreKnown arcs count
    → i < length arcs → (get_or arcs i d).counts ≡ true → AreRowsOf arcs count i rows
    → AreRowsOf arcs count (i + 1) (noted rows (get_or arcs i d).from i)
rows_next arcs count i d rows known inside counts rows_of =
    let at = slice_get-get_or arcs i d inside in
    rows_more arcs count i (get_or arcs i d) rows (known.from i (get_or arcs i d) at) at counts rows_of

pub rows_pass : (arcs : List Arc) (count i : ℕ) (d : Arc) (rows : List (List ℕ)) → i < length arcs → (get_or arcs i d).counts ≡ false → AreRowsOf arcs count i rows → AreRowsOf arcs count (i + 1) rows
rows_pass arcs count i d rows inside idle rows_of = rows_skip arcs count i (get_or arcs i d) rows (slice_get-get_or arcs i d inside) idle rows_of

pub rows_end : (arcs : List Arc) (count i : ℕ) (rows : List (List ℕ)) → length arcs ≤ i → AreRowsOf arcs count i rows → AreRows arcs count rows
rows_end arcs count i rows end rows_of = record {
  size = rows_of.size;
  counted = rows_of.counted;
  whole = λ number arc at counts. let inside = slice_get_within arcs number arc at in rows_of.whole number arc (omega (arith, inside, end)) at counts;
}
