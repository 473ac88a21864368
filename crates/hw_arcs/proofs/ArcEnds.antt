-- What a relaxation keeps when the end of an arc takes what the arc asks.
use Rattle.std.proofs.Common.{◌≡◌, ℕ, suc, ◌+◌, ◌-◌, ◌<◌, ◌≤◌, Bool, true, false, cond, List, [], ◌∷◌, ◌++◌, length, inl, inr, ⊎_elim, refl, sym, ap, subst, ◌∙◌, arith}
use Rattle.std.specs.Prelude.{slice_get, slice_set, Some, None, Option, ◌⊎◌, ◌==◌}
use Rattle.std.proofs.lemmas.Bool.{cases_eq, cases_Bool, eq-eqb, ne_eqb}
use Rattle.std.proofs.lemmas.List.{length-set, length-append}
use Rattle.std.proofs.lemmas.List.Sums.{sum_by-set}
use Rattle.std.proofs.lemmas.Option.{none-some, same_Some}
use Rattle.hw_arcs.specs.declared.arc.Arc.{Arc}
use Rattle.hw_arcs.specs.Latencies.{latency_at}
use Rattle.hw_arcs.specs.Found.{AreKnown, IsIn}
use Rattle.hw_arcs.specs.inner.State.{State, label_of, is_pending, taken, IsPulled, AreLabels, IsState, AreSettled, AreWithin, work_of}
use Rattle.hw_arcs.proofs.Moves.{IsMoved, set_moves, set_gets}
use Rattle.math_list.proofs.Places.{get_left, last_at, push_cases}

-- a time that is set
abbrev pub timed : (ℕ → ℕ) → ℕ → ℕ → ℕ → ℕ
timed time place now k = cond (place == k) now (time k)

pub timed_moves : (time : ℕ → ℕ) (place now : ℕ) → IsMoved time (timed time place now) place now
timed_moves time place now = record {
  same = λ k e. ap (λ b. cond b now (time k)) (eq-eqb place k e);
  other = λ k differs. ap (λ b. cond b now (time k)) (ne_eqb place k differs);
}

-- ---- labels

-- the arc that gives its end a greater latency
record IsGiven (lat : ℕ → ℕ) (from to gain slack label : ℕ) : Type 0 where
  sum : label + slack ≡ lat from + gain
  more : lat to < label

given : (lat : List ℕ) (arc : Arc) → latency_at lat arc.to < label_of lat arc → IsGiven (latency_at lat) arc.from arc.to arc.gain arc.slack (label_of lat arc)
given lat arc more = record { sum = omega arith; more = more }

grown : (lat new : ℕ → ℕ) (to label : ℕ) → IsMoved lat new to label → lat to < label → (k : ℕ) → lat k ≤ new k
grown lat new to label moved more k = ⊎_elim
    (λ (e : to ≡ k). let s = moved.same k e in let same : lat to ≡ lat k = ap lat e in omega (arith, s, same, more))
    (λ (differs : to ≡ k → ⊥). let o = moved.other k differs in omega (arith, o))
    (cases_eq to k)

pulled_new : (arcs : List Arc) (lat new : List ℕ) (time : ℕ → ℕ) (now number : ℕ) (arc : Arc) → slice_get arcs number ≡ Some arc → arc.counts ≡ true
    → IsMoved (latency_at lat) (latency_at new) arc.to (label_of lat arc) → latency_at lat arc.to < label_of lat arc
    → ((k : ℕ) → time k < now) → IsPulled arcs new (timed time arc.to now) arc.to number
pulled_new arcs lat new time now number arc at counts moved more past =
    let g = given lat arc more in
    let sum = g.sum in
    let same = moved.same arc.to refl in
    let rises = grown (latency_at lat) (latency_at new) arc.to (label_of lat arc) moved more arc.from in
    record {
      arc = arc;
      at = at;
      counts = counts;
      ends = refl;
      weak = omega (arith, sum, same, rises);
      strict = λ late. ⊎_elim
          (λ (e : arc.to ≡ arc.from). let s = moved.same arc.from e in let old : latency_at lat arc.to ≡ latency_at lat arc.from = ap (latency_at lat) e in omega (arith, sum, same, s, old, more))
          (λ (differs : arc.to ≡ arc.from → ⊥).
          let t = (timed_moves time arc.to now).same arc.to refl in
          let o = (timed_moves time arc.to now).other arc.from differs in
          let p = past arc.from in
          absurd (omega (arith, t, o, p, late)))
          (cases_eq arc.to arc.from);
      above = omega (arith, same, more);
    }

pulled_old : (arcs : List Arc) (lat new : List ℕ) (time : ℕ → ℕ) (now to label block number : ℕ)
    → IsMoved (latency_at lat) (latency_at new) to label → latency_at lat to < label → ((k : ℕ) → time k < now)
    → (to ≡ block → ⊥)
    → IsPulled arcs lat time block number → IsPulled arcs new (timed time to now) block number
pulled_old arcs lat new time now to label block number moved more past differs pulled =
    let here = moved.other block differs in
    let timed_here = (timed_moves time to now).other block differs in
    let weak = pulled.weak in
    let strict = pulled.strict in
    let above = pulled.above in
    let rises = grown (latency_at lat) (latency_at new) to label moved more pulled.arc.from in
    record {
      arc = pulled.arc;
      at = pulled.at;
      counts = pulled.counts;
      ends = pulled.ends;
      weak = omega (arith, here, weak, rises);
      strict = λ late. ⊎_elim
          (λ (e : to ≡ pulled.arc.from). let s = moved.same pulled.arc.from e in
          let old : latency_at lat to ≡ latency_at lat pulled.arc.from =
          ap (latency_at lat) e in omega (arith, here, weak, s, old, more))
          (λ (apart : to ≡ pulled.arc.from → ⊥).
          let o = moved.other pulled.arc.from apart in
          let t = (timed_moves time to now).other pulled.arc.from apart in
          let before : time block ≤ time pulled.arc.from = omega (arith, timed_here, t, late) in
          let less = strict before in
          omega (arith, here, o, less))
          (cases_eq to pulled.arc.from);
      above = omega (arith, here, above);
    }

labels_taken : (arcs : List Arc) (lat new : List ℕ) (tight : List (Option ℕ)) (number : ℕ) (arc : Arc)
    → slice_get arcs number ≡ Some arc → arc.counts ≡ true → arc.to < length lat → length new ≡ length lat
    → IsMoved (latency_at lat) (latency_at new) arc.to (label_of lat arc) → latency_at lat arc.to < label_of lat arc
    → AreLabels arcs lat tight → AreLabels arcs new (slice_set tight arc.to (Some number))
labels_taken arcs lat new tight number arc at counts inside long moved more labels =
    let size = labels.size in
    let gets = set_gets tight arc.to (Some number) (omega (arith, size, inside)) in
    record {
      size = length-set tight arc.to (Some number) ∙ labels.size ∙ sym long;
      time = timed labels.time arc.to labels.now;
      now = suc labels.now;
      past = λ k. ⊎_elim
          (λ (e : arc.to ≡ k). let t = (timed_moves labels.time arc.to labels.now).same k e in omega (arith, t))
          (λ (differs : arc.to ≡ k → ⊥). let t = (timed_moves labels.time arc.to labels.now).other k differs in let p = labels.past k in omega (arith, t, p))
          (cases_eq arc.to k);
      none = λ k free. ⊎_elim
          (λ (e : arc.to ≡ k). absurd (none-some number (same_Some None (Some number) (sym free ∙ gets.same k e))))
          (λ (differs : arc.to ≡ k → ⊥). moved.other k differs ∙ labels.none k (sym (gets.other k differs) ∙ free))
          (cases_eq arc.to k);
      some = λ k other is. ⊎_elim
          (λ (e : arc.to ≡ k).
          let same : number ≡ other = same_Some number other (same_Some (Some number) (Some other) (sym (gets.same k e) ∙ is)) in
          subst (λ b. IsPulled arcs new (timed labels.time arc.to labels.now) b other) e
          (subst (λ n. IsPulled arcs new (timed labels.time arc.to labels.now) arc.to n) same (pulled_new arcs lat new labels.time labels.now number arc at counts moved more labels.past)))
          (λ (differs : arc.to ≡ k → ⊥). pulled_old arcs lat new labels.time labels.now arc.to
          (label_of lat arc) k other moved more labels.past differs
          (labels.some k other (sym (gets.other k differs) ∙ is)))
          (cases_eq arc.to k);
      least = λ other feasible k. ⊎_elim
          (λ (e : arc.to ≡ k).
          let keeps = feasible.keeps number arc at counts in
          let from = labels.least other feasible arc.from in
          let s = moved.same k e in
          let sum = (given lat arc more).sum in
          let same : latency_at other arc.to ≡ latency_at other k = ap (latency_at other) e in
          omega (arith, keeps, from, s, sum, same))
          (λ (differs : arc.to ≡ k → ⊥). let o = moved.other k differs in let l = labels.least other feasible k in omega (arith, o, l))
          (cases_eq arc.to k);
    }

-- ---- the state

queue_keeps : (s : State) (arc : Arc) (number k block : ℕ) → slice_get s.queue k ≡ Some block → slice_get (taken s arc number).queue k ≡ Some block
queue_keeps s arc number k block at = by_pending (is_pending s.pending arc.to)
  where
    by_pending : (b : Bool) → slice_get (cond b s.queue (s.queue ++ arc.to ∷ [])) k ≡ Some block
    by_pending true = at
    by_pending false = get_left s.queue (arc.to ∷ []) k block at

queue_cases : (s : State) (arc : Arc) (number k block : ℕ) → slice_get (taken s arc number).queue k ≡ Some block → (slice_get s.queue k ≡ Some block) ⊎ (arc.to ≡ block)
queue_cases s arc number k block at = by_pending (is_pending s.pending arc.to) at
  where
    by_pending : (b : Bool) → slice_get (cond b s.queue (s.queue ++ arc.to ∷ [])) k ≡ Some block → (slice_get s.queue k ≡ Some block) ⊎ (arc.to ≡ block)
    by_pending true there = inl there
    by_pending false there = ⊎_elim (λ old. inl old) (λ new. inr new.1) (push_cases s.queue arc.to k block there)

queue_has : (s : State) (arc : Arc) (number : ℕ) → ((block : ℕ) → is_pending s.pending block ≡ true → IsIn s.queue block) → IsIn (taken s arc number).queue arc.to
queue_has s arc number queued = ⊎_elim
    (λ (old : is_pending s.pending arc.to ≡ true). let is = queued arc.to old in record { place = is.place; at = queue_keeps s arc number is.place arc.to is.at })
    (λ (new : is_pending s.pending arc.to ≡ false). record { place = length s.queue; at = ap (λ b. slice_get (cond b s.queue (s.queue ++ arc.to ∷ [])) (length s.queue)) new ∙ last_at s.queue arc.to })
    (cases_Bool (is_pending s.pending arc.to))

queue_length : (s : State) (arc : Arc) (number : ℕ) → length (taken s arc number).queue ≤ length s.queue + 1
queue_length s arc number = by_pending (is_pending s.pending arc.to)
  where
    by_pending : (b : Bool) → length (cond b s.queue (s.queue ++ arc.to ∷ [])) ≤ length s.queue + 1
    by_pending true = omega arith
    by_pending false = simp length-append (omega arith)

-- the end of an arc has a latency and a mark
end_inside : (arcs : List Arc) (count : ℕ) (s : State) (number : ℕ) (arc : Arc) → AreKnown arcs count
    → slice_get arcs number ≡ Some arc → IsState arcs count s
    → (arc.to < length s.lat) × (arc.to < length s.pending)
end_inside arcs count s number arc known at state =
    let size = state.size in
    let pending = state.pending in
    let to = known.to number arc at in
    (omega (arith, size, to), omega (arith, pending, to))

pub state_taken : (arcs : List Arc) (count : ℕ) (s : State) (number : ℕ) (arc : Arc) → AreKnown arcs count
    → slice_get arcs number ≡ Some arc → arc.counts ≡ true → latency_at s.lat arc.to < label_of s.lat arc
    → IsState arcs count s → IsState arcs count (taken s arc number)
state_taken arcs count s number arc known at counts more state =
    let held = end_inside arcs count s number arc known at state in
    let inside = held.0 in
    let marks = set_moves s.pending arc.to true false held.1 in
    record {
      size = length-set s.lat arc.to (label_of s.lat arc) ∙ state.size;
      pending = length-set s.pending arc.to true ∙ state.pending;
      labels = labels_taken arcs s.lat (slice_set s.lat arc.to (label_of s.lat arc)) s.tight number arc at counts
          inside (length-set s.lat arc.to (label_of s.lat arc))
          (set_moves s.lat arc.to (label_of s.lat arc) 0 inside) more state.labels;
      queued = λ block is. ⊎_elim
          (λ (e : arc.to ≡ block). subst (λ b. IsIn (taken s arc number).queue b) e (queue_has s arc number state.queued))
          (λ (differs : arc.to ≡ block → ⊥). let q = state.queued block (sym (marks.other block differs) ∙ is) in record { place = q.place; at = queue_keeps s arc number q.place block q.at })
          (cases_eq arc.to block);
      inside = λ place block there. ⊎_elim
          (λ old. state.inside place block old)
          (λ (e : arc.to ≡ block). subst (λ b. b < count) e (known.to number arc at))
          (queue_cases s arc number place block there);
    }

-- ---- what is settled

-- one arc less is left
pub record IsRest (left rest : List ℕ) (number : ℕ) : Type 0 where
  pub goes : (other : ℕ) → IsIn left other → (number ≡ other) ⊎ IsIn rest other

abbrev Excused : List Arc → State → List ℕ → ℕ → Arc → Type 0
Excused arcs s left number arc = (latency_at s.lat arc.from + arc.gain ≤ latency_at s.lat arc.to + arc.slack) ⊎ ((is_pending s.pending arc.from ≡ true) ⊎ IsIn left number)

pub settled_taken : (arcs : List Arc) (count : ℕ) (s : State) (left rest : List ℕ) (number : ℕ) (arc : Arc)
    → AreKnown arcs count → IsState arcs count s → slice_get arcs number ≡ Some arc
    → latency_at s.lat arc.to < label_of s.lat arc
    → IsRest left rest number → AreSettled arcs s left → AreSettled arcs (taken s arc number) rest
settled_taken arcs count s left rest number arc known state at more next settled =
    let held = end_inside arcs count s number arc known at state in
    let inside = held.0 in
    let marks = set_moves s.pending arc.to true false held.1 in
    let moved = set_moves s.lat arc.to (label_of s.lat arc) 0 inside in
    let sum = (given s.lat arc more).sum in
    record {
      settled = λ k other there counts. ⊎_elim
          (λ (e : arc.to ≡ other.from). inr (inl (marks.same other.from e)))
          (λ (differs : arc.to ≡ other.from → ⊥).
          let from = moved.other other.from differs in
          let rises = grown (latency_at s.lat) (latency_at (taken s arc number).lat) arc.to (label_of s.lat arc) moved more other.to in
          ⊎_elim
          (λ (kept : latency_at s.lat other.from + other.gain ≤ latency_at s.lat other.to + other.slack). inl (omega (arith, from, rises, kept)))
          (λ later. ⊎_elim
          (λ (waits : is_pending s.pending other.from ≡ true). inr (inl (marks.other other.from differs ∙ waits)))
          (λ is. ⊎_elim
          (λ (e : number ≡ k).
          let same : arc ≡ other = same_Some arc other (sym at ∙ ap (slice_get arcs) e ∙ there) in
          inl (subst (λ (a : Arc). latency_at (taken s arc number).lat a.from + a.gain ≤ latency_at (taken s arc number).lat a.to + a.slack) same
          (let f : latency_at (taken s arc number).lat arc.from ≡ latency_at s.lat arc.from = moved.other arc.from (λ loop. differs (loop ∙ ap (λ (a : Arc). a.from) same)) in
          let t = moved.same arc.to refl in
          omega (arith, f, t, sum))))
          (λ r. inr (inr r))
          (next.goes k is))
          later)
          (settled.settled k other there counts))
          (cases_eq arc.to other.from);
    }

pub settled_passed : (arcs : List Arc) (s : State) (left rest : List ℕ) (number : ℕ) (arc : Arc)
    → slice_get arcs number ≡ Some arc → label_of s.lat arc ≤ latency_at s.lat arc.to → IsRest left rest number
    → AreSettled arcs s left → AreSettled arcs s rest
settled_passed arcs s left rest number arc at enough next settled = record {
  settled = λ k other there counts. ⊎_elim
      (λ kept. inl kept)
      (λ later. ⊎_elim
      (λ waits. inr (inl waits))
      (λ is. ⊎_elim
      (λ (e : number ≡ k).
      let same : arc ≡ other = same_Some arc other (sym at ∙ ap (slice_get arcs) e ∙ there) in
      inl (subst (λ (a : Arc). latency_at s.lat a.from + a.gain ≤ latency_at s.lat a.to + a.slack) same (omega (arith, enough))))
      (λ r. inr (inr r))
      (next.goes k is))
      later)
      (settled.settled k other there counts);
}

-- ---- what is left to do

pub work_taken : (s : State) (number limit : ℕ) (arc : Arc) → arc.to < length s.lat
    → latency_at s.lat arc.to < label_of s.lat arc → label_of s.lat arc ≤ limit
    → work_of limit (taken s arc number) ≤ work_of limit s
work_taken s number limit arc inside more below =
    let sums = sum_by-set (λ label. limit - label) s.lat arc.to (label_of s.lat arc) 0 inside in
    let queue = queue_length s arc number in
    omega (arith, sums, queue, more, below)

pub within_taken : (s : State) (number limit : ℕ) (arc : Arc) → arc.to < length s.lat → label_of s.lat arc ≤ limit → AreWithin limit s → AreWithin limit (taken s arc number)
within_taken s number limit arc inside below within = record {
  within = λ k. ⊎_elim
      (λ (e : arc.to ≡ k). let m = (set_moves s.lat arc.to (label_of s.lat arc) 0 inside).same k e in omega (arith, m, below))
      (λ (differs : arc.to ≡ k → ⊥). let m = (set_moves s.lat arc.to (label_of s.lat arc) 0 inside).other k differs in let w = within.within k in omega (arith, m, w))
      (cases_eq arc.to k);
}
