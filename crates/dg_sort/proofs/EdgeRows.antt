-- Rows of what each block reads, gathered from the edges of a diagram one by one.
use Rattle.std.proofs.Common.{◌≡◌, ℕ, zero, suc, ◌+◌, ◌<◌, ◌≤◌, Bool, true, false, cond, List, [], ◌∷◌, ◌++◌, length, map, drop, replicate, get_or, inl, inr, ⊎_elim, refl, sym, ap, subst, ◌∙◌, arith}
use Rattle.std.specs.Prelude.{slice_get, Some, None, Option, not, find, filter, ◌⊎◌, ◌==◌}
use Rattle.std.proofs.lemmas.Bool.{cases_eq, cases_lt, cases_Bool, false≢true, eq-eqb, and_from}
use Rattle.std.proofs.lemmas.List.{append_assoc, append-nil, length-set, length-replicate, get_or-replicate, get_or_past, get_or-set_same, get_or-set_other, drop_all}
use Rattle.std.proofs.lemmas.List.Sums.{length-filter}
use Rattle.std.proofs.lemmas.Option.{none-some, same_Some, slice_get_within, slice_get-get_or, get_or_from_slice_get, MatchOption-at_some}
use Rattle.dg_model.specs.declared.diagram.Diagram.{Diagram}
use Rattle.dg_model.specs.declared.diagram.Block.{Block}
use Rattle.dg_model.specs.declared.diagram.Edge.{Edge}
use Rattle.dg_model.specs.declared.kind.Kind.{Kind}
use Rattle.dg_model.specs.declared.kind.Kind.TheVariants.{Inport, Outport, Constant, Ground, Sum, Gain, Product, Switch, Relational, Logic, Convert, Delay, Mux, Demux, RateTransition, Pass}
use Rattle.dg_model.specs.declared.kind.Kind.TheVariants.{EnableTest, EnOut, Terminator}
use Rattle.dg_model.specs.declared.nested.Target.TheVariants.{Enable}
use Rattle.dg_model.specs.declared.row.Reading.{Reading}
use Rattle.dg_model.specs.declared.row.Asking.{Asking}
use Rattle.dg_model.specs.Library.{row_of}
use Rattle.dg_model.specs.Attributes.{attributes_of}
use Rattle.dg_model.specs.Hits.{is_slow_to_fast}
use Rattle.dg_model.specs.Instant.{is_now, is_asked_now, is_instant, takes_now_at}
use Rattle.dg_model.specs.LatencyEdges.{LatencyEdge, signal_edge, asks_ever, enable_edge, enable_edges_from, latency_edges}
use Rattle.dg_model.specs.Loop.{LeadsNow}
use Rattle.dg_model.specs.Periods.{Period, periods_of, period_at}
use Rattle.dg_model.specs.Wired.{IsWired}
use Rattle.dg_model.specs.Wires.{enters, driver_of, at_source, period_into}
use Rattle.dg_sort.specs.Rows.{Reads, AreRows}
use Rattle.fx_io.specs.Rows.{row_at}
use Rattle.dg_sort.specs.Control.{control_now}
use Rattle.dg_sort.specs.inner.Rows.{is_read_now, is_line_instant}
use Rattle.fx_io.specs.Rows.{noted}
use Rattle.dg_model.proofs.Ports.{joins}
use Rattle.dg_sort.proofs.Lines.{from_there, to_there, lines_from, control_there, controls_from}
use Rattle.math_list.proofs.Places.{get_left, get_right, push_cases, last_at}

-- ---- a source put at the end of a row

pub reads_cases : (rows : List (List ℕ)) (block source x y : ℕ) → block < length rows → Reads (noted rows block source) x y → Reads rows x y ⊎ ((block ≡ x) × (source ≡ y))
reads_cases rows block source x y inside reads = ⊎_elim
    (λ (same : block ≡ x).
    let row : row_at (noted rows block source) x ≡ row_at rows block ++ source ∷ [] =
    ap (row_at (noted rows block source)) (sym same) ∙ get_or-set_same rows block (row_at rows block ++ source ∷ []) [] inside in
    ⊎_elim
    (λ old. inl (subst (λ b. Reads rows b y) same (record { place = reads.place; at = old })))
    (λ new. inr (same, new.1))
    (push_cases (row_at rows block) source reads.place y (sym (ap (λ r. slice_get r reads.place) row) ∙ reads.at)))
    (λ (other : block ≡ x → ⊥).
    let row : row_at (noted rows block source) x ≡ row_at rows x = get_or-set_other rows block x (row_at rows block ++ source ∷ []) [] (λ e. other (sym e)) in
    inl (record { place = reads.place; at = sym (ap (λ r. slice_get r reads.place) row) ∙ reads.at }))
    (cases_eq block x)

reads_kept : (rows : List (List ℕ)) (block source x y : ℕ) → block < length rows → Reads rows x y → Reads (noted rows block source) x y
reads_kept rows block source x y inside reads = ⊎_elim
    (λ (same : block ≡ x).
    let row : row_at (noted rows block source) x ≡ row_at rows block ++ source ∷ [] =
    ap (row_at (noted rows block source)) (sym same) ∙ get_or-set_same rows block (row_at rows block ++ source ∷ []) [] inside in
    record {
      place = reads.place;
      at = ap (λ r. slice_get r reads.place) row ∙ get_left (row_at rows block) (source ∷ []) reads.place y (ap (λ b. slice_get (row_at rows b) reads.place) same ∙ reads.at);
    })
    (λ (other : block ≡ x → ⊥).
    let row : row_at (noted rows block source) x ≡ row_at rows x = get_or-set_other rows block x (row_at rows block ++ source ∷ []) [] (λ e. other (sym e)) in
    record { place = reads.place; at = ap (λ r. slice_get r reads.place) row ∙ reads.at })
    (cases_eq block x)

reads_new : (rows : List (List ℕ)) (block source : ℕ) → block < length rows → Reads (noted rows block source) block source
reads_new rows block source inside = record {
  place = length (row_at rows block);
  at = ap (λ r. slice_get r (length (row_at rows block))) (get_or-set_same rows block (row_at rows block ++ source ∷ []) [] inside) ∙ last_at (row_at rows block) source;
}

-- ---- edge by edge

-- the edges but for the rest are noted
pub record Noting (diagram : Diagram) (rest : List LatencyEdge) (rows : List (List ℕ)) : Type 0 where
  pub done : List LatencyEdge
  pub split : latency_edges diagram ≡ done ++ rest
  pub size : length rows ≡ length diagram.blocks
  pub there : (block source : ℕ) → Reads rows block source → source < length diagram.blocks
  pub sound : (block source : ℕ) → Reads rows block source → LeadsNow diagram (attributes_of diagram) source block
  pub whole : (k : ℕ) (edge : LatencyEdge) → slice_get done k ≡ Some edge → is_instant diagram (attributes_of diagram) edge ≡ true → Reads rows edge.to edge.from

regrouped : (diagram : Diagram) (edge : LatencyEdge) (rest done : List LatencyEdge) → latency_edges diagram ≡ done ++ (edge ∷ rest) → latency_edges diagram ≡ (done ++ edge ∷ []) ++ rest
regrouped diagram edge rest done split = split ∙ sym (append_assoc done (edge ∷ []) rest)

leads_at : (diagram : Diagram) (edge : LatencyEdge) (rest done : List LatencyEdge)
    → latency_edges diagram ≡ done ++ (edge ∷ rest) → is_instant diagram (attributes_of diagram) edge ≡ true
    → LeadsNow diagram (attributes_of diagram) edge.from edge.to
leads_at diagram edge rest done split instant =
    let e : length done + 0 ≡ length done = omega arith in
    let at : slice_get (latency_edges diagram) (length done) ≡ Some edge =
    ap (λ es. slice_get es (length done)) split ∙ ap (slice_get (done ++ (edge ∷ rest))) (sym e)
    ∙ get_right done (edge ∷ rest) 0 in
    (length done, edge, slice_get_within (latency_edges diagram) (length done) edge at, get_or_from_slice_get (latency_edges diagram) (length done) edge edge at, (refl, refl, instant))

pub noting_more : (diagram : Diagram) (edge : LatencyEdge) (rest : List LatencyEdge) (rows : List (List ℕ))
    → is_instant diagram (attributes_of diagram) edge ≡ true → edge.to < length diagram.blocks
    → edge.from < length diagram.blocks → Noting diagram (edge ∷ rest) rows
    → Noting diagram rest (noted rows edge.to edge.from)
noting_more diagram edge rest rows instant to from noting =
    let size = noting.size in
    let inside : edge.to < length rows = omega (arith, size, to) in
    record {
      done = noting.done ++ edge ∷ [];
      split = regrouped diagram edge rest noting.done noting.split;
      size = length-set rows edge.to (row_at rows edge.to ++ edge.from ∷ []) ∙ noting.size;
      there = λ block source reads. ⊎_elim
          (λ old. noting.there block source old)
          (λ new. subst (λ s. s < length diagram.blocks) new.1 from)
          (reads_cases rows edge.to edge.from block source inside reads);
      sound = λ block source reads. ⊎_elim
          (λ old. noting.sound block source old)
          (λ new.
          let leads = leads_at diagram edge rest noting.done noting.split instant in
          subst (λ s. LeadsNow diagram (attributes_of diagram) s block) new.1 (subst (λ b. LeadsNow diagram (attributes_of diagram) edge.from b) new.0 leads))
          (reads_cases rows edge.to edge.from block source inside reads);
      whole = λ k other at now. ⊎_elim
          (λ (old : slice_get noting.done k ≡ Some other). reads_kept rows edge.to edge.from other.to other.from inside (noting.whole k other old now))
          (λ new. subst (λ (e : LatencyEdge). Reads (noted rows edge.to edge.from) e.to e.from) new.1 (reads_new rows edge.to edge.from inside))
          (push_cases noting.done edge k other at);
    }

pub noting_skips : (diagram : Diagram) (edge : LatencyEdge) (rest : List LatencyEdge) (rows : List (List ℕ))
    → is_instant diagram (attributes_of diagram) edge ≡ false → Noting diagram (edge ∷ rest) rows
    → Noting diagram rest rows
noting_skips diagram edge rest rows still noting = record {
  done = noting.done ++ edge ∷ [];
  split = regrouped diagram edge rest noting.done noting.split;
  size = noting.size;
  there = noting.there;
  sound = noting.sound;
  whole = λ k other at now. ⊎_elim
      (λ (old : slice_get noting.done k ≡ Some other). noting.whole k other old now)
      (λ new. absurd (false≢true (sym still ∙ subst (λ (e : LatencyEdge). is_instant diagram (attributes_of diagram) e ≡ true) (sym new.1) now)))
      (push_cases noting.done edge k other at);
}

pub noting_begins : (diagram : Diagram) (rows : List (List ℕ)) → rows ≡ replicate (length diagram.blocks) []
    → Noting diagram (map signal_edge (drop 0 diagram.edges) ++ enable_edges_from 0 diagram.blocks) rows
noting_begins diagram rows are = record {
  done = [];
  split = refl;
  size = ap length are ∙ length-replicate (length diagram.blocks) [];
  there = λ block source reads. absurd (nothing block source reads);
  sound = λ block source reads. absurd (nothing block source reads);
  whole = λ k edge at. absurd (none-some edge at);
}
  where
    empty : (block : ℕ) → row_at rows block ≡ []
    empty block = ap (λ rs. row_at rs block) are ∙ ⊎_elim
        (λ (below : block < length diagram.blocks). get_or-replicate (length diagram.blocks) block [] [] below)
        (λ (above : length diagram.blocks ≤ block). get_or_past (replicate (length diagram.blocks) []) block []
        (let size = length-replicate {A = List ℕ} (length diagram.blocks) [] in omega (arith, size, above)))
        (cases_lt block (length diagram.blocks))

    nothing : (block source : ℕ) → Reads rows block source → ⊥
    nothing block source reads = none-some source (sym (ap (λ r. slice_get r reads.place) (empty block)) ∙ reads.at)

pub noting_ends : (diagram : Diagram) (rows : List (List ℕ)) (rest : List LatencyEdge) → rest ≡ [] → Noting diagram rest rows → AreRows diagram rows
noting_ends diagram rows rest none noting = record {
  size = noting.size;
  known = record { there = λ block source reads. let below = noting.there block source reads in let size = noting.size in omega (arith, below, size) };
  sound = noting.sound;
  whole = λ block source leads.
      let all : latency_edges diagram ≡ noting.done = noting.split ∙ ap (λ es. noting.done ++ es) none ∙ append-nil noting.done in
      let at : slice_get (latency_edges diagram) (leads.0) ≡ Some (leads.1) = slice_get-get_or (latency_edges diagram) (leads.0) (leads.1) (leads.2) ∙ ap Some (leads.3) in
      let reads = noting.whole (leads.0) (leads.1) (sym (ap (λ es. slice_get es (leads.0)) all) ∙ at) (leads.4.2) in
      subst (λ s. Reads rows block s) (leads.4.0) (subst (λ b. Reads rows b leads.1.from) (leads.4.1) reads);
}

-- ---- lines

now_differs : Reading.Now ≡ Reading.BeforeIfSlower → ⊥
now_differs e = cc

before_differs : Reading.Before ≡ Reading.BeforeIfSlower → ⊥
before_differs e = cc

-- a kind that joins two periods has one input
one_input : (kind : Kind) (n : ℕ) → (row_of kind).timing.reads ≡ Reading.BeforeIfSlower → (row_of kind).ports.inputs n → n ≡ 1
one_input (Inport number width) n reads ports = absurd (now_differs reads)
one_input (Outport number) n reads ports = absurd (now_differs reads)
one_input (Constant value) n reads ports = absurd (now_differs reads)
one_input Ground n reads ports = absurd (now_differs reads)
one_input (Sum negative accum) n reads ports = absurd (now_differs reads)
one_input (Gain value param) n reads ports = absurd (now_differs reads)
one_input Product n reads ports = absurd (now_differs reads)
one_input (Switch criterion threshold) n reads ports = absurd (now_differs reads)
one_input (Relational operator) n reads ports = absurd (now_differs reads)
one_input (Logic operator) n reads ports = absurd (now_differs reads)
one_input (Convert stored) n reads ports = absurd (now_differs reads)
one_input (Delay delay initial reset) n reads ports = absurd (before_differs reads)
one_input (Mux sizes) n reads ports = absurd (now_differs reads)
one_input (Demux sizes) n reads ports = absurd (now_differs reads)
one_input (RateTransition period initial) n reads ports = ports
one_input (Pass width) n reads ports = absurd (now_differs reads)
one_input EnableTest n reads ports = absurd (now_differs reads)
one_input (EnOut reset initial) n reads ports = absurd (now_differs reads)
one_input Terminator n reads ports = absurd (now_differs reads)

-- none passes where the filter keeps none
none_passes : {A : Type 0} (p : A → Bool) (xs : List A) (k : ℕ) (x : A) → length (filter p xs) ≡ 0 → slice_get xs k ≡ Some x → p x ≡ true → ⊥
none_passes p [] k x none at passes = none-some x at
none_passes p (y ∷ xs) zero x none at passes =
    let yes : p y ≡ true = ap p (same_Some y x at) ∙ passes in
    let e : length (filter p (y ∷ xs)) ≡ suc (length (filter p xs)) = ap (λ b. length (cond b (y ∷ filter p xs) (filter p xs))) yes in
    omega (arith, e, none)
none_passes p (y ∷ xs) (suc k) x none at passes =
    let rest : length (filter p xs) ≤ length (filter p (y ∷ xs)) = ⊎_elim
    (λ yes. let e : length (filter p (y ∷ xs)) ≡ suc (length (filter p xs)) = ap (λ b. length (cond b (y ∷ filter p xs) (filter p xs))) yes in omega (arith, e))
    (λ out. let e : length (filter p (y ∷ xs)) ≡ length (filter p xs) = ap (λ b. length (cond b (y ∷ filter p xs) (filter p xs))) out in omega (arith, e))
    (cases_Bool (p y)) in
    none_passes p xs k x (omega (arith, rest, none)) at passes

-- what alone of a list passes is found
find_only : {A : Type 0} (p : A → Bool) (xs : List A) (k : ℕ) (x : A) → length (filter p xs) ≡ 1 → slice_get xs k ≡ Some x → p x ≡ true → find p xs ≡ Some x
find_only p [] k x one at passes = absurd (none-some x at)
find_only p (y ∷ xs) zero x one at passes =
    let yes : p y ≡ true = ap p (same_Some y x at) ∙ passes in
    ap (λ b. cond b (Some y) (find p xs)) yes ∙ at
find_only p (y ∷ xs) (suc k) x one at passes = ⊎_elim
    (λ yes.
    let e : length (filter p (y ∷ xs)) ≡ suc (length (filter p xs)) = ap (λ b. length (cond b (y ∷ filter p xs) (filter p xs))) yes in
    absurd (none_passes p xs k x (omega (arith, e, one)) at passes))
    (λ out. ap (λ b. cond b (Some y) (find p xs)) out ∙ find_only p xs k x (ap (λ b. length (cond b (y ∷ filter p xs) (filter p xs))) (sym out) ∙ one) at passes)
    (cases_Bool (p y))

-- the driver of a block that joins two periods is the edge's source
into_is : (diagram : Diagram) (k : ℕ) (edge : Edge) (block : Block) → IsWired diagram
    → slice_get diagram.edges k ≡ Some edge → slice_get diagram.blocks edge.to ≡ Some block
    → (row_of block.kind).timing.reads ≡ Reading.BeforeIfSlower
    → period_into diagram (attributes_of diagram) edge.to 1 ≡ period_at (periods_of diagram) edge.from
into_is diagram k edge block wired at there reads =
    let readable = subst (λ (b : Block). (row_of b.kind).ports.inputs b.inputs)
    (get_or_from_slice_get diagram.blocks edge.to block block there)
    (wired.blocks edge.to block (slice_get_within diagram.blocks edge.to block there)).ports.0 in
    let one : block.inputs ≡ 1 = one_input block.kind block.inputs reads readable in
    let ports = MatchOption-at_some ⊥ (λ (b : Block). (1 ≤ edge.to_port) × (edge.to_port ≤ b.inputs)) block there (joins diagram k edge wired at).target in
    let low = ports.0 in
    let high = ports.1 in
    let port : edge.to_port ≡ 1 = omega (arith, low, high, one) in
    let count = wired.driven edge.to 1 block there (omega arith) (omega (arith, one)) in
    let enters_it : enters edge.to 1 edge ≡ true = and_from (edge.to == edge.to) (edge.to_port == 1) (eq-eqb edge.to edge.to refl) (eq-eqb edge.to_port 1 port) in
    let driver : driver_of diagram edge.to 1 ≡ Some edge = find_only (enters edge.to 1) diagram.edges k edge (length-filter (enters edge.to 1) diagram.edges ∙ count) at enters_it in
    ap (λ d. at_source d None (λ from from_port. (attributes_of diagram).period_at from)) driver

-- whether a line is instant hangs on its reader and the two periods
pub line_is : (diagram : Diagram) (k : ℕ) (edge : Edge) → IsWired diagram → slice_get diagram.edges k ≡ Some edge
    → is_instant diagram (attributes_of diagram) (signal_edge edge)
    ≡ is_line_instant diagram.blocks (periods_of diagram) edge
line_is diagram k edge wired at = by_block (slice_get diagram.blocks edge.to) refl
  where
    by_reading : (block : Block) → slice_get diagram.blocks edge.to ≡ Some block → (reads : Reading) → (row_of block.kind).timing.reads ≡ reads →
        is_now reads (is_slow_to_fast (period_into diagram (attributes_of diagram) edge.to 1)
        ((attributes_of diagram).period_at edge.to))
        ≡ is_now reads (is_slow_to_fast (period_at (periods_of diagram) edge.from)
        (period_at (periods_of diagram) edge.to))
    by_reading block there Reading.Now is = refl
    by_reading block there Reading.Before is = refl
    by_reading block there Reading.BeforeIfSlower is = ap (λ p. not (is_slow_to_fast p (period_at (periods_of diagram) edge.to))) (into_is diagram k edge block wired at there is)

    by_block : (block : Option Block) → slice_get diagram.blocks edge.to ≡ block
        → takes_now_at diagram (attributes_of diagram) (signal_edge edge) block
        ≡ is_read_now block (is_slow_to_fast (period_at (periods_of diagram) edge.from)
        (period_at (periods_of diagram) edge.to))
    by_block None there = refl
    by_block (Some block) there = by_reading block there (row_of block.kind).timing.reads refl

pub line_more : (diagram : Diagram) (i : ℕ) (edge : Edge) (tail : List LatencyEdge) (rows : List (List ℕ))
    → IsWired diagram → slice_get diagram.edges i ≡ Some edge
    → is_line_instant diagram.blocks (periods_of diagram) edge ≡ true
    → Noting diagram (map signal_edge (drop i diagram.edges) ++ tail) rows → Noting diagram (map signal_edge (drop (i + 1) diagram.edges) ++ tail) (noted rows edge.to edge.from)
line_more diagram i edge tail rows wired at now noting =
    noting_more diagram (signal_edge edge) (map signal_edge (drop (i + 1) diagram.edges) ++ tail) rows
    (line_is diagram i edge wired at ∙ now) (to_there diagram i edge wired at)
    (from_there diagram i edge wired at)
    (subst (λ es. Noting diagram es rows) (lines_from diagram i edge tail at) noting)

pub line_skips : (diagram : Diagram) (i : ℕ) (edge : Edge) (tail : List LatencyEdge) (rows : List (List ℕ))
    → IsWired diagram → slice_get diagram.edges i ≡ Some edge
    → is_line_instant diagram.blocks (periods_of diagram) edge ≡ false
    → Noting diagram (map signal_edge (drop i diagram.edges) ++ tail) rows → Noting diagram (map signal_edge (drop (i + 1) diagram.edges) ++ tail) rows
line_skips diagram i edge tail rows wired at still noting =
    noting_skips diagram (signal_edge edge) (map signal_edge (drop (i + 1) diagram.edges) ++ tail) rows (line_is diagram i edge wired at ∙ still)
    (subst (λ es. Noting diagram es rows) (lines_from diagram i edge tail at) noting)

pub lines_end : (diagram : Diagram) (i : ℕ) (tail : List LatencyEdge) (rows : List (List ℕ))
    → length diagram.edges ≤ i → Noting diagram (map signal_edge (drop i diagram.edges) ++ tail) rows
    → Noting diagram tail rows
lines_end diagram i tail rows end noting = subst (λ es. Noting diagram es rows) (ap (λ es. map signal_edge es ++ tail) (drop_all i diagram.edges end)) noting

-- ---- controls

-- the edge of a control, as the block asks it
record AfterControl (diagram : Diagram) (place : ℕ) (control : Option ℕ) (rest : List LatencyEdge) (rows : List (List ℕ)) : Type 0 where
  none : control ≡ None → Noting diagram rest rows
  some : (source : ℕ) → control ≡ Some source → Noting diagram rest (noted rows place source)

abbrev pub asked : Asking → Option ℕ → Option ℕ
asked asks enable = cond (is_asked_now asks) enable None

after_control : (diagram : Diagram) (place : ℕ) (block : Block) (rest : List LatencyEdge) (rows : List (List ℕ)) → IsWired diagram → slice_get diagram.blocks place ≡ Some block
    → (asks : Asking) → (row_of block.kind).timing.asks ≡ asks → (enable : Option ℕ) → block.enable ≡ enable
    → Noting diagram (enable_edge place (asks_ever asks) enable ++ rest) rows
    → AfterControl diagram place (asked asks enable) rest rows
after_control diagram place block rest rows wired there Asking.Never is None enable noting = record { none = λ e. noting; some = λ source e. absurd (none-some source e) }
after_control diagram place block rest rows wired there Asking.Never is (Some control) enable noting = record { none = λ e. noting; some = λ source e. absurd (none-some source e) }
after_control diagram place block rest rows wired there Asking.Now is None enable noting = record { none = λ e. noting; some = λ source e. absurd (none-some source e) }
after_control diagram place block rest rows wired there Asking.Now is (Some control) enable noting = record {
  none = λ e. absurd (none-some control (sym e));
  some = λ source e.
      let same : control ≡ source = same_Some control source e in
      let now : is_instant diagram (attributes_of diagram) (record { from = control; from_port = 1; to = place; target = Enable }) ≡ true =
      ap (takes_now_at diagram (attributes_of diagram) (record { from = control; from_port = 1; to = place; target = Enable })) there ∙ ap is_asked_now is in
      subst (λ s. Noting diagram rest (noted rows place s)) same
      (noting_more diagram (record { from = control; from_port = 1; to = place; target = Enable }) rest rows now
      (slice_get_within diagram.blocks place block there)
      (control_there diagram place control block wired there enable) noting);
}
after_control diagram place block rest rows wired there Asking.Before is None enable noting = record { none = λ e. noting; some = λ source e. absurd (none-some source e) }
after_control diagram place block rest rows wired there Asking.Before is (Some control) enable noting = record {
  none = λ e.
      let still : is_instant diagram (attributes_of diagram) (record { from = control; from_port = 1; to = place; target = Enable }) ≡ false =
      ap (takes_now_at diagram (attributes_of diagram) (record { from = control; from_port = 1; to = place; target = Enable })) there ∙ ap is_asked_now is in
      noting_skips diagram (record { from = control; from_port = 1; to = place; target = Enable }) rest rows still noting;
  some = λ source e. absurd (none-some source e);
}

noting_control : (diagram : Diagram) (i : ℕ) (block : Block) (rows : List (List ℕ)) → IsWired diagram
    → slice_get diagram.blocks i ≡ Some block → Noting diagram (enable_edges_from i (drop i diagram.blocks)) rows
    → AfterControl diagram i (control_now block) (enable_edges_from (i + 1) (drop (i + 1) diagram.blocks)) rows
noting_control diagram i block rows wired at noting =
    after_control diagram i block (enable_edges_from (i + 1) (drop (i + 1) diagram.blocks)) rows wired at (row_of block.kind).timing.asks refl block.enable refl
    (subst (λ es. Noting diagram es rows) (controls_from diagram i block at) noting)

pub control_more : (diagram : Diagram) (i source : ℕ) (block : Block) (control : Option ℕ) (rows : List (List ℕ))
    → IsWired diagram → slice_get diagram.blocks i ≡ Some block → control ≡ control_now block
    → control ≡ Some source
    → Noting diagram (enable_edges_from i (drop i diagram.blocks)) rows → Noting diagram (enable_edges_from (i + 1) (drop (i + 1) diagram.blocks)) (noted rows i source)
control_more diagram i source block control rows wired at gives some noting = (noting_control diagram i block rows wired at noting).some source (sym gives ∙ some)

pub control_skips : (diagram : Diagram) (i : ℕ) (block : Block) (control : Option ℕ) (rows : List (List ℕ))
    → IsWired diagram → slice_get diagram.blocks i ≡ Some block → control ≡ control_now block → control ≡ None
    → Noting diagram (enable_edges_from i (drop i diagram.blocks)) rows → Noting diagram (enable_edges_from (i + 1) (drop (i + 1) diagram.blocks)) rows
control_skips diagram i block control rows wired at gives none noting = (noting_control diagram i block rows wired at noting).none (sym gives ∙ none)

pub controls_end : (diagram : Diagram) (i : ℕ) (rows : List (List ℕ)) → length diagram.blocks ≤ i → Noting diagram (enable_edges_from i (drop i diagram.blocks)) rows → AreRows diagram rows
controls_end diagram i rows end noting = noting_ends diagram rows (enable_edges_from i (drop i diagram.blocks)) (ap (enable_edges_from i) (drop_all i diagram.blocks end)) noting

-- ---- as the code has it

-- an edge as a loop over a slice has it
pub edge_read : (diagram : Diagram) (edges : List Edge) (i : ℕ) (d : Edge) → edges ≡ diagram.edges → i < length edges → slice_get diagram.edges i ≡ Some (get_or edges i d)
edge_read diagram edges i d same inside = sym (ap (λ es. slice_get es i) same) ∙ slice_get-get_or edges i d inside

-- and a block
pub block_read : (diagram : Diagram) (blocks : List Block) (i : ℕ) (block : Block) → blocks ≡ diagram.blocks
    → i < length blocks → block ≡ get_or blocks i block → slice_get diagram.blocks i ≡ Some block
block_read diagram blocks i block same inside is = sym (ap (λ bs. slice_get bs i) same) ∙ slice_get-get_or blocks i block inside ∙ ap Some (sym is)

pub instant_as : (diagram : Diagram) (blocks : List Block) (periods : List Period) (edge : Edge) (instant is : Bool)
    → blocks ≡ diagram.blocks → periods ≡ periods_of diagram → instant ≡ is_line_instant blocks periods edge
    → instant ≡ is
    → is_line_instant diagram.blocks (periods_of diagram) edge ≡ is
instant_as diagram blocks periods edge instant is same timed gives known = (λ i. is_line_instant (sym same i) (sym timed i) edge) ∙ sym gives ∙ known
