-- What is counted line by line and block by block is what the definitions say.
use Rattle.std.proofs.Common.{◌≡◌, ℕ, zero, suc, ◌+◌, ◌*◌, ◌<◌, ◌≤◌, max, Bool, true, false, cond, List, [], ◌∷◌, ◌++◌, length, map, filter, drop, refl, sym, ap, subst, ◌∙◌, inl, inr, arith}
use Rattle.std.specs.Prelude.{slice_get, slice_index, is_some, nat_lt, Option, Some, None}
use Rattle.std.specs.List.{sum, flat_map}
use Rattle.std.proofs.lemmas.Bool.{cases_Bool, cases_eq, cond-true, cond-false, and_parts, and_from, false≢true, ltb-true, lt-ltb}
use Rattle.std.proofs.lemmas.List.{length-append, length-map, map-append, drop_all}
use Rattle.std.proofs.lemmas.List.Sums.{sum_by-append}
use Rattle.std.proofs.lemmas.Option.{none-some, slice_get_within, get_or_from_slice_get}
use Rattle.math_list.specs.Numbers.{numbers_from, greatest}
use Rattle.math_list.proofs.Numbers.{length_numbers}
use Rattle.dg_model.specs.declared.diagram.Diagram.{Diagram}
use Rattle.dg_model.specs.declared.diagram.Block.{Block}
use Rattle.dg_model.specs.declared.diagram.Edge.{Edge}
use Rattle.dg_model.specs.declared.resolved.Resolved.{Resolved}
use Rattle.dg_model.specs.Attributes.{attributes_of}
use Rattle.dg_model.specs.Laws.{OutputsAreListed}
use Rattle.dg_model.specs.LatencyEdges.{LatencyEdge, signal_edge, asks_ever, enable_edge, enable_edges_from}
use Rattle.dg_model.specs.Library.{row_of}
use Rattle.dg_model.specs.RootElements.{RootElement, number_in, root_outputs}
use Rattle.dg_model.specs.Signals.{Attributes}
use Rattle.dg_model.specs.Wired.{IsWired, root_output}
use Rattle.dg_model.specs.Wires.{width_into}
use Rattle.dg_sort.proofs.Lines.{lines_from, controls_from}
use Rattle.hw_arcs.specs.Latencies.{latency_at}
use Rattle.hw_latency.specs.Shared.{is_shared}
use Rattle.hw_latency.specs.declared.latencies.Latencies.{Latencies}
use Rattle.math_list.proofs.Places.{sum-cons}
use Rattle.math_list.proofs.Sums.{greatest_at, sums_same, sum_below, sum_below_next}
use Rattle.hw_sched.specs.Ready.{AreReady, declared_latency, ready_of}
use Rattle.hw_sched.specs.Answer.{timing_of}
use Rattle.hw_sched.specs.Slots.{Timing, operation, operations_of, shared_operations}
use Rattle.hw_sched.specs.Storage.{lines_in_all, registers_at, registers_in_all, storage, greatest_latency}
use Rattle.hw_sched.specs.inner.Counts.{capped, line_at, lines_of, controls_line, results_at, is_root_output, is_output, output_latency}
use Rattle.hw_sched.proofs.Lists.{greatest_within}

-- ---- lines

-- those of all lines are these and those of some edges, saturating
pub record AreBeside (diagram : Diagram) (attributes : Attributes) (plan : Resolved) (timing : Timing) (count : ℕ) (edges : List LatencyEdge) : Type 0 where
  pub sum_is : capped (count + lines_of diagram attributes plan timing edges) ≡ capped (lines_in_all diagram attributes plan timing)
  pub fits : capped count ≡ count

module _ (diagram : Diagram) (attributes : Attributes) (plan : Resolved) (timing : Timing) where
  abbrev lines : List LatencyEdge → ℕ
  lines edges = lines_of diagram attributes plan timing edges

  abbrev Beside : ℕ → List LatencyEdge → Type 0
  Beside count edges = AreBeside diagram attributes plan timing count edges

  beside_more : (count more all : ℕ) (front rest : List LatencyEdge) → more ≡ capped (lines front) → all ≡ capped (count + more) → Beside count (front ++ rest) → Beside all rest
  beside_more count more all front rest more_is all_is beside =
      let parts : lines (front ++ rest) ≡ lines front + lines rest =
      ap (λ (xs : List ℕ). sum xs) (map-append (line_at diagram attributes plan timing) front rest)
      ∙ sum_by-append (λ (n : ℕ). n) (map (line_at diagram attributes plan timing) front)
      (map (line_at diagram attributes plan timing) rest) in
      let sum_is = beside.sum_is in
      record { sum_is = omega (arith, parts, more_is, all_is, sum_is); fits = omega (arith, all_is) }

  pub beside_line : (count more all i : ℕ) (line : Edge) → slice_get diagram.edges i ≡ Some line
      → more ≡ capped (line_at diagram attributes plan timing (signal_edge line)) → all ≡ capped (count + more)
      → Beside count (map signal_edge (drop i diagram.edges) ++ enable_edges_from 0 diagram.blocks) → Beside all (map signal_edge (drop (i + 1) diagram.edges) ++ enable_edges_from 0 diagram.blocks)
  beside_line count more all i line at more_is all_is beside =
      let one = sum-cons (line_at diagram attributes plan timing (signal_edge line)) [] in
      let same : line_at diagram attributes plan timing (signal_edge line) ≡ lines (signal_edge line ∷ []) = omega (arith, one) in
      beside_more count more all (signal_edge line ∷ []) (map signal_edge (drop (i + 1) diagram.edges) ++ enable_edges_from 0 diagram.blocks) (more_is ∙ ap capped same) all_is
      (subst (λ (es : List LatencyEdge). Beside count es) (lines_from diagram i line (enable_edges_from 0 diagram.blocks) at) beside)

  pub beside_lines : (count i : ℕ) → length diagram.edges ≤ i
      → Beside count (map signal_edge (drop i diagram.edges) ++ enable_edges_from 0 diagram.blocks)
      → Beside count (enable_edges_from 0 (drop 0 diagram.blocks))
  beside_lines count i end beside = subst (λ (es : List LatencyEdge). Beside count es)
      (ap (λ (es : List Edge). map signal_edge es ++ enable_edges_from 0 diagram.blocks)
      (drop_all i diagram.edges end)) beside

  pub beside_control : (count more all i : ℕ) (block : Block) → slice_get diagram.blocks i ≡ Some block
      → more ≡ capped (controls_line diagram attributes plan timing i (slice_get diagram.blocks i))
      → all ≡ capped (count + more)
      → Beside count (enable_edges_from i (drop i diagram.blocks)) → Beside all (enable_edges_from (i + 1) (drop (i + 1) diagram.blocks))
  beside_control count more all i block at more_is all_is beside =
      beside_more count more all (enable_edge i (asks_ever (row_of block.kind).timing.asks) block.enable) (enable_edges_from (i + 1) (drop (i + 1) diagram.blocks))
      (more_is ∙ ap (λ (block : Option Block). capped (controls_line diagram attributes plan timing i block)) at) all_is
      (subst (λ (es : List LatencyEdge). Beside count es) (controls_from diagram i block at) beside)

  pub beside_none : (count i : ℕ) → length diagram.blocks ≤ i → Beside count (enable_edges_from i (drop i diagram.blocks)) → count ≡ capped (lines_in_all diagram attributes plan timing)
  beside_none count i end beside =
      let none = ap (λ (bs : List Block). lines (enable_edges_from i bs)) (drop_all i diagram.blocks end) in
      let sum_is = beside.sum_is in
      let fits = beside.fits in
      omega (arith, none, sum_is, fits)

  one_line : (edge : LatencyEdge) (count : ℕ) → count ≡ line_at diagram attributes plan timing edge → count ≡ lines (edge ∷ [])
  one_line edge count is = let one = sum-cons (line_at diagram attributes plan timing edge) [] in omega (arith, one, is)

  pub control_none : (place : ℕ) (block : Block) (found : Option ℕ) → slice_get diagram.blocks place ≡ Some block
      → found ≡ cond (asks_ever (row_of block.kind).timing.asks) block.enable None → found ≡ None
      → 0 ≡ controls_line diagram attributes plan timing place (slice_get diagram.blocks place)
  control_none place block found at found_is none = by (asks_ever (row_of block.kind).timing.asks) block.enable (sym found_is ∙ none) ∙ sym (ap (controls_line diagram attributes plan timing place) at)
    where
      by : (asks : Bool) (enable : Option ℕ) → cond asks enable None ≡ None → 0 ≡ lines (enable_edge place asks enable)
      by asks None e = refl
      by true (Some control) e = absurd (none-some control (sym e))
      by false (Some control) e = refl

  pub control_some : (place control count : ℕ) (block : Block) (found : Option ℕ) (edge : LatencyEdge)
      → slice_get diagram.blocks place ≡ Some block
      → found ≡ cond (asks_ever (row_of block.kind).timing.asks) block.enable None → found ≡ Some control
      → enable_edge place true (Some control) ≡ edge ∷ [] → count ≡ line_at diagram attributes plan timing edge
      → count ≡ controls_line diagram attributes plan timing place (slice_get diagram.blocks place)
  control_some place control count block found edge at found_is some edge_is is =
      by (asks_ever (row_of block.kind).timing.asks) block.enable (sym found_is ∙ some) ∙ sym (ap (controls_line diagram attributes plan timing place) at)
    where
      by : (asks : Bool) (enable : Option ℕ) → cond asks enable None ≡ Some control → count ≡ lines (enable_edge place asks enable)
      by true enable e = one_line edge count is ∙ ap lines (sym edge_is) ∙ ap (λ (o : Option ℕ). lines (enable_edge place true o)) (sym e)
      by false enable e = absurd (none-some control e)

-- ---- blocks

-- what a block keeps beside lines
abbrev pub kept_at : Diagram → Attributes → Resolved → ℕ → ℕ
kept_at diagram attributes plan place = registers_at diagram attributes plan place (slice_get diagram.blocks place)

-- the results of shared operations, block by block
filtered_length : {A B : Type 0} (f : A → List B) (p : A → Bool) (xs : List A) → length (flat_map f (filter p xs)) ≡ sum (map (λ x. cond (p x) (length (f x)) 0) xs)
filtered_length f p [] = refl
filtered_length {A} {B} f p (x ∷ xs) = go (p x) (filtered_length f p xs) ∙ sym (sum-cons (cond (p x) (length (f x)) 0) (map (λ x. cond (p x) (length (f x)) 0) xs))
  where
    go : (b : Bool) → length (flat_map f (filter p xs)) ≡ sum (map (λ x. cond (p x) (length (f x)) 0) xs)
        → length (flat_map f (cond b (x ∷ filter p xs) (filter p xs)))
        ≡ cond b (length (f x)) 0 + sum (map (λ x. cond (p x) (length (f x)) 0) xs)
    go true more = let parts = length-append (f x) (flat_map f (filter p xs)) in omega (arith, parts, more)
    go false more = omega (arith, more)

results_are : (diagram : Diagram) (attributes : Attributes) (plan : Resolved)
    → sum_below (results_at diagram attributes plan) (length diagram.blocks)
    ≡ length (shared_operations diagram attributes plan)
results_are diagram attributes plan =
    sums_same (results_at diagram attributes plan) (λ place. cond (is_shared diagram attributes plan place) (length (operations_of attributes place)) 0) (numbers_from 0 (length diagram.blocks))
    (λ place. ap (λ (n : ℕ). cond (is_shared diagram attributes plan place) n 0)
    (sym (length-map (numbers_from 0 (attributes.width_at place 1)) (operation place)
    ∙ length_numbers 0 (attributes.width_at place 1))))
    ∙ sym (filtered_length (operations_of attributes) (is_shared diagram attributes plan) (numbers_from 0 (length diagram.blocks)))

-- two sums that one loop makes
pub both_more : (f g : ℕ → ℕ) (count more too some all place : ℕ) → more ≡ capped (f place) → too ≡ g place → some ≡ capped (count + more) → all ≡ capped (some + too)
    → count ≡ capped (sum_below f place + sum_below g place) → all ≡ capped (sum_below f (place + 1) + sum_below g (place + 1))
both_more f g count more too some all place more_is too_is some_is all_is is =
    let one : place + 1 ≡ suc place = omega arith in
    omega (arith, ap (sum_below f) one, ap (sum_below g) one, sum_below_next f place, sum_below_next g place, more_is, too_is, some_is, all_is, is)

-- what the blocks before a place keep and have as results is that of all
pub blocks_all : (diagram : Diagram) (attributes : Attributes) (plan : Resolved) (count place : ℕ) → place ≡ length diagram.blocks
    → count ≡ capped (sum_below (kept_at diagram attributes plan) place + sum_below (results_at diagram attributes plan) place)
    → count ≡ capped (registers_in_all diagram attributes plan + length (shared_operations diagram attributes plan))
blocks_all diagram attributes plan count place end is =
    is ∙ ap (λ (n : ℕ). capped (sum_below (kept_at diagram attributes plan) n + sum_below (results_at diagram attributes plan) n)) end
    ∙ ap (λ (n : ℕ). capped (registers_in_all diagram attributes plan + n)) (results_are diagram attributes plan)

sum_capped : (one other first second all : ℕ) → first ≡ capped one → second ≡ capped other → all ≡ capped (first + second) → all ≡ capped (one + other)
sum_capped one other first second all first_is second_is all_is = omega (arith, first_is, second_is, all_is)

-- all of them
pub storage_as : (diagram : Diagram) (plan : Resolved) (latencies : Latencies) (depths : List ℕ)
    (lines blocks all : ℕ)
    → lines ≡ capped (lines_in_all diagram (attributes_of diagram) plan (timing_of latencies []))
    → blocks ≡ capped (registers_in_all diagram (attributes_of diagram) plan + length (shared_operations diagram (attributes_of diagram) plan)) → all ≡ capped (lines + blocks)
    → all ≡ capped (storage diagram (attributes_of diagram) plan (timing_of latencies depths))
storage_as diagram plan latencies depths lines blocks all lines_are blocks_are all_is =
    sum_capped (lines_in_all diagram (attributes_of diagram) plan (timing_of latencies depths))
    (registers_in_all diagram (attributes_of diagram) plan
    + length (shared_operations diagram (attributes_of diagram) plan))
    lines blocks all lines_are blocks_are all_is

-- ---- greatest numbers

greatest_next : (f : ℕ → ℕ) (from n : ℕ) → greatest (map f (numbers_from from (suc n))) ≡ max (greatest (map f (numbers_from from n))) (f (from + n))
greatest_next f from zero = let e : f from ≡ f (from + 0) = ap f (omega arith) in omega (arith, e)
greatest_next f from (suc n) =
    let e : f (suc from + n) ≡ f (from + suc n) = ap f (omega arith) in
    let more = greatest_next f (suc from) n in
    omega (arith, e, more)

abbrev pub greatest_below : (ℕ → ℕ) → ℕ → ℕ
greatest_below f n = greatest (map f (numbers_from 0 n))

pub greatest_more : (f : ℕ → ℕ) (best met all place : ℕ) → met ≡ capped (f place) → all ≡ max best met → best ≡ capped (greatest_below f place) → all ≡ capped (greatest_below f (place + 1))
greatest_more f best met all place met_is all_is is =
    let e : f (0 + place) ≡ f place = ap f (omega arith) in
    let next = greatest_next f 0 place in
    let one : place + 1 ≡ suc place = omega arith in
    let same = ap (greatest_below f) one in
    omega (arith, e, next, same, met_is, all_is, is)

greatest_from_at : (f : ℕ → ℕ) (from n place : ℕ) → from ≤ place → place < from + n → f place ≤ greatest (map f (numbers_from from n))
greatest_from_at f from zero place low high = absurd (omega (arith, low, high))
greatest_from_at f from (suc n) place low high = elim (cases_eq from place) [
  | inl same ↦ let e : f from ≡ f place = ap f same in omega (arith, e)
  | inr differs ↦ let more = greatest_from_at f (suc from) n place (omega (arith, low, differs)) (omega (arith, high)) in omega (arith, more)
]

-- ---- root outputs

some_number : (o : Option ℕ) → is_some o ≡ true → (number : ℕ) × (o ≡ Some number)
some_number None is = absurd (false≢true is)
some_number (Some number) is = (number, refl)

output_there : (o : Option Block) → is_root_output o ≡ true → (b : Block) × (o ≡ Some b) × (is_some (number_in root_output b) ≡ true)
output_there None is = absurd (false≢true is)
output_there (Some b) is = (b, refl, is)

module _ (diagram : Diagram) (plan : Resolved) (latencies : Latencies) (ready depths : List ℕ)
    (wired : IsWired diagram) (listed : OutputsAreListed)
    (are : AreReady diagram plan (timing_of latencies depths) ready) where
  abbrev timing : Timing
  timing = timing_of latencies depths

  abbrev declared : ℕ → ℕ
  declared place = declared_latency diagram (attributes_of diagram) plan timing place

  abbrev latest : ℕ → ℕ
  latest place = output_latency diagram (attributes_of diagram) plan latencies.lat ready place

  output_as : (place : ℕ) → place < length diagram.blocks → is_output diagram (attributes_of diagram) place ≡ true → latest place ≡ declared place
  output_as place inside is =
      let read : slice_index ready place ≡ ready_of diagram (attributes_of diagram) plan timing place =
      get_or_from_slice_get ready place (ready_of diagram (attributes_of diagram) plan timing place) 0
      (are.are place inside) in
      cond-true (is_output diagram (attributes_of diagram) place)
      (latency_at latencies.lat place * plan.cycles + slice_index ready place) 0 is
      ∙ ap (λ (n : ℕ). latency_at latencies.lat place * plan.cycles + n) read

  shown_low : (place : ℕ) → latest place ≤ greatest_latency diagram (attributes_of diagram) plan timing
  shown_low place = elim (cases_Bool (is_output diagram (attributes_of diagram) place)) [
    | inl is ↦
        let parts = and_parts (is_root_output (slice_get diagram.blocks place)) (nat_lt 0 (width_into diagram (attributes_of diagram) place 1)) is in
        let block = output_there (slice_get diagram.blocks place) parts.0 in
        let number = some_number (number_in root_output block.0) block.2 in
        let element = (listed diagram (attributes_of diagram) wired).has_each place block.0 number.0 0 block.1 number.1 (ltb-true 0 (width_into diagram (attributes_of diagram) place 1) parts.1) in
        let low = greatest_at (λ (e : RootElement). declared e.block) (root_outputs diagram (attributes_of diagram)) element.0 _ element.1 in
        let same = output_as place (slice_get_within diagram.blocks place block.0 block.1) is in
        omega (arith, low, same)
    | inr not_is ↦ let none = cond-false (is_output diagram (attributes_of diagram) place) (latency_at latencies.lat place * plan.cycles + slice_index ready place) 0 not_is in omega (arith, none)
  ]

  declared_low : (k : ℕ) (e : RootElement) → slice_get (root_outputs diagram (attributes_of diagram)) k ≡ Some e → declared e.block ≤ greatest_below latest (length diagram.blocks)
  declared_low k e at =
      let element = (listed diagram (attributes_of diagram) wired).elements_of k e at in
      let inside = slice_get_within diagram.blocks e.block element.0 element.1 in
      let some : 0 < width_into diagram (attributes_of diagram) e.block 1 = let low = element.3 in omega (arith, low) in
      let is : is_output diagram (attributes_of diagram) e.block ≡ true =
      and_from (is_root_output (slice_get diagram.blocks e.block))
      (nat_lt 0 (width_into diagram (attributes_of diagram) e.block 1))
      (ap is_root_output element.1 ∙ ap (λ (o : Option ℕ). is_some o) element.2)
      (lt-ltb 0 (width_into diagram (attributes_of diagram) e.block 1) some) in
      let low = greatest_from_at latest 0 (length diagram.blocks) e.block (omega arith) (omega (arith, inside)) in
      let same = output_as e.block inside is in
      omega (arith, low, same)

  pub latest_is : greatest_below latest (length diagram.blocks) ≡ greatest_latency diagram (attributes_of diagram) plan timing
  latest_is =
      let low = greatest_within latest (greatest_latency diagram (attributes_of diagram) plan timing) (numbers_from 0 (length diagram.blocks)) (λ k place at. shown_low place) in
      let high = greatest_within (λ (e : RootElement). declared e.block) (greatest_below latest (length diagram.blocks)) (root_outputs diagram (attributes_of diagram)) declared_low in
      omega (arith, low, high)
