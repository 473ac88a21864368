-- What ends ask is put behind what others asked.
use Rattle.std.proofs.Common.{◌≡◌, ℕ, zero, suc, ◌+◌, ◌-◌, ◌*◌, ◌<◌, ◌≤◌, inl, inr, pos, ◌++◌, ◌∷◌, ◌==◌, Bool, false, cond, List, [], length, map, Option, None, Some, ap, sym, ◌∙◌, subst, refl}
use Rattle.std.proofs.Common.{arith}
use Rattle.std.specs.Prelude.{slice_get}
use Rattle.std.proofs.lemmas.Bool.{eq-eqb, ne_eqb}
use Rattle.std.proofs.lemmas.List.{append-nil}
use Rattle.math_list.specs.Numbers.{numbers_from}
use Rattle.dg_model.specs.declared.diagram.Diagram.{Diagram}
use Rattle.dg_model.specs.declared.diagram.Block.{Block}
use Rattle.dg_model.specs.declared.resolved.Resolved.{Resolved}
use Rattle.dg_model.specs.Attributes.{attributes_of}
use Rattle.dg_model.specs.LatencyEdges.{LatencyEdge}
use Rattle.dg_model.specs.PlanOf.{stages_at}
use Rattle.dg_model.specs.Solves.{shown_ports}
use Rattle.hw_arcs.specs.Latencies.{latency_at}
use Rattle.hw_latency.specs.Weight.{is_registered, samples, arc_between}
use Rattle.hw_lines.specs.declared.source.Use.{Use as Asked}
use Rattle.hw_net.specs.Circuit.{Circuit}
use Rattle.hw_sched.specs.Chained.{Use, uses_by, uses_into, uses_from}
use Rattle.hw_sched.specs.Slots.{Timing as Times}
use Rattle.hw_sched.specs.Storage.{shift_of}
use Rattle.hw_shows.specs.Timing.{Timing, latency_after}
use Rattle.hw_build.specs.declared.asks.Ask.{Ask}
use Rattle.hw_build.specs.declared.wants.Want.{Want}
use Rattle.hw_build.specs.Places.{Places}
use Rattle.hw_build.specs.Times.{timing_by}
use Rattle.hw_build.specs.inner.Asks.{IsEndWant}
use Rattle.hw_build.specs.inner.EndAsks.{HaveHubWords, IsLawful, want_for, hub_for, first_for, count_for, end_count, edge_wants, IsAskAt, IsEndPut}
use Rattle.hw_build.specs.inner.EndSearch.{want_list, wants_below, IsAllowed, unasked, hub_from, IsAskOf, AsksAll}
use Rattle.hw_build.specs.inner.Wants.{IsWant}

-- ---- lists of wants

last_number : {A : Type 0} (f : ℕ → A) (from n : ℕ) → map f (numbers_from from n) ++ f (from + n) ∷ [] ≡ map f (numbers_from from (suc n))
last_number f from zero = let e : from + zero ≡ from = omega arith in ap (λ (k : ℕ). f k ∷ []) e
last_number f from (suc n) =
    let e : from + suc n ≡ suc from + n = omega arith in
    ap (λ (k : ℕ). f from ∷ (map f (numbers_from (suc from) n) ++ f k ∷ [])) e ∙ ap (λ xs. f from ∷ xs) (last_number f (suc from) n)

pub wants_are : (asked : ℕ → Option Want) (f : ℕ → Want) (n : ℕ) → ((element : ℕ) → element < n → asked element ≡ Some (f element)) → wants_below asked n ≡ map f (numbers_from 0 n)
wants_are asked f zero same = refl
wants_are asked f (suc n) same =
    let rest = wants_are asked f n (λ element below. same element (omega (arith, below))) in
    let here : n ≡ 0 + n = omega arith in
    ap (λ (xs : List Want). xs ++ want_list (asked n)) rest
    ∙ ap (λ (o : Option Want). map f (numbers_from 0 n) ++ want_list o) (same n (omega arith))
    ∙ ap (λ (k : ℕ). map f (numbers_from 0 n) ++ f k ∷ []) here ∙ last_number f 0 n

none_wanted : (n : ℕ) → wants_below unasked n ≡ []
none_wanted zero = refl
none_wanted (suc n) = ap (λ (xs : List Want). xs ++ []) (none_wanted n)

-- ---- what is known where ends ask

pub no_places : Places
no_places = record {
  input = λ number element. 0;
  entry = λ block port element. 0;
  after = λ block port element. 0;
  stage = λ block port element stage. 0;
  offered = λ block port element. 0;
  enable = λ block. 0;
  state = λ block element number. 0;
  first = λ block element. pos 0;
  product = λ block element. 0;
}

module _ {diagram : Diagram} {order : List ℕ} {plan : Resolved} {times : Times} {firsts : List (List ℕ)} (l : IsLawful diagram order plan times firsts) where
  abbrev pub timing : Timing
  timing = timing_by diagram plan times

  abbrev pub period : ℕ → Option ℕ
  period block = (attributes_of diagram).period_at block

  abbrev uses : LatencyEdge → Option ℕ → List Use
  uses edge p = uses_from diagram (attributes_of diagram) plan times edge p

  -- ---- an end of a block that shows nothing, or of a source that never changes

  shows_flag : (b : Block) → 1 ≤ shown_ports b.kind b.outputs → (shown_ports b.kind b.outputs == 0) ≡ false
  shows_flag b shows = ne_eqb (shown_ports b.kind b.outputs) 0 (λ e. omega (arith, e, shows))

  pub count_is : (b : Block) (edge : LatencyEdge) → 1 ≤ shown_ports b.kind b.outputs → end_count diagram plan times firsts b edge ≡ count_for diagram plan times firsts b edge edge.target
  count_is b edge shows = ap (λ (flag : Bool). cond flag 0 (count_for diagram plan times firsts b edge edge.target)) (shows_flag b shows)

  pub count_none : (b : Block) (edge : LatencyEdge) → shown_ports b.kind b.outputs ≡ 0 → end_count diagram plan times firsts b edge ≡ 0
  count_none b edge none = ap (λ (flag : Bool). cond flag 0 (count_for diagram plan times firsts b edge edge.target)) (eq-eqb (shown_ports b.kind b.outputs) 0 none)

  no_uses : (b : Block) (edge : LatencyEdge) (p : Option ℕ) → shown_ports b.kind b.outputs ≡ 0 → slice_get diagram.blocks edge.to ≡ Some b → uses edge p ≡ []
  no_uses b edge None none at = refl
  no_uses b edge (Some p) none at =
      ap (uses_into diagram (attributes_of diagram) plan times edge p) at
      ∙ ap (λ (flag : Bool). cond flag [] (uses_by diagram (attributes_of diagram) plan times edge p b (is_registered b (samples (period edge.to)) p))) (eq-eqb (shown_ports b.kind b.outputs) 0 none)

  pub nothing_put : (list : List Ask) (wants : List Want) (b : Block) (edge : LatencyEdge)
      → shown_ports b.kind b.outputs ≡ 0 → slice_get diagram.blocks edge.to ≡ Some b
      → IsEndPut diagram plan times firsts list list wants wants b edge
  nothing_put list wants b edge none at =
      let count = count_none b edge none in
      record {
        grow = record { list = λ k ask here. here; wants_stay = λ k want here. here; numbered = λ are. are };
        size = omega (arith, count);
        each = λ element below. absurd (omega (arith, below, count));
        added = sym (append-nil wants) ∙ ap (λ (us : List Use). wants ++ map (want_for diagram plan times firsts) us) (sym (no_uses b edge (period edge.from) none at));
        allowed = λ net words are. are;
      }

  all_put : (old new : List Ask) (wants more : List Want) (b : Block) (edge : LatencyEdge) (hubs : ℕ → ℕ) (asked : ℕ → Option Want) (count : ℕ) → end_count diagram plan times firsts b edge ≡ count
      → ((element : ℕ) → element < count → IsAskAt diagram plan times firsts new more b edge (length old + element) element) → wants_below asked count ≡ edge_wants diagram plan times firsts edge
      → ((net : Circuit) → HaveHubWords diagram firsts net → (element : ℕ) → element < count
      → IsAllowed net (asked element)) → AsksAll old new wants more hubs asked count
      → IsEndPut diagram plan times firsts old new wants more b edge
  all_put old new wants more b edge hubs asked count same elements wanted may all =
      let size = all.count_is in
      record {
        grow = all.grow;
        size = omega (arith, size, same);
        each = λ element below. elements element (omega (arith, below, same));
        added = all.added_all ∙ ap (λ (xs : List Want). wants ++ xs) wanted;
        allowed = λ net words are. all.allowed net (may net words) are;
      }

  pub still_put : (old new : List Ask) (wants more : List Want) (b : Block) (edge : LatencyEdge) (first width : ℕ)
      → period edge.from ≡ None → end_count diagram plan times firsts b edge ≡ width
      → ((element : ℕ) → element < width → first + element ≡ hub_for diagram plan times firsts edge element)
      → AsksAll old new wants more (hub_from first) unasked width → IsEndPut diagram plan times firsts old new wants more b edge
  still_put old new wants more b edge first width still count hub all =
      all_put old new wants more b edge (hub_from first) unasked width count
      (λ element inside. inl (still, subst (λ (h : ℕ). IsAskOf new more (length old + element) h None) (hub element inside) (all.each element inside)))
      (none_wanted width ∙ ap (map (want_for diagram plan times firsts)) (sym (ap (uses edge) still))) (λ net words element inside. tt) all

  -- ---- one of a source that does

  pub record IsElement (hubs : ℕ → ℕ) (asked : ℕ → Option Want) (b : Block) (edge : LatencyEdge) (p element : ℕ) : Type 0 where
    pub want : Want
    pub asks : asked element ≡ Some want
    pub hub : hubs element ≡ hub_for diagram plan times firsts edge element
    pub is : IsEndWant diagram timing edge.to b edge.target edge.from p (first_for diagram plan times firsts edge edge.target element) (hub_for diagram plan times firsts edge element) want
    pub may : (net : Circuit) → HaveHubWords diagram firsts net → IsWant net want

  pub moving_put : (old new : List Ask) (wants more : List Want) (b : Block) (edge : LatencyEdge) (p count : ℕ)
      (hubs : ℕ → ℕ) (asked : ℕ → Option Want) → period edge.from ≡ Some p
      → end_count diagram plan times firsts b edge ≡ count
      → ((element : ℕ) → element < count → IsElement hubs asked b edge p element)
      → wants_below asked count ≡ edge_wants diagram plan times firsts edge
      → AsksAll old new wants more hubs asked count
      → IsEndPut diagram plan times firsts old new wants more b edge
  moving_put old new wants more b edge p count hubs asked moves same elements wanted all =
      all_put old new wants more b edge hubs asked count same
      (λ element inside.
      let one = elements element inside in
      inr (record {
        p = p;
        moves = moves;
        want = one.want;
        asked = subst (λ (h : ℕ). IsAskOf new more (length old + element) h (Some one.want)) one.hub
            (subst (λ (o : Option Want). IsAskOf new more (length old + element) (hubs element) o) one.asks
            (all.each element inside));
        is = one.is;
      }))
      wanted (λ net words element inside. let one = elements element inside in subst (λ (o : Option Want). IsAllowed net o) (sym one.asks) (one.may net words)) all

  -- the uses of an edge into a block that shows something
  pub uses_are : (b : Block) (edge : LatencyEdge) (p own : ℕ) (registered : Bool) → period edge.from ≡ Some p
      → slice_get diagram.blocks edge.to ≡ Some b → 1 ≤ shown_ports b.kind b.outputs → period edge.to ≡ Some own
      → is_registered b own p ≡ registered
      → uses edge (period edge.from) ≡ uses_by diagram (attributes_of diagram) plan times edge p b registered
  uses_are b edge p own registered moves at shows period_is is =
      ap (uses edge) moves ∙ ap (uses_into diagram (attributes_of diagram) plan times edge p) at
      ∙ ap (λ (flag : Bool). cond flag [] (uses_by diagram (attributes_of diagram) plan times edge p b (is_registered b (samples (period edge.to)) p))) (shows_flag b shows)
      ∙ ap (λ (o : Option ℕ). uses_by diagram (attributes_of diagram) plan times edge p b
      (is_registered b (samples o) p)) period_is
      ∙ ap (uses_by diagram (attributes_of diagram) plan times edge p b) is

  abbrev pub seen_by : LatencyEdge → ℕ
  seen_by edge = latency_at times.lat edge.to + (arc_between diagram (attributes_of diagram) plan times.fed edge.from edge.to).slack

  -- what a use asks of a chain
  pub use_is : (edge : LatencyEdge) (p own : ℕ) → period edge.from ≡ Some p → period edge.to ≡ Some own
      → ◌≡◌ {A = Asked} (record {
        shift = shift_of diagram (attributes_of diagram) plan times edge;
        period =
            samples (period edge.to);
      })
      (record { shift = seen_by edge - latency_after timing p edge.from; period = own })
  use_is edge p own moves period_is =
      ap (λ (o : Option ℕ). record { shift = seen_by edge - (latency_at times.lat edge.from + stages_at plan edge.from * samples o); period = samples (period edge.to) }) moves
      ∙ ap (λ (o : Option ℕ). record { shift = seen_by edge - latency_after timing p edge.from; period = samples o }) period_is
