-- What the inputs of a block are offered, from what their sources show.
use Rattle.std.proofs.Common.{◌≡◌, ℕ, zero, suc, ◌+◌, ◌-◌, ◌*◌, ◌%◌, ◌<◌, ◌≤◌, pos, Bool, true, false, true≢false, Option, Some, None, slice_get, ap, sym, ◌∙◌, subst, refl, arith}
use Rattle.std.proofs.lemmas.Option.{none-some, same_Some}
use Rattle.fx_round.specs.Laws.{StoringGivesOne}
use Rattle.dg_blocks.specs.Laws.{OperationGivesAtMostOne}
use Rattle.dg_model.specs.declared.diagram.Diagram.{Diagram}
use Rattle.dg_model.specs.declared.diagram.Block.{Block}
use Rattle.dg_model.specs.declared.diagram.Edge.{Edge}
use Rattle.dg_model.specs.declared.nested.Target.{Target}
use Rattle.dg_model.specs.declared.nested.Target.TheVariants.{Port, Enable}
use Rattle.dg_model.specs.declared.row.Reading.{Reading}
use Rattle.dg_model.specs.Library.{row_of}
use Rattle.dg_model.specs.Signals.{Attributes, Stimulus, Table}
use Rattle.dg_model.specs.Hits.{Hits, last_hit, is_slow_to_fast}
use Rattle.dg_model.specs.Wires.{driver_of, at_source, repeated, period_into, value_into}
use Rattle.dg_model.specs.Instant.{is_now, reads_now, asks_now}
use Rattle.dg_model.specs.LatencyEdges.{asks_ever}
use Rattle.dg_model.specs.Solves.{IsShown, Solves, shown_ports}
use Rattle.dg_tables.proofs.Ground.{IsRanked}
use Rattle.dg_tables.proofs.Edges.{edge_at}
use Rattle.dg_tables.proofs.Sources.{IsRead, source_shown, control_shown}
use Rattle.hw_net.specs.Closed.{RegisterIsClosed, EnRegIsClosed}
use Rattle.hw_shows.specs.Shows.{Shows}
use Rattle.hw_shows.specs.Timing.{Timing, IsPlainEdge, IsEdgeInTime}
use Rattle.hw_shows.specs.Timed.{lag_of, lag_into, Feeds, IsInTime, IsTimed}
use Rattle.hw_shows.specs.Series.{IsOffered}
use Rattle.hw_shows.specs.Waves.{Waves, AreBuilt, AreDriven}
use Rattle.hw_shows.specs.Laws.{AreShown}
use Rattle.hw_shows.proofs.Offers.{IsStill, IsPlainOffer, offer_shows, offer_ends}

-- all that is known of a diagram's waves
pub record Setting (diagram : Diagram) (attributes : Attributes) (rank : ℕ → ℕ) (stimulus : Stimulus) (timing : Timing) (clocks n : ℕ) (table : Table) (waves : Waves) : Type 0 where
  pub storing : StoringGivesOne
  pub at_most : OperationGivesAtMostOne
  pub registers : RegisterIsClosed
  pub enabled : EnRegIsClosed
  pub checked : IsRanked diagram attributes rank
  pub timed : IsTimed diagram attributes timing
  pub solves : Solves diagram attributes stimulus n table
  pub built : AreBuilt diagram attributes timing clocks waves
  pub driven : AreDriven diagram attributes stimulus n timing.cycles clocks waves

-- what is read in the same sample comes by an edge without registers
no_lag : (reads : Reading) (delay : ℕ) (enable : Option ℕ) (slower : Bool) (p : ℕ) → is_now reads slower ≡ true → lag_of reads delay enable slower p ≡ None
no_lag Reading.Now delay enable slower p e = refl
no_lag Reading.Before delay enable slower p e = absurd (true≢false (sym e))
no_lag Reading.BeforeIfSlower delay enable true p e = absurd (true≢false (sym e))
no_lag Reading.BeforeIfSlower delay enable false p e = refl

module _ {diagram : Diagram} {attributes : Attributes} {rank : ℕ → ℕ} {stimulus : Stimulus} {timing : Timing}
    {clocks n : ℕ} {table : Table} {waves : Waves}
    (s : Setting diagram attributes rank stimulus timing clocks n table waves) where
  -- at the first clocks a block shows its entries
  abbrev pub BlockShows : ℕ → ℕ → Type 0
  BlockShows k block = (b : Block) (port element : ℕ) → IsShown diagram attributes block b port element → AreShown attributes timing k n table waves block port element

  -- the entry of a block whose value never changes
  pub still_entry : (block : ℕ) (b : Block) (port element : ℕ) → IsShown diagram attributes block b port element → IsStill n (attributes.period_at block) (table block port element)
  still_entry block b port element shown e zero below = refl
  still_entry block b port element shown e (suc t) below =
      let misses : ¬ Hits (attributes.period_at block) (suc t) = subst (λ (o : Option ℕ). ¬ Hits o (suc t)) (sym e) (λ (h : suc t ≡ 0). absurd (omega arith)) in
      s.solves.between_hits block b port element (suc t) shown below misses ∙ ap (λ (o : Option ℕ). table block port element (last_hit o (suc t))) e

  module _ (block : ℕ) (b : Block) (block_is : slice_get diagram.blocks block ≡ Some b) (showing : 1 ≤ shown_ports b.kind b.outputs) where
    pub in_time : (target : Target) (from p : ℕ) → Feeds diagram block b target from → attributes.period_at from ≡ Some p → IsInTime diagram attributes timing block b target from p
    in_time target from p feeds e = s.timed.edges block b target from p block_is showing feeds e

    pub plain_offer : (target : Target) (from : ℕ) → Feeds diagram block b target from → ((p : ℕ) → attributes.period_at from ≡ Some p → lag_into diagram attributes block b target p ≡ None)
        → IsPlainOffer timing from block (attributes.period_at from) (attributes.period_at block) (lag_into diagram attributes block b target)
    plain_offer target from feeds lag = record {
      moves = λ p e none. let i = in_time target from p feeds e in none-some i.own (sym none ∙ i.period);
      plain = λ p e. lag p e;
      edge = λ p q e f.
          let i = in_time target from p feeds e in
          let same : i.own ≡ q = same_Some i.own q (sym i.period ∙ f) in
          subst (λ (q : ℕ). IsPlainEdge timing from p block q) same (subst (λ (o : Option ℕ). IsEdgeInTime timing from p block i.own o) (lag p e) i.edge);
      ready = λ p e. s.timed.ready from p e;
    }

    -- ---- an input port
    pub driver_there : (port : ℕ) → 1 ≤ port → port ≤ b.inputs → (edge : Edge) × (driver_of diagram block port ≡ Some edge)
    driver_there zero from to = absurd (omega arith)
    driver_there (suc i) from to = let e = edge_at diagram s.checked.wired block b block_is i (omega arith) in (e.0, e.2)

    module _ (port element : ℕ) (edge : Edge) (e : driver_of diagram block port ≡ Some edge) (reads : IsRead diagram attributes block port element) (from : 1 ≤ port) (to : port ≤ b.inputs) where
      abbrev pub place : ℕ
      place = repeated (attributes.width_at edge.from edge.from_port) element

      pub source_value : (t : ℕ) → value_into diagram attributes table block port element t ≡ table edge.from edge.from_port place t
      source_value t = ap (λ (o : Option Edge). at_source o (pos 0) (λ from from_port. table from from_port (repeated (attributes.width_at from from_port) element) t)) e

      there : place < attributes.width_at edge.from edge.from_port
      there = subst (λ (o : Option Edge). repeated (at_source o 0 attributes.width_at) element < at_source o 0 attributes.width_at) e reads

      pub source : (c : Block) × IsShown diagram attributes edge.from c edge.from_port place
      source = source_shown diagram attributes s.checked.wired block port edge place e there

      pub line : IsOffered clocks timing edge.from (attributes.period_at edge.from) block
          (attributes.period_at block) (lag_into diagram attributes block b (Port port)) (waves.first block element)
          (waves.after edge.from edge.from_port place) (waves.offered block port element)
      line = s.built.lines block b port element edge block_is showing from to e there

      -- in the reader's frame
      pub offered_now : (k x : ℕ) → k ≤ clocks → BlockShows k edge.from → ((p : ℕ) → attributes.period_at edge.from ≡ Some p → lag_into diagram attributes block b (Port port) p ≡ None)
          → ((p : ℕ) → attributes.period_at edge.from ≡ Some p → timing.ready edge.from ≤ x)
          → Shows k n timing.cycles (attributes.period_at block) (timing.latency block) x (value_into diagram attributes table block port element) (waves.offered block port element)
      offered_now k x within shows lag early =
          let result = offer_shows clocks k n timing edge.from block (lag_into diagram attributes block b (Port port)) (waves.first block element) (table edge.from edge.from_port place)
          (waves.after edge.from edge.from_port place) (waves.offered block port element) within (attributes.period_at edge.from) (attributes.period_at block) x line
          (shows source.0 edge.from_port place source.1).after (still_entry edge.from source.0 edge.from_port place source.1) (plain_offer (Port port) edge.from (edge, from, to, e, refl) lag) early in
          record { at = λ t c below soon seen. result.at t c below soon seen ∙ sym (source_value t) }

      -- at the last clock of it
      pub offered_at_end : (k q : ℕ) → k ≤ clocks → BlockShows k edge.from
          → ((p : ℕ) → attributes.period_at edge.from ≡ Some p
          → lag_into diagram attributes block b (Port port) p ≡ None) → attributes.period_at block ≡ Some q
          → 0 < q
          → (t : ℕ) → t < n → t % q ≡ 0 → (t + timing.latency block + q) * timing.cycles - 1 < k
          → waves.offered block port element ((t + timing.latency block + q) * timing.cycles - 1) ≡ value_into diagram attributes table block port element t
      offered_at_end k q within shows lag own some t below hit early =
          let line_q = subst (λ (o : Option ℕ). IsOffered clocks timing edge.from
          (attributes.period_at edge.from) block o (lag_into diagram attributes block b (Port port))
          (waves.first block element) (waves.after edge.from edge.from_port place)
          (waves.offered block port element)) own line in
          let plain_q = subst (λ (o : Option ℕ). IsPlainOffer timing edge.from block
          (attributes.period_at edge.from) o (lag_into diagram attributes block b (Port port))) own
          (plain_offer (Port port) edge.from (edge, from, to, e, refl) lag) in
          offer_ends clocks k n timing edge.from block (lag_into diagram attributes block b (Port port)) (waves.first block element) (table edge.from edge.from_port place)
          (waves.after edge.from edge.from_port place) (waves.offered block port element) within (attributes.period_at edge.from) q line_q
          (shows source.0 edge.from_port place source.1).after (still_entry edge.from source.0 edge.from_port place source.1) plain_q some t below hit early
          ∙ sym (source_value t)

    -- what all inputs that are read in the same sample are offered
    abbrev pub AreOffered : ℕ → ℕ → Type 0
    AreOffered k x = (port element : ℕ) → 1 ≤ port → port ≤ b.inputs → IsRead diagram attributes block port element
        → Shows k n timing.cycles (attributes.period_at block) (timing.latency block) x (value_into diagram attributes table block port element) (waves.offered block port element)

    pub all_offered : (k x : ℕ) → k ≤ clocks → reads_now diagram attributes block b.kind ≡ true → ((driver : ℕ) → rank driver < rank block → BlockShows k driver)
        → ((port : ℕ) (edge : Edge) (p : ℕ) → 1 ≤ port → port ≤ b.inputs → driver_of diagram block port ≡ Some edge
        → attributes.period_at edge.from ≡ Some p → timing.ready edge.from ≤ x) → AreOffered k x
    all_offered k x within now lower early port element from to reads =
        let d = driver_there port from to in
        offered_now port element d.0 d.1 reads from to k x within (lower d.0.from (s.checked.drivers block b port d.0 block_is now d.1))
        (λ p e. no_lag (row_of b.kind).timing.reads (row_of b.kind).timing.delay b.enable (is_slow_to_fast (period_into diagram attributes block 1) (attributes.period_at block)) p now)
        (λ p e. early port d.0 p from to d.1 e)

    -- by when the block itself is ready
    pub early_ready : reads_now diagram attributes block b.kind ≡ true → (port : ℕ) (edge : Edge) (p : ℕ) → 1 ≤ port
        → port ≤ b.inputs → driver_of diagram block port ≡ Some edge → attributes.period_at edge.from ≡ Some p
        → timing.ready edge.from ≤ timing.ready block
    early_ready now port edge p from to e is = (in_time (Port port) edge.from p (edge, from, to, e, refl) is).ready now

    -- by the slot of a shared operation
    pub early_slot : (element slot : ℕ) → timing.slot block element ≡ Some slot → (port : ℕ) (edge : Edge) (p : ℕ)
        → 1 ≤ port → port ≤ b.inputs → driver_of diagram block port ≡ Some edge
        → attributes.period_at edge.from ≡ Some p → timing.ready edge.from ≤ slot
    early_slot element slot at port edge p from to e is = (in_time (Port port) edge.from p (edge, from, to, e, refl) is).slot element slot at

    -- ---- the control
    module _ (control : ℕ) (is : b.enable ≡ Some control) (asks : asks_ever (row_of b.kind).timing.asks ≡ true) where
      pub control_source : (c : Block) × IsShown diagram attributes control c 1 0
      control_source = control_shown diagram attributes s.checked.wired s.checked.widths block b control block_is is

      enable_line : IsOffered clocks timing control (attributes.period_at control) block
          (attributes.period_at block) (lag_into diagram attributes block b Enable) (pos 0)
          (waves.after control 1 0) (waves.enable block)
      enable_line = s.built.enables block b control block_is (is, asks)

      pub enabled_now : (k : ℕ) → k ≤ clocks → BlockShows k control → asks_now b.kind ≡ true
          → Shows k n timing.cycles (attributes.period_at block) (timing.latency block) (timing.ready block) (table control 1 0) (waves.enable block)
      enabled_now k within shows now =
          offer_shows clocks k n timing control block (lag_into diagram attributes block b Enable) (pos 0) (table control 1 0) (waves.after control 1 0) (waves.enable block) within
          (attributes.period_at control) (attributes.period_at block) (timing.ready block) enable_line
          (shows control_source.0 1 0 control_source.1).after (still_entry control control_source.0 1 0 control_source.1) (plain_offer Enable control (is, asks) (λ p e. refl))
          (λ p e. (in_time Enable control p (is, asks) e).ready now)

      pub enabled_at_end : (k q : ℕ) → k ≤ clocks → BlockShows k control → attributes.period_at block ≡ Some q → 0 < q
          → (t : ℕ) → t < n → t % q ≡ 0 → (t + timing.latency block + q) * timing.cycles - 1 < k
          → waves.enable block ((t + timing.latency block + q) * timing.cycles - 1) ≡ table control 1 0 t
      enabled_at_end k q within shows own some t below hit early =
          let line_q = subst (λ (o : Option ℕ). IsOffered clocks timing control
          (attributes.period_at control) block o (lag_into diagram attributes block b Enable) (pos 0)
          (waves.after control 1 0) (waves.enable block)) own enable_line in
          let plain_q = subst (λ (o : Option ℕ). IsPlainOffer timing control block (attributes.period_at control) o
          (lag_into diagram attributes block b Enable)) own
          (plain_offer Enable control (is, asks) (λ p e. refl)) in
          offer_ends clocks k n timing control block (lag_into diagram attributes block b Enable) (pos 0) (table control 1 0) (waves.after control 1 0) (waves.enable block) within
          (attributes.period_at control) q line_q
          (shows control_source.0 1 0 control_source.1).after (still_entry control control_source.0 1 0 control_source.1) plain_q some t below hit early

      -- a control that moves does so at the hits of the block
      pub control_hits : (q t : ℕ) → attributes.period_at block ≡ Some q → (p : ℕ) → attributes.period_at control ≡ Some p → t % q ≡ 0 → q % p ≡ 0
      control_hits q t own p e hit = ((plain_offer Enable control (is, asks) (λ p e. refl)).edge p q e own).divides
