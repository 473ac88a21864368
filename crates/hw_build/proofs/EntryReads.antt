-- What an element reads stands below it: in its own sample what its sources show, or else what reads nothing in its clock.
use Rattle.std.proofs.Common.{◌≡◌, ℕ, zero, suc, ◌*◌, ◌-◌, ◌<◌, ◌≤◌, ◌⊎◌, inl, inr, Bool, true, false, List, [], ◌∷◌, length, Contains, Option, None, Some, ap, sym, ◌∙◌, subst, refl, arith}
use Rattle.std.specs.Prelude.{slice_get, min}
use Rattle.std.proofs.lemmas.Bool.{false≢true, not-false}
use Rattle.std.proofs.lemmas.Option.{none-some, same_Some, slice_get_within, slice_get-get_or, get_or_from_slice_get}
use Rattle.dg_model.specs.declared.diagram.Diagram.{Diagram}
use Rattle.dg_model.specs.declared.diagram.Block.{Block}
use Rattle.dg_model.specs.declared.diagram.Edge.{Edge}
use Rattle.dg_model.specs.declared.kind.Kind.{Kind}
use Rattle.dg_model.specs.declared.kind.Kind.TheVariants.{Delay, RateTransition, EnOut}
use Rattle.dg_model.specs.declared.nested.Target.TheVariants.{Port, Enable}
use Rattle.dg_model.specs.Attributes.{attributes_of}
use Rattle.dg_model.specs.Checked.{IsChecked}
use Rattle.dg_model.specs.Hits.{is_slow_to_fast}
use Rattle.dg_model.specs.Instant.{asks_now, is_now, reads_now, takes_now_at, IsInstant}
use Rattle.dg_model.specs.declared.row.Reading.{Reading}
use Rattle.dg_model.specs.LatencyEdges.{asks_ever, latency_edges, LatencyEdge}
use Rattle.dg_model.specs.Library.{row_of}
use Rattle.dg_model.specs.Readable.{HasPorts}
use Rattle.dg_model.specs.Loop.{LeadsNow}
use Rattle.dg_model.specs.Wires.{at_source, driver_of, period_into}
use Rattle.hw_sched.specs.Laws.{ControlsAreEdges, LinesAreEdges}
use Rattle.hw_sched.specs.Storage.{keeps_own}
use Rattle.hw_shows.specs.Timed.{lag_into, lag_of, Feeds}
use Rattle.hw_build.specs.Places.{Places}
use Rattle.hw_build.specs.inner.ElementStep.{ArePlacedInOrder}
use Rattle.hw_build.specs.inner.Entries.{AreOffered, enables_of, keeps_entry}
use Rattle.hw_build.specs.inner.Facts.{count_by, count_by_lag, line_count, AreSpread, LateAreWide}
use Rattle.hw_build.proofs.LineSearch.{driver_some}

-- an edge that is instant leads on
leads_on : (diagram : Diagram) (number : ℕ) (edge : LatencyEdge)
    → slice_get (latency_edges diagram) number ≡ Some edge → IsInstant diagram (attributes_of diagram) edge
    → LeadsNow diagram (attributes_of diagram) edge.from edge.to
leads_on diagram number edge at now = (number, edge, slice_get_within (latency_edges diagram) number edge at, get_or_from_slice_get (latency_edges diagram) number edge edge at, (refl, refl, now))

-- ---- sources that are read in the same sample

asks_with : (kind : Kind) (slower : Bool) → is_now (row_of kind).timing.reads slower ≡ true → asks_ever (row_of kind).timing.asks ≡ true → asks_now kind ≡ true
asks_with (EnOut reset initial) slower now asks = refl
asks_with (Delay delay initial reset) slower now asks = absurd (false≢true now)
asks_with _ slower now asks = absurd (false≢true asks)

module _ (lines : LinesAreEdges) (controls : ControlsAreEdges) (diagram : Diagram) (place_of : ℕ → ℕ)
    (order : ArePlacedInOrder diagram place_of) (block : ℕ) (b : Block)
    (at : slice_get diagram.blocks block ≡ Some b) (inside : block < length diagram.blocks)
    (now : reads_now diagram (attributes_of diagram) block b.kind ≡ true) where
  port_early : (port : ℕ) (edge : Edge) → driver_of diagram block port ≡ Some edge → place_of edge.from < place_of block
  port_early port edge drives =
      let own : LatencyEdge = record { from = edge.from; from_port = edge.from_port; to = block; target = Port port } in
      let is = lines diagram block port edge drives in
      let instant : takes_now_at diagram (attributes_of diagram) own (slice_get diagram.blocks block) ≡ true =
      subst (λ (o : Option Block). takes_now_at diagram (attributes_of diagram) own o ≡ true) (sym at) now in
      order.rise edge.from block inside (leads_on diagram is.0 own is.1 instant)

  pub early : (from : ℕ) → (Feeds diagram block b Enable from) ⊎ ((port : ℕ) × Feeds diagram block b (Port port) from) → place_of from < place_of block
  early from (inl feeds) =
      let edge : LatencyEdge = record { from = from; from_port = 1; to = block; target = Enable } in
      let is = controls diagram block b from at feeds.0 feeds.1 in
      let asks = asks_with b.kind (is_slow_to_fast (period_into diagram (attributes_of diagram) block 1) ((attributes_of diagram).period_at block)) now feeds.1 in
      let instant : takes_now_at diagram (attributes_of diagram) edge (slice_get diagram.blocks block) ≡ true =
      subst (λ (o : Option Block). takes_now_at diagram (attributes_of diagram) edge o ≡ true) (sym at) asks in
      order.rise from block inside (leads_on diagram is.0 edge is.1 instant)
  early from (inr feeds) =
      let edge : Edge = feeds.1.0 in
      subst (λ (n : ℕ). place_of n < place_of block) feeds.1.4 (port_early feeds.0 edge feeds.1.3)

-- ---- lines that have registers

-- the one operand is what the line ends with
pub record IsLate (diagram : Diagram) (places : Places) (block : ℕ) (b : Block) (element : ℕ) (operands : List ℕ) : Type 0 where
  pub source : ℕ
  pub lag : ℕ
  pub one : b.inputs ≡ 1
  pub source_is : period_into diagram (attributes_of diagram) block 1 ≡ Some source
  pub lag_is : lag_into diagram (attributes_of diagram) block b (Port 1) source ≡ Some lag
  pub is : operands ≡ places.offered block 1 element ∷ []

slower_source : (driver own : Option ℕ) → is_slow_to_fast driver own ≡ true → (source : ℕ) × (driver ≡ Some source)
slower_source None own slower = absurd (false≢true slower)
slower_source (Some driver) own slower = (driver, refl)

shared_source : (enable driver : Option ℕ) → keeps_own enable driver ≡ false → (source : ℕ) × (driver ≡ Some source) × (enable ≡ None)
shared_source None None keeps = absurd (false≢true (sym keeps))
shared_source None (Some source) keeps = (source, refl, refl)
shared_source (Some control) driver keeps = absurd (false≢true (sym keeps))

pub late_is : (diagram : Diagram) (places : Places) (block : ℕ) (b : Block) (port element : ℕ) (operands : List ℕ)
    → HasPorts b.kind b.inputs b.outputs → (kind : Kind) → b.kind ≡ kind
    → is_now (row_of kind).timing.reads (is_slow_to_fast (period_into diagram (attributes_of diagram) block 1)
    ((attributes_of diagram).period_at block)) ≡ false
    → keeps_entry b.enable (period_into diagram (attributes_of diagram) block 1) kind ≡ false
    → AreOffered diagram places block b port element kind operands
    → IsLate diagram places block b element operands
late_is diagram places block b port element operands ports (Delay delay initial reset) is before keeps offered =
    let found = shared_source b.enable (period_into diagram (attributes_of diagram) block 1) keeps in
    record {
      source = found.0;
      lag = delay * found.0;
      one = (subst (λ (k : Kind). HasPorts k b.inputs b.outputs) is ports).0;
      source_is = found.1;
      lag_is =
          ap (λ (k : Kind). lag_of (row_of k).timing.reads (row_of k).timing.delay b.enable
          (is_slow_to_fast (period_into diagram (attributes_of diagram) block 1)
          ((attributes_of diagram).period_at block)) found.0) is
          ∙ ap (λ (o : Option ℕ). lag_of Reading.Before delay o (is_slow_to_fast (period_into diagram (attributes_of diagram) block 1) ((attributes_of diagram).period_at block)) found.0) found.2;
      is = offered ∙ ap (λ (o : Option ℕ). places.offered block 1 element ∷ enables_of places block o) found.2;
    }
late_is diagram places block b port element operands ports (RateTransition period initial) is before keeps offered =
    let slower = not-false (is_slow_to_fast (period_into diagram (attributes_of diagram) block 1) ((attributes_of diagram).period_at block)) before in
    let found = slower_source (period_into diagram (attributes_of diagram) block 1) ((attributes_of diagram).period_at block) slower in
    record {
      source = found.0;
      lag = found.0;
      one = (subst (λ (k : Kind). HasPorts k b.inputs b.outputs) is ports).0;
      source_is = found.1;
      lag_is =
          ap (λ (k : Kind). lag_of (row_of k).timing.reads (row_of k).timing.delay b.enable
          (is_slow_to_fast (period_into diagram (attributes_of diagram) block 1)
          ((attributes_of diagram).period_at block)) found.0) is
          ∙ ap (λ (t : Bool). lag_of Reading.BeforeIfSlower (row_of (RateTransition period initial)).timing.delay b.enable t found.0) slower;
      is = offered;
    }
late_is diagram places block b port element operands ports _ is before keeps offered = absurd (false≢true (sym before))

module _ (diagram : Diagram) (places : Places) (level : ℕ → ℕ) (checked : IsChecked diagram)
    (wide : LateAreWide diagram) (spread : AreSpread diagram places) (block : ℕ) (b : Block)
    (at : slice_get diagram.blocks block ≡ Some b)
    (late : (port element : ℕ) (edge : Edge) (source lag : ℕ) → 1 ≤ port → port ≤ b.inputs
    → driver_of diagram block port ≡ Some edge → element < line_count diagram block b port edge
    → (attributes_of diagram).period_at edge.from ≡ Some source
    → lag_into diagram (attributes_of diagram) block b (Port port) source ≡ Some lag
    → level (places.offered block port element) ≡ 0)
  where
    -- it stands on the lowest level
    pub late_low : (element : ℕ) (operands : List ℕ) → IsLate diagram places block b element operands → level (places.offered block 1 element) ≡ 0
    late_low element operands is =
        let one = is.one in
        let driver = driver_some diagram block 1 b checked.wired at (omega arith) (omega (arith, one)) in
        let edge : Edge = driver.0 in
        let source : (attributes_of diagram).period_at edge.from ≡ Some is.source =
        sym (ap (λ (o : Option Edge). at_source o None
        (λ from from_port. (attributes_of diagram).period_at from)) driver.1) ∙ is.source_is in
        let some : 0 < (attributes_of diagram).width_at block 1 = (wide.each block b 1 is.source is.lag edge at (omega arith) (omega (arith, one)) driver.1 is.lag_is).0 in
        let width : ℕ = (attributes_of diagram).width_at edge.from edge.from_port in
        let count : line_count diagram block b 1 edge ≡ (attributes_of diagram).width_at block 1 =
        ap (count_by width ((attributes_of diagram).width_at block 1)
        (lag_into diagram (attributes_of diagram) block b (Port 1))) source
        ∙ ap (count_by_lag width ((attributes_of diagram).width_at block 1)) is.lag_is in
        let place : ℕ = min element (line_count diagram block b 1 edge - 1) in
        let below : place < line_count diagram block b 1 edge = omega (arith, count, some) in
        ap level (spread.offered block b 1 element edge at driver.1) ∙ late 1 place edge is.source is.lag (omega arith) (omega (arith, one)) driver.1 below source is.lag_is

-- ---- what a list of one has

only_get : (x read k : ℕ) → slice_get (x ∷ []) k ≡ Some read → x ≡ read
only_get x read zero at = same_Some x read at
only_get x read (suc k) at = absurd (none-some read at)

pub only_one : (x read : ℕ) → Contains (x ∷ []) read → x ≡ read
only_one x read among = only_get x read among.0 (slice_get-get_or (x ∷ []) among.0 read among.1 ∙ ap Some among.2)
