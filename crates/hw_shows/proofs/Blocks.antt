-- Each kind of block, from what the blocks show that it reads.
use Rattle.std.proofs.Common.{◌≡◌, ℕ, suc, ◌-◌, ◌*◌, ◌<◌, ◌≤◌, ℤ, Bool, true, false, true≢false, not, MatchBool, List, filter, Option, Some, None, slice_get, ap, sym, ◌∙◌, subst, refl, arith}
use Rattle.std.proofs.Common.{le_trans}
use Rattle.std.proofs.lemmas.Option.{none-some, same_Some}
use Rattle.fx_type.specs.declared.spec.TypeSpec.{TypeSpec}
use Rattle.fx_type.specs.declared.decimal.Decimal.{Decimal}
use Rattle.dg_model.specs.declared.diagram.Diagram.{Diagram}
use Rattle.dg_model.specs.declared.diagram.Block.{Block}
use Rattle.dg_model.specs.declared.diagram.Edge.{Edge}
use Rattle.dg_model.specs.declared.kind.Kind.{Kind}
use Rattle.dg_model.specs.declared.kind.Kind.TheVariants.{Inport, Outport, Constant, Ground, Sum, Gain, Product, Switch, Relational, Logic, Convert, Delay, Mux, Demux, RateTransition, Pass}
use Rattle.dg_model.specs.declared.kind.Kind.TheVariants.{EnableTest, EnOut, Terminator}
use Rattle.dg_model.specs.declared.nested.Target.TheVariants.{Port}
use Rattle.dg_model.specs.declared.row.Reading.{Reading}
use Rattle.dg_model.specs.Library.{row_of}
use Rattle.dg_model.specs.Readable.{HasPorts}
use Rattle.dg_model.specs.Signals.{Attributes, Stimulus, Table}
use Rattle.dg_model.specs.Hits.{hits_before, is_enabled_at, counted_hits, is_slow_to_fast}
use Rattle.dg_model.specs.Wires.{driver_of, period_into, value_into}
use Rattle.dg_model.specs.Wired.{root_input, MayStand}
use Rattle.dg_model.specs.Rate.{joins_periods}
use Rattle.dg_model.specs.Instant.{reads_now, asks_now}
use Rattle.dg_model.specs.LatencyEdges.{asks_ever}
use Rattle.dg_model.specs.Equation.{StoresEntry, IsInputAt, is_enabled, ElementEquation, DelayEquation, RateEquation, EnOutEquation, KindEquation}
use Rattle.dg_model.specs.Solves.{IsShown, shown_ports, shown_width}
use Rattle.dg_tables.proofs.Ground.{HasWidths}
use Rattle.hw_shows.specs.Shows.{IsSeenAt, IsSeen}
use Rattle.hw_shows.specs.Timing.{Timing}
use Rattle.hw_shows.specs.Timed.{lag_of, lag_into}
use Rattle.hw_shows.specs.Series.{steady, AreSame}
use Rattle.hw_shows.specs.Waves.{Waves, IsMadeAs, IsScaled, IsMultiplied, IsDelayed, IsPassedOut}
use Rattle.math_list.proofs.Places.{held}
use Rattle.dg_tables.proofs.Sources.{IsRead, elements_read}
use Rattle.hw_shows.proofs.Inputs.{Setting, BlockShows, AreOffered, driver_there, in_time, enabled_now}
use Rattle.hw_shows.proofs.Elements.{carried_out, multiplied, scaled, joined, parted, tested}
use Rattle.hw_shows.proofs.Delays.{period_is, delayed, slowed, still_delayed, enabled_delayed, truth, some_own}
use Rattle.hw_shows.proofs.States.{IsTruth}
use Rattle.hw_shows.proofs.Outputs.{held_out, reset_out}
use Rattle.math_list.proofs.Tests.{some_there}

module _ {diagram : Diagram} {attributes : Attributes} {rank : ℕ → ℕ} {stimulus : Stimulus} {timing : Timing}
    {clocks n : ℕ} {table : Table} {waves : Waves}
    (s : Setting diagram attributes rank stimulus timing clocks n table waves)
    (k : ℕ) (within : suc k ≤ clocks) (block : ℕ) (all : (other : ℕ) → BlockShows s k other) (lower : (driver : ℕ) → rank driver < rank block → BlockShows s (suc k) driver)
    (b : Block) (port element : ℕ) (shown : IsShown diagram attributes block b port element)
  where
    pub showing : 1 ≤ shown_ports b.kind b.outputs
    showing = le_trans shown.port_from shown.port_to

    abbrev IsDue : ℕ → ℕ → Type 0
    IsDue t c = IsSeen timing.cycles (attributes.period_at block) (timing.latency block) (timing.ready block) t c

    -- what its inputs are offered by when it is ready
    abbrev Now : ℕ → Type 0
    Now x = AreOffered s block b shown.block_is showing (suc k) x

    abbrev Value : ℕ → ℤ
    Value c = waves.entry block port element c

    module _ (t c : ℕ) (below : t < n) (early : c < suc k) (due : IsDue t c) where
      -- ---- a Delay
      module _ (delay : ℕ) (initial : List Decimal) (reset : Bool) (is : b.kind ≡ Delay delay initial reset)
          (one : 1 ≤ delay) (single : 1 ≤ b.inputs) (reads : IsRead diagram attributes block 1 element)
          (stored : StoresEntry initial element (attributes.type_at block 1) (waves.first block element))
        where
          moving : (q : ℕ) × (attributes.period_at block ≡ Some q)
          moving = s.timed.moving block b shown.block_is (ap (λ (kind : Kind). (row_of kind).timing.inherits) is)

          driver : (edge : Edge) × (driver_of diagram block 1 ≡ Some edge)
          driver = driver_there s block b shown.block_is showing 1 (omega arith) single

          lag_is : (o : Option ℕ) → b.enable ≡ o → (p : ℕ)
              → lag_into diagram attributes block b (Port 1) p
              ≡ lag_of Reading.Before delay o
              (is_slow_to_fast (period_into diagram attributes block 1) (attributes.period_at block)) p
          lag_is o e p =
              ap (λ (kind : Kind). lag_of (row_of kind).timing.reads (row_of kind).timing.delay b.enable (is_slow_to_fast (period_into diagram attributes block 1) (attributes.period_at block)) p) is
              ∙ ap (λ (o : Option ℕ). lag_of Reading.Before delay o (is_slow_to_fast (period_into diagram attributes block 1) (attributes.period_at block)) p) e

          source_period : (o : Option ℕ) → period_into diagram attributes block 1 ≡ o → attributes.period_at driver.0.from ≡ o
          source_period o f = sym (period_is s block b shown.block_is showing k within all element driver.0 driver.1 reads single) ∙ f

          -- the equation, from the counted hits of the block
          asked : (o : Option ℕ) → b.enable ≡ o → (v : ℤ) → IsInputAt diagram attributes stimulus table block initial element (slice_get (counted_hits table o reset (Some moving.0) t) (delay - 1)) v
              → DelayEquation diagram attributes stimulus table b block delay initial reset element t v
          asked o e v h =
              subst (λ (x : Option ℕ). IsInputAt diagram attributes stimulus table block initial element (slice_get (counted_hits table x reset (attributes.period_at block) t) (delay - 1)) v) (sym e)
              (subst (λ (x : Option ℕ). IsInputAt diagram attributes stimulus table block initial element (slice_get (counted_hits table o reset x t) (delay - 1)) v) (sym moving.1) h)

          -- in an enabled subsystem no line has registers
          no_lag : (control : ℕ) → b.enable ≡ Some control → (p : ℕ) → attributes.period_at driver.0.from ≡ Some p → lag_into diagram attributes block b (Port 1) p ≡ None
          no_lag control e p f = lag_is (Some control) e p

          asks : asks_ever (row_of b.kind).timing.asks ≡ true
          asks = ap (λ (kind : Kind). asks_ever (row_of kind).timing.asks) is

          by_source : (o source : Option ℕ) → b.enable ≡ o → period_into diagram attributes block 1 ≡ source
              → IsDelayed diagram attributes timing clocks waves block b port element delay reset o source
              → DelayEquation diagram attributes stimulus table b block delay initial reset element t (Value c)
          by_source None (Some p) e f made =
              let source_is : attributes.period_at driver.0.from ≡ Some p = source_period (Some p) f in
              let i = in_time s block b shown.block_is showing (Port 1) driver.0.from p (driver.0, omega arith, single, driver.1, refl) source_is in
              let same : moving.0 ≡ p = same_Some moving.0 i.own (sym moving.1 ∙ i.period) ∙ i.same (ap (λ (kind : Kind). joins_periods (row_of kind).timing.reads) is) in
              asked None e (Value c)
              (subst (λ (v : ℤ). IsInputAt diagram attributes stimulus table block initial element (slice_get (hits_before (Some moving.0) t) (delay - 1)) v) (sym (made.at c (omega arith)))
              (delayed s block b shown.block_is showing k within all element driver.0 driver.1 reads single p
              moving.0 (delay * p) source_is moving.1
              (lag_is None e p) initial stored t c below early due delay one same refl))
          by_source None None e f made =
              let source_is : attributes.period_at driver.0.from ≡ None = source_period None f in
              asked None e (Value c)
              (subst (λ (v : ℤ). IsInputAt diagram attributes stimulus table block initial element (slice_get (hits_before (Some moving.0) t) (delay - 1)) v) (sym (made.0.at c (omega arith)))
              (still_delayed s block b shown.block_is showing k within all element driver.0 driver.1 reads single
              moving.0 moving.1 (λ p g. absurd (none-some p (sym source_is ∙ g))) initial stored t c below early
              due delay one (made.1 moving.0 moving.1)))
          by_source (Some control) source e f made =
              let last : suc (delay - 1) ≡ delay = omega arith in
              asked (Some control) e (Value c)
              (subst (λ (v : ℤ). IsInputAt diagram attributes stimulus table block initial element
              (slice_get (counted_hits table (Some control) reset (Some moving.0) t) (delay - 1)) v)
              (sym (made.0.at c (omega arith) ∙ ap (λ (j : ℕ). waves.state block element j c) (sym last)))
              (enabled_delayed s block b shown.block_is showing k within all element driver.0 driver.1 reads single
              moving.0 moving.1 (no_lag control e) initial stored t c below early due control e asks delay reset
              (made.1 moving.0 moving.1) (delay - 1) (omega arith)))

      -- ---- an output port of an enabled subsystem
      module _ (reset : Bool) (initial : List Decimal) (is : b.kind ≡ EnOut reset initial) (single : 1 ≤ b.inputs) (reads : IsRead diagram attributes block 1 element)
          (stored : StoresEntry initial element (attributes.type_at block 1) (waves.first block element)) (now : Now (timing.ready block))
        where
          out_moving : (q : ℕ) × (attributes.period_at block ≡ Some q)
          out_moving = s.timed.moving block b shown.block_is (ap (λ (kind : Kind). (row_of kind).timing.inherits) is)

          out_driver : (edge : Edge) × (driver_of diagram block 1 ≡ Some edge)
          out_driver = driver_there s block b shown.block_is showing 1 (omega arith) single

          inside : (control : ℕ) × (b.enable ≡ Some control)
          inside = some_there b.enable
              (subst (λ (kind : Kind). MayStand (row_of kind).place.stands b.enable) is
              (held (λ (x : Block). MayStand (row_of x.kind).place.stands x.enable) diagram.blocks block b
              s.checked.wired.enables shown.block_is))

          out_asks : asks_ever (row_of b.kind).timing.asks ≡ true
          out_asks = ap (λ (kind : Kind). asks_ever (row_of kind).timing.asks) is

          out_now : asks_now b.kind ≡ true
          out_now = ap (λ (kind : Kind). asks_now kind) is

          out_lag : (p : ℕ) → attributes.period_at out_driver.0.from ≡ Some p → lag_into diagram attributes block b (Port 1) p ≡ None
          out_lag p f = ap (λ (kind : Kind). lag_of (row_of kind).timing.reads (row_of kind).timing.delay b.enable
              (is_slow_to_fast (period_into diagram attributes block 1) (attributes.period_at block)) p) is

          seen : IsSeenAt timing.cycles out_moving.0 (timing.latency block) (timing.ready block) t c
          seen = subst (λ (o : Option ℕ). IsSeen timing.cycles o (timing.latency block) (timing.ready block) t c) out_moving.1 due

          enables : waves.enable block c ≡ table inside.0 1 0 t
          enables = (enabled_now s block b shown.block_is showing inside.0 inside.1 out_asks (suc k) within
              (lower inside.0 (s.checked.controls block b inside.0 shown.block_is out_now inside.1)) out_now).at t c
              below early due

          offered : waves.offered block 1 element c ≡ value_into diagram attributes table block 1 element t
          offered = (now 1 element (omega arith) single reads).at t c below early due

          some_out : 0 < out_moving.0
          some_out = some_own s block b shown.block_is showing k within all element out_driver.0 out_driver.1 reads single out_moving.0 out_moving.1

          out_truth : IsTruth (table inside.0 1 0 t)
          out_truth = truth s block b shown.block_is showing k within all element out_driver.0 out_driver.1 reads
              single out_moving.0 out_moving.1 out_lag initial stored t c below early due inside.0 inside.1 out_asks
              t below seen.is_hit

          passed_out : (r : Bool) → reset ≡ r
              → IsPassedOut diagram attributes timing clocks waves block b port element r
              → EnOutEquation diagram attributes stimulus table b block r initial element t (Value c)
          passed_out false e made =
              subst (λ (x : Option ℕ). IsInputAt diagram attributes stimulus table block initial element
              (slice_get (filter (is_enabled table x) (hits_before (attributes.period_at block) (suc t))) 0)
              (Value c)) (sym inside.1)
              (subst (λ (x : Option ℕ). IsInputAt diagram attributes stimulus table block initial element
              (slice_get (filter (is_enabled_at table inside.0) (hits_before x (suc t))) 0) (Value c))
              (sym out_moving.1)
              (held_out diagram attributes stimulus table block inside.0 out_moving.0 t element initial some_out
              seen.is_hit out_truth clocks c (omega arith) (waves.enable block) (waves.offered block 1 element)
              (waves.state block element 1) (waves.entry block port element) enables offered made.0
              (enabled_delayed s block b shown.block_is showing k within all element out_driver.0 out_driver.1 reads
              single out_moving.0 out_moving.1 out_lag initial stored t c below early due inside.0 inside.1
              out_asks 1 false (made.1 out_moving.0 out_moving.1) 0 (omega arith))))
          passed_out true e made =
              subst (λ (x : Option ℕ). MatchBool (is_enabled table x t)
              (Value c ≡ value_into diagram attributes table block 1 element t)
              (StoresEntry initial element (attributes.type_at block 1) (Value c))) (sym inside.1)
              (reset_out diagram attributes stimulus table block inside.0 out_moving.0 t element initial some_out
              seen.is_hit out_truth clocks c (omega arith) (waves.enable block) (waves.offered block 1 element)
              (steady (waves.first block element))
              (waves.entry block port element) enables offered made stored)

      -- ---- a rate transition
      module _ (unit : Decimal) (initial : List Decimal) (is : b.kind ≡ RateTransition unit initial) (single : 1 ≤ b.inputs) (reads : IsRead diagram attributes block 1 element)
          (stored : StoresEntry initial element (attributes.type_at block 1) (waves.first block element))
          (now : reads_now diagram attributes block (RateTransition unit initial) ≡ true
          → Now (timing.ready block))
          (made : AreSame clocks (waves.entry block port element) (waves.offered block 1 element))
        where
          rate_driver : (edge : Edge) × (driver_of diagram block 1 ≡ Some edge)
          rate_driver = driver_there s block b shown.block_is showing 1 (omega arith) single

          slow : (source own : Option ℕ) → period_into diagram attributes block 1 ≡ source → attributes.period_at block ≡ own → is_slow_to_fast source own ≡ true
              → IsInputAt diagram attributes stimulus table block initial element (slice_get (hits_before source (suc t)) 1) (Value c)
          slow None own e f is_slow = absurd (true≢false (sym is_slow))
          slow (Some p) None e f is_slow = absurd (true≢false (sym is_slow))
          slow (Some p) (Some q) e f is_slow =
              let source_is : attributes.period_at rate_driver.0.from ≡ Some p = sym (period_is s block b shown.block_is showing k within all element rate_driver.0 rate_driver.1 reads single) ∙ e in
              let slower : is_slow_to_fast (period_into diagram attributes block 1) (attributes.period_at block)
              ≡ true = ap (λ (o : Option ℕ). is_slow_to_fast o (attributes.period_at block)) e
              ∙ ap (λ (o : Option ℕ). is_slow_to_fast (Some p) o) f ∙ is_slow in
              let lag : lag_into diagram attributes block b (Port 1) p ≡ Some p =
              ap (λ (kind : Kind). lag_of (row_of kind).timing.reads (row_of kind).timing.delay b.enable (is_slow_to_fast (period_into diagram attributes block 1) (attributes.period_at block)) p) is
              ∙ ap (λ (slower : Bool). lag_of Reading.BeforeIfSlower 0 b.enable slower p) slower in
              subst (λ (v : ℤ). IsInputAt diagram attributes stimulus table block initial element (slice_get (hits_before (Some p) (suc t)) 1) v) (sym (made.at c (omega arith)))
              (slowed s block b shown.block_is showing k within all element rate_driver.0 rate_driver.1 reads single p q p source_is f lag initial stored t c below early due refl)

          joined_rates : RateEquation diagram attributes stimulus table block initial element t (Value c)
          joined_rates = go (is_slow_to_fast (period_into diagram attributes block 1) (attributes.period_at block)) refl now
            where
              go : (slower : Bool) → is_slow_to_fast (period_into diagram attributes block 1) (attributes.period_at block) ≡ slower → (not slower ≡ true → Now (timing.ready block))
                  → MatchBool slower (IsInputAt diagram attributes stimulus table block initial element
                  (slice_get (hits_before (period_into diagram attributes block 1) (suc t)) 1) (Value c))
                  (Value c ≡ value_into diagram attributes table block 1 element t)
              go true e at_once = slow (period_into diagram attributes block 1) (attributes.period_at block) refl refl e
              go false e at_once = made.at c (omega arith) ∙ (at_once refl 1 element (omega arith) single reads).at t c below early due

      -- ---- shared operations
      module _ (now : Now (timing.ready block))
          (at_slot : (slot : ℕ) → timing.slot block element ≡ Some slot → Now slot)
          (reads : (input : ℕ) → 1 ≤ input → input ≤ b.inputs
          → IsRead diagram attributes block input element) where
        product : b.kind ≡ Product → b.inputs ≡ 2 → (o : Option ℕ) → timing.slot block element ≡ o
            → IsMultiplied diagram attributes timing clocks waves block b port element o
            → ElementEquation diagram attributes stimulus table b block element t (Value c)
        product is two None e made = carried_out s block b shown.block_is showing (suc k) within port element t c below early due now reads made
        product is two (Some slot) e made =
            multiplied s block b shown.block_is showing (suc k) within port element slot e (at_slot slot e) reads t c below early due is two _ _ refl refl made

        gain : (value : List Decimal) (spec : TypeSpec) → b.kind ≡ Gain value spec → b.inputs ≡ 1 → (o : Option ℕ)
            → timing.slot block element ≡ o
            → IsScaled diagram attributes timing clocks waves block b port element value o
            → ElementEquation diagram attributes stimulus table b block element t (Value c)
        gain value spec is single None e made = carried_out s block b shown.block_is showing (suc k) within port element t c below early due now reads made
        gain value spec is single (Some slot) e made =
            scaled s block b shown.block_is showing (suc k) within port element slot e (at_slot slot e) reads t c below early due value spec is single made.0 made.1 _ refl made.2

      -- ---- a root input
      input_shows : (number width : ℕ) → b.kind ≡ Inport number width → b.outputs ≡ 1 → port ≤ b.outputs
          → element < attributes.width_at block port
          → AreSame clocks (waves.entry block port element) (waves.input number element)
          → Value c ≡ stimulus number element t
      input_shows number width is single to inside made =
          let base = s.timed.base block b shown.block_is (ap (λ (kind : Kind). (row_of kind).timing.inherits) is) in
          let first : port ≡ 1 = omega (arith, shown.port_from) in
          let at_once : IsSeen timing.cycles (attributes.period_at block) 0 0 t c =
          subst (λ (r : ℕ). IsSeen timing.cycles (attributes.period_at block) 0 r t c) base.1
          (subst (λ (l : ℕ). IsSeen timing.cycles (attributes.period_at block) l (timing.ready block) t c)
          base.0 due) in
          made.at c (omega arith)
          ∙ s.driven.shows block b number element t c shown.block_is
          (ap (λ (kind : Kind). root_input (row_of kind).place.role) is)
          (subst (λ (m : ℕ). element < attributes.width_at block m) first inside) below
          (omega arith) at_once

      -- ---- all kinds
      pub by_kind : (kind : Kind) → b.kind ≡ kind → HasPorts kind b.inputs b.outputs
          → HasWidths diagram attributes block kind b.inputs b.outputs
          → element < shown_width diagram attributes kind block port → port ≤ shown_ports kind b.outputs
          → (row_of kind).parameters
          → (reads_now diagram attributes block kind ≡ true → Now (timing.ready block))
          → (reads_now diagram attributes block kind ≡ true → (slot : ℕ) → timing.slot block element ≡ Some slot
          → Now slot)
          → IsMadeAs diagram attributes timing clocks waves kind block b port element → KindEquation diagram attributes stimulus table kind b block port element t (Value c)
      by_kind (Inport number width) is ports widths below_width to parameters now at_slot made = input_shows number width is ports.1 to below_width made
      by_kind (Outport number) is ports widths below_width to parameters now at_slot made =
          carried_out s block b shown.block_is showing (suc k) within port element t c below early due (now refl)
          (elements_read diagram attributes block b.inputs b.outputs
          (Outport number) port element shown.port_from to below_width widths) made
      by_kind (Constant value) is ports widths below_width to parameters now at_slot made =
          subst (λ (v : ℤ). StoresEntry value element (attributes.type_at block 1) v)
          (sym (made.steady_at.at c (omega arith))) made.stored
      by_kind Ground is ports widths below_width to parameters now at_slot made = made.at c (omega arith)
      by_kind (Sum negative accum) is ports widths below_width to parameters now at_slot made =
          carried_out s block b shown.block_is showing (suc k) within port element t c below early due (now refl)
          (elements_read diagram attributes block b.inputs b.outputs
          (Sum negative accum) port element shown.port_from to below_width widths) made
      by_kind (Gain value spec) is ports widths below_width to parameters now at_slot made =
          gain (now refl) (at_slot refl) (elements_read diagram attributes block b.inputs b.outputs
          (Gain value spec) port element shown.port_from to below_width widths) value spec is ports.0
          (timing.slot block element) refl made
      by_kind Product is ports widths below_width to parameters now at_slot made =
          product (now refl) (at_slot refl) (elements_read diagram attributes block b.inputs b.outputs Product port
          element shown.port_from to below_width widths) is ports.0 (timing.slot block element) refl made
      by_kind (Switch criterion threshold) is ports widths below_width to parameters now at_slot made =
          carried_out s block b shown.block_is showing (suc k) within port element t c below early due (now refl)
          (elements_read diagram attributes block b.inputs b.outputs
          (Switch criterion threshold) port element shown.port_from to below_width widths) made
      by_kind (Relational operator) is ports widths below_width to parameters now at_slot made =
          carried_out s block b shown.block_is showing (suc k) within port element t c below early due (now refl)
          (elements_read diagram attributes block b.inputs b.outputs
          (Relational operator) port element shown.port_from to below_width widths) made
      by_kind (Logic operator) is ports widths below_width to parameters now at_slot made =
          carried_out s block b shown.block_is showing (suc k) within port element t c below early due (now refl)
          (elements_read diagram attributes block b.inputs b.outputs
          (Logic operator) port element shown.port_from to below_width widths) made
      by_kind (Convert stored) is ports widths below_width to parameters now at_slot made =
          carried_out s block b shown.block_is showing (suc k) within port element t c below early due (now refl)
          (elements_read diagram attributes block b.inputs b.outputs
          (Convert stored) port element shown.port_from to below_width widths) made
      by_kind (Delay delay initial reset) is ports widths below_width to parameters now at_slot made =
          by_source delay initial reset is parameters.0.0 (omega (arith, ports.0))
          (elements_read diagram attributes block b.inputs b.outputs (Delay delay initial reset) port element shown.port_from to below_width widths 1 (omega arith) (omega (arith, ports.0)))
          made.0 b.enable (period_into diagram attributes block 1) refl refl made.1
      by_kind (Mux sizes) is ports widths below_width to parameters now at_slot made = joined s block b shown.block_is showing (suc k) within port element t c below early due (now refl) made
      by_kind (Demux sizes) is ports widths below_width to parameters now at_slot made =
          parted s block b shown.block_is showing (suc k) within port element t c below early due (now refl) (omega (arith, ports.0)) shown.port_from to below_width widths (made.at c (omega arith))
      by_kind (RateTransition unit initial) is ports widths below_width to parameters now at_slot made =
          joined_rates unit initial is (omega (arith, ports.0))
          (elements_read diagram attributes block b.inputs b.outputs (RateTransition unit initial) port element shown.port_from to below_width widths 1 (omega arith) (omega (arith, ports.0)))
          made.0 now made.1
      by_kind (Pass width) is ports widths below_width to parameters now at_slot made =
          carried_out s block b shown.block_is showing (suc k) within port element t c below early due (now refl)
          (elements_read diagram attributes block b.inputs b.outputs
          (Pass width) port element shown.port_from to below_width widths) made
      by_kind EnableTest is ports widths below_width to parameters now at_slot made =
          tested s block b shown.block_is showing (suc k) within port element t c below early due (now refl) (omega (arith, ports.0)) (made.at c (omega arith))
      by_kind (EnOut reset initial) is ports widths below_width to parameters now at_slot made =
          passed_out reset initial is (omega (arith, ports.0))
          (elements_read diagram attributes block b.inputs b.outputs (EnOut reset initial) port element shown.port_from to below_width widths 1 (omega arith) (omega (arith, ports.0)))
          made.0 (now refl) reset refl made.1
      by_kind Terminator is ports widths below_width to parameters now at_slot made = absurd (omega (arith, ports.1, to, shown.port_from))
