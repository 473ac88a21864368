-- The equation of a block reads its instant drivers at the sample, and anything before it: tables that agree there have the same equations.
use Rattle.std.proofs.Common.{◌≡◌, ℕ, suc, ◌+◌, ◌-◌, ◌<◌, ◌≤◌, ◌⊎◌, inl, inr, Bool, true, false, not, MatchBool, List, map, sum, length, filter, slice_get, Option, Some, None, ℤ, pos, int_lt, ap, sym}
use Rattle.std.proofs.Common.{◌∙◌, subst, refl, arith, eq-or-lt_of_le, le_of_suc-le-suc}
use Rattle.std.specs.Ordering.{int_eq}
use Rattle.std.proofs.lemmas.List.Elements.{All-filter}
use Rattle.fx_type.specs.declared.decimal.Decimal.{Decimal}
use Rattle.dg_model.specs.declared.diagram.Diagram.{Diagram}
use Rattle.dg_model.specs.declared.diagram.Block.{Block}
use Rattle.dg_model.specs.declared.kind.Kind.{Kind}
use Rattle.dg_model.specs.declared.kind.Kind.TheVariants.{Inport, Outport, Constant, Ground, Sum, Gain, Product, Switch, Relational, Logic, Convert, Delay, Mux, Demux, RateTransition, Pass}
use Rattle.dg_model.specs.declared.kind.Kind.TheVariants.{EnableTest, EnOut, Terminator}
use Rattle.dg_model.specs.declared.op.Op.{Op}
use Rattle.dg_model.specs.Signals.{Attributes, Stimulus, Table}
use Rattle.dg_model.specs.Readable.{HasPorts}
use Rattle.dg_model.specs.Hits.{hits_before, is_enabled_at, counted_hits, is_slow_to_fast}
use Rattle.dg_model.specs.Operation.{OpGives, stored_truth}
use Rattle.dg_model.specs.Solves.{IsShown, shown_ports, shown_width, AgreeAt}
use Rattle.math_list.specs.Numbers.{numbers_from}
use Rattle.dg_model.specs.Wires.{width_into, type_into, types_into, value_into, period_into}
use Rattle.dg_model.specs.Equation.{StoresEntry, IsOpOf, signs_of, is_enabled, IsInputAt, ElementEquation, DelayEquation, MuxEquation, DemuxEquation, RateEquation, EnableEquation, EnOutEquation}
use Rattle.dg_model.specs.Equation.{KindEquation}
use Rattle.dg_model.specs.Instant.{reads_now, asks_now}
use Rattle.dg_tables.proofs.Ground.{IsRanked, HasWidths}
use Rattle.math_list.proofs.Places.{held}
use Rattle.dg_tables.proofs.Lists.{hits_all, second_hit, filter_same, since_same, counted_below, below_repeated}
use Rattle.math_list.proofs.Numbers.{any_same, get_number, length_mapped}
use Rattle.math_list.proofs.Sums.{sum_before}
use Rattle.dg_tables.proofs.Sources.{IsRead, SourceAgrees, same_into, same_values, control_shown, is_readable}

module _ (diagram : Diagram) (attributes : Attributes) (rank : ℕ → ℕ) (checked : IsRanked diagram attributes rank) (stimulus : Stimulus) (table other : Table)
    (block : ℕ) (b : Block) (block_is : slice_get diagram.blocks block ≡ Some b) (t : ℕ)
    (before : (driver s : ℕ) → s < t → AgreeAt diagram attributes table other driver s)
  where
    -- the tables agree on the drivers at a sample
    abbrev Agree : ℕ → Type 0
    Agree s = (port : ℕ) → SourceAgrees diagram attributes checked.wired table other block port s

    earlier : (s : ℕ) → s < t → Agree s
    earlier s below port edge e = before edge.from s below

    up_to : Agree t → (s : ℕ) → s < suc t → Agree s
    up_to now s below = go (eq-or-lt_of_le (le_of_suc-le-suc below))
      where
        go : (s ≡ t) ⊎ (s < t) → Agree s
        go (inl e) = subst Agree (sym e) now
        go (inr l) = earlier s l

    -- the controls at a sample
    control_same : (control s : ℕ) → b.enable ≡ Some control → AgreeAt diagram attributes table other control s → is_enabled_at table control s ≡ is_enabled_at other control s
    control_same control s e agree =
        let c = control_shown diagram attributes checked.wired checked.widths block b control block_is e in
        ap (λ (v : ℤ). int_eq v (pos 1)) (agree c.0 1 0 c.1)

    -- an input at a hit
    pub input_same : (initial : List Decimal) (element : ℕ) (hit : Option ℕ) (v : ℤ) → ((h : ℕ) → hit ≡ Some h → Agree h) → IsRead diagram attributes block 1 element
        → IsInputAt diagram attributes stimulus table block initial element hit v → IsInputAt diagram attributes stimulus other block initial element hit v
    input_same initial element None v agree below h = h
    input_same initial element (Some s) v agree below h = h ∙ same_into diagram attributes checked.wired table other block 1 element s (agree s refl 1) below

    -- ---- each kind
    element_same : (element : ℕ) (v : ℤ) → Agree t → ((port : ℕ) → 1 ≤ port → port ≤ b.inputs → IsRead diagram attributes block port element)
        → ElementEquation diagram attributes stimulus table b block element t v → ElementEquation diagram attributes stimulus other b block element t v
    element_same element v agree reads h =
        subst (λ (values : List ℤ). (op : Op) × IsOpOf b.kind element (attributes.param_at block) (type_into diagram attributes block 2) op
        × OpGives (record {
          op = op;
          signs = signs_of b.kind;
          types =
              types_into diagram attributes block b.inputs;
          result =
              attributes.type_at block 1;
          rounding = b.rounding;
          saturate = b.saturate;
        }) values v)
        (same_values diagram attributes checked.wired table other block b.inputs element t (λ port from to. agree port) reads) h

    counted_same : (reset : Bool) → counted_hits table b.enable reset (attributes.period_at block) t ≡ counted_hits other b.enable reset (attributes.period_at block) t
    counted_same reset = go b.enable refl reset
      where
        go : (o : Option ℕ) → b.enable ≡ o → (reset : Bool) → counted_hits table o reset (attributes.period_at block) t ≡ counted_hits other o reset (attributes.period_at block) t
        go None e reset = refl
        go (Some control) e false = filter_same (is_enabled_at table control) (is_enabled_at other control) (attributes.period_at block) t (λ s l. control_same control s e (before control s l))
        go (Some control) e true = since_same table other control (attributes.period_at block) t (λ s l. control_same control s e (before control s l))

    delay_same : (delay : ℕ) (initial : List Decimal) (reset : Bool) (element : ℕ) (v : ℤ) → IsRead diagram attributes block 1 element
        → DelayEquation diagram attributes stimulus table b block delay initial reset element t v → DelayEquation diagram attributes stimulus other b block delay initial reset element t v
    delay_same delay initial reset element v reads h =
        let hits = counted_hits table b.enable reset (attributes.period_at block) t in
        subst (λ (hits : List ℕ). IsInputAt diagram attributes stimulus other block initial element (slice_get hits (delay - 1)) v) (counted_same reset)
        (input_same initial element (slice_get hits (delay - 1)) v
        (λ s e. earlier s (held (λ h. h < t) hits (delay - 1) s
        (counted_below table b.enable reset (attributes.period_at block) t) e)) reads h)

    rate_same : (initial : List Decimal) (element : ℕ) (v : ℤ)
        → (not (is_slow_to_fast (period_into diagram attributes block 1) (attributes.period_at block)) ≡ true
        → Agree t) → IsRead diagram attributes block 1 element
        → RateEquation diagram attributes stimulus table block initial element t v → RateEquation diagram attributes stimulus other block initial element t v
    rate_same initial element v now reads h = go (is_slow_to_fast (period_into diagram attributes block 1) (attributes.period_at block)) now h
      where
        go : (b : Bool) → (not b ≡ true → Agree t)
            → MatchBool b (IsInputAt diagram attributes stimulus table block initial element
            (slice_get (hits_before (period_into diagram attributes block 1) (suc t)) 1) v)
            (v ≡ value_into diagram attributes table block 1 element t)
            → MatchBool b (IsInputAt diagram attributes stimulus other block initial element
            (slice_get (hits_before (period_into diagram attributes block 1) (suc t)) 1) v)
            (v ≡ value_into diagram attributes other block 1 element t)
        go true now h =
            input_same initial element (slice_get (hits_before (period_into diagram attributes block 1) (suc t)) 1) v
            (λ s e. earlier s (le_of_suc-le-suc (second_hit (period_into diagram attributes block 1) (suc t) 0 s e))) reads h
        go false now h = h ∙ same_into diagram attributes checked.wired table other block 1 element t (now refl 1) reads

    mux_same : (element : ℕ) (v : ℤ) → Agree t → MuxEquation diagram attributes stimulus table b block element t v → MuxEquation diagram attributes stimulus other b block element t v
    mux_same element v now h = (
      h.0,
      h.1,
      h.2,
      h.3
          ∙ same_into diagram attributes checked.wired table other block (suc h.0) h.1 t (now (suc h.0))
          (below_repeated (width_into diagram attributes block (suc h.0)) h.1 (inr within)),
    )
      where
        signal_is : h.0 < b.inputs
        signal_is = subst (λ (n : ℕ). h.0 < n) (length_mapped (width_into diagram attributes block) 1 b.inputs) h.2.signal_is

        within : h.1 < width_into diagram attributes block (suc h.0)
        within =
            let e : 1 + h.0 ≡ suc h.0 = omega arith in
            subst (λ (n : ℕ). h.1 < n) (get_number (width_into diagram attributes block) 1 b.inputs h.0 signal_is ∙ ap (width_into diagram attributes block) e) h.2.within

    demux_same : (port element : ℕ) (v : ℤ) → Agree t → 1 ≤ port → port ≤ b.outputs → element < attributes.width_at block port
        → width_into diagram attributes block 1 ≡ sum (map (attributes.width_at block) (numbers_from 1 b.outputs))
        → DemuxEquation diagram attributes stimulus table block port element t v → DemuxEquation diagram attributes stimulus other block port element t v
    demux_same port element v now from to below width h =
        let place = sum (map (attributes.width_at block) (numbers_from 1 (port - 1))) + element in
        h ∙ same_into diagram attributes checked.wired table other block 1 place t (now 1) (below_repeated (width_into diagram attributes block 1) place (inr within))
      where
        within : sum (map (attributes.width_at block) (numbers_from 1 (port - 1))) + element < width_into diagram attributes block 1
        within =
            let e : attributes.width_at block (1 + (port - 1)) ≡ attributes.width_at block port = ap (attributes.width_at block) (omega arith) in
            omega (arith, e, width, below, sum_before (attributes.width_at block) 1 b.outputs (port - 1) (omega arith))

    enable_same : (v : ℤ) → Agree t → EnableEquation diagram attributes stimulus table block t v → EnableEquation diagram attributes stimulus other block t v
    enable_same v now h =
        h ∙ ap stored_truth (any_same (λ element. int_lt (pos 0)
        (value_into diagram attributes table block 1 element t))
        (λ element. int_lt (pos 0) (value_into diagram attributes other block 1 element t)) 0
        (width_into diagram attributes block 1)
        (λ element from to. ap (λ (x : ℤ). int_lt (pos 0) x)
        (same_into diagram attributes checked.wired table other block 1 element t (now 1)
        (below_repeated (width_into diagram attributes block 1) element (inr (omega (arith, to)))))))

    -- the control of the subsystem, known at the sample too
    module _ (control_now : (control : ℕ) → b.enable ≡ Some control → AgreeAt diagram attributes table other control t) where
      enabled_same : (s : ℕ) → s < suc t → is_enabled table b.enable s ≡ is_enabled other b.enable s
      enabled_same s below = go b.enable refl
        where
          at : (control : ℕ) → b.enable ≡ Some control → (s ≡ t) ⊎ (s < t) → AgreeAt diagram attributes table other control s
          at control e (inl h) = subst (λ (k : ℕ). AgreeAt diagram attributes table other control k) (sym h) (control_now control e)
          at control e (inr l) = before control s l

          go : (o : Option ℕ) → b.enable ≡ o → is_enabled table o s ≡ is_enabled other o s
          go None e = refl
          go (Some control) e = control_same control s e (at control e (eq-or-lt_of_le (le_of_suc-le-suc below)))

      output_same : (reset : Bool) (initial : List Decimal) (element : ℕ) (v : ℤ) → Agree t → IsRead diagram attributes block 1 element
          → EnOutEquation diagram attributes stimulus table b block reset initial element t v → EnOutEquation diagram attributes stimulus other b block reset initial element t v
      output_same false initial element v now reads h =
          let hits = filter (is_enabled table b.enable) (hits_before (attributes.period_at block) (suc t)) in
          subst (λ (hits : List ℕ). IsInputAt diagram attributes stimulus other block initial element (slice_get hits 0) v)
          (filter_same (is_enabled table b.enable) (is_enabled other b.enable) (attributes.period_at block) (suc t) enabled_same)
          (input_same initial element (slice_get hits 0) v
          (λ s e. up_to now s (held (λ h. h < suc t) hits 0 s
          (All-filter (is_enabled table b.enable) (λ h. h < suc t)
          (hits_before (attributes.period_at block) (suc t))
          (hits_all (attributes.period_at block) (suc t))) e)) reads h)
      output_same true initial element v now reads h =
          subst (λ (enabled : Bool). MatchBool enabled (v ≡ value_into diagram attributes other block 1 element t)
          (StoresEntry initial element (attributes.type_at block 1) v)) (enabled_same t (omega arith))
          (go (is_enabled table b.enable t) h)
        where
          go : (enabled : Bool) → MatchBool enabled (v ≡ value_into diagram attributes table block 1 element t) (StoresEntry initial element (attributes.type_at block 1) v)
              → MatchBool enabled (v ≡ value_into diagram attributes other block 1 element t) (StoresEntry initial element (attributes.type_at block 1) v)
          go true h = h ∙ same_into diagram attributes checked.wired table other block 1 element t (now 1) reads
          go false h = h

    -- ---- all kinds
    module _ (port element : ℕ) (v : ℤ) (shown : IsShown diagram attributes block b port element) where
      reads_from : (kind : Kind) → element < shown_width diagram attributes kind block port → port ≤ shown_ports kind b.outputs
          → ((input output : ℕ) → 1 ≤ input → input ≤ b.inputs → 1 ≤ output → output ≤ shown_ports kind b.outputs
          → (width_into diagram attributes block input ≡ 1)
          ⊎ (width_into diagram attributes block input ≡ shown_width diagram attributes kind block output))
          → (input : ℕ) → 1 ≤ input → input ≤ b.inputs → IsRead diagram attributes block input element
      reads_from kind below to widths input from input_to = below_repeated (width_into diagram attributes block input) element (go (widths input port from input_to shown.port_from to))
        where
          go : (width_into diagram attributes block input ≡ 1)
              ⊎ (width_into diagram attributes block input ≡ shown_width diagram attributes kind block port)
              → (width_into diagram attributes block input ≡ 1)
              ⊎ (element < width_into diagram attributes block input)
          go (inl e) = inl e
          go (inr e) = inr (subst (λ (n : ℕ). element < n) (sym e) below)

      by_kind : (kind : Kind) → HasPorts kind b.inputs b.outputs
          → HasWidths diagram attributes block kind b.inputs b.outputs
          → element < shown_width diagram attributes kind block port → port ≤ shown_ports kind b.outputs
          → (reads_now diagram attributes block kind ≡ true → Agree t) → (asks_now kind ≡ true → (control : ℕ) → b.enable ≡ Some control → AgreeAt diagram attributes table other control t)
          → KindEquation diagram attributes stimulus table kind b block port element t v → KindEquation diagram attributes stimulus other kind b block port element t v
      by_kind (Inport number width) ports widths below to now control h = h
      by_kind (Constant value) ports widths below to now control h = h
      by_kind Ground ports widths below to now control h = h
      by_kind (Delay length initial reset) ports widths below to now control h =
          delay_same length initial reset element v
          (reads_from (Delay length initial reset) below to widths 1 (omega arith) (omega (arith, ports.0))) h
      by_kind (Mux sizes) ports widths below to now control h = mux_same element v (now refl) h
      by_kind (Demux sizes) ports widths below to now control h = demux_same port element v (now refl) shown.port_from to below widths h
      by_kind (RateTransition period initial) ports widths below to now control h =
          rate_same initial element v now (reads_from (RateTransition period initial) below to widths 1
          (omega arith) (omega (arith, ports.0))) h
      by_kind EnableTest ports widths below to now control h = enable_same v (now refl) h
      by_kind (EnOut reset initial) ports widths below to now control h =
          output_same (control refl) reset initial element v (now refl)
          (reads_from (EnOut reset initial) below to widths 1 (omega arith) (omega (arith, ports.0))) h
      by_kind Terminator ports widths below to now control h = absurd h
      by_kind (Outport number) ports widths below to now control h = element_same element v (now refl) (reads_from (Outport number) below to widths) h
      by_kind (Sum negative accum) ports widths below to now control h = element_same element v (now refl) (reads_from (Sum negative accum) below to widths) h
      by_kind (Gain value param) ports widths below to now control h = element_same element v (now refl) (reads_from (Gain value param) below to widths) h
      by_kind Product ports widths below to now control h = element_same element v (now refl) (reads_from Product below to widths) h
      by_kind (Switch criterion threshold) ports widths below to now control h = element_same element v (now refl) (reads_from (Switch criterion threshold) below to widths) h
      by_kind (Relational operator) ports widths below to now control h = element_same element v (now refl) (reads_from (Relational operator) below to widths) h
      by_kind (Logic operator) ports widths below to now control h = element_same element v (now refl) (reads_from (Logic operator) below to widths) h
      by_kind (Convert stored) ports widths below to now control h = element_same element v (now refl) (reads_from (Convert stored) below to widths) h
      by_kind (Pass width) ports widths below to now control h = element_same element v (now refl) (reads_from (Pass width) below to widths) h

      -- where the tables agree before t, and at t on the blocks of a lesser rank
      pub carried : ((driver : ℕ) → rank driver < rank block → AgreeAt diagram attributes table other driver t)
          → KindEquation diagram attributes stimulus table b.kind b block port element t v → KindEquation diagram attributes stimulus other b.kind b block port element t v
      carried lower h =
          by_kind b.kind (is_readable diagram attributes checked.wired block b block_is).ports (checked.widths block b block_is) shown.element_below shown.port_to
          (λ now input edge e. lower edge.from (checked.drivers block b input edge block_is now e))
          (λ asks control e. lower control (checked.controls block b control block_is asks e)) h
