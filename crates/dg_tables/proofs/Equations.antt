-- The equation of a block gives a number, and it is in range.
use Rattle.std.proofs.Common.{◌≡◌, ℕ, suc, ◌+◌, ◌-◌, ◌<◌, ◌≤◌, ◌⊎◌, inl, inr, Bool, true, false, not, MatchBool, List, [], ◌∷◌, map, sum, length, filter, slice_get, Option, Some, None, MatchOption, ℤ}
use Rattle.std.proofs.Common.{pos, int_lt, All, ap, sym, ◌∙◌, subst, subst₂, refl, arith, eq-or-lt_of_le, le_of_suc-le-suc}
use Rattle.std.specs.List.{list_any}
use Rattle.std.proofs.lemmas.Int.{ints}
use Rattle.std.proofs.lemmas.List.Elements.{All-head, All-filter}
use Rattle.fx_type.specs.declared.kind.FxType.{FxType}
use Rattle.fx_type.specs.declared.kind.FxType.TheVariants.{Num, Logical}
use Rattle.fx_type.specs.declared.decimal.Decimal.{Decimal}
use Rattle.fx_type.specs.FxType.{IsType, InRange}
use Rattle.fx_type.specs.Conversion.{Stores}
use Rattle.dg_model.specs.declared.diagram.Diagram.{Diagram}
use Rattle.dg_model.specs.declared.diagram.Block.{Block}
use Rattle.dg_model.specs.declared.diagram.Edge.{Edge}
use Rattle.dg_model.specs.declared.kind.Kind.{Kind}
use Rattle.dg_model.specs.declared.kind.Kind.TheVariants.{Inport, Outport, Constant, Ground, Sum, Gain, Product, Switch, Relational, Logic, Convert, Delay, Mux, Demux, RateTransition, Pass}
use Rattle.dg_model.specs.declared.kind.Kind.TheVariants.{EnableTest, EnOut, Terminator}
use Rattle.dg_model.specs.declared.kind.Gate.{Gate}
use Rattle.dg_model.specs.declared.kind.Gate.TheVariants.{Not}
use Rattle.dg_model.specs.declared.op.Op.{Op}
use Rattle.dg_model.specs.declared.op.Op.TheVariants.{Sum as OpSum, Gain as OpGain, Product as OpProduct, Switch as OpSwitch, Relational as OpRelational, Logic as OpLogic, Convert as OpConvert}
use Rattle.dg_model.specs.declared.op.Op.TheVariants.{Pass as OpPass}
use Rattle.dg_model.specs.Signals.{Attributes, Stimulus, Table}
use Rattle.dg_model.specs.Readable.{HasPorts}
use Rattle.dg_model.specs.Hits.{hits_before, counted_hits, is_slow_to_fast}
use Rattle.dg_model.specs.Operation.{AreInRange, stored_truth, type_of, value_of}
use Rattle.dg_model.specs.Solves.{IsShown, shown_ports, shown_width}
use Rattle.math_list.specs.Numbers.{numbers_from}
use Rattle.dg_model.specs.Wires.{driver_of, at_source, repeated, width_into, widths_into, type_into, types_into, value_into, values_into, period_into}
use Rattle.dg_model.specs.Equation.{accumulator, StoresEntry, IsOpOf, IsPart, is_enabled, IsInputAt, ElementEquation, MuxEquation, RateEquation, EnableEquation, EnOutEquation, KindEquation}
use Rattle.fx_round.specs.Laws.{StoringGivesOne}
use Rattle.dg_blocks.specs.Laws.{OperationGivesOne}
use Rattle.dg_model.specs.Instant.{reads_now}
use Rattle.dg_model.specs.Dimension.{IsRepeated}
use Rattle.dg_tables.proofs.Ground.{IsRanked, IsRunnable, HasLists, KeepsType, HasWidths, operation_at}
use Rattle.math_list.proofs.Places.{held, get_some}
use Rattle.dg_tables.proofs.Lists.{part_some, hits_all, second_hit, counted_below, below_repeated}
use Rattle.math_list.proofs.Numbers.{get_mapped, length_mapped, get_number, length_mapped as length_numbers}
use Rattle.math_list.proofs.Sums.{sum_before}
use Rattle.dg_tables.proofs.Sources.{IsRead, source_shown, is_readable, type_into_valid, elements_read}
use Rattle.dg_blocks.proofs.Exactly.{truth_range}

-- a value of a type that has a property
abbrev pub Given : FxType → (ℤ → Type 0) → Type 0
Given type P = (v : ℤ) × P v × InRange type v

pub zero_range : (type : FxType) → IsType type → InRange type (pos 0)
zero_range Logical t = record { low = omega (arith, ints); high = omega (arith, ints) }
zero_range (Num true w f) t = record { low = omega (arith, ints); high = omega (arith, ints) }
zero_range (Num false w f) t = record { low = omega (arith, ints); high = omega (arith, ints) }

-- the entry of a kind's only list
only_list : (list : List Decimal) (width : ℕ) → All (λ list. IsRepeated width (length list)) (list ∷ []) → IsRepeated width (length list)
only_list list width all = All-head (λ (list : List Decimal). IsRepeated width (length list)) list [] all

module _ (storing : StoringGivesOne) (exactly : OperationGivesOne) where
  entry_some : (list : List Decimal) (element width : ℕ) (type : FxType) → IsRepeated width (length list) → element < width → IsType type → Given type (StoresEntry list element type)
  entry_some list element width type fits below valid = go (get_some list (repeated (length list) element) (below_repeated (length list) element (place fits)))
    where
      place : (length list ≡ 1) ⊎ (length list ≡ width) → (length list ≡ 1) ⊎ (element < length list)
      place (inl e) = inl e
      place (inr e) = inr (subst (λ (n : ℕ). element < n) (sym e) below)

      go : (d : Decimal) × (slice_get list (repeated (length list) element) ≡ Some d) → Given type (StoresEntry list element type)
      go d =
          let r = storing d.0 type valid in
          (r.number, subst (λ (o : Option Decimal). MatchOption o ⊥ (λ decimal. Stores decimal type r.number)) (sym d.1) r.given, r.in_range)

  logic_port : (gate : Gate) (inputs outputs port : ℕ) → HasPorts (Logic gate) inputs outputs → port ≤ outputs → 1 ≤ port → port ≡ 1
  logic_port Not inputs outputs port ports to from = omega (arith, ports.1)
  logic_port _ inputs outputs port ports to from = omega (arith, ports.1)

  mux_port : (sizes : List ℕ) (inputs outputs port : ℕ) → HasPorts (Mux sizes) inputs outputs → port ≤ outputs → 1 ≤ port → port ≡ 1
  mux_port [] inputs outputs port ports to from = omega (arith, ports.1)
  mux_port (size ∷ sizes) inputs outputs port ports to from = omega (arith, ports.1)

  module _ (diagram : Diagram) (attributes : Attributes) (rank : ℕ → ℕ) (checked : IsRanked diagram attributes rank)
      (runnable : IsRunnable diagram attributes rank) (stimulus : Stimulus) (table : Table)
      (block : ℕ) (b : Block) (block_is : slice_get diagram.blocks block ≡ Some b) (t : ℕ)
    where
      -- the entries of the drivers at a sample are in range
      abbrev pub InRangeAt : ℕ → Type 0
      InRangeAt s = (port : ℕ) (edge : Edge) → driver_of diagram block port ≡ Some edge → (driver : Block) (from_port element : ℕ) → IsShown diagram attributes edge.from driver from_port element
          → InRange (attributes.type_at edge.from from_port) (table edge.from from_port element s)

      into_range : (port element s : ℕ) → InRangeAt s → IsRead diagram attributes block port element
          → InRange (type_into diagram attributes block port)
          (value_into diagram attributes table block port element s)
      into_range port element s ranges below = go (driver_of diagram block port) refl below
        where
          go : (o : Option Edge) → driver_of diagram block port ≡ o → repeated (at_source o 0 attributes.width_at) element < at_source o 0 attributes.width_at
              → InRange (at_source o Logical attributes.type_at) (at_source o (pos 0) (λ from from_port. table from from_port (repeated (attributes.width_at from from_port) element) s))
          go None e h = zero_range Logical tt
          go (Some edge) e h =
              let k = source_shown diagram attributes checked.wired block port edge (repeated (attributes.width_at edge.from edge.from_port) element) e h in
              ranges port edge e k.0 edge.from_port (repeated (attributes.width_at edge.from edge.from_port) element) k.1

      counted_some : (delay : ℕ) (initial : List Decimal) (reset : Bool) (element : ℕ) (h : ℕ)
          → slice_get (counted_hits table b.enable reset (attributes.period_at block) t) (delay - 1) ≡ Some h
          → h < t
      counted_some delay initial reset element h e =
          held (λ h. h < t) (counted_hits table b.enable reset (attributes.period_at block) t) (delay - 1) h
          (counted_below table b.enable reset (attributes.period_at block) t) e

      module _ (element : ℕ) (valid : IsType (attributes.type_at block 1)) where
        -- an input, or the initial value, in the type of the block
        input_some : (initial : List Decimal) (hit : Option ℕ) (width : ℕ) → IsRepeated width (length initial) → element < width → type_into diagram attributes block 1 ≡ attributes.type_at block 1
            → ((h : ℕ) → hit ≡ Some h → InRangeAt h) → IsRead diagram attributes block 1 element
            → Given (attributes.type_at block 1)
            (IsInputAt diagram attributes stimulus table block initial element hit)
        input_some initial None width list below same ranges reads = entry_some initial element width (attributes.type_at block 1) list below valid
        input_some initial (Some h) width list below same ranges reads = (
          value_into diagram attributes table block 1 element h,
          refl,
          subst (λ (type : FxType). InRange type (value_into diagram attributes table block 1 element h)) same
              (into_range 1 element h (ranges h refl) reads),
        )

        -- an input at t
        now_some : (port k : ℕ) (type : FxType) → type_into diagram attributes block port ≡ type → InRangeAt t
            → IsRead diagram attributes block port k
            → Given type (λ v. v ≡ value_into diagram attributes table block port k t)
        now_some port k type same ranges reads = (
          value_into diagram attributes table block port k t,
          refl,
          subst (λ (type : FxType). InRange type (value_into diagram attributes table block port k t)) same
              (into_range port k t ranges reads),
        )

        element_some : (op : Op) → IsOpOf b.kind element (attributes.param_at block)
            (type_into diagram attributes block 2) op → InRangeAt t
            → ((input : ℕ) → 1 ≤ input → input ≤ b.inputs → IsRead diagram attributes block input element)
            → Given (attributes.type_at block 1) (ElementEquation diagram attributes stimulus table b block element t)
        element_some op is_op ranges reads =
            let r = exactly (operation_at diagram attributes block b op)
            (values_into diagram attributes table block b.inputs element t)
            (record {
              prepared = runnable.operations block b element op block_is is_op;
              values =
                  in_range;
            }) in
            (r.number, (op, is_op, r.given), r.in_range)
          where
            types_length : length (types_into diagram attributes block b.inputs) ≡ b.inputs
            types_length = length_mapped (type_into diagram attributes block) 1 b.inputs

            at_input : (input : ℕ) → input < b.inputs
                → InRange (type_of (types_into diagram attributes block b.inputs) input)
                (value_of (values_into diagram attributes table block b.inputs element t) input)
            at_input input below =
                subst₂ (λ (type : FxType) (v : ℤ). InRange type v)
                (sym (get_mapped (type_into diagram attributes block) (Num false 0 (pos 0)) 1 b.inputs input below))
                (sym (get_mapped (λ port. value_into diagram attributes table block port element t) (pos 0) 1 b.inputs input below))
                (into_range (1 + input) element t ranges (reads (1 + input) (omega arith) (omega (arith, below))))

            in_range : AreInRange (types_into diagram attributes block b.inputs) (values_into diagram attributes table block b.inputs element t)
            in_range = record {
              count = length_mapped
                  (λ port. value_into diagram attributes table block port element t) 1 b.inputs ∙ sym types_length;
              in_range = λ input below. at_input input (subst (λ (n : ℕ). input < n) types_length below);
            }

        mux_some : InRangeAt t → attributes.width_at block 1 ≡ sum (widths_into diagram attributes block b.inputs) → element < attributes.width_at block 1
            → ((port : ℕ) → 1 ≤ port → port ≤ b.inputs → type_into diagram attributes block port ≡ attributes.type_at block 1)
            → Given (attributes.type_at block 1) (MuxEquation diagram attributes stimulus table b block element t)
        mux_some ranges width below same = go (part_some (widths_into diagram attributes block b.inputs) element (subst (λ (n : ℕ). element < n) width below))
          where
            go : (signal : ℕ) × (k : ℕ) × IsPart (widths_into diagram attributes block b.inputs) element signal k
                → Given (attributes.type_at block 1)
                (MuxEquation diagram attributes stimulus table b block element t)
            go p =
                let signal_is : p.0 < b.inputs = subst (λ (n : ℕ). p.0 < n) (length_numbers (width_into diagram attributes block) 1 b.inputs) p.2.signal_is in
                let e : 1 + p.0 ≡ suc p.0 = omega arith in
                let within : p.1 < width_into diagram attributes block (suc p.0) =
                subst (λ (n : ℕ). p.1 < n) (get_number
                (width_into diagram attributes block) 1 b.inputs p.0 signal_is
                ∙ ap (width_into diagram attributes block) e) p.2.within in
                let r = now_some (suc p.0) p.1 (attributes.type_at block 1)
                (same (suc p.0) (omega arith) (omega (arith, signal_is))) ranges
                (below_repeated (width_into diagram attributes block (suc p.0)) p.1 (inr within)) in
                (r.0, (p.0, p.1, p.2, r.1), r.2)

        rate_some : (initial : List Decimal) → (not (is_slow_to_fast (period_into diagram attributes block 1) (attributes.period_at block)) ≡ true → InRangeAt t) → ((s : ℕ) → s < t → InRangeAt s)
            → IsRepeated (attributes.width_at block 1) (length initial) → element < attributes.width_at block 1
            → type_into diagram attributes block 1 ≡ attributes.type_at block 1
            → IsRead diagram attributes block 1 element
            → Given (attributes.type_at block 1) (RateEquation diagram attributes stimulus table block initial element t)
        rate_some initial now before list below same reads = go (is_slow_to_fast (period_into diagram attributes block 1) (attributes.period_at block)) now
          where
            go : (b : Bool) → (not b ≡ true → InRangeAt t)
                → Given (attributes.type_at block 1)
                (λ v. MatchBool b (IsInputAt diagram attributes stimulus table block initial element
                (slice_get (hits_before (period_into diagram attributes block 1) (suc t)) 1) v)
                (v ≡ value_into diagram attributes table block 1 element t))
            go true now =
                input_some initial (slice_get (hits_before (period_into diagram attributes block 1) (suc t)) 1) (attributes.width_at block 1) list below same
                (λ h e. before h (le_of_suc-le-suc (second_hit (period_into diagram attributes block 1) (suc t) 0 h e))) reads
            go false now = now_some 1 element (attributes.type_at block 1) same (now refl) reads

        output_some : (reset : Bool) (initial : List Decimal) → InRangeAt t → ((s : ℕ) → s < t → InRangeAt s)
            → IsRepeated (attributes.width_at block 1) (length initial) → element < attributes.width_at block 1
            → type_into diagram attributes block 1 ≡ attributes.type_at block 1
            → IsRead diagram attributes block 1 element
            → Given (attributes.type_at block 1) (EnOutEquation diagram attributes stimulus table b block reset initial element t)
        output_some false initial now before list below same reads =
            let hits = filter (is_enabled table b.enable) (hits_before (attributes.period_at block) (suc t)) in
            input_some initial (slice_get hits 0) (attributes.width_at block 1) list below same
            (λ h e. at h (eq-or-lt_of_le (le_of_suc-le-suc
            (held (λ h. h < suc t) hits 0 h (All-filter (is_enabled table b.enable) (λ h. h < suc t)
            (hits_before (attributes.period_at block) (suc t))
            (hits_all (attributes.period_at block) (suc t))) e)))) reads
          where
            at : (h : ℕ) → (h ≡ t) ⊎ (h < t) → InRangeAt h
            at h (inl e) = subst InRangeAt (sym e) now
            at h (inr l) = before h l
        output_some true initial now before list below same reads = go (is_enabled table b.enable t)
          where
            go : (enabled : Bool) → Given (attributes.type_at block 1)
                (λ v. MatchBool enabled (v ≡ value_into diagram attributes table block 1 element t)
                (StoresEntry initial element (attributes.type_at block 1) v))
            go true = now_some 1 element (attributes.type_at block 1) same now reads
            go false = entry_some initial element (attributes.width_at block 1) (attributes.type_at block 1) list below valid

        -- ---- all kinds
        module _ (port : ℕ) (before : (s : ℕ) → s < t → InRangeAt s) (from : 1 ≤ port) where
          single : (P : ℤ → Type 0) → port ≡ 1 → Given (attributes.type_at block 1) P → Given (attributes.type_at block port) P
          single P e given = subst (λ (p : ℕ). Given (attributes.type_at block p) P) (sym e) given

          elementwise : (kind : Kind) (op : Op) → kind ≡ b.kind → port ≡ 1 → IsOpOf kind element (attributes.param_at block) (type_into diagram attributes block 2) op → InRangeAt t
              → ((input : ℕ) → 1 ≤ input → input ≤ b.inputs → IsRead diagram attributes block input element)
              → Given (attributes.type_at block port)
              (ElementEquation diagram attributes stimulus table b block element t)
          elementwise kind op same one is_op now reads =
              single (ElementEquation diagram attributes stimulus table b block element t) one
              (element_some op (subst (λ (kind : Kind). IsOpOf kind element (attributes.param_at block) (type_into diagram attributes block 2) op) same is_op) now reads)

          by_kind : (kind : Kind) → kind ≡ b.kind → HasPorts kind b.inputs b.outputs
              → HasWidths diagram attributes block kind b.inputs b.outputs
              → HasLists kind (attributes.width_at block 1)
              → KeepsType diagram attributes block kind b.inputs b.outputs
              → element < shown_width diagram attributes kind block port → port ≤ shown_ports kind b.outputs → (reads_now diagram attributes block kind ≡ true → InRangeAt t)
              → ((number width : ℕ) → kind ≡ Inport number width → element < attributes.width_at block 1 → InRange (attributes.type_at block 1) (stimulus number element t))
              → Given (attributes.type_at block port) (KindEquation diagram attributes stimulus table kind b block port element t)
          by_kind (Inport number width) same ports widths lists kept below to now given =
              let one : port ≡ 1 = omega (arith, ports.1) in
              single (λ v. v ≡ stimulus number element t) one (stimulus number element t, refl, given number width refl (subst (λ (p : ℕ). element < attributes.width_at block p) one below))
          by_kind (Constant value) same ports widths lists kept below to now given =
              let one : port ≡ 1 = omega (arith, ports.1) in
              single (StoresEntry value element (attributes.type_at block 1)) one
              (entry_some value element (attributes.width_at block 1) (attributes.type_at block 1)
              (only_list value (attributes.width_at block 1) lists)
              (subst (λ (p : ℕ). element < attributes.width_at block p) one below) valid)
          by_kind Ground same ports widths lists kept below to now given = single (λ v. v ≡ pos 0) (omega (arith, ports.1)) (pos 0, refl, zero_range (attributes.type_at block 1) valid)
          by_kind (Delay delay initial reset) same ports widths lists kept below to now given =
              let one : port ≡ 1 = omega (arith, ports.1) in
              let hit = slice_get (counted_hits table b.enable reset (attributes.period_at block) t) (delay - 1) in
              single (IsInputAt diagram attributes stimulus table block initial element hit) one
              (input_some initial hit (attributes.width_at block 1) (only_list initial (attributes.width_at block 1) lists) (subst (λ (p : ℕ). element < attributes.width_at block p) one below) kept
              (λ h e. before h (counted_some delay initial reset element h e))
              (elements_read diagram attributes block b.inputs b.outputs (Delay delay initial reset) port element from to below widths 1 (omega arith) (omega (arith, ports.0))))
          by_kind (Mux sizes) same ports widths lists kept below to now given =
              let one = mux_port sizes b.inputs b.outputs port ports to from in
              single (MuxEquation diagram attributes stimulus table b block element t) one (mux_some (now refl) widths (subst (λ (p : ℕ). element < attributes.width_at block p) one below) kept)
          by_kind (Demux sizes) same ports widths lists kept below to now given =
              let place = sum (map (attributes.width_at block) (numbers_from 1 (port - 1))) + element in
              let e : attributes.width_at block (1 + (port - 1)) ≡ attributes.width_at block port = ap (attributes.width_at block) (omega arith) in
              let within : place < width_into diagram attributes block 1 = omega (arith, e, widths, below, sum_before (attributes.width_at block) 1 b.outputs (port - 1) (omega arith)) in
              now_some 1 place (attributes.type_at block port) (kept port from to) (now refl) (below_repeated (width_into diagram attributes block 1) place (inr within))
          by_kind (RateTransition period initial) same ports widths lists kept below to now given =
              let one : port ≡ 1 = omega (arith, ports.1) in
              single (RateEquation diagram attributes stimulus table block initial element t) one
              (rate_some initial now before (only_list initial (attributes.width_at block 1) lists) (subst (λ (p : ℕ). element < attributes.width_at block p) one below) kept
              (elements_read diagram attributes block b.inputs b.outputs (RateTransition period initial) port element from to below widths 1 (omega arith) (omega (arith, ports.0))))
          by_kind EnableTest same ports widths lists kept below to now given =
              let truth = list_any (λ element. int_lt (pos 0) (value_into diagram attributes table block 1 element t)) (numbers_from 0 (width_into diagram attributes block 1)) in
              single (EnableEquation diagram attributes stimulus table block t) (omega (arith, ports.1)) (
                stored_truth truth,
                refl,
                subst (λ (type : FxType). InRange type (stored_truth truth)) (sym kept) (truth_range truth),
              )
          by_kind (EnOut reset initial) same ports widths lists kept below to now given =
              let one : port ≡ 1 = omega (arith, ports.1) in
              single (EnOutEquation diagram attributes stimulus table b block reset initial element t) one
              (output_some reset initial (now refl) before (only_list initial (attributes.width_at block 1) lists) (subst (λ (p : ℕ). element < attributes.width_at block p) one below) kept
              (elements_read diagram attributes block b.inputs b.outputs (EnOut reset initial) port element from to below widths 1 (omega arith) (omega (arith, ports.0))))
          by_kind Terminator same ports widths lists kept below to now given = absurd (omega (arith, ports.1))
          by_kind (Outport number) same ports widths lists kept below to now given =
              elementwise (Outport number) OpPass same (omega arith) refl (now refl) (elements_read diagram attributes block b.inputs b.outputs (Outport number) port element from to below widths)
          by_kind (Sum negative accum) same ports widths lists kept below to now given =
              elementwise (Sum negative accum) (OpSum (accumulator accum (attributes.param_at block))) same
              (omega (arith, ports.1)) refl (now refl)
              (elements_read diagram attributes block b.inputs b.outputs
              (Sum negative accum) port element from to below widths)
          by_kind (Gain value param) same ports widths lists kept below to now given =
              let one : port ≡ 1 = omega (arith, ports.1) in
              let c = entry_some value element (attributes.width_at block 1) (attributes.param_at block)
              (only_list value (attributes.width_at block 1) lists)
              (subst (λ (p : ℕ). element < attributes.width_at block p) one below)
              (checked.params block b block_is) in
              elementwise (Gain value param) (OpGain c.0 (attributes.param_at block)) same one (c.0, c.1, refl)
              (now refl) (elements_read diagram attributes block b.inputs b.outputs
              (Gain value param) port element from to below widths)
          by_kind Product same ports widths lists kept below to now given =
              elementwise Product OpProduct same (omega (arith, ports.1)) refl (now refl) (elements_read diagram attributes block b.inputs b.outputs Product port element from to below widths)
          by_kind (Switch criterion threshold) same ports widths lists kept below to now given =
              let one : port ≡ 1 = omega (arith, ports.1) in
              let c = entry_some threshold element (attributes.width_at block 1)
              (type_into diagram attributes block 2) (only_list threshold (attributes.width_at block 1) lists)
              (subst (λ (p : ℕ). element < attributes.width_at block p) one below)
              (type_into_valid diagram attributes checked.wired checked.types block 2) in
              elementwise (Switch criterion threshold) (OpSwitch criterion c.0) same one (c.0, c.1, refl) (now refl)
              (elements_read diagram attributes block b.inputs b.outputs
              (Switch criterion threshold) port element from to below widths)
          by_kind (Relational operator) same ports widths lists kept below to now given =
              elementwise (Relational operator) (OpRelational operator) same (omega (arith, ports.1)) refl
              (now refl) (elements_read diagram attributes block b.inputs b.outputs
              (Relational operator) port element from to below widths)
          by_kind (Logic operator) same ports widths lists kept below to now given =
              elementwise (Logic operator) (OpLogic operator) same
              (logic_port operator b.inputs b.outputs port ports to from) refl (now refl)
              (elements_read diagram attributes block b.inputs b.outputs
              (Logic operator) port element from to below widths)
          by_kind (Convert stored) same ports widths lists kept below to now given =
              elementwise (Convert stored) (OpConvert stored) same (omega (arith, ports.1)) refl (now refl)
              (elements_read diagram attributes block b.inputs b.outputs
              (Convert stored) port element from to below widths)
          by_kind (Pass width) same ports widths lists kept below to now given =
              elementwise (Pass width) OpPass same (omega (arith, ports.1)) refl (now refl) (elements_read diagram attributes block b.inputs b.outputs (Pass width) port element from to below widths)

          pub equation_some : IsShown diagram attributes block b port element → (reads_now diagram attributes block b.kind ≡ true → InRangeAt t)
              → ((number width : ℕ) → b.kind ≡ Inport number width → element < attributes.width_at block 1 → InRange (attributes.type_at block 1) (stimulus number element t))
              → Given (attributes.type_at block port) (KindEquation diagram attributes stimulus table b.kind b block port element t)
          equation_some shown now given =
              by_kind b.kind refl (is_readable diagram attributes checked.wired block b block_is).ports
              (checked.widths block b block_is) (runnable.lists block b block_is)
              (runnable.kept block b block_is) shown.element_below shown.port_to now given
