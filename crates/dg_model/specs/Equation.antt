-- What each kind of block gives at a hit, from the table's entries of its drivers (Simulink
-- reference, each block's page; HDL Coder guide, rate transitions). The order of the table's
-- computation stands nowhere here.
use Rattle.std.specs.Prelude.{◌≡◌, ℕ, suc, ◌+◌, ◌-◌, ◌<◌, ℤ, pos, int_lt, Bool, true, false, MatchBool, List, [], length, map, sum, take, filter, slice_get, slice_index, Option, Some, None, MatchOption}
use Rattle.std.specs.List.{list_any}
use Rattle.fx_type.specs.declared.kind.FxType.{FxType}
use Rattle.fx_type.specs.declared.decimal.Decimal.{Decimal}
use Rattle.fx_type.specs.declared.spec.TypeSpec.{TypeSpec}
use Rattle.fx_type.specs.declared.spec.TypeSpec.TheVariants.{Fixed, Internal, SameFirst, Auto}
use Rattle.fx_type.specs.Conversion.{Stores}
use Rattle.dg_model.specs.declared.diagram.Diagram.{Diagram}
use Rattle.dg_model.specs.declared.diagram.Block.{Block}
use Rattle.dg_model.specs.declared.kind.Kind.{Kind}
use Rattle.dg_model.specs.declared.kind.Kind.TheVariants.{Inport, Outport, Constant, Ground, Sum, Gain, Product, Switch, Relational, Logic, Convert, Delay, Mux, Demux, RateTransition, Pass, EnableTest, EnOut, Terminator}
use Rattle.dg_model.specs.declared.op.Op.{Op}
use Rattle.dg_model.specs.declared.op.Op.TheVariants.{Sum as OpSum, Gain as OpGain, Product as OpProduct, Switch as OpSwitch, Relational as OpRelational, Logic as OpLogic, Convert as OpConvert, Pass as OpPass}
use Rattle.dg_model.specs.KindRow.{FullRule}
use Rattle.dg_model.specs.Library.{row_of}
use Rattle.dg_model.specs.Signals.{Attributes, Stimulus, Table}
use Rattle.dg_model.specs.Hits.{hits_before, is_enabled_at, counted_hits, is_slow_to_fast}
use Rattle.math_list.specs.Numbers.{numbers_from}
use Rattle.dg_model.specs.Wires.{width_into, widths_into, type_into, types_into, period_into, value_into, values_into, entry_of}
use Rattle.dg_model.specs.Operation.{OpGives, stored_truth}

-- v is a list parameter's entry for an element, stored in a type (Simulink reference: parameters
-- round to nearest and saturate)
abbrev pub StoresEntry : List Decimal → ℕ → FxType → ℤ → Type 0
StoresEntry list element type v = MatchOption (entry_of list element) ⊥ (λ decimal. Stores decimal type v)

-- the type in which a sum is added up, where it is so specified and has this type; none where it is
-- exact
abbrev pub accumulator : TypeSpec → FxType → Option FxType
accumulator (Fixed type) own = Some own
accumulator Internal own = None
accumulator SameFirst own = Some own
accumulator Auto own = None

-- the operation of a kind that carries one out at an element, with the type of its Gain's
-- coefficients and of its input 2
abbrev pub IsOpOf : Kind → ℕ → FxType → FxType → Op → Type 0
IsOpOf (Inport number width) element param control op = ⊥
IsOpOf (Outport number) element param control op = op ≡ OpPass
IsOpOf (Constant value) element param control op = ⊥
IsOpOf Ground element param control op = ⊥
IsOpOf (Sum negative accum) element param control op = op ≡ OpSum (accumulator accum param)
IsOpOf (Gain value spec) element param control op = (coefficient : ℤ) × StoresEntry value element param coefficient × (op ≡ OpGain coefficient param)
IsOpOf Product element param control op = op ≡ OpProduct
IsOpOf (Switch criterion threshold) element param control op = (stored : ℤ) × StoresEntry threshold element control stored × (op ≡ OpSwitch criterion stored)
IsOpOf (Relational operator) element param control op = op ≡ OpRelational operator
IsOpOf (Logic operator) element param control op = op ≡ OpLogic operator
IsOpOf (Convert stored) element param control op = op ≡ OpConvert stored
IsOpOf (Delay length initial reset) element param control op = ⊥
IsOpOf (Mux sizes) element param control op = ⊥
IsOpOf (Demux sizes) element param control op = ⊥
IsOpOf (RateTransition period initial) element param control op = ⊥
IsOpOf (Pass width) element param control op = op ≡ OpPass
IsOpOf EnableTest element param control op = ⊥
IsOpOf (EnOut reset initial) element param control op = ⊥
IsOpOf Terminator element param control op = ⊥

-- the signs of the inputs of a full sum
abbrev pub signs_of_full : FullRule → List Bool
signs_of_full FullRule.NoFull = []
signs_of_full (FullRule.FullSum negative accum) = negative
signs_of_full (FullRule.FullScaled value param) = []
signs_of_full FullRule.FullProduct = []
signs_of_full FullRule.UnionOfTwo = []
signs_of_full FullRule.UnionOfEnds = []

-- the signs of a Sum
abbrev pub signs_of : Kind → List Bool
signs_of kind = signs_of_full (row_of kind).types.full

-- element e of the signals of these widths, laid end to end, is element k of signal i
pub record IsPart (widths : List ℕ) (element signal k : ℕ) : Type 0 where
  pub signal_is : signal < length widths
  pub within : k < slice_index widths signal
  pub place : element ≡ sum (take signal widths) + k

-- the block is enabled at t; one outside enabled subsystems always is
abbrev pub is_enabled : Table → Option ℕ → ℕ → Bool
is_enabled table None t = true
is_enabled table (Some enable) t = is_enabled_at table enable t

module _ (diagram : Diagram) (attributes : Attributes) (stimulus : Stimulus) (table : Table) where
  -- what input 1 of a block offers to an element at a hit, or else the initial value
  abbrev pub IsInputAt : ℕ → List Decimal → ℕ → Option ℕ → ℤ → Type 0
  IsInputAt block initial element hit v =
      MatchOption hit (StoresEntry initial element (attributes.type_at block 1) v) (λ h. v ≡ value_into diagram attributes table block 1 element h)

  -- a block that works element by element
  abbrev pub ElementEquation : Block → ℕ → ℕ → ℕ → ℤ → Type 0
  ElementEquation b block element t v =
      (op : Op) × IsOpOf b.kind element (attributes.param_at block) (type_into diagram attributes block 2) op
      × OpGives (record { op = op; signs = signs_of b.kind; types = types_into diagram attributes block b.inputs; result = attributes.type_at block 1; rounding = b.rounding; saturate = b.saturate })
      (values_into diagram attributes table block b.inputs element t) v

  -- a Delay: its input so many counted hits before t
  abbrev pub DelayEquation : Block → ℕ → ℕ → List Decimal → Bool → ℕ → ℕ → ℤ → Type 0
  DelayEquation b block delay initial reset element t v =
      IsInputAt block initial element (slice_get (counted_hits table b.enable reset (attributes.period_at block) t) (delay - 1)) v

  -- a Mux: its inputs end to end
  abbrev pub MuxEquation : Block → ℕ → ℕ → ℕ → ℤ → Type 0
  MuxEquation b block element t v =
      (signal : ℕ) × (k : ℕ) × IsPart (widths_into diagram attributes block b.inputs) element signal k × (v ≡ value_into diagram attributes table block (suc signal) k t)

  -- a Demux: the parts of its input in order
  abbrev pub DemuxEquation : ℕ → ℕ → ℕ → ℕ → ℤ → Type 0
  DemuxEquation block port element t v =
      v ≡ value_into diagram attributes table block 1 (sum (map (attributes.width_at block) (numbers_from 1 (port - 1))) + element) t

  -- a rate transition: from slow to fast its input at the slow hit before the last one up to t,
  -- else its input at t
  abbrev pub RateEquation : ℕ → List Decimal → ℕ → ℕ → ℤ → Type 0
  RateEquation block initial element t v =
      let slow = period_into diagram attributes block 1
      in MatchBool (is_slow_to_fast slow (attributes.period_at block))
      (IsInputAt block initial element (slice_get (hits_before slow (suc t)) 1) v)
      (v ≡ value_into diagram attributes table block 1 element t)

  -- the control of an enabled subsystem
  abbrev pub EnableEquation : ℕ → ℕ → ℤ → Type 0
  EnableEquation block t v =
      v ≡ stored_truth (list_any (λ element. int_lt (pos 0) (value_into diagram attributes table block 1 element t)) (numbers_from 0 (width_into diagram attributes block 1)))

  -- an output port of an enabled subsystem: with held output its input at the last enabled hit up
  -- to t, with reset output its input where t is enabled
  abbrev pub EnOutEquation : Block → ℕ → Bool → List Decimal → ℕ → ℕ → ℤ → Type 0
  EnOutEquation b block false initial element t v =
      IsInputAt block initial element (slice_get (filter (is_enabled table b.enable) (hits_before (attributes.period_at block) (suc t))) 0) v
  EnOutEquation b block true initial element t v =
      MatchBool (is_enabled table b.enable t) (v ≡ value_into diagram attributes table block 1 element t) (StoresEntry initial element (attributes.type_at block 1) v)

  -- a block's value by its kind
  abbrev pub KindEquation : Kind → Block → ℕ → ℕ → ℕ → ℕ → ℤ → Type 0
  KindEquation (Inport number width) b block port element t v = v ≡ stimulus number element t
  KindEquation (Outport number) b block port element t v = ElementEquation b block element t v
  KindEquation (Constant value) b block port element t v = StoresEntry value element (attributes.type_at block 1) v
  KindEquation Ground b block port element t v = v ≡ pos 0
  KindEquation (Sum negative accum) b block port element t v = ElementEquation b block element t v
  KindEquation (Gain value spec) b block port element t v = ElementEquation b block element t v
  KindEquation Product b block port element t v = ElementEquation b block element t v
  KindEquation (Switch criterion threshold) b block port element t v = ElementEquation b block element t v
  KindEquation (Relational operator) b block port element t v = ElementEquation b block element t v
  KindEquation (Logic operator) b block port element t v = ElementEquation b block element t v
  KindEquation (Convert stored) b block port element t v = ElementEquation b block element t v
  KindEquation (Delay length initial reset) b block port element t v = DelayEquation b block length initial reset element t v
  KindEquation (Mux sizes) b block port element t v = MuxEquation b block element t v
  KindEquation (Demux sizes) b block port element t v = DemuxEquation block port element t v
  KindEquation (RateTransition period initial) b block port element t v = RateEquation block initial element t v
  KindEquation (Pass width) b block port element t v = ElementEquation b block element t v
  KindEquation EnableTest b block port element t v = EnableEquation block t v
  KindEquation (EnOut reset initial) b block port element t v = EnOutEquation b block reset initial element t v
  KindEquation Terminator b block port element t v = ⊥

  -- v is the value of a block at an output port, an element and a hit t
  abbrev pub Equation : ℕ → ℕ → ℕ → ℕ → ℤ → Type 0
  Equation block port element t v = MatchOption (slice_get diagram.blocks block) ⊥ (λ b. KindEquation b.kind b block port element t v)
