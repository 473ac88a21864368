-- What the nets of a diagram show, as waves by block, port and element: the facts that the building
-- of a netlist owes. No net and no order of clocks stands here (own).
use Rattle.std.specs.Prelude.{◌≡◌, ℕ, suc, ◌+◌, ◌-◌, ◌<◌, ◌≤◌, ℤ, pos, int_lt, Bool, true, false, List, map, sum, Option, None, Some, slice_get, ⊤}
use Rattle.std.specs.List.{list_any}
use Rattle.fx_type.specs.declared.kind.FxType.{FxType}
use Rattle.fx_type.specs.declared.decimal.Decimal.{Decimal}
use Rattle.fx_type.specs.FullType.{IsFullProduct}
use Rattle.fx_type.specs.Conversion.{Converts}
use Rattle.math_list.specs.Numbers.{numbers_from}
use Rattle.dg_model.specs.declared.diagram.Diagram.{Diagram}
use Rattle.dg_model.specs.declared.diagram.Block.{Block}
use Rattle.dg_model.specs.declared.diagram.Edge.{Edge}
use Rattle.dg_model.specs.declared.kind.Kind.{Kind}
use Rattle.dg_model.specs.declared.kind.Kind.TheVariants.{Inport, Outport, Constant, Ground, Sum, Gain, Product, Switch, Relational, Logic, Convert, Delay, Mux, Demux, RateTransition, Pass, EnableTest, EnOut, Terminator}
use Rattle.dg_model.specs.declared.nested.Target.{Target}
use Rattle.dg_model.specs.declared.nested.Target.TheVariants.{Port, Enable}
use Rattle.dg_model.specs.declared.op.Op.{Op}
use Rattle.dg_model.specs.Signals.{Attributes, Stimulus}
use Rattle.dg_model.specs.Operation.{Operation, OpGives, stored_truth, type_of}
use Rattle.dg_model.specs.Library.{row_of}
use Rattle.dg_model.specs.Wired.{root_input}
use Rattle.dg_model.specs.Wires.{driver_of, period_into, type_into, types_into, widths_into, width_into, repeated}
use Rattle.dg_model.specs.Equation.{StoresEntry, IsOpOf, IsPart, signs_of}
use Rattle.dg_model.specs.Solves.{IsShown, shown_ports}
use Rattle.hw_net.specs.Registers.{Wave}
use Rattle.hw_shows.specs.Shows.{IsSeen}
use Rattle.hw_shows.specs.Timing.{Timing}
use Rattle.hw_shows.specs.Timed.{lag_into, Feeds}
use Rattle.hw_shows.specs.Series.{AreSame, steady, span_at, IsSeries, IsEnabledSeries, IsProductAt, IsChosen, IsOffered}

-- the waves of a diagram
pub record Waves : Type 0 where
  -- of a root input's number and element
  pub input : ℕ → ℕ → Wave
  -- of a block, an output port and an element: before its pipeline, and behind it, where its
  -- readers look
  pub entry : ℕ → ℕ → ℕ → Wave
  pub after : ℕ → ℕ → ℕ → Wave
  -- the registers of the pipeline by their number, 0 being what it begins with
  pub stage : ℕ → ℕ → ℕ → ℕ → Wave
  -- of a block, an input port and an element: what the port offers to the element
  pub offered : ℕ → ℕ → ℕ → Wave
  -- of a block: what enables it
  pub enable : ℕ → Wave
  -- of a block and an element: the registers of its state by their number, 0 being what they take
  pub state : ℕ → ℕ → ℕ → Wave
  -- what these have first
  pub first : ℕ → ℕ → ℤ
  -- what a shared multiplier gave the element
  pub product : ℕ → ℕ → Wave

module _ (diagram : Diagram) (attributes : Attributes) (timing : Timing) (clocks : ℕ)
    (waves : Waves) where
  -- the operation of a block
  abbrev pub operation_of_block : ℕ → Block → Op → Operation
  operation_of_block block b op =
      record {
        op = op;
        signs = signs_of b.kind;
        types = types_into diagram attributes block b.inputs;
        result = attributes.type_at block 1;
        rounding = b.rounding;
        saturate = b.saturate;
      }

  -- at each clock at which an entry is to be seen the operation of what its inputs are offered then
  pub record IsCarriedOut (block : ℕ) (b : Block) (port element : ℕ) : Type 0 where
    pub op : Op
    pub is : IsOpOf b.kind element (attributes.param_at block)
        (type_into diagram attributes block 2) op
    pub gives : (t c : ℕ) → c < clocks
        → IsSeen timing.cycles (attributes.period_at block) (timing.latency block)
        (timing.ready block) t c
        → OpGives (operation_of_block block b op)
        (map (λ input. waves.offered block input element c) (numbers_from 1 b.inputs))
        (waves.entry block port element c)

  -- the product of a shared multiplier in a full type, converted at each clock
  pub record IsServed (block : ℕ) (b : Block) (port element slot : ℕ) (left right : Wave)
      (type other : FxType) : Type 0 where
    pub full : FxType
    pub is_full : IsFullProduct type other full
    pub product : (period : ℕ) → attributes.period_at block ≡ Some period
        → IsProductAt clocks (span_at timing period block) slot left right
        (waves.product block element)
    pub converts : (c : ℕ) → c < clocks
        → Converts (waves.product block element c) full
        (attributes.type_at block 1) b.rounding b.saturate (waves.entry block port element c)

  -- a Gain: its own operation, or the product of a shared multiplier
  abbrev pub IsScaled : ℕ → Block → ℕ → ℕ → List Decimal → Option ℕ → Type 0
  IsScaled block b port element value None = IsCarriedOut block b port element
  IsScaled block b port element value (Some slot) =
      (coefficient : ℤ) × StoresEntry value element (attributes.param_at block) coefficient
      × IsServed block b port element slot (waves.offered block 1 element) (steady coefficient)
      (type_of (types_into diagram attributes block b.inputs) 0) (attributes.param_at block)

  -- a Product, in the same two ways
  abbrev pub IsMultiplied : ℕ → Block → ℕ → ℕ → Option ℕ → Type 0
  IsMultiplied block b port element None = IsCarriedOut block b port element
  IsMultiplied block b port element (Some slot) =
      IsServed block b port element slot (waves.offered block 1 element)
      (waves.offered block 2 element)
      (type_of (types_into diagram attributes block b.inputs) 0)
      (type_of (types_into diagram attributes block b.inputs) 1)

  -- a wave that a parameter's entry gives
  pub record IsParameter (list : List Decimal) (element : ℕ) (type : FxType)
      (wave : Wave) : Type 0 where
    pub value : ℤ
    pub stored : StoresEntry list element type value
    pub steady_at : AreSame clocks wave (steady value)

  -- a Delay: the registers of its line, or where its source never changes or it stands in an
  -- enabled subsystem those of its own
  abbrev pub IsDelayed : ℕ → Block → ℕ → ℕ → ℕ → Bool → Option ℕ → Option ℕ → Type 0
  IsDelayed block b port element delay reset None (Some source) =
      AreSame clocks (waves.entry block port element) (waves.offered block 1 element)
  IsDelayed block b port element delay reset None None =
      AreSame clocks (waves.entry block port element) (waves.state block element delay)
      × ((period : ℕ) → attributes.period_at block ≡ Some period
      → IsSeries clocks (span_at timing period block) delay (waves.first block element)
      (waves.offered block 1 element) (waves.state block element))
  IsDelayed block b port element delay reset (Some control) source =
      AreSame clocks (waves.entry block port element) (waves.state block element delay)
      × ((period : ℕ) → attributes.period_at block ≡ Some period
      → IsEnabledSeries clocks (span_at timing period block) delay reset (waves.first block element)
      (waves.enable block) (waves.offered block 1 element) (waves.state block element))

  -- an output port of an enabled subsystem: its input where that is enabled, else a parameter's
  -- entry or what a register kept
  abbrev pub IsPassedOut : ℕ → Block → ℕ → ℕ → Bool → Type 0
  IsPassedOut block b port element true =
      IsChosen clocks (waves.enable block) (waves.offered block 1 element)
      (steady (waves.first block element)) (waves.entry block port element)
  IsPassedOut block b port element false =
      IsChosen clocks (waves.enable block) (waves.offered block 1 element)
      (waves.state block element 1) (waves.entry block port element)
      × ((period : ℕ) → attributes.period_at block ≡ Some period
      → IsEnabledSeries clocks (span_at timing period block) 1 false (waves.first block element)
      (waves.enable block) (waves.offered block 1 element) (waves.state block element))

  -- an element of a Mux: that of the input in whose part it stands
  pub record IsJoined (block : ℕ) (b : Block) (port element : ℕ) : Type 0 where
    pub signal : ℕ
    pub place : ℕ
    pub part : IsPart (widths_into diagram attributes block b.inputs) element signal place
    pub same : AreSame clocks (waves.entry block port element)
        (waves.offered block (suc signal) place)

  -- an element of a block, by its kind
  abbrev pub IsMadeAs : Kind → ℕ → Block → ℕ → ℕ → Type 0
  IsMadeAs (Inport number width) block b port element =
      AreSame clocks (waves.entry block port element) (waves.input number element)
  IsMadeAs (Outport number) block b port element = IsCarriedOut block b port element
  IsMadeAs (Constant value) block b port element =
      IsParameter value element (attributes.type_at block 1) (waves.entry block port element)
  IsMadeAs Ground block b port element =
      AreSame clocks (waves.entry block port element) (steady (pos 0))
  IsMadeAs (Sum negative accum) block b port element = IsCarriedOut block b port element
  IsMadeAs (Gain value param) block b port element =
      IsScaled block b port element value (timing.slot block element)
  IsMadeAs Product block b port element =
      IsMultiplied block b port element (timing.slot block element)
  IsMadeAs (Switch criterion threshold) block b port element = IsCarriedOut block b port element
  IsMadeAs (Relational operator) block b port element = IsCarriedOut block b port element
  IsMadeAs (Logic operator) block b port element = IsCarriedOut block b port element
  IsMadeAs (Convert stored) block b port element = IsCarriedOut block b port element
  IsMadeAs (Delay delay initial reset) block b port element =
      StoresEntry initial element (attributes.type_at block 1) (waves.first block element)
      × IsDelayed block b port element delay reset b.enable
      (period_into diagram attributes block 1)
  IsMadeAs (Mux sizes) block b port element = IsJoined block b port element
  IsMadeAs (Demux sizes) block b port element =
      AreSame clocks (waves.entry block port element)
      (waves.offered block 1
      (sum (map (attributes.width_at block) (numbers_from 1 (port - 1))) + element))
  IsMadeAs (RateTransition period initial) block b port element =
      StoresEntry initial element (attributes.type_at block 1) (waves.first block element)
      × AreSame clocks (waves.entry block port element) (waves.offered block 1 element)
  IsMadeAs (Pass width) block b port element = IsCarriedOut block b port element
  IsMadeAs EnableTest block b port element =
      AreSame clocks (waves.entry block port element)
      (λ c. stored_truth
      (list_any (λ place. int_lt (pos 0) (waves.offered block 1 place c))
      (numbers_from 0 (width_into diagram attributes block 1))))
  IsMadeAs (EnOut reset initial) block b port element =
      StoresEntry initial element (attributes.type_at block 1) (waves.first block element)
      × IsPassedOut block b port element reset
  IsMadeAs Terminator block b port element = ⊤

  -- the pipeline of an element of a block of this period
  abbrev pub IsPiped : Option ℕ → ℕ → ℕ → ℕ → Type 0
  IsPiped None block port element =
      AreSame clocks (waves.after block port element) (waves.entry block port element)
  IsPiped (Some period) block port element =
      AreSame clocks (waves.after block port element)
      (waves.stage block port element (timing.stages block))
      × IsSeries clocks (span_at timing period block) (timing.stages block) (pos 0)
      (waves.entry block port element) (waves.stage block port element)

  -- an end of a block
  abbrev pub IsOfferedAt : ℕ → Block → Target → ℕ → ℤ → Wave → Wave → Type 0
  IsOfferedAt block b target from first wave line =
      IsOffered clocks timing from (attributes.period_at from) block (attributes.period_at block)
      (lag_into diagram attributes block b target) first wave line

  -- the facts of a diagram's waves
  pub record AreBuilt : Type 0 where
    pub lines : (block : ℕ) (b : Block) (port element : ℕ) (edge : Edge)
        → slice_get diagram.blocks block ≡ Some b → 1 ≤ shown_ports b.kind b.outputs
        → 1 ≤ port → port ≤ b.inputs → driver_of diagram block port ≡ Some edge
        → repeated
        (attributes.width_at edge.from edge.from_port) element < attributes.width_at edge.from
        edge.from_port
        → IsOfferedAt block b (Port port) edge.from (waves.first block element)
        (waves.after edge.from edge.from_port
        (repeated (attributes.width_at edge.from edge.from_port) element))
        (waves.offered block port element)
    pub enables : (block : ℕ) (b : Block) (control : ℕ) → slice_get diagram.blocks block ≡ Some b
        → Feeds diagram block b Enable control
        → IsOfferedAt block b Enable control (pos 0) (waves.after control 1 0) (waves.enable block)
    pub blocks : (block : ℕ) (b : Block) (port element : ℕ)
        → IsShown diagram attributes block b port element → IsMadeAs b.kind block b port element
    pub pipelines : (block : ℕ) (b : Block) (port element : ℕ)
        → IsShown diagram attributes block b port element
        → IsPiped (attributes.period_at block) block port element

-- the inputs show the stimulus, each hit in its whole frame
pub record AreDriven (diagram : Diagram) (attributes : Attributes) (stimulus : Stimulus)
    (n cycles clocks : ℕ) (waves : Waves) : Type 0 where
  pub shows : (block : ℕ) (b : Block) (number element t c : ℕ)
      → slice_get diagram.blocks block ≡ Some b
      → root_input (row_of b.kind).place.role ≡ Some number → element < attributes.width_at block 1
      → t < n → c < clocks → IsSeen cycles (attributes.period_at block) 0 0 t c
      → waves.input number element c ≡ stimulus number element t
