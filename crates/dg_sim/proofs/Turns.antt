-- What the rule of an entry reads: each input is there, and stands before the entry where it is read in the same sample.
use Rattle.std.proofs.Common.{◌≡◌, ℕ, ◌<◌, ◌≤◌, inr, List, length, Some, Bool, true, slice_get, ap, sym, ◌∙◌, subst, refl, arith}
use Rattle.std.proofs.lemmas.Option.{same_Some}
use Rattle.dg_model.specs.declared.diagram.Diagram.{Diagram}
use Rattle.dg_model.specs.declared.diagram.Block.{Block}
use Rattle.dg_model.specs.declared.kind.Kind.{Kind}
use Rattle.dg_model.specs.declared.kind.Kind.TheVariants.{Inport, Outport, Constant, Ground, Sum, Gain, Product, Switch, Relational, Logic, Convert, Delay, Mux, Demux, RateTransition, Pass}
use Rattle.dg_model.specs.declared.kind.Kind.TheVariants.{EnableTest, EnOut, Terminator}
use Rattle.dg_model.specs.declared.kind.Gate.{Gate}
use Rattle.dg_model.specs.declared.kind.Gate.TheVariants.{And, Or, Nand, Nor, Xor, Nxor, Not}
use Rattle.dg_model.specs.declared.op.Op.{Op}
use Rattle.dg_model.specs.Equation.{IsOpOf, signs_of}
use Rattle.fx_type.specs.declared.kind.FxType.{FxType}
use Rattle.fx_type.specs.declared.decimal.Decimal.{Decimal}
use Rattle.dg_model.specs.Attributes.{attributes_of}
use Rattle.dg_model.specs.Checked.{IsChecked, CheckedDiagram}
use Rattle.dg_model.specs.Instant.{reads_now, asks_now}
use Rattle.dg_model.specs.KindRow.{Shape, HasOperands}
use Rattle.dg_model.specs.Library.{row_of}
use Rattle.dg_model.specs.Readable.{HasPorts, IsReadable}
use Rattle.dg_model.specs.Signals.{Attributes}
use Rattle.dg_model.specs.Solves.{IsShown}
use Rattle.dg_model.specs.Wires.{width_into}
use Rattle.dg_tables.specs.Fit.{FitShape}
use Rattle.dg_tables.specs.declared.entries.Place.{Place}
use Rattle.dg_tables.specs.declared.reading.Starts.{Starts}
use Rattle.dg_tables.specs.Entries.{IsEntry, place_at}
use Rattle.dg_tables.specs.Finding.{Finds, IsRead, ReadsNow}
use Rattle.dg_tables.specs.Laws.{IsOrdered}
use Rattle.dg_sim.specs.inner.Turns.{IsTurn}
use Rattle.dg_tables.proofs.Widths.{widths_fit}
use Rattle.dg_tables.proofs.Lists.{below_repeated}
use Rattle.dg_tables.proofs.Ranks.{control_leads}
use Rattle.dg_tables.proofs.Sources.{elements_read, is_readable}

-- ---- the entry at the source of a line
module _ (diagram : Diagram) (attributes : Attributes) (block port element : ℕ) where
  pub below_read : element < width_into diagram attributes block port → IsRead diagram attributes block port element
  below_read below = below_repeated (width_into diagram attributes block port) element (inr below)

-- ---- the entry whose rule is to be made
module _ (checked : CheckedDiagram) (starts : Starts) (places : List Place) (k : ℕ) (place : Place) (b : Block) where
  pub turn_of : IsOrdered checked.diagram checked.order → Finds checked starts places
      → slice_get places k ≡ Some place → IsEntry checked.diagram (attributes_of checked.diagram) place
      → slice_get checked.diagram.blocks place.block ≡ Some b → IsTurn checked starts places k place b
  turn_of rules finds at entry block_is =
      let one : entry.0 ≡ b = same_Some entry.0 b (sym entry.1.block_is ∙ block_is) in
      record { rules = rules; finds = finds; at = at; shown = subst (λ (x : Block). IsShown checked.diagram (attributes_of checked.diagram) place.block x place.port place.element) one entry.1 }

  module _ (turn : IsTurn checked starts places k place b) (kind : Kind) (kind_is : b.kind ≡ kind) where
    pub turn_now : reads_now checked.diagram (attributes_of checked.diagram) place.block kind ≡ true → ReadsNow checked places k place.block
    turn_now now = (place, b, turn.at, refl, turn.shown.block_is, subst (λ (kind : Kind). reads_now checked.diagram (attributes_of checked.diagram) place.block kind ≡ true) (sym kind_is) now)

    pub turn_read : IsChecked checked.diagram → (row_of kind).signal.shape ≡ Shape.Elementwise → (input : ℕ)
        → 1 ≤ input → input ≤ b.inputs
        → IsRead checked.diagram (attributes_of checked.diagram) place.block input place.element
    turn_read is elementwise =
        let shape : (row_of b.kind).signal.shape ≡ Shape.Elementwise = ap (λ (kind : Kind). (row_of kind).signal.shape) kind_is ∙ elementwise in
        elements_read checked.diagram (attributes_of checked.diagram) place.block b.inputs b.outputs b.kind place.port place.element turn.shown.port_from turn.shown.port_to turn.shown.element_below
        (subst (λ (shape : Shape). FitShape shape checked.diagram (attributes_of checked.diagram) place.block b.kind b.inputs b.outputs) shape
        (widths_fit checked.diagram is.wired is.dimensions place.block b turn.shown.block_is))

  op_shape : (kind : Kind) (param control : FxType) (op : Op) → IsOpOf kind place.element param control op → (row_of kind).signal.shape ≡ Shape.Elementwise
  op_shape (Mux sizes) param control op is = absurd is
  op_shape (Demux sizes) param control op is = absurd is
  op_shape EnableTest param control op is = absurd is
  op_shape _ param control op is = refl

  op_kind_now : (kind : Kind) (param control : FxType) (op : Op) → IsOpOf kind place.element param control op → reads_now checked.diagram (attributes_of checked.diagram) place.block kind ≡ true
  op_kind_now (Delay length initial reset) param control op is = absurd is
  op_kind_now (RateTransition period initial) param control op is = absurd is
  op_kind_now _ param control op is = refl

  -- it has at most 32 inputs, and so many signs
  gate_few : (operator : Gate) (inputs : ℕ) → HasOperands operator inputs → inputs ≤ 32
  gate_few And inputs operands = operands.1
  gate_few Or inputs operands = operands.1
  gate_few Nand inputs operands = operands.1
  gate_few Nor inputs operands = operands.1
  gate_few Xor inputs operands = operands.1
  gate_few Nxor inputs operands = operands.1
  gate_few Not inputs operands = omega (arith, operands)

  op_few : (kind : Kind) (param control : FxType) (op : Op) (inputs outputs : ℕ) → IsOpOf kind place.element param control op → HasPorts kind inputs outputs → (row_of kind).parameters → inputs ≤ 32
  op_few (Inport number width) param control op inputs outputs is ports parameters = absurd is
  op_few (Outport number) param control op inputs outputs is ports parameters = omega (arith, ports.0)
  op_few (Constant value) param control op inputs outputs is ports parameters = absurd is
  op_few Ground param control op inputs outputs is ports parameters = absurd is
  op_few (Sum negative accum) param control op inputs outputs is ports parameters = omega (arith, ports.0, parameters.0.1)
  op_few (Gain value spec) param control op inputs outputs is ports parameters = omega (arith, ports.0)
  op_few Product param control op inputs outputs is ports parameters = omega (arith, ports.0)
  op_few (Switch criterion threshold) param control op inputs outputs is ports parameters = omega (arith, ports.0)
  op_few (Relational operator) param control op inputs outputs is ports parameters = omega (arith, ports.0)
  op_few (Logic operator) param control op inputs outputs is ports parameters = gate_few operator inputs ports.0
  op_few (Convert stored) param control op inputs outputs is ports parameters = omega (arith, ports.0)
  op_few (Delay length initial reset) param control op inputs outputs is ports parameters = absurd is
  op_few (Mux sizes) param control op inputs outputs is ports parameters = absurd is
  op_few (Demux sizes) param control op inputs outputs is ports parameters = absurd is
  op_few (RateTransition period initial) param control op inputs outputs is ports parameters = absurd is
  op_few (Pass width) param control op inputs outputs is ports parameters = omega (arith, ports.0)
  op_few EnableTest param control op inputs outputs is ports parameters = absurd is
  op_few (EnOut reset initial) param control op inputs outputs is ports parameters = absurd is
  op_few Terminator param control op inputs outputs is ports parameters = absurd is

  signs_few : (kind : Kind) → (row_of kind).parameters → length (signs_of kind) ≤ 32
  signs_few (Sum negative accum) parameters = parameters.0.1
  signs_few _ parameters = omega arith

  module _ (turn : IsTurn checked starts places k place b) where
    readable : IsChecked checked.diagram → IsReadable b
    readable is = is_readable checked.diagram (attributes_of checked.diagram) is.wired place.block b turn.shown.block_is

    -- the one input of a Delay, of a rate transition and of an output port of an enabled subsystem
    one_read : IsChecked checked.diagram → (kind : Kind) → b.kind ≡ kind
        → (row_of kind).signal.shape ≡ Shape.Elementwise → (HasPorts kind b.inputs b.outputs → b.inputs ≡ 1)
        → IsRead checked.diagram (attributes_of checked.diagram) place.block 1 place.element
    one_read is kind kind_is elementwise single =
        let one : b.inputs ≡ 1 = single (subst (λ (kind : Kind). HasPorts kind b.inputs b.outputs) kind_is (readable is).ports) in
        turn_read turn kind kind_is is elementwise 1 (omega arith) (omega (arith, one))

    pub delay_reads : IsChecked checked.diagram → (length : ℕ) (initial : List Decimal) (reset : Bool)
        → b.kind ≡ Delay length initial reset
        → IsRead checked.diagram (attributes_of checked.diagram) place.block 1 place.element
    delay_reads is length initial reset e = one_read is (Delay length initial reset) e refl (λ ports. ports.0)

    pub rate_reads : IsChecked checked.diagram → (period : Decimal) (initial : List Decimal)
        → b.kind ≡ RateTransition period initial
        → IsRead checked.diagram (attributes_of checked.diagram) place.block 1 place.element
    rate_reads is period initial e = one_read is (RateTransition period initial) e refl (λ ports. ports.0)

    pub output_reads : IsChecked checked.diagram → (reset : Bool) (initial : List Decimal)
        → b.kind ≡ EnOut reset initial
        → IsRead checked.diagram (attributes_of checked.diagram) place.block 1 place.element
    output_reads is reset initial e = one_read is (EnOut reset initial) e refl (λ ports. ports.0)

    -- the control of an output port of an enabled subsystem stands before it
    pub control_before : (cell enable : ℕ) (reset : Bool) (initial : List Decimal) → b.kind ≡ EnOut reset initial
        → b.enable ≡ Some enable → slice_get places cell ≡ Some (place_at enable 1 0) → cell < k
    control_before cell enable reset initial kind_is is there =
        turn.finds.ranked cell k (place_at enable 1 0) place there turn.at
        (control_leads checked.diagram (attributes_of checked.diagram) place.block b enable turn.shown.block_is (ap (λ (kind : Kind). asks_now kind) kind_is) is)

    -- a block that works element by element has an operation, and all its inputs are read in the same sample
    pub op_reads : IsChecked checked.diagram → (param control : FxType) (op : Op)
        → IsOpOf b.kind place.element param control op → (input : ℕ) → 1 ≤ input → input ≤ b.inputs
        → IsRead checked.diagram (attributes_of checked.diagram) place.block input place.element
    op_reads is param control op is_op = turn_read turn b.kind refl is (op_shape b.kind param control op is_op)

    pub op_now : (param control : FxType) (op : Op) → IsOpOf b.kind place.element param control op → ReadsNow checked places k place.block
    op_now param control op is_op = turn_now turn b.kind refl (op_kind_now b.kind param control op is_op)

    pub op_inputs : IsChecked checked.diagram → (param control : FxType) (op : Op) → IsOpOf b.kind place.element param control op → b.inputs ≤ 32
    op_inputs is param control op is_op = op_few b.kind param control op b.inputs b.outputs is_op (readable is).ports (readable is).parameters

    pub op_signs : IsChecked checked.diagram → length (signs_of b.kind) ≤ 32
    op_signs is = signs_few b.kind (readable is).parameters
