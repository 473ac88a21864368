-- The nets of an element of a block: what they are made of, and what putting them in owes (own).
use Rattle.std.specs.Prelude.{◌≡◌, ℕ, suc, ◌+◌, ◌-◌, ◌≤◌, ◌⊎◌, ℤ, Bool, true, false, not, if◌then◌else◌, List, [], ◌∷◌, length, map, sum, Contains, Option, None, Some, slice_get, ⊤}
use Rattle.fx_type.specs.declared.kind.FxType.{FxType}
use Rattle.fx_type.specs.FullType.{IsFullProduct}
use Rattle.fx_type.specs.FxType.{is_signed, width_of}
use Rattle.math_list.specs.Numbers.{numbers_from}
use Rattle.dg_model.specs.declared.diagram.Diagram.{Diagram}
use Rattle.dg_model.specs.declared.diagram.Block.{Block}
use Rattle.dg_model.specs.declared.kind.Kind.{Kind}
use Rattle.dg_model.specs.declared.kind.Kind.TheVariants.{Inport, Outport, Constant, Ground, Sum, Gain, Product, Switch, Relational, Logic, Convert, Delay, Mux, Demux, RateTransition, Pass, EnableTest, EnOut, Terminator}
use Rattle.dg_model.specs.Attributes.{attributes_of}
use Rattle.dg_model.specs.Equation.{StoresEntry, IsPart}
use Rattle.dg_model.specs.LatencyEdges.{asks_ever}
use Rattle.dg_model.specs.Library.{row_of}
use Rattle.dg_model.specs.Signals.{Attributes}
use Rattle.dg_model.specs.Wires.{period_into, type_into, types_into, width_into, widths_into}
use Rattle.hw_net.specs.declared.netlist.Frame.{Frame}
use Rattle.hw_net.specs.declared.netlist.Net.{Net}
use Rattle.hw_net.specs.declared.netlist.NetKind.{NetKind}
use Rattle.hw_net.specs.declared.netlist.NetKind.TheVariants.{Comb, Reg, EnReg, Acc, Bridge, Unit, Counter}
use Rattle.hw_net.specs.declared.netlist.NetOp.TheVariants.{Multiply}
use Rattle.hw_net.specs.Circuit.{Circuit}
use Rattle.hw_net.specs.Netlist.{HasWord, reads_now}
use Rattle.hw_net.specs.NetRows.{Rows}
use Rattle.hw_net.specs.Registers.{Wave}
use Rattle.hw_lower.specs.Lowered.{IsComb}
use Rattle.hw_sched.specs.Slots.{right_of}
use Rattle.hw_sched.specs.Storage.{keeps_own, kept_by_role}
use Rattle.hw_shows.specs.Timing.{Timing}
use Rattle.hw_shows.specs.Series.{steady, span_at, IsProductAt}
use Rattle.hw_build.specs.Places.{Places}
use Rattle.hw_build.specs.declared.entry.Entry.{Entry}
use Rattle.hw_build.specs.inner.Facts.{IsElementMade}
use Rattle.hw_share.specs.inner.Parts.{Grows}
use Rattle.hw_build.specs.inner.Growth.{InLater}
use Rattle.hw_build.specs.inner.OperationNets.{offered_args}

-- ---- what an element is made of

-- what enables a block, if anything does
abbrev pub enables_of : Places → ℕ → Option ℕ → List ℕ
enables_of places block None = []
enables_of places block (Some control) = places.enable block ∷ []

abbrev pub enable_types : Attributes → Option ℕ → List FxType
enable_types attributes None = []
enable_types attributes (Some control) = attributes.type_at control 1 ∷ []

-- what the input offers in whose part an element of a Mux stands
pub record IsPartOffered (diagram : Diagram) (places : Places) (block : ℕ) (b : Block) (element : ℕ)
    (operands : List ℕ) : Type 0 where
  pub signal : ℕ
  pub place : ℕ
  pub part : IsPart
      (widths_into diagram (attributes_of diagram) block b.inputs) element signal place
  pub is : operands ≡ places.offered block (suc signal) place ∷ []

module _ (diagram : Diagram) (places : Places) (block : ℕ) (b : Block) (port element : ℕ) where
  -- what the ends of a block offer to an element, by its kind
  abbrev pub AreOffered : Kind → List ℕ → Type 0
  AreOffered (Inport number width) operands = operands ≡ places.input number element ∷ []
  AreOffered (Outport number) operands = operands ≡ offered_args places block b element
  AreOffered (Constant value) operands = operands ≡ []
  AreOffered Ground operands = operands ≡ []
  AreOffered (Sum negative accum) operands = operands ≡ offered_args places block b element
  AreOffered (Gain value param) operands = operands ≡ offered_args places block b element
  AreOffered Product operands = operands ≡ offered_args places block b element
  AreOffered (Switch criterion threshold) operands = operands ≡ offered_args places block b element
  AreOffered (Relational operator) operands = operands ≡ offered_args places block b element
  AreOffered (Logic operator) operands = operands ≡ offered_args places block b element
  AreOffered (Convert stored) operands = operands ≡ offered_args places block b element
  AreOffered (Delay delay initial reset) operands =
      operands ≡ places.offered block 1 element ∷ enables_of places block b.enable
  AreOffered (Mux sizes) operands = IsPartOffered diagram places block b element operands
  AreOffered (Demux sizes) operands =
      operands ≡ places.offered block 1
      (sum (map ((attributes_of diagram).width_at block) (numbers_from 1 (port - 1))) + element)
      ∷ []
  AreOffered (RateTransition period initial) operands =
      operands ≡ places.offered block 1 element ∷ []
  AreOffered (Pass width) operands = operands ≡ offered_args places block b element
  AreOffered EnableTest operands =
      operands ≡ map (places.offered block 1)
      (numbers_from 0 (width_into diagram (attributes_of diagram) block 1))
  AreOffered (EnOut reset initial) operands =
      operands ≡ places.offered block 1 element ∷ enables_of places block b.enable
  AreOffered Terminator operands = ⊤

-- the types of these
abbrev pub operand_types : Diagram → Attributes → ℕ → Block → ℕ → Kind → List FxType
operand_types diagram attributes block b port (Inport number width) =
    attributes.type_at block port ∷ []
operand_types diagram attributes block b port (Outport number) =
    types_into diagram attributes block b.inputs
operand_types diagram attributes block b port (Constant value) = []
operand_types diagram attributes block b port Ground = []
operand_types diagram attributes block b port (Sum negative accum) =
    types_into diagram attributes block b.inputs
operand_types diagram attributes block b port (Gain value param) =
    types_into diagram attributes block b.inputs
operand_types diagram attributes block b port Product = types_into diagram attributes block b.inputs
operand_types diagram attributes block b port (Switch criterion threshold) =
    types_into diagram attributes block b.inputs
operand_types diagram attributes block b port (Relational operator) =
    types_into diagram attributes block b.inputs
operand_types diagram attributes block b port (Logic operator) =
    types_into diagram attributes block b.inputs
operand_types diagram attributes block b port (Convert stored) =
    types_into diagram attributes block b.inputs
operand_types diagram attributes block b port (Delay delay initial reset) =
    attributes.type_at block port ∷ enable_types attributes b.enable
operand_types diagram attributes block b port (Mux sizes) = attributes.type_at block port ∷ []
operand_types diagram attributes block b port (Demux sizes) = attributes.type_at block port ∷ []
operand_types diagram attributes block b port (RateTransition period initial) =
    attributes.type_at block port ∷ []
operand_types diagram attributes block b port (Pass width) =
    types_into diagram attributes block b.inputs
operand_types diagram attributes block b port EnableTest =
    map (λ place. type_into diagram attributes block 1)
    (numbers_from 0 (width_into diagram attributes block 1))
operand_types diagram attributes block b port (EnOut reset initial) =
    attributes.type_at block port ∷ enable_types attributes b.enable
operand_types diagram attributes block b port Terminator = []

-- what registers have first: the initial value of a kind that has one
abbrev pub HasFirst : Diagram → ℕ → ℕ → Kind → ℤ → Type 0
HasFirst diagram block element (Inport number width) first = ⊤
HasFirst diagram block element (Outport number) first = ⊤
HasFirst diagram block element (Constant value) first = ⊤
HasFirst diagram block element Ground first = ⊤
HasFirst diagram block element (Sum negative accum) first = ⊤
HasFirst diagram block element (Gain value param) first = ⊤
HasFirst diagram block element Product first = ⊤
HasFirst diagram block element (Switch criterion threshold) first = ⊤
HasFirst diagram block element (Relational operator) first = ⊤
HasFirst diagram block element (Logic operator) first = ⊤
HasFirst diagram block element (Convert stored) first = ⊤
HasFirst diagram block element (Delay delay initial reset) first =
    StoresEntry initial element ((attributes_of diagram).type_at block 1) first
HasFirst diagram block element (Mux sizes) first = ⊤
HasFirst diagram block element (Demux sizes) first = ⊤
HasFirst diagram block element (RateTransition period initial) first =
    StoresEntry initial element ((attributes_of diagram).type_at block 1) first
HasFirst diagram block element (Pass width) first = ⊤
HasFirst diagram block element EnableTest first = ⊤
HasFirst diagram block element (EnOut reset initial) first =
    StoresEntry initial element ((attributes_of diagram).type_at block 1) first
HasFirst diagram block element Terminator first = ⊤

-- ---- what is put in

-- the frames of a block
pub record IsFrameOf (diagram : Diagram) (timing : Timing) (block : ℕ)
    (frame : Frame) : Type 0 where
  pub period_is : (attributes_of diagram).period_at block ≡ Some frame.period
  pub latency_is : frame.latency ≡ timing.latency block

-- operations, registers and Counters of the frames of the block
abbrev pub IsEntryPart : Diagram → Timing → ℕ → NetKind → Type 0
IsEntryPart diagram timing block (Comb op args) = ⊤
IsEntryPart diagram timing block (Reg frame slot first from) = IsFrameOf diagram timing block frame
IsEntryPart diagram timing block (EnReg frame enable reset first from) =
    IsFrameOf diagram timing block frame
IsEntryPart diagram timing block (Acc frame enable from) = ⊥
IsEntryPart diagram timing block (Bridge frame live from) = ⊥
IsEntryPart diagram timing block (Unit left right) = ⊥
IsEntryPart diagram timing block (Counter frame) = IsFrameOf diagram timing block frame

-- the registers of an element beside lines and pipeline
abbrev pub kept_each : Diagram → ℕ → Block → ℕ
kept_each diagram block b =
    (if keeps_own b.enable (period_into diagram (attributes_of diagram) block 1)
    then (row_of b.kind).timing.delay else 0) + kept_by_role (row_of b.kind).place.role

-- the number of a net that stands so many behind others
abbrev pub number_behind : ℕ → Option ℕ → Option ℕ
number_behind first None = None
number_behind first (Some place) = Some (first + place)

-- the multiplication that an element of a kind has of its own, behind the constants of its list,
-- where it is shared by none
abbrev pub multiply_at : ℕ → Kind → Option ℕ
multiply_at first kind =
    if (row_of kind).hardware.multiplies then Some (first + length (row_of kind).signal.lists)
    else None

-- whether a kind has registers of its own that show its entry: a Delay that isn't one of its line
abbrev pub keeps_entry : Option ℕ → Option ℕ → Kind → Bool
keeps_entry enable driver (Delay delay initial reset) = keeps_own enable driver
keeps_entry enable driver _ = false

-- whether a kind shows what it is offered: a line with registers has them already
abbrev pub hands_on : Option ℕ → Option ℕ → Kind → Bool
hands_on enable driver (Inport number width) = true
hands_on enable driver (Delay delay initial reset) = not (keeps_own enable driver)
hands_on enable driver (Mux sizes) = true
hands_on enable driver (Demux sizes) = true
hands_on enable driver (RateTransition period initial) = true
hands_on enable driver _ = false

-- whether a kind carries out an operation, on the element itself of each of its inputs
abbrev pub works : Kind → Bool
works (Outport number) = true
works (Sum negative accum) = true
works (Gain value param) = true
works Product = true
works (Switch criterion threshold) = true
works (Relational operator) = true
works (Logic operator) = true
works (Convert stored) = true
works (Pass width) = true
works _ = false

-- whether it shows something otherwise
abbrev pub shows_alone : Kind → Bool
shows_alone Terminator = false
shows_alone kind = not (works kind)

-- the net was put in, and reads nothing in its own clock
pub record IsHeldAt (before after : Circuit) (number : ℕ) : Type 0 where
  pub net : Net
  pub is : slice_get after.nets number ≡ Some net
  pub alone : reads_now net.kind ≡ []
  pub new : length before.nets ≤ number

-- the one multiplication among them
pub record IsOwnMultiply (before after : Circuit) (found : Option ℕ) : Type 0 where
  pub one : (k : ℕ) → found ≡ Some k → IsComb after k Multiply
  pub no_other : (k : ℕ) → length before.nets ≤ k → IsComb after k Multiply → found ≡ Some k

-- places name the nets of an element, and where it has a state the registers of that
pub record IsEntryAt (places : Places) (block : ℕ) (b : Block) (port element : ℕ)
    (entry : Entry) : Type 0 where
  pub net : places.entry block port element ≡ entry.net
  pub begins : asks_ever (row_of b.kind).timing.asks ≡ true
      → places.state block element 0 ≡ places.offered block 1 element
  pub state : asks_ever (row_of b.kind).timing.asks ≡ true → (k : ℕ)
      → places.state block element (suc k) ≡ entry.state + k

module _ (diagram : Diagram) (timing : Timing) (before after : Circuit) (block : ℕ) (b : Block)
    (port element : ℕ) (operands : List ℕ) (entry : Entry) where
  -- what is put in is the element, by any places that name it so
  abbrev pub IsMadeBy : Type 0
  IsMadeBy =
      (closed hubs : ℕ) (places : Places) → hubs ≤ length before.nets
      → before.cycles ≡ timing.cycles
      → AreOffered diagram places block b port element b.kind operands
      → IsEntryAt places block b port element entry
      → HasFirst diagram block element b.kind (places.first block element)
      → ((row_of b.kind).hardware.multiplies ≡ true → timing.slot block element ≡ None)
      → IsElementMade diagram timing places closed hubs after block b port element

  -- an element was put in
  pub record PutsEntry : Type 0 where
    pub count : ℕ
    pub grows : Grows before after operands (IsEntryPart diagram timing block) count
    pub few : count ≤ kept_each diagram block b
    pub multiply : entry.multiply ≡ multiply_at (length before.nets) b.kind
    pub multiplies : IsOwnMultiply before after entry.multiply
    pub word : HasWord after.nets entry.net (width_of ((attributes_of diagram).type_at block port))
        (is_signed ((attributes_of diagram).type_at block port))
    pub stands : Contains operands entry.net ⊎ (length before.nets ≤ entry.net)
    pub held : keeps_entry b.enable (period_into diagram (attributes_of diagram) block 1) b.kind
        ≡ true → IsHeldAt before after entry.net
    pub made : IsMadeBy

-- ---- a shared element

-- places name the product of a shared multiplier, by the kind of its block
module _ (diagram : Diagram) (timing : Timing) (places : Places) (closed hubs : ℕ) (now : Circuit)
    (block element : ℕ) where
  -- in its slot the multiplier had these operands
  abbrev pub IsProductOf : ℕ → (Rows → Wave) → Type 0
  IsProductOf slot right =
      (period : ℕ) → (attributes_of diagram).period_at block ≡ Some period
      → InLater closed hubs now
      (λ n rows. IsProductAt n (span_at timing period block) slot
      (rows (places.offered block 1 element)) (right rows)
      (rows (places.product block element)))

  abbrev pub HasProductAs : ℕ → Kind → Type 0
  HasProductAs slot (Inport number width) = ⊥
  HasProductAs slot (Outport number) = ⊥
  HasProductAs slot (Constant value) = ⊥
  HasProductAs slot Ground = ⊥
  HasProductAs slot (Sum negative accum) = ⊥
  HasProductAs slot (Gain value param) =
      (coefficient : ℤ)
      × StoresEntry value element ((attributes_of diagram).param_at block) coefficient
      × IsProductOf slot (λ rows. steady coefficient)
  HasProductAs slot Product = IsProductOf slot (λ rows. rows (places.offered block 2 element))
  HasProductAs slot (Switch criterion threshold) = ⊥
  HasProductAs slot (Relational operator) = ⊥
  HasProductAs slot (Logic operator) = ⊥
  HasProductAs slot (Convert stored) = ⊥
  HasProductAs slot (Delay delay initial reset) = ⊥
  HasProductAs slot (Mux sizes) = ⊥
  HasProductAs slot (Demux sizes) = ⊥
  HasProductAs slot (RateTransition period initial) = ⊥
  HasProductAs slot (Pass width) = ⊥
  HasProductAs slot EnableTest = ⊥
  HasProductAs slot (EnOut reset initial) = ⊥
  HasProductAs slot Terminator = ⊥

-- the net has the product of a block's operands, in the type that holds all of these
pub record IsFullProductAt (diagram : Diagram) (net : Circuit) (place : ℕ) (b : Block)
    (type : FxType) (product : ℕ) : Type 0 where
  pub block : slice_get diagram.blocks place ≡ Some b
  pub full : IsFullProduct (type_into diagram (attributes_of diagram) place 1)
      (right_of diagram (attributes_of diagram) place (Some b)) type
  pub word : HasWord net.nets product (width_of type) (is_signed type)

-- an element was put in that converts such a product
pub record PutsShared (diagram : Diagram) (timing : Timing) (before after : Circuit) (block : ℕ)
    (b : Block) (port element product : ℕ) (entry : Entry) : Type 0 where
  pub grows : Grows before after (product ∷ []) (IsEntryPart diagram timing block) 0
  pub multiply : entry.multiply ≡ None
  pub multiplies : IsOwnMultiply before after None
  pub word : HasWord after.nets entry.net (width_of ((attributes_of diagram).type_at block port))
      (is_signed ((attributes_of diagram).type_at block port))
  pub stands : Contains (product ∷ []) entry.net ⊎ (length before.nets ≤ entry.net)
  pub made : (closed hubs : ℕ) (places : Places) (slot : ℕ) → hubs ≤ length before.nets
      → timing.slot block element ≡ Some slot
      → places.entry block port element ≡ entry.net → places.product block element ≡ product
      → HasProductAs diagram timing places closed hubs before block element slot b.kind
      → IsElementMade diagram timing places closed hubs after block b port element
