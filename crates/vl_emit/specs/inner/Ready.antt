-- What the code asks of a netlist and of the places of its labels.
use Rattle.std.specs.Prelude.{◌≡◌, ◌<◌, ◌-◌, ◌*◌, ℕ, List, length, get_or, slice_index_or, []}
use Rattle.std.specs.Prelude.{Bool, true, false, if◌then◌else◌, map, flat_map, Option, None, Some, IsSome, Contains}
use Rattle.math_num.specs.Word.{IsWord}
use Rattle.hw_net.specs.declared.netlist.Frame.{Frame}
use Rattle.hw_net.specs.declared.netlist.NetLabel.{NetLabel}
use Rattle.hw_net.specs.declared.netlist.NetPort.{NetPort}
use Rattle.hw_net.specs.declared.netlist.NetOp.TheVariants.{Input}
use Rattle.hw_net.specs.declared.netlist.NetKind.{NetKind}
use Rattle.hw_net.specs.declared.netlist.NetKind.TheVariants.{Comb, Reg, EnReg, Acc, Bridge}
use Rattle.hw_net.specs.declared.netlist.NetKind.TheVariants.{Unit, Counter}
use Rattle.hw_net.specs.Circuit.{Circuit}
use Rattle.hw_net.specs.Operation.{arity}
use Rattle.hw_net.specs.Frames.{frame_of, counter_of}
use Rattle.vl_emit.specs.declared.items.Part.{Part}
use Rattle.vl_emit.specs.declared.items.Part.TheVariants.{Declarations, Units, Others}
use Rattle.vl_emit.specs.declared.source.Source.{Source}
use Rattle.vl_ast.specs.declared.expressions.BinOp.TheVariants as binary
use Rattle.vl_ast.specs.declared.expressions.Expr.{Expr}
use Rattle.vl_ast.specs.declared.expressions.Expr.TheVariants as expression
use Rattle.vl_ast.specs.declared.expressions.Sized.{Sized}
use Rattle.vl_ast.specs.declared.making.Listing.{Listing}
use Rattle.vl_ast.specs.declared.modules.ModItem.{ModItem}
use Rattle.vl_ast.specs.declared.modules.Port.{Port}
use Rattle.vl_ast.specs.Gated.{gated_item}
use Rattle.vl_ast.specs.Listing.{Lists}
use Rattle.vl_emit.specs.Header.{input_port, output_port}
use Rattle.vl_emit.specs.Names.{Wire, port_at, net_name, name_by, net_wire, input_wire}
use Rattle.hw_net.specs.Products.{net_at, places}
use Rattle.vl_emit.specs.inner.NetItems.{naming_of, counter_wire, slot_test, live_test, declarers_at}
use Rattle.vl_emit.specs.inner.NetItems.{drivers_at, units_at, others_at, output_item}
use Rattle.vl_emit.specs.inner.Operators.{test_of}
use Rattle.vl_emit.specs.inner.Spoken.{IsWithin}

abbrev pub label_at : List NetLabel → ℕ → NetLabel
label_at labels i = slice_index_or labels i (record { net = 0; name = [] })

-- the name of net k, where its label stands there
abbrev pub label_text : List NetLabel → Option ℕ → ℕ → List ℕ
label_text labels None k = net_name k
label_text labels (Some i) k = (label_at labels i).name

-- for each net the place of its label, where the first labels were not looked at
pub record IsIndexFrom (labels others : List NetLabel) (count : ℕ)
    (places : List (Option ℕ)) : Type 0 where
  pub size : length places ≡ count
  pub there : (k i : ℕ) → slice_index_or places k None ≡ Some i → i < length labels
  pub names : (k : ℕ) → k < count → label_text labels (slice_index_or places k None) k
      ≡ name_by others k

abbrev pub IsIndex : List NetLabel → ℕ → List (Option ℕ) → Type 0
IsIndex labels count places = IsIndexFrom labels labels count places

-- a frame has clocks and a Counter that is there
pub record IsTimed (netlist : Circuit) (frame : Frame) : Type 0 where
  pub period : 0 < frame.period
  pub number : ℕ
  pub counter : counter_of netlist.nets frame ≡ Some number
  pub there : number < length netlist.nets

-- what a net names is there
abbrev pub IsReady : Circuit → NetKind → Type 0
IsReady netlist (Comb op args) =
    (length args ≡ arity op) × ((j : ℕ) → j < length args → get_or args j 0 < length netlist.nets)
    × IsWithin op (net_at netlist.nets (get_or args 0 0)).width
    × ((input : ℕ) → op ≡ Input input → input < length netlist.inputs)
IsReady netlist (Reg frame slot first from) = IsTimed netlist frame × (from < length netlist.nets)
IsReady netlist (EnReg frame enable reset first from) =
    IsTimed netlist frame × (from < length netlist.nets) × (enable < length netlist.nets)
IsReady netlist (Acc frame enable from) =
    IsTimed netlist frame × (from < length netlist.nets) × (enable < length netlist.nets)
IsReady netlist (Bridge frame live from) = IsTimed netlist frame × (from < length netlist.nets)
IsReady netlist (Unit left right) = (left < length netlist.nets) × (right < length netlist.nets)
IsReady netlist (Counter frame) = 0 < frame.period

-- the net of each label is there
abbrev pub HaveNets : Circuit → Type 0
HaveNets netlist =
    (label : NetLabel) → Contains netlist.labels label → label.net < length netlist.nets

-- the nets of ports are there
abbrev pub AreThere : Circuit → List NetPort → Type 0
AreThere netlist ports =
    (i : ℕ) → i < length ports → (port_at ports i).net < length netlist.nets

-- an input, or else an output
abbrev pub port_of : Bool → Circuit → NetPort → Port
port_of input netlist port = if input then input_port netlist port else output_port netlist port

pub record AreReady (netlist : Circuit) : Type 0 where
  pub cycles : 0 < netlist.cycles
  pub words : (k : ℕ) → k < length netlist.nets
      → IsWord (net_at netlist.nets k).width (net_at netlist.nets k).signed
  pub kinds : (k : ℕ) → k < length netlist.nets → IsReady netlist (net_at netlist.nets k).kind
  pub inputs : AreThere netlist netlist.inputs
  pub outputs : AreThere netlist netlist.outputs

abbrev pub circuit_of : Source → Circuit
circuit_of source = source.netlist.now

-- the labels of a source are those of its netlist, which is ready
pub record IsSource (source : Source) : Type 0 where
  pub labels : IsIndex (circuit_of source).labels
      (length (circuit_of source).nets) source.labels.now
  pub ready : AreReady (circuit_of source)

-- how many nets and inputs there are
abbrev pub net_count : Source → ℕ
net_count source = length (circuit_of source).nets

abbrev pub input_count : Source → ℕ
input_count source = length (circuit_of source).inputs

-- a net of a source, a frame of it with its Counter, and a net of this kind
pub record IsNet (source : Source) (own : ℕ) : Type 0 where
  pub is : IsSource source
  pub there : own < net_count source

pub record HasFrame (source : Source) (frame : Frame) : Type 0 where
  pub is : IsSource source
  pub timed : IsTimed (circuit_of source) frame

pub record HasKind (source : Source) (own : ℕ) (kind : NetKind) : Type 0 where
  pub net : IsNet source own
  pub ready : IsReady (circuit_of source) kind

-- the arguments of a net are nets
pub record HasArguments (source : Source) (own : ℕ) (args : List ℕ) : Type 0 where
  pub net : IsNet source own
  pub there : (j : ℕ) → j < length args → get_or args j 0 < net_count source

abbrev pub kind_at : Source → ℕ → NetKind
kind_at source k = (net_at (circuit_of source).nets k).kind

-- a net and an input port by name
abbrev pub wire_in : Source → ℕ → Wire
wire_in source k = net_wire (circuit_of source) k

abbrev pub input_in : Source → ℕ → Wire
input_in source i = input_wire (circuit_of source) i

abbrev pub counter_in : Source → Frame → Wire
counter_in source frame = counter_wire (circuit_of source) frame

abbrev pub cycles_in : Source → ℕ
cycles_in source = (circuit_of source).cycles

-- an argument by its place
abbrev pub argument_in : Source → List ℕ → ℕ → Wire
argument_in source args place = wire_in source (get_or args place 0)

abbrev pub slot_in : Source → Frame → ℕ → Expr
slot_in source frame slot = slot_test (cycles_in source) frame (counter_in source frame) slot

abbrev pub live_in : Source → Frame → ℕ → Expr
live_in source frame live = live_test (cycles_in source) frame (counter_in source frame) live

-- when a register with enable takes a value, which is reset without it or keeps its own
abbrev pub taking_in : Source → Frame → ℕ → Bool → Expr
taking_in source frame enable true =
    slot_in source frame (frame.period * cycles_in source - 1)
taking_in source frame enable false =
    expression.Binary binary.Both (slot_in source frame (frame.period * cycles_in source - 1))
    (test_of (wire_in source enable))

-- what it takes: the value of a net, or what it begins with
abbrev pub taken_in : Source → ℕ → Bool → ℕ → Sized → Expr
taken_in source enable true from begun =
    expression.Choose (test_of (wire_in source enable)) (expression.Name (wire_in source from).name)
    (expression.Literal begun)
taken_in source enable false from begun = expression.Name (wire_in source from).name

-- when an accumulator takes a value: at the frame's end, and where `enable` isn't 0
abbrev pub adding_in : Source → Frame → ℕ → Expr
adding_in source frame enable =
    expression.Binary binary.Either (slot_in source frame (frame.period * cycles_in source - 1))
    (test_of (wire_in source enable))

-- what it takes: at the frame's end what it begins with, else itself and the value of a net
abbrev pub added_in : Source → ℕ → Frame → ℕ → Sized → Expr
added_in source own frame from begun =
    expression.Choose (slot_in source frame (frame.period * cycles_in source - 1))
    (expression.Literal begun)
    (expression.Binary binary.Add (expression.Name (wire_in source own).name)
    (expression.Name (wire_in source from).name))

-- the drivers of a net of this kind are put
abbrev pub Drives : Source → ℕ → NetKind → Listing ModItem → Listing ModItem → Type 0
Drives source own kind before after =
    Lists before after (map gated_item (drivers_at (circuit_of source) own kind))

-- the items of a net in a part of the module
abbrev pub net_items : Source → Part → ℕ → List ModItem
net_items source Declarations own = declarers_at (circuit_of source) own (kind_at source own)
net_items source Units own = units_at (circuit_of source) own (kind_at source own)
net_items source Others own =
    map gated_item (others_at (circuit_of source) own (kind_at source own))

-- those of the first nets, and of the output ports
abbrev pub first_in : Source → Part → ℕ → List ModItem
first_in source part count = flat_map (net_items source part) (places count)

abbrev pub all_shown : Source → List ModItem
all_shown source = map (output_item (naming_of (circuit_of source))) (circuit_of source).outputs

-- the frame that a register of this kind names has a Counter
abbrev pub IsCounted : Circuit → NetKind → Type 0
IsCounted netlist kind =
    (frame : Frame) → frame_of kind ≡ Some frame → IsSome (counter_of netlist.nets frame)
