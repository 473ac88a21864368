-- What emission asks of a netlist, net by net, and what a module has of each of its nets.
use Rattle.std.specs.Prelude.{◌⊎◌, ◌≡◌, ◌≢◌, ◌-◌, ◌+◌, ◌*◌, ◌^◌, ◌<◌, ℕ, Bool, true, false, List}
use Rattle.std.specs.Prelude.{length, get_or, Contains, ℤ, pos}
use Rattle.math_num.specs.Word.{IsWord, InWord}
use Rattle.vl_ast.specs.declared.modules.ModItem.{ModItem}
use Rattle.vl_ast.specs.declared.modules.Port.{Port}
use Rattle.vl_ast.specs.declared.modules.Module.{Module}
use Rattle.vl_ast.specs.Nets.{nets_of}
use Rattle.vl_ast.specs.Conditions.{is_width}
use Rattle.hw_net.specs.declared.netlist.Frame.{Frame}
use Rattle.hw_net.specs.declared.netlist.Net.{Net}
use Rattle.hw_net.specs.declared.netlist.NetPort.{NetPort}
use Rattle.hw_net.specs.declared.netlist.NetOp.TheVariants.{Input}
use Rattle.hw_net.specs.declared.netlist.NetKind.{NetKind}
use Rattle.hw_net.specs.declared.netlist.NetKind.TheVariants.{Comb, Reg, EnReg, Acc, Bridge}
use Rattle.hw_net.specs.declared.netlist.NetKind.TheVariants.{Unit, Counter}
use Rattle.hw_net.specs.Operation.{arity}
use Rattle.vl_emit.specs.inner.NetItems.{Naming, drivers, module_items}
use Rattle.vl_emit.specs.Names.{Wire}
use Rattle.vl_emit.specs.inner.Spoken.{IsWithin}

-- a frame has clocks, and a counter
pub record IsCounted (cycles count : ℕ) (naming : Naming) (net : ℕ → Net)
    (frame : Frame) : Type 0 where
  pub some : 0 < frame.period * cycles
  pub there : naming.counter frame < count
  pub is : (net (naming.counter frame)).kind ≡ Counter frame

-- a net is there and stands before another in the order of one clock
pub record IsBefore (count : ℕ) (rank : ℕ → ℕ) (k j : ℕ) : Type 0 where
  pub there : j < count
  pub before : rank j < rank k

-- a net has the word of another that is there
pub record HasWordOf (count : ℕ) (net : ℕ → Net) (k from : ℕ) : Type 0 where
  pub there : from < count
  pub width : (net from).width ≡ (net k).width
  pub signed : (net from).signed ≡ (net k).signed

-- a register has the word of what it takes, and its first value is in it
pub record Takes (count : ℕ) (net : ℕ → Net) (k from : ℕ) (first : ℤ) : Type 0 where
  pub of : HasWordOf count net k from
  pub first_in : InWord (net k).width (net k).signed first

-- what a net of each kind names
abbrev pub IsSoundKind : ℕ → ℕ → Naming → (ℕ → Net) → (ℕ → ℕ) → ℕ → NetKind → Type 0
IsSoundKind cycles count naming net rank k (Comb op args) =
    IsWithin op (net (get_or args 0 0)).width
    × ((j : ℕ) → j < arity op → IsBefore count rank k (get_or args j 0))
    × (length args ≡ arity op)
IsSoundKind cycles count naming net rank k (Unit left right) =
    IsBefore count rank k left × IsBefore count rank k right
IsSoundKind cycles count naming net rank k (Counter frame) =
    (0 < frame.period * cycles) × (frame.latency * cycles + (frame.period * cycles - 1)
    < 2 ^ (net k).width)
    × InWord (net k).width (net k).signed (pos
    (frame.latency * cycles + (frame.period * cycles - 1)))
IsSoundKind cycles count naming net rank k (Reg frame slot first from) =
    IsCounted cycles count naming net frame × Takes count net k from first
IsSoundKind cycles count naming net rank k (EnReg frame enable reset first from) =
    IsCounted cycles count naming net frame × Takes count net k from first × (enable < count)
IsSoundKind cycles count naming net rank k (Acc frame enable from) =
    IsCounted cycles count naming net frame × Takes count net k from (pos 0) × (enable < count)
IsSoundKind cycles count naming net rank k (Bridge frame live from) =
    IsCounted cycles count naming net frame × (0 < live * cycles) × IsBefore count rank k from
    × HasWordOf count net k from

pub record IsSound (cycles count : ℕ) (naming : Naming) (net : ℕ → Net)
    (rank : ℕ → ℕ) : Type 0 where
  pub word : (k : ℕ) → k < count → IsWord (net k).width (net k).signed
  pub names : (k : ℕ) → k < count → IsSoundKind cycles count naming net rank k (net k).kind

-- the module declares each net and each held value with the word of the net, and has the items of
-- each
pub record HasNets (cycles count : ℕ) (naming : Naming) (net : ℕ → Net) (m : Module) : Type 0 where
  pub declared : (k : ℕ) → k < count → nets_of m (naming.net k)
      ≡ record { width = (net k).width; signed = (net k).signed }
  pub held : (k : ℕ) → k < count → (frame : Frame) (live from : ℕ)
      → (net k).kind ≡ Bridge frame live from
      → nets_of m (naming.hold k) ≡ record { width = (net k).width; signed = (net k).signed }
  pub items : (k : ℕ) → k < count → (item : ModItem)
      → Contains (drivers cycles naming net k (net k).kind) item → Contains m.items item

-- the names of nets and of held values differ from each other and from those of ports
pub record AreNames (count : ℕ) (naming : Naming) (ports : List Port) : Type 0 where
  pub nets : (j k : ℕ) → j < count → k < count → naming.net j ≡ naming.net k → j ≡ k
  pub holds : (j k : ℕ) → j < count → k < count → naming.hold j ≡ naming.hold k → j ≡ k
  pub apart : (j k : ℕ) → j < count → k < count → naming.net j ≢ naming.hold k
  pub no_net : (port : Port) → Contains ports port → (k : ℕ) → k < count → port.name ≢ naming.net k
  pub no_hold : (port : Port) → Contains ports port → (k : ℕ) → k < count
      → port.name ≢ naming.hold k

-- a module has a port of this name and word
pub record IsPort (m : Module) (inward : Bool) (wire : Wire) : Type 0 where
  pub port : Port
  pub there : Contains m.ports port
  pub input : port.input ≡ inward
  pub name : port.name ≡ wire.name
  pub width : port.width ≡ wire.width
  pub signed : port.signed ≡ wire.signed

abbrev pub wire_of_output : (ℕ → Net) → NetPort → Wire
wire_of_output net output =
    record { name = output.name; width = (net output.net).width; signed = (net output.net).signed }

-- the ports of a module are those of the netlist
pub record HasPorts (count : ℕ) (naming : Naming) (net : ℕ → Net) (outputs : List NetPort)
    (m : Module) : Type 0 where
  pub differ : (one other : Port) → Contains m.ports one → Contains m.ports other
      → one.name ≡ other.name → one ≡ other
  pub inputs : (k port : ℕ) (args : List ℕ) → k < count → (net k).kind ≡ Comb (Input port) args
      → IsPort m true (naming.port port)
  pub words : (k port : ℕ) (args : List ℕ) → k < count → (net k).kind ≡ Comb (Input port) args
      → IsWord (naming.port port).width (naming.port port).signed
  pub there : (output : NetPort) → Contains outputs output → output.net < count
  pub outputs_are : (output : NetPort) → Contains outputs output
      → IsPort m false (wire_of_output net output)

-- the module of a netlist, with what its names and ports must be
pub record IsEmitted (cycles count : ℕ) (naming : Naming) (net : ℕ → Net) (outputs : List NetPort)
    (m : Module) : Type 0 where
  pub items : m.items ≡ module_items cycles count naming net outputs
  pub names : AreNames count naming m.ports
  pub ports : HasPorts count naming net outputs m

-- net j is one that net k names, the counter of its frame or itself
abbrev pub NamedBy : Naming → ℕ → NetKind → ℕ → Type 0
NamedBy naming k (Comb op args) j = (place : ℕ) × (place < arity op) × (get_or args place 0 ≡ j)
NamedBy naming k (Unit left right) j = (left ≡ j) ⊎ (right ≡ j)
NamedBy naming k (Counter frame) j = k ≡ j
NamedBy naming k (Reg frame slot first from) j = (from ≡ j) ⊎ (naming.counter frame ≡ j)
NamedBy naming k (EnReg frame enable reset first from) j =
    (from ≡ j) ⊎ ((naming.counter frame ≡ j) ⊎ (enable ≡ j))
NamedBy naming k (Acc frame enable from) j =
    (from ≡ j) ⊎ ((naming.counter frame ≡ j) ⊎ ((enable ≡ j) ⊎ (k ≡ j)))
NamedBy naming k (Bridge frame live from) j = (from ≡ j) ⊎ ((naming.counter frame ≡ j) ⊎ (k ≡ j))

-- each port has a width, and each that isn't an input is one of the netlist's outputs
pub record HasOnly (outputs : List NetPort) (m : Module) : Type 0 where
  pub widths : (port : Port) → Contains m.ports port → is_width port.width ≡ true
  pub shown : (port : Port) → Contains m.ports port → port.input ≡ false
      → (output : NetPort) × Contains outputs output × (output.name ≡ port.name)
