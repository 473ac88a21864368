-- The element that is put in (own).
use Rattle.std.specs.Prelude.{◌≡◌, ℕ, ◌-◌, ◌*◌, ℤ, Bool, List, [], ◌∷◌, ◌++◌, Option, None, Some, IsSome, slice_index_or}
use Rattle.fx_type.specs.declared.decimal.Decimal.{Decimal}
use Rattle.fx_type.specs.declared.kind.FxType.{FxType}
use Rattle.fx_type.specs.FxType.{InRange, IsType, is_signed, width_of}
use Rattle.dg_model.specs.Attributes.{attributes_of}
use Rattle.dg_model.specs.Equation.{IsOpOf, StoresEntry}
use Rattle.dg_model.specs.Operation.{Operation}
use Rattle.dg_model.specs.Solves.{IsShown}
use Rattle.dg_model.specs.Wires.{period_into, type_into, types_into}
use Rattle.dg_model.specs.declared.kind.Kind.{Kind}
use Rattle.dg_model.specs.declared.kind.Kind.TheVariants.{EnOut}
use Rattle.dg_model.specs.declared.op.Op.{Op}
use Rattle.hw_lower.specs.Lowered.{AreArgs}
use Rattle.hw_net.specs.declared.netlist.Frame.{Frame}
use Rattle.hw_net.specs.Circuit.{Circuit}
use Rattle.hw_build.specs.declared.entry.Entry.{Entry}
use Rattle.hw_build.specs.declared.lowering.Begun.{Begun}
use Rattle.hw_build.specs.declared.site.Site.{Site}
use Rattle.hw_build.specs.declared.states.Enabled.{Enabled}
use Rattle.hw_build.specs.declared.states.Series.{Series}
use Rattle.hw_build.specs.inner.DesignTimes.{IsDesigned, timing_for}
use Rattle.hw_build.specs.inner.Entries.{IsFrameOf, PutsEntry, enable_types, operand_types}
use Rattle.hw_build.specs.inner.OperationNets.{operation_at}
use Rattle.hw_build.specs.inner.Series.{PutsSeries, enables_by, register_of}

-- a table of the design shows the element
abbrev pub IsSite : Site → Type 0
IsSite site =
    IsShown site.design.checked.now.diagram
    (attributes_of site.design.checked.now.diagram) site.place.block site.one.now site.place.port
    site.place.element

-- the types of what its inputs offer
abbrev pub types_at : Site → List FxType
types_at site =
    types_into site.design.checked.now.diagram
    (attributes_of site.design.checked.now.diagram) site.place.block site.one.now.inputs

-- its operands are what a block of this kind reads
abbrev pub HasOperands : Circuit → Site → Kind → Type 0
HasOperands net site kind =
    AreArgs net
    (operand_types site.design.checked.now.diagram
    (attributes_of site.design.checked.now.diagram) site.place.block site.one.now
    site.place.port kind) site.operands.now

-- a table of the design shows it, these are the types of what its inputs offer, and its operands
-- what its block reads
pub record IsReady (net : Circuit) (site : Site) : Type 0 where
  pub shown : IsSite site
  pub types_are : site.types.now ≡ types_at site
  pub operands_are : HasOperands net site site.one.now.kind

-- registers can be put in for it
pub record CanKeep (net : Circuit) (site : Site) : Type 0 where
  pub designed : IsDesigned site.design
  pub cycles : net.cycles ≡ site.design.plan.now.cycles
  pub shown : IsSite site

-- the operation is that of its block
abbrev pub IsOpAt : Site → Op → Type 0
IsOpAt site op =
    IsOpOf site.one.now.kind site.place.element
    ((attributes_of site.design.checked.now.diagram).param_at site.place.block)
    (type_into site.design.checked.now.diagram
    (attributes_of site.design.checked.now.diagram) site.place.block 2) op

-- the operation with its types
abbrev pub operation_for : Site → Op → Operation
operation_for site op =
    operation_at site.design.checked.now.diagram
    (attributes_of site.design.checked.now.diagram) site.place.block site.one.now op

-- its nets are put
abbrev pub Puts : Site → Circuit → Circuit → Entry → Type 0
Puts site old new entry =
    PutsEntry site.design.checked.now.diagram
    (timing_for site.design) old new site.place.block site.one.now site.place.port
    site.place.element site.operands.now entry

-- its operands are an element in its own type, and what enables its block
abbrev pub HasEnabledOperands : Circuit → Site → Type 0
HasEnabledOperands net site =
    AreArgs net
    ((attributes_of site.design.checked.now.diagram).type_at site.place.block site.place.port
    ∷ enable_types
    (attributes_of site.design.checked.now.diagram) site.one.now.enable) site.operands.now

-- it is one of an output port of an enabled subsystem, with these parameters
pub record PassesOut (net : Circuit) (site : Site) (reset : Bool)
    (list : List Decimal) : Type 0 where
  pub kind : site.one.now.kind ≡ EnOut reset list
  pub enable : IsSome site.one.now.enable
  pub operands : HasEnabledOperands net site

-- so its registers take: where its block is enabled, or, outside, behind a source that never
-- changes
abbrev pub TakesAs : Site → Bool → Option Enabled → Type 0
TakesAs site reset None =
    (site.one.now.enable ≡ None)
    × (period_into site.design.checked.now.diagram
    (attributes_of site.design.checked.now.diagram) site.place.block 1 ≡ None)
TakesAs site reset (Some by) =
    IsSome site.one.now.enable
    × (by ≡ record { enable = slice_index_or site.operands.now 1 0; reset = reset })

-- what it begins with is its entry of a list, in the word of its block
pub record IsInitial (site : Site) (list : List Decimal) (begun : Begun) : Type 0 where
  pub kind : FxType
  pub kind_is : (port : ℕ)
      → kind ≡ (attributes_of site.design.checked.now.diagram).type_at site.place.block port
  pub is_type : IsType kind
  pub word_is : begun.word ≡ record { signed = is_signed kind; width = width_of kind }
  pub range : InRange kind begun.first
  pub entry : StoresEntry list site.place.element kind begun.first
  pub one : (v : ℤ) → StoresEntry list site.place.element kind v → v ≡ begun.first

-- so many registers of its own are put in behind its first operand
pub record IsKept (site : Site) (list : List Decimal) (count : ℕ) (enabled : Option Enabled)
    (before after : Circuit) (series : Series) : Type 0 where
  pub begun : Begun
  pub initial : IsInitial site list begun
  pub frame : Frame
  pub own : IsFrameOf site.design.checked.now.diagram
      (timing_for site.design) site.place.block frame
  pub put : PutsSeries
      (register_of enabled frame (frame.period * site.design.plan.now.cycles - 1) begun.first)
      before after
      (enables_by enabled ++ slice_index_or site.operands.now 0 0 ∷ []) frame begun.word
      (slice_index_or site.operands.now 0 0) count series
