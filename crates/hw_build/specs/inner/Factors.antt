-- The operations of shared blocks as multipliers are asked for them, gathered block by block, with
-- the nets of coefficients that are put in for them (own).
use Rattle.std.specs.Prelude.{◌≡◌, ℕ, ◌+◌, ◌<◌, ◌≤◌, ℤ, Bool, true, false, List, [], length, Option, None, Some, slice_get}
use Rattle.fx_type.specs.declared.decimal.Decimal.{Decimal}
use Rattle.fx_type.specs.declared.kind.FxType.{FxType}
use Rattle.fx_type.specs.FxType.{is_signed, width_of}
use Rattle.dg_model.specs.declared.diagram.Diagram.{Diagram}
use Rattle.dg_model.specs.declared.diagram.Block.{Block}
use Rattle.dg_model.specs.declared.resolved.Resolved.{Resolved}
use Rattle.dg_model.specs.Attributes.{attributes_of}
use Rattle.dg_model.specs.Equation.{StoresEntry}
use Rattle.dg_model.specs.KindRow.{FullRule}
use Rattle.dg_model.specs.Library.{row_of}
use Rattle.dg_model.specs.Wires.{type_into}
use Rattle.hw_arcs.specs.Latencies.{latency_at}
use Rattle.hw_latency.specs.Shared.{is_shared}
use Rattle.hw_latency.specs.Weight.{samples}
use Rattle.hw_net.specs.declared.netlist.Net.{Net}
use Rattle.hw_net.specs.declared.netlist.NetKind.TheVariants.{Comb}
use Rattle.hw_net.specs.declared.netlist.NetOp.TheVariants.{Const}
use Rattle.hw_net.specs.Circuit.{Circuit}
use Rattle.hw_net.specs.Growing.{Appends}
use Rattle.hw_net.specs.Netlist.{HasWord}
use Rattle.hw_sched.specs.Answer.{AreSlots}
use Rattle.hw_sched.specs.Laws.{IsOperation}
use Rattle.hw_sched.specs.Slots.{Timing as Times, Operation as Shared, slot_of, unit_of}
use Rattle.hw_share.specs.declared.operation.Operation.{Operation}
use Rattle.hw_build.specs.declared.design.Design.{Design}
use Rattle.hw_build.specs.declared.operands.Operands.{Operands}
use Rattle.hw_build.specs.inner.DesignTimes.{times_for}
use Rattle.hw_build.specs.inner.Operands.{offered_at}
use Rattle.hw_build.specs.inner.ResultNets.{first_operation}

-- ---- coefficients

-- a net that shows a number at each clock, in the word of a type
abbrev pub constant_net : FxType → ℤ → Net
constant_net type value =
    record { signed = is_signed type; width = width_of type; kind = Comb (Const value) [] }

-- only such nets were put behind the others
pub record AddsConstants (before after : Circuit) : Type 0 where
  pub appends : Appends before after []
  pub each : (k : ℕ) (net : Net) → length before.nets ≤ k → slice_get after.nets k ≡ Some net
      → (value : ℤ) × (net.kind ≡ Comb (Const value) [])

-- the net of this number was put behind the others and has an entry of a list, stored in a type
pub record IsCoefficient (before after : Circuit) (list : List Decimal) (element : ℕ)
    (type : FxType) (number : ℕ) : Type 0 where
  pub value : ℤ
  pub stored : StoresEntry list element type value
  pub is : slice_get after.nets number ≡ Some (constant_net type value)
  pub new : length before.nets ≤ number

-- ---- operations

-- what ports of shared blocks offer has the words of their types
pub record OffersWords (diagram : Diagram) (plan : Resolved) (offered : ℕ → ℕ → ℕ → ℕ)
    (now : Circuit) : Type 0 where
  pub each : (block : ℕ) (b : Block) (port element : ℕ) → slice_get diagram.blocks block ≡ Some b
      → is_shared diagram (attributes_of diagram) plan block ≡ true → 1 ≤ port → port ≤ b.inputs
      → element < (attributes_of diagram).width_at block 1
      → HasWord now.nets (offered block port element)
      (width_of (type_into diagram (attributes_of diagram) block port))
      (is_signed (type_into diagram (attributes_of diagram) block port))

module _ (diagram : Diagram) (offered : ℕ → ℕ → ℕ → ℕ) (before after : Circuit) where
  -- the second operand of an element: a coefficient, or what the second port is offered
  abbrev pub IsSecond : ℕ → ℕ → FullRule → ℕ → Type 0
  IsSecond block element FullRule.NoFull number = ⊥
  IsSecond block element (FullRule.FullSum negative accum) number = ⊥
  IsSecond block element (FullRule.FullScaled value spec) number =
      IsCoefficient before after value element ((attributes_of diagram).param_at block) number
  IsSecond block element FullRule.FullProduct number = number ≡ offered block 2 element
  IsSecond block element FullRule.UnionOfTwo number = ⊥
  IsSecond block element FullRule.UnionOfEnds number = ⊥

module _ (diagram : Diagram) (plan : Resolved) (times : Times) (offered : ℕ → ℕ → ℕ → ℕ) where
  -- an operation as multipliers are asked for it
  pub record IsGathered (before after : Circuit) (number : ℕ) (o : Shared)
      (one : Operation) : Type 0 where
    pub frame : one.frame
        ≡ record {
          period = samples ((attributes_of diagram).period_at o.block);
          latency = latency_at times.lat o.block;
        }
    pub slot : one.slot ≡ slot_of diagram (attributes_of diagram) plan times number o
    pub unit : one.unit ≡ unit_of diagram (attributes_of diagram) plan times number o
    pub left : one.left ≡ offered o.block 1 o.element
    pub right : (b : Block) → slice_get diagram.blocks o.block ≡ Some b
        → IsSecond diagram offered before after o.block o.element
        (row_of b.kind).types.full one.right

  -- so many more operations were put behind the first `count`
  pub record GathersMore (before after : Circuit) (old new : List Operation)
      (count more : ℕ) : Type 0 where
    pub adds : AddsConstants before after
    pub size : length new ≡ count + more
    pub kept : (k : ℕ) → k < count → slice_get new k ≡ slice_get old k
    pub each : (k : ℕ) (o : Shared) (one : Operation) → count ≤ k
        → IsOperation diagram (attributes_of diagram) plan k o → slice_get new k ≡ Some one
        → IsGathered before after k o one

-- ---- blocks

-- the number of the first operation of a block, if its operations are shared
abbrev pub if_shared : Bool → ℕ → Option ℕ
if_shared false number = None
if_shared true number = Some number

pub record AreFirsts (diagram : Diagram) (plan : Resolved) (firsts : List (Option ℕ))
    (count : ℕ) : Type 0 where
  pub size : length firsts ≡ count
  pub each : (block : ℕ) → block < count
      → slice_get firsts block
      ≡ Some (if_shared (is_shared diagram (attributes_of diagram) plan block)
      (first_operation diagram plan block))

-- ---- by what a netlist is built from

-- the slots and multipliers are those of the operations
abbrev pub HasSlots : Design → Type 0
HasSlots design =
    AreSlots design.checked.now.diagram design.plan.now design.latencies.now design.slots.now

-- an operation is one of a diagram, by its number
abbrev pub IsNumbered : Design → ℕ → Shared → Type 0
IsNumbered design number o =
    IsOperation design.checked.now.diagram
    (attributes_of design.checked.now.diagram) design.plan.now number o

abbrev pub first_for : Design → ℕ → ℕ
first_for design block = first_operation design.checked.now.diagram design.plan.now block

abbrev pub IsGatheredFor : Design → Operands → Circuit → Circuit → ℕ → Shared → Operation → Type 0
IsGatheredFor design operands before after number o one =
    IsGathered design.checked.now.diagram design.plan.now (times_for design)
    (offered_at design.checked.now.diagram operands) before after number o one

abbrev pub GathersFor : Design → Operands → Circuit → Circuit → List Operation → List Operation → ℕ
    → ℕ → Type 0
GathersFor design operands before after old new count more =
    GathersMore design.checked.now.diagram design.plan.now (times_for design)
    (offered_at design.checked.now.diagram operands) before after old new count more
