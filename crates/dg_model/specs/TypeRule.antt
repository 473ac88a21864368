-- When the types of a diagram keep the rule of types (Simulink reference, `OutDataTypeStr`; the
-- order of parts is own).
use Rattle.std.specs.Prelude.{◌≡◌, ℕ, true, ◌≤◌, ◌⊎◌, [], ◌∷◌, codes, All, Some, IsSome, ⊤}
use Rattle.fx_type.specs.declared.spec.TypeSpec.{TypeSpec}
use Rattle.fx_type.specs.declared.spec.TypeSpec.TheVariants.{Fixed, Internal, SameFirst, Auto}
use Rattle.dg_model.specs.declared.diagram.Diagram.{Diagram}
use Rattle.dg_model.specs.declared.diagram.Block.{Block}
use Rattle.dg_model.specs.declared.fault.RuleFault.{RuleFault}
use Rattle.dg_model.specs.declared.fault.Shown.TheVariants.{Word}
use Rattle.dg_model.specs.declared.row.Role.{Role}
use Rattle.dg_model.specs.declared.rule.Rule.{Rule}
use Rattle.dg_model.specs.KindRow.{Shape}
use Rattle.dg_model.specs.Library.{row_of}
use Rattle.dg_model.specs.Faults.{AllKeep, BreaksAt}
use Rattle.dg_model.specs.Periods.{known_at}
use Rattle.dg_model.specs.Types.{names_full_type}
use Rattle.dg_model.specs.TypeRounds.{Types, input_types, full_type, types_of}

-- where all input types are known, each full type, union and parameter type that the block's
-- equation names is valid
abbrev pub IsNotWide : Diagram → Types → ℕ → Block → Type 0
IsNotWide diagram types place block =
    names_full_type block.kind block.result ≡ true → All IsSome (input_types diagram types place)
    → IsSome (full_type (row_of block.kind).types.full (input_types diagram types place))

-- the types of its outputs and of its inputs are known
pub record HasTypes (diagram : Diagram) (types : Types) (place : ℕ) (block : Block) : Type 0 where
  pub outputs : 1 ≤ block.outputs → IsSome (known_at types place)
  pub inputs : All IsSome (input_types diagram types place)

-- all types of the list are one
abbrev pub AreOne : Types → Type 0
AreOne [] = ⊤
AreOne (type ∷ types) = All (λ other. other ≡ type) types

-- a type that is written out is the driver's
abbrev pub IsDrivers : TypeSpec → Types → Type 0
IsDrivers (Fixed type) inputs = All (λ input. input ≡ Some type) inputs
IsDrivers Internal inputs = ⊤
IsDrivers SameFirst inputs = ⊤
IsDrivers Auto inputs = ⊤

-- a type that an Outport, an inner Inport or an inner Outport writes out is its driver's
abbrev pub AgreesWith : Role → TypeSpec → Types → Type 0
AgreesWith (Role.RootInput number) spec inputs = ⊤
AgreesWith (Role.RootOutput number) spec inputs = IsDrivers spec inputs
AgreesWith (Role.InnerPort width) spec inputs = IsDrivers spec inputs
AgreesWith Role.EnabledOutput spec inputs = IsDrivers spec inputs
AgreesWith Role.Control spec inputs = ⊤
AgreesWith Role.Plain spec inputs = ⊤

-- the inputs of a Mux have one type
abbrev pub AgreeInside : Shape → Types → Type 0
AgreeInside Shape.Elementwise inputs = ⊤
AgreeInside (Shape.Joined sizes) inputs = AreOne inputs
AgreeInside (Shape.Parted sizes) inputs = ⊤
AgreeInside Shape.Single inputs = ⊤

-- the types of its inputs agree
pub record HasAgreeing (diagram : Diagram) (types : Types) (place : ℕ)
    (block : Block) : Type 0 where
  pub written : AgreesWith (row_of block.kind).place.role block.result
      (input_types diagram types place)
  pub inside : AgreeInside (row_of block.kind).signal.shape (input_types diagram types place)

-- the rule is kept
pub record KeepsTypes (diagram : Diagram) : Type 0 where
  pub narrow : AllKeep diagram (IsNotWide diagram (types_of diagram))
  pub known : AllKeep diagram (HasTypes diagram (types_of diagram))
  pub agree : AllKeep diagram (HasAgreeing diagram (types_of diagram))

-- nothing is too wide, and a type isn't known
pub record BreaksKnown (diagram : Diagram) (fault : RuleFault) : Type 0 where
  pub narrow : AllKeep diagram (IsNotWide diagram (types_of diagram))
  pub unknown : BreaksAt diagram Rule.Type (HasTypes diagram (types_of diagram))
      (λ place block. Word (codes "missing")) fault

-- every type is known, and two don't agree
pub record BreaksAgreeing (diagram : Diagram) (fault : RuleFault) : Type 0 where
  pub narrow : AllKeep diagram (IsNotWide diagram (types_of diagram))
  pub known : AllKeep diagram (HasTypes diagram (types_of diagram))
  pub differ : BreaksAt diagram Rule.Type (HasAgreeing diagram (types_of diagram))
      (λ place block. Word (codes "differs")) fault

-- the rule is broken, with this fault
abbrev pub BreaksType : Diagram → RuleFault → Type 0
BreaksType diagram fault =
    BreaksAt diagram Rule.Type (IsNotWide diagram (types_of diagram))
    (λ place block. Word (codes "wide")) fault
    ⊎ (BreaksKnown diagram fault ⊎ BreaksAgreeing diagram fault)
