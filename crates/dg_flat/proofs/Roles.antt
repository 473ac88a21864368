-- The kinds of the blocks that Inports and Outports become.
use Rattle.std.proofs.Common.{◌≡◌, ℕ, Bool, List, Option, Some, None, refl, ap, subst, ◌∙◌, inl, inr, ◌⊎◌}
use Rattle.std.specs.Prelude.{⊤}
use Rattle.fx_type.specs.declared.decimal.Decimal.{Decimal}
use Rattle.dg_model.specs.declared.diagram.Block.{Block}
use Rattle.dg_model.specs.declared.kind.Kind.{Kind}
use Rattle.dg_model.specs.declared.kind.Kind.TheVariants.{Inport, Outport, Pass, EnableTest, EnOut}
use Rattle.dg_model.specs.declared.nested.NestedBlock.{NestedBlock}
use Rattle.dg_model.specs.declared.row.Role.{Role}
use Rattle.dg_model.specs.Library.{row_of}
use Rattle.dg_model.specs.Readable.{IsReadable, HasPorts}
use Rattle.dg_model.specs.Sound.{IsInRole, IsOutRole, HasEnablePort}

abbrev ByRole : Kind → Role → Type 0
ByRole kind (Role.RootInput number) = (width : ℕ) × (kind ≡ Inport number width)
ByRole kind (Role.RootOutput number) = kind ≡ Outport number
ByRole kind (Role.InnerPort width) = kind ≡ Pass width
ByRole kind Role.EnabledOutput = (reset : Bool) × (initial : List Decimal) × (kind ≡ EnOut reset initial)
ByRole kind Role.Control = kind ≡ EnableTest
ByRole kind Role.Plain = ⊤

by_role : (kind : Kind) → ByRole kind (row_of kind).place.role
by_role (Inport number width) = (width, refl)
by_role (Outport number) = refl
by_role (Pass width) = refl
by_role EnableTest = refl
by_role (EnOut own initial) = (own, initial, refl)
by_role other = tt

-- the kind of an Inport's block, by its System
abbrev pub IsInKind : Option ℕ → ℕ → Kind → Type 0
IsInKind None number kind = (width : ℕ) × (kind ≡ Inport number width)
IsInKind (Some system) number kind = (width : ℕ) × (kind ≡ Pass width)

pub in_kind : (system : Option ℕ) (number : ℕ) (kind : Kind) → IsInRole system number (row_of kind).place.role → IsInKind system number kind
in_kind system number kind has = go system (row_of kind).place.role (by_role kind) has where
  go : (system : Option ℕ) (role : Role) → ByRole kind role → IsInRole system number role → IsInKind system number kind
  go None (Role.RootInput own) by has = (by.0, by.1 ∙ ap (λ (n : ℕ). Inport n by.0) has)
  go (Some system) (Role.InnerPort width) by has = (width, by)
  go None other by has = absurd has
  go (Some system) other by has = absurd has

-- the kind of an Outport's block, by its System
abbrev pub IsOutKind : List NestedBlock → Option ℕ → ℕ → Kind → Type 0
IsOutKind blocks None number kind = kind ≡ Outport number
IsOutKind blocks (Some system) number kind = ((width : ℕ) × (kind ≡ Pass width)) ⊎ (HasEnablePort blocks (Some system) × ((reset : Bool) × (initial : List Decimal) × (kind ≡ EnOut reset initial)))

pub out_kind : (blocks : List NestedBlock) (system : Option ℕ) (number : ℕ) (kind : Kind) → IsOutRole blocks system number (row_of kind).place.role → IsOutKind blocks system number kind
out_kind blocks system number kind has = go system (row_of kind).place.role (by_role kind) has where
  go : (system : Option ℕ) (role : Role) → ByRole kind role → IsOutRole blocks system number role → IsOutKind blocks system number kind
  go None (Role.RootOutput own) by has = by ∙ ap (λ (n : ℕ). Outport n) has
  go (Some system) Role.EnabledOutput by has = inr (has, by)
  go (Some system) (Role.InnerPort width) by has = inl (width, by)
  go None other by has = absurd has
  go (Some system) other by has = absurd has

-- ---- ports

abbrev pub InPorts : Option ℕ → Block → Type 0
InPorts None block = (block.inputs ≡ 0) × (block.outputs ≡ 1)
InPorts (Some system) block = (block.inputs ≡ 1) × (block.outputs ≡ 1)

pub in_ports : (system : Option ℕ) (number : ℕ) (block : Block) → IsInKind system number block.kind → IsReadable block → InPorts system block
in_ports None number block has is = subst (λ (kind : Kind). HasPorts kind block.inputs block.outputs) has.1 is.ports
in_ports (Some system) number block has is = subst (λ (kind : Kind). HasPorts kind block.inputs block.outputs) has.1 is.ports

abbrev pub OutPorts : Option ℕ → Block → Type 0
OutPorts None block = (block.inputs ≡ 1) × (block.outputs ≡ 0)
OutPorts (Some system) block = (block.inputs ≡ 1) × (block.outputs ≡ 1)

pub out_ports : (blocks : List NestedBlock) (system : Option ℕ) (number : ℕ) (block : Block) → IsOutKind blocks system number block.kind → IsReadable block → OutPorts system block
out_ports blocks None number block has is = subst (λ (kind : Kind). HasPorts kind block.inputs block.outputs) has is.ports
out_ports blocks (Some system) number block (inl has) is = subst (λ (kind : Kind). HasPorts kind block.inputs block.outputs) has.1 is.ports
out_ports blocks (Some system) number block (inr has) is = subst (λ (kind : Kind). HasPorts kind block.inputs block.outputs) has.1.2 is.ports
