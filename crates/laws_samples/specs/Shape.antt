-- The form of a sample's diagram: an input, a chain of blocks, a rate transition and two outputs, of
-- which the second stands behind the rate transition (own).
use Rattle.std.specs.Prelude.{◌≡◌, ℕ, suc, ◌*◌, ◌^◌, ◌≤◌, true, pos, List, [], ◌∷◌, ◌++◌, All, None, length}
use Rattle.std.specs.List.{AllByRecursion}
use Rattle.fx_type.specs.declared.decimal.Decimal.{Decimal}
use Rattle.fx_type.specs.declared.kind.FxType.TheVariants.{Num}
use Rattle.fx_type.specs.declared.spec.TypeSpec.TheVariants.{Fixed}
use Rattle.dg_model.specs.declared.diagram.Block.{Block}
use Rattle.dg_model.specs.declared.diagram.Diagram.{Diagram}
use Rattle.dg_model.specs.declared.diagram.Edge.{Edge}
use Rattle.dg_model.specs.declared.diagram.PeriodSpec.{PeriodSpec}
use Rattle.dg_model.specs.declared.diagram.PeriodSpec.TheVariants.{Inherit, Every}
use Rattle.dg_model.specs.declared.kind.Kind.{Kind}
use Rattle.dg_model.specs.declared.kind.Kind.TheVariants.{Inport, Outport, RateTransition}
use Rattle.dg_model.specs.declared.row.Role.{Role}
use Rattle.dg_model.specs.KindRow.{Shape}
use Rattle.dg_model.specs.Library.{row_of}
use Rattle.dg_model.specs.Periods.{first_inherited, units_of}
use Rattle.dg_model.specs.Widths.{list_length}

-- a block that works on one element alone, as far as its kind says so
pub record IsSingle (kind : Kind) : Type 0 where
  pub shape : (row_of kind).signal.shape ≡ Shape.Elementwise
  pub width : (row_of kind).signal.width ≡ 0
  pub lists : list_length kind ≤ 1

-- a block of the chain: no root port, with one output, on one element, in no enabled subsystem, with a
-- period that it takes from its sources
pub record IsLink (block : Block) : Type 0 where
  pub role : (row_of block.kind).place.role ≡ Role.Plain
  pub outputs : block.outputs ≤ 1
  pub single : IsSingle block.kind
  pub inherits : first_inherited (row_of block.kind).timing.inherits ≡ None
  pub period : block.period ≡ Inherit
  pub enable : block.enable ≡ None

-- a block of this kind and period, in no enabled subsystem
pub record IsEnd (kind : Kind) (period : PeriodSpec) (block : Block) : Type 0 where
  pub kind_is : block.kind ≡ kind
  pub period_is : block.period ≡ period
  pub enable : block.enable ≡ None

-- so many seconds
abbrev pub IsSeconds : ℕ → Decimal → Type 0
IsSeconds seconds decimal = units_of decimal ≡ seconds * 10 ^ 36

pub record IsSampleDiagram (diagram : Diagram) : Type 0 where
  pub input : Block
  pub chain : List Block
  pub down : Block
  pub out : Block
  pub slow : Block
  pub blocks : diagram.blocks ≡ input ∷ (chain ++ down ∷ out ∷ slow ∷ [])
  pub one : Decimal
  pub two : Decimal
  pub one_is : IsSeconds 1 one
  pub two_is : IsSeconds 2 two
  pub input_is : IsEnd (Inport 1 0) (Every one) input
  pub word : input.result ≡ Fixed (Num true 16 (pos 8))
  pub links : AllByRecursion IsLink chain
  pub held : Decimal
  pub down_is : IsEnd (RateTransition two (held ∷ [])) (Every two) down
  pub out_is : IsEnd (Outport 1) Inherit out
  pub slow_is : IsEnd (Outport 2) Inherit slow
  -- nothing but the second output reads the rate transition
  pub from_down : All (λ (edge : Edge). edge.from ≡ suc (length chain) → edge.to ≡ suc (suc (suc (length chain)))) diagram.edges
  -- and it reads nothing else
  pub to_slow : All (λ (edge : Edge). edge.to ≡ suc (suc (suc (length chain))) → edge.from ≡ suc (length chain)) diagram.edges
