-- Diagrams that keep the rules, and the first rule that another breaks (own).
use Rattle.std.specs.Prelude.{◌≡◌, ◌⊎◌, ℕ, List, length, map}
use Rattle.math_list.specs.Numbers.{numbers_from}
use Rattle.fx_type.specs.declared.kind.FxType.{FxType}
use Rattle.dg_model.specs.declared.diagram.Diagram.{Diagram}
use Rattle.dg_model.specs.declared.fault.RuleFault.{RuleFault}
use Rattle.dg_model.specs.declared.propagated.Propagated.{Propagated}
use Rattle.dg_model.specs.Attributes.{attributes_of, or_logical, param_type_at}
use Rattle.dg_model.specs.Widths.{widths_of}
use Rattle.dg_model.specs.TypeRounds.{types_of}
use Rattle.dg_model.specs.Periods.{periods_of}
use Rattle.dg_model.specs.Wired.{IsWired}
use Rattle.dg_model.specs.Dimension.{KeepsDimensions, BreaksDimension}
use Rattle.dg_model.specs.TypeRule.{KeepsTypes, BreaksType}
use Rattle.dg_model.specs.Rate.{KeepsRates, BreaksRate}
use Rattle.dg_model.specs.Loop.{IsOrder, KeepsLoop, BreaksLoop}

-- the diagram is well formed and keeps the rules of dimensions, types, rates and loops
pub record IsChecked (diagram : Diagram) : Type 0 where
  pub wired : IsWired diagram
  pub dimensions : KeepsDimensions diagram
  pub types : KeepsTypes diagram
  pub rates : KeepsRates diagram
  pub loops : KeepsLoop diagram (attributes_of diagram)

-- the first rule that is broken is that of types, of rates or of loops
pub record BreaksTypeFirst (diagram : Diagram) (fault : RuleFault) : Type 0 where
  pub dimensions : KeepsDimensions diagram
  pub types : BreaksType diagram fault

-- the rules of dimensions and types are kept, and that of rates is broken
pub record BreaksRateFirst (diagram : Diagram) (fault : RuleFault) : Type 0 where
  pub dimensions : KeepsDimensions diagram
  pub types : KeepsTypes diagram
  pub rates : BreaksRate diagram fault

-- those of dimensions, types and rates are kept, and that of loops is broken
pub record BreaksLoopFirst (diagram : Diagram) (fault : RuleFault) : Type 0 where
  pub dimensions : KeepsDimensions diagram
  pub types : KeepsTypes diagram
  pub rates : KeepsRates diagram
  pub loops : BreaksLoop diagram (attributes_of diagram) fault

-- a rule is broken, and this is the fault of the first one
abbrev pub BreaksRule : Diagram → RuleFault → Type 0
BreaksRule diagram fault =
    BreaksDimension diagram fault
    ⊎ (BreaksTypeFirst diagram fault
    ⊎ (BreaksRateFirst diagram fault ⊎ BreaksLoopFirst diagram fault))

-- ---- what is kept of a diagram that is checked

-- the type of the coefficients of each block, Logical where it has none
abbrev pub params_of : Diagram → List FxType
params_of diagram =
    map (λ place. or_logical (param_type_at diagram (types_of diagram) place))
    (numbers_from 0 (length diagram.blocks))

-- these are the widths, types and periods of a diagram by the rounds, and an order of its blocks
-- along its instant edges
pub record IsPropagated (diagram : Diagram) (values : Propagated) : Type 0 where
  pub widths : values.widths ≡ widths_of diagram
  pub types : values.types ≡ map or_logical (types_of diagram)
  pub params : values.params ≡ params_of diagram
  pub periods : values.periods ≡ periods_of diagram
  pub order : IsOrder diagram (attributes_of diagram) values.order

-- a diagram that keeps the rules, as contracts see it
pub record CheckedDiagram : Type 0 where
  pub diagram : Diagram
  -- its blocks, each after those from which an instant edge leads to it
  pub order : List ℕ
