-- Declared periods, held against the base period in its units (own).
use Rattle.std.specs.Prelude.{◌≡◌, ℕ, ◌*◌, ◌/◌, ◌<◌, ◌≤◌, List, map, Option, Some, None, MatchOption, ⊤}
use Rattle.std.specs.List.{filter_map}
use Rattle.dg_model.specs.declared.diagram.Block.{Block}
use Rattle.dg_model.specs.declared.diagram.PeriodSpec.{PeriodSpec}
use Rattle.dg_model.specs.declared.diagram.PeriodSpec.TheVariants.{Inherit, Constant as NeverChanges, Every}
use Rattle.dg_model.specs.declared.kind.Kind.{Kind}
use Rattle.dg_model.specs.Library.{row_of}
use Rattle.dg_model.specs.Limits.{most_times}
use Rattle.dg_model.specs.Periods.{Period, declared_period, first_inherited, least, units_of}

-- a declared period is above 0
abbrev pub IsAbove : Block → Type 0
IsAbove block = MatchOption (declared_period block.period) ⊤ (λ decimal. 0 < decimal.digits)

-- the least declared period of these blocks
abbrev pub least_units : List Block → Option ℕ
least_units blocks =
    least (map units_of (filter_map (λ block. declared_period block.period) blocks))

-- a declared period is a whole multiple of a base period of so many units, at most 4096 times
abbrev pub KeepsIn : ℕ → Block → Type 0
KeepsIn base block =
    MatchOption (declared_period block.period) ⊤
    (λ decimal. (times : ℕ) × (times ≤ most_times) × (units_of decimal ≡ times * base))

-- the period that a block has before the first round, with a base period of so many units
abbrev pub first_in : ℕ → Kind → PeriodSpec → Option Period
first_in base kind (Every period) = Some (Some (units_of period / base))
first_in base kind NeverChanges = Some None
first_in base kind Inherit = first_inherited (row_of kind).timing.inherits
