-- What is known of a diagram's blocks before any value is: widths, types and periods by the rounds
-- (own).
use Rattle.std.specs.Prelude.{ℕ, Option, Some, None, slice_get}
use Rattle.fx_type.specs.declared.kind.FxType.{FxType}
use Rattle.fx_type.specs.declared.kind.FxType.TheVariants.{Logical}
use Rattle.dg_model.specs.declared.diagram.Diagram.{Diagram}
use Rattle.dg_model.specs.KindRow.{FullRule}
use Rattle.dg_model.specs.Library.{row_of}
use Rattle.dg_model.specs.Signals.{Attributes}
use Rattle.dg_model.specs.Widths.{width_at, widths_of}
use Rattle.dg_model.specs.GainParam.{param_type_of}
use Rattle.dg_model.specs.TypeRounds.{with_known, specified_type, Types, input_types, types_of}
use Rattle.dg_model.specs.Periods.{known_at, periods_of, period_at}

-- a type that is known; a diagram that keeps the rules knows each that is asked for
abbrev pub or_logical : Option FxType → FxType
or_logical None = Logical
or_logical (Some type) = type

-- the type of a block's coefficients or of its accumulator, where it has any
abbrev pub coefficient_type : FullRule → Option FxType → Option FxType
coefficient_type FullRule.NoFull input = None
coefficient_type (FullRule.FullSum negative accum) input = specified_type accum None input None
coefficient_type (FullRule.FullScaled value param) input =
    with_known input (param_type_of value param)
coefficient_type FullRule.FullProduct input = None
coefficient_type FullRule.UnionOfTwo input = None
coefficient_type FullRule.UnionOfEnds input = None

-- the type of the coefficients of the block at a place, where it has any and its input's type is
-- known
abbrev pub param_type_at : Diagram → Types → ℕ → Option FxType
param_type_at diagram types place =
    with_known (slice_get diagram.blocks place)
    (λ block. coefficient_type (row_of block.kind).types.full
    (known_at (input_types diagram types place) 0))

-- the widths, types and periods of a diagram, by the rounds
abbrev pub attributes_of : Diagram → Attributes
attributes_of diagram = record {
  width_at = width_at (widths_of diagram);
  type_at = λ block port. or_logical (known_at (types_of diagram) block);
  param_at = λ block. or_logical (param_type_at diagram (types_of diagram) block);
  period_at = period_at (periods_of diagram);
}
