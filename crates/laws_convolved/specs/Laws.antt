-- A filter of a model's blocks and lines in their flat diagram (own).
use Rattle.std.specs.Prelude.{◌≡◌, ℕ, suc, ◌+◌, ◌*◌, ◌-◌, Bool, length, map, Option}
use Rattle.std.specs.List.{range_with_len}
use Rattle.fx_type.specs.declared.decimal.Decimal.{Decimal}
use Rattle.dg_model.specs.declared.diagram.Block.{Block}
use Rattle.dg_model.specs.declared.diagram.Diagram.{Diagram}
use Rattle.dg_model.specs.declared.kind.Kind.TheVariants.{Pass}
use Rattle.dg_model.specs.declared.nested.Nested.{Nested}
use Rattle.dg_model.specs.Convolution.{Taps, IsFilter, IsKindAt, IsFed, sum_of}
use Rattle.dg_model.specs.Wired.{IsWired}
use Rattle.dg_flat.specs.Flat.{IsFlatOf, flat_place}
use Rattle.fir_block.specs.declared.filter.Fir.{Fir}
use Rattle.fir_block.specs.Expanded.{initial_of}
use Rattle.mdl_build.specs.Filters.{HasFilter}

-- the coefficients of a filter, and an initial value for each of its delays; what a list gives past
-- its end is of no account
abbrev pub taps_of : Decimal → Fir → Taps
taps_of other fir = record {
  coefficients = fir.coefficients;
  initial = map (initial_of other fir) (range_with_len 1 (length fir.coefficients - 1));
  param = fir.param;
}

-- the place in the flat diagram of the Inport of a filter whose subsystem has this number
abbrev pub first_of : Nested → ℕ → ℕ
first_of nested place = flat_place nested.blocks (suc place)

-- and that of its Outport
abbrev pub out_of : ℕ → Taps → ℕ
out_of first taps = first + suc (2 * length taps.coefficients)

-- the block at a place hands on what the sum of a filter shows
pub record IsOutputOf (diagram : Diagram) (first : ℕ) (taps : Taps) (out : Block) : Type 0 where
  pub block : IsKindAt diagram (out_of first taps) (Pass 0) out
  pub fed : IsFed diagram (sum_of first taps) (out_of first taps) 1

-- the blocks of a filter in a diagram, whose sum rounds and saturates as the filter does
pub record IsFilterOf (other : Decimal) (diagram : Diagram) (first : ℕ) (fir : Fir) : Type 0 where
  pub sum : Block
  pub enable : Option ℕ
  pub reset : Bool
  pub blocks : IsFilter diagram first (taps_of other fir) sum enable reset
  pub rounding : sum.rounding ≡ fir.rounding
  pub saturate : sum.saturate ≡ fir.saturate
  pub result : sum.result ≡ fir.result
  pub out : Block
  pub output : IsOutputOf diagram first (taps_of other fir) out

-- a filter of blocks and lines is one in their flat diagram
abbrev pub FiltersAreFlat : Type 0
FiltersAreFlat =
    (other : Decimal) (nested : Nested) (diagram : Diagram) (place : ℕ) (fir : Fir)
    → HasFilter other nested place fir → IsFlatOf nested diagram → IsWired diagram
    → IsFilterOf other diagram (first_of nested place) fir
