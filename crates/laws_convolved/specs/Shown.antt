-- What the filters of a model show (Simulink reference, Discrete FIR Filter; columns are own).
use Rattle.std.specs.Prelude.{◌≡◌, ℕ, ◌<◌, ◌≤ℤ◌, ℤ, List, length, Some, slice_get}
use Rattle.fx_type.specs.declared.decimal.Decimal.{Decimal}
use Rattle.fx_type.specs.declared.kind.FxType.{FxType}
use Rattle.fx_type.specs.Conversion.{Converts}
use Rattle.fx_type.specs.FxType.{frac_of}
use Rattle.dg_model.specs.declared.diagram.Block.{Block}
use Rattle.dg_model.specs.declared.diagram.Diagram.{Diagram}
use Rattle.dg_model.specs.Attributes.{attributes_of}
use Rattle.dg_model.specs.Convolution.{Taps, IsFed, IsConvolved, Convolves, tap, product, sum_of, shown_to}
use Rattle.dg_model.specs.Hits.{Hits, counted_hits}
use Rattle.dg_model.specs.RootElements.{RootElement, root_inputs, root_outputs}
use Rattle.dg_model.specs.Signals.{Attributes, Stimulus, Table}
use Rattle.dg_model.specs.Wires.{repeated}
use Rattle.fir_block.specs.declared.filter.Fir.{Fir}
use Rattle.laws_filters.specs.Laws.{IsSolved}
use Rattle.cmd_model.specs.Model.{IsModelOf}
use Rattle.mdl_build.specs.Filters.{IsFilterAt}
use Rattle.laws_convolved.specs.Laws.{taps_of, first_of, out_of, IsFilterOf}

-- ---- columns

-- a table with the same column of numbers everywhere
abbrev pub table_of : (ℕ → ℤ) → Table
table_of column block port element t = column t

-- a number is the convolution of the coefficients of a filter with a column, exact and converted
-- once: with its numbers at a hit and at the counted hits before, the latest first, or, where there
-- are fewer, with the initial values
pub record ConvolvesColumn (attributes : Attributes) (column : ℕ → ℤ) (first : ℕ) (taps : Taps)
    (sum : Block) (hits : List ℕ) (t : ℕ) (v : ℤ) : Type 0 where
  pub frac : ℤ
  pub total : ℤ
  -- no bit of a product is lost
  pub exact : (k : ℕ) → k < length taps.coefficients
      → frac_of (attributes.type_at (product first taps k) 1) ≤ℤ frac
  pub convolved : IsConvolved attributes (table_of column) first taps hits frac 0 t
      taps.coefficients 0 total
  pub converted : (from : FxType) → frac_of from ≡ frac
      → Converts total from (attributes.type_at (sum_of first taps) 1) sum.rounding sum.saturate v

-- a root input feeds a filter, and the filter a root output: their elements have these places in
-- the lists
pub record JoinsRoots (diagram : Diagram) (first : ℕ) (taps : Taps) (from to : ℕ)
    (input output : RootElement) : Type 0 where
  pub input_is : slice_get (root_inputs diagram (attributes_of diagram)) from ≡ Some input
  pub output_is : slice_get (root_outputs diagram (attributes_of diagram)) to ≡ Some output
  pub fed : IsFed diagram input.block first 1
  pub feeds : IsFed diagram (out_of first taps) output.block 1
  -- an input of one element serves each of the output
  pub served : input.element
      ≡ repeated ((attributes_of diagram).width_at input.block 1) output.element

-- ---- tables

-- in a table that solves a diagram for a stimulus a filter shows the convolution of its coefficients
-- with its input
pub record ShowsFilter (other : Decimal) (diagram : Diagram) (first : ℕ) (fir : Fir)
    (stimulus : Stimulus) (n : ℕ) (table : Table) : Type 0 where
  pub filter : IsFilterOf other diagram first fir
  -- each entry of its sum at a hit
  pub convolves : (element t : ℕ)
      → element < (attributes_of diagram).width_at (sum_of first (taps_of other fir)) 1 → t < n
      → Hits ((attributes_of diagram).period_at (sum_of first (taps_of other fir))) t
      → Convolves (attributes_of diagram) table first (taps_of other fir) filter.sum filter.enable
      filter.reset element t
  -- a root output that it feeds shows that entry
  pub outputs : (to t : ℕ) (output : RootElement)
      → slice_get (root_outputs diagram (attributes_of diagram)) to ≡ Some output
      → IsFed diagram (out_of first (taps_of other fir)) output.block 1
      → t < n → Hits output.period t
      → table output.block 1 output.element t
      ≡ shown_to (attributes_of diagram) table (sum_of first (taps_of other fir)) output.element t
  -- which is made of a root input that feeds it
  pub columns : (from to t : ℕ) (input output : RootElement)
      → JoinsRoots diagram first (taps_of other fir) from to input output
      → t < n → Hits output.period t
      → ConvolvesColumn (attributes_of diagram) (stimulus input.number input.element) first
      (taps_of other fir) filter.sum (counted_hits table filter.enable filter.reset
      ((attributes_of diagram).period_at (tap first 1)) t) t
      (table output.block 1 output.element t)

-- ---- models

-- a filter of a model
abbrev pub HasFilterAt : {bytes : List ℕ} {diagram : Diagram} → IsModelOf bytes diagram → ℕ → Fir
    → Type 0
HasFilterAt model place fir = IsFilterAt model.tree model.flat.nested model.flat.built place fir

-- each filter of a model does so in the model's diagram
abbrev pub ModelsConvolve : Type 0
ModelsConvolve =
    (bytes : List ℕ) (diagram : Diagram) (model : IsModelOf bytes diagram) (place : ℕ) (fir : Fir)
    → HasFilterAt model place fir → (other : Decimal) (order : List ℕ) (stimulus : Stimulus) (n : ℕ)
    (table : Table) → IsSolved diagram order stimulus n table
    → ShowsFilter other diagram (first_of model.flat.nested place) fir stimulus n table
