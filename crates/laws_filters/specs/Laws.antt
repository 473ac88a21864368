-- What the filters of a diagram that keeps the rules show (own).
use Rattle.std.specs.Prelude.{◌≡◌, ◌⊎◌, ℕ, ◌<◌, Bool, List, length, Option, None}
use Rattle.fx_type.specs.FullType.{IsFullProduct}
use Rattle.dg_model.specs.declared.diagram.Block.{Block}
use Rattle.dg_model.specs.declared.diagram.Diagram.{Diagram}
use Rattle.dg_model.specs.Attributes.{attributes_of}
use Rattle.dg_model.specs.Convolution.{Taps, IsFilter, Convolves, tap, product, sum_of}
use Rattle.dg_model.specs.Hits.{Hits}
use Rattle.dg_model.specs.Signals.{Attributes, Stimulus, Table}
use Rattle.dg_model.specs.Solves.{IsStimulus, Solves}
use Rattle.dg_tables.specs.Laws.{IsOrdered}
use Rattle.dg_filters.specs.Laws.{AreAlike}

-- a product runs with the sum, or neither it nor its tap ever changes
abbrev pub RunsWith : Attributes → ℕ → ℕ → ℕ → Type 0
RunsWith attributes tap product sum =
    (attributes.period_at product ≡ attributes.period_at sum)
    ⊎ ((attributes.period_at product ≡ None) × (attributes.period_at tap ≡ None))

-- the blocks of a filter fit one another: they have one width, each product has the full type of
-- its tap and its coefficient, and the delays run with the sum
pub record AreFitting (attributes : Attributes) (first : ℕ) (taps : Taps) : Type 0 where
  pub alike : AreAlike attributes first taps
  pub widths : (k : ℕ) → k < length taps.coefficients
      → attributes.width_at (product first taps k) 1 ≡ attributes.width_at first 1
  pub width : attributes.width_at (sum_of first taps) 1 ≡ attributes.width_at first 1
  pub types : (k : ℕ) → k < length taps.coefficients
      → IsFullProduct (attributes.type_at (tap first k) 1)
      (attributes.param_at (product first taps k)) (attributes.type_at (product first taps k) 1)
  pub delays : attributes.period_at (tap first 1) ≡ attributes.period_at (sum_of first taps)
  pub products : (k : ℕ) → k < length taps.coefficients
      → RunsWith attributes (tap first k) (product first taps k) (sum_of first taps)

-- a filter, and a table that solves the diagram for a stimulus
pub record IsSolved (diagram : Diagram) (order : List ℕ) (stimulus : Stimulus) (n : ℕ)
    (table : Table) : Type 0 where
  pub ordered : IsOrdered diagram order
  pub stimulated : IsStimulus diagram (attributes_of diagram) stimulus n
  pub solves : Solves diagram (attributes_of diagram) stimulus n table

-- the entry of a filter's sum at a hit is the convolution of its coefficients with its input,
-- exact and converted once, where its blocks fit one another
abbrev pub FittingConvolve : Type 0
FittingConvolve =
    (diagram : Diagram) (order : List ℕ) (stimulus : Stimulus) (n : ℕ) (table : Table)
    (first : ℕ) (taps : Taps) (sum : Block) (enable : Option ℕ) (reset : Bool) (element t : ℕ)
    → IsSolved diagram order stimulus n table → IsFilter diagram first taps sum enable reset
    → AreFitting (attributes_of diagram) first taps
    → element < (attributes_of diagram).width_at (sum_of first taps) 1 → t < n
    → Hits ((attributes_of diagram).period_at (sum_of first taps)) t
    → Convolves (attributes_of diagram) table first taps sum enable reset element t

-- the blocks of a filter in a diagram that keeps the rules do
abbrev pub FiltersFit : Type 0
FiltersFit =
    (diagram : Diagram) (order : List ℕ) (first : ℕ) (taps : Taps) (sum : Block)
    (enable : Option ℕ) (reset : Bool) → IsOrdered diagram order
    → IsFilter diagram first taps sum enable reset → AreFitting (attributes_of diagram) first taps

-- so the entry of each filter's sum at a hit is the convolution of its coefficients with its input
abbrev pub FiltersConvolve : Type 0
FiltersConvolve =
    (diagram : Diagram) (order : List ℕ) (stimulus : Stimulus) (n : ℕ) (table : Table)
    (first : ℕ) (taps : Taps) (sum : Block) (enable : Option ℕ) (reset : Bool) (element t : ℕ)
    → IsSolved diagram order stimulus n table → IsFilter diagram first taps sum enable reset
    → element < (attributes_of diagram).width_at (sum_of first taps) 1 → t < n
    → Hits ((attributes_of diagram).period_at (sum_of first taps)) t
    → Convolves (attributes_of diagram) table first taps sum enable reset element t
