-- A discrete FIR filter in a flat diagram, and what its sum shows: the convolution of its
-- coefficients with its input (Simulink reference, Discrete FIR Filter; what an enabled subsystem
-- counts is own).
use Rattle.std.specs.Prelude.{◌≡◌, ℕ, suc, ◌+◌, ◌*◌, ◌-◌, ◌<◌, ◌≤◌, ℤ, pos, ◌+ℤ◌, ◌*ℤ◌, ◌≤ℤ◌, ◌^◌, Bool, false, List, [], ◌∷◌, length, replicate, slice_get, Option, Some, None, MatchOption}
use Rattle.std.specs.Int.{int_gap}
use Rattle.fx_type.specs.declared.decimal.Decimal.{Decimal}
use Rattle.fx_type.specs.declared.kind.FxType.{FxType}
use Rattle.fx_type.specs.declared.spec.TypeSpec.{TypeSpec}
use Rattle.fx_type.specs.declared.spec.TypeSpec.TheVariants.{Internal}
use Rattle.fx_type.specs.Conversion.{Converts, Stores}
use Rattle.fx_type.specs.FxType.{frac_of, aligned}
use Rattle.dg_model.specs.declared.diagram.Diagram.{Diagram}
use Rattle.dg_model.specs.declared.diagram.Block.{Block}
use Rattle.dg_model.specs.declared.diagram.Edge.{Edge}
use Rattle.dg_model.specs.declared.kind.Kind.{Kind}
use Rattle.dg_model.specs.declared.kind.Kind.TheVariants.{Pass, Delay, Gain, Sum}
use Rattle.dg_model.specs.Hits.{counted_hits}
use Rattle.dg_model.specs.Signals.{Attributes, Table}
use Rattle.dg_model.specs.Wires.{driver_of, repeated}

-- the block at a place has this kind, and the specification of its result is this
pub record IsKindAt (diagram : Diagram) (place : ℕ) (kind : Kind) (b : Block) : Type 0 where
  pub block_is : slice_get diagram.blocks place ≡ Some b
  pub kind_is : b.kind ≡ kind

-- a line leads from output port 1 of a block to an input port of another
abbrev pub IsFed : Diagram → ℕ → ℕ → ℕ → Type 0
IsFed diagram from to to_port =
    driver_of diagram to to_port ≡ Some (record {
      from = from;
      from_port = 1;
      to = to;
      to_port = to_port;
    })

-- the coefficients and the initial values of a filter, one for each delay, the nearest first
pub record Taps : Type 0 where
  pub coefficients : List Decimal
  pub initial : List Decimal
  pub param : TypeSpec

-- tap k, from 0: the Inport of the filter, or a delay
abbrev pub tap : ℕ → ℕ → ℕ
tap first k = first + k

-- the product with coefficient k, from 0
abbrev pub product : ℕ → Taps → ℕ → ℕ
product first taps k = first + (length taps.coefficients + k)

-- the sum
abbrev pub sum_of : ℕ → Taps → ℕ
sum_of first taps = first + 2 * length taps.coefficients

-- the blocks of a filter stand in the diagram from `first` on: its Inport, the delays, the
-- products, and the sum, which this block is; all delays are of one enabled subsystem, or of none
pub record IsFilter (diagram : Diagram) (first : ℕ) (taps : Taps) (sum : Block)
    (enable : Option ℕ) (reset : Bool) : Type 0 where
  pub some : 2 ≤ length taps.coefficients
  pub values : length taps.initial + 1 ≡ length taps.coefficients
  pub input : (b : Block) × IsKindAt diagram first (Pass 0) b
  pub delays : (k : ℕ) (value : Decimal) → slice_get taps.initial k ≡ Some value
      → (b : Block) × IsKindAt diagram (tap first (suc k)) (Delay 1 (value ∷ []) reset) b
      × (b.enable ≡ enable) × IsFed diagram (tap first k) (tap first (suc k)) 1
  pub products : (k : ℕ) (coefficient : Decimal) → slice_get taps.coefficients k ≡ Some coefficient
      → (b : Block) × IsKindAt diagram (product first taps k) (Gain (coefficient ∷ []) taps.param) b
      × (b.result ≡ Internal) × IsFed diagram (tap first k) (product first taps k) 1
      × IsFed diagram (product first taps k) (sum_of first taps) (suc k)
  pub total : IsKindAt diagram (sum_of first taps)
      (Sum (replicate (length taps.coefficients) false) Internal) sum

-- ---- what it shows

-- the element of a block of one output that serves an element of its reader
abbrev pub shown_to : Attributes → Table → ℕ → ℕ → ℕ → ℤ
shown_to attributes table block element t =
    table block 1 (repeated (attributes.width_at block 1) element) t

-- x is what tap k holds at a hit: the input at the k-th counted hit before, the hit itself being
-- the 0-th, or, where there are fewer, the initial value of the delay that many taps on
abbrev pub IsHeld : Attributes → Table → ℕ → Taps → List ℕ → ℕ → ℕ → ℕ → ℤ → Type 0
IsHeld attributes table first taps hits element t k x =
    MatchOption (slice_get (t ∷ hits) k)
    (MatchOption (slice_get taps.initial (k - suc (length hits))) ⊥
    (λ value. Stores value (attributes.type_at first 1) x))
    (λ hit. x ≡ shown_to attributes table first element hit)

-- the products of held values and stored coefficients, in units of 2 to the -frac, come to a total
abbrev pub IsConvolved : Attributes → Table → ℕ → Taps → List ℕ → ℤ → ℕ → ℕ → List Decimal → ℕ
    → ℤ → Type 0
IsConvolved attributes table first taps hits frac element t [] k total = total ≡ pos 0
IsConvolved attributes table first taps hits frac element t (coefficient ∷ coefficients) k total =
    (x : ℤ) × (c : ℤ) × (rest : ℤ) × IsHeld attributes table first taps hits element t k x
    × Stores coefficient (attributes.param_at (product first taps k)) c
    × IsConvolved attributes table first taps hits frac element t coefficients (suc k) rest
    × (total
    ≡ (x *ℤ c) *ℤ pos (2 ^ int_gap (frac_of (attributes.type_at (product first taps k) 1)) frac)
    +ℤ rest)

-- the entry of the sum at a hit is the exact convolution, converted once
pub record Convolves (attributes : Attributes) (table : Table) (first : ℕ) (taps : Taps)
    (sum : Block) (enable : Option ℕ) (reset : Bool) (element t : ℕ) : Type 0 where
  pub frac : ℤ
  pub total : ℤ
  -- no bit of a product is lost
  pub exact : (k : ℕ) → k < length taps.coefficients
      → frac_of (attributes.type_at (product first taps k) 1) ≤ℤ frac
  pub convolved : IsConvolved attributes table first taps
      (counted_hits table enable reset (attributes.period_at (tap first 1)) t) frac element t
      taps.coefficients 0 total
  pub converted : (from : FxType) → frac_of from ≡ frac
      → Converts total from (attributes.type_at (sum_of first taps) 1) sum.rounding sum.saturate
      (table (sum_of first taps) 1 element t)
