-- A FIR filter of three taps in a diagram, drawn by hand.
use Rattle.std.proofs.Common.{◌≡◌, ℕ, zero, suc, ◌<◌, ◌^◌, Bool, true, false, List, [], ◌∷◌}
use Rattle.std.proofs.Common.{Some, None, slice_get, pos, refl, subst}
use Rattle.std.proofs.Math.Dec.{lit<, lit≤}
use Rattle.std.proofs.lemmas.Option.{none-some, same_Some}
use lib.Signed.{le_z_yes}
use Rattle.fx_type.specs.declared.decimal.Decimal.{Decimal}
use Rattle.fx_type.specs.declared.kind.FxType.{FxType}
use Rattle.fx_type.specs.declared.kind.FxType.TheVariants.{Num}
use Rattle.fx_type.specs.declared.rounding.Rounding.{Rounding}
use Rattle.fx_type.specs.declared.rounding.Rounding.TheVariants.{Floor}
use Rattle.fx_type.specs.declared.spec.TypeSpec.TheVariants.{Auto, Fixed, Internal}
use Rattle.dg_model.specs.declared.diagram.Block.{Block}
use Rattle.dg_model.specs.declared.diagram.Diagram.{Diagram}
use Rattle.dg_model.specs.declared.diagram.Edge.{Edge}
use Rattle.dg_model.specs.declared.diagram.PeriodSpec.TheVariants.{Inherit}
use Rattle.dg_model.specs.declared.kind.Kind.{Kind}
use Rattle.dg_model.specs.declared.kind.Kind.TheVariants.{Delay, Gain, Inport, Outport, Pass, Sum}
use Rattle.dg_model.specs.Convolution.{IsFed, IsFilter, IsKindAt, Taps, product, sum_of, tap}

-- ---- types and numbers

abbrev pub int8 : FxType
int8 = Num true 8 (pos 0)

abbrev pub int16 : FxType
int16 = Num true 16 (pos 0)

-- with one bit behind the point
abbrev pub halves : FxType
halves = Num true 16 (pos 1)

abbrev pub whole : (negative : Bool) (n : ℕ) → n < 10 ^ 18 → Decimal
whole negative n small = record {
  negative = negative;
  digits = n;
  exponent = pos 0;
  eighteen_digits = small;
  least_exponent = le_z_yes tt;
  greatest_exponent = le_z_yes tt;
}

abbrev pub one : Decimal
one = whole false 1 (lit< tt)

abbrev pub two : Decimal
two = whole false 2 (lit< tt)

abbrev pub three : Decimal
three = whole false 3 (lit< tt)

abbrev pub five : Decimal
five = whole false 5 (lit< tt)

abbrev pub seven : Decimal
seven = whole false 7 (lit< tt)

-- ---- a filter: u 0, in 1, d1 2, d2 3, c0 4, c1 5, c2 6, sum 7, out 8, y 9

abbrev block_of : Kind → ℕ → ℕ → Block
block_of kind inputs outputs = record {
  path = [];
  kind = kind;
  inputs = inputs;
  outputs = outputs;
  result = Auto;
  rounding = Floor;
  saturate = false;
  period = Inherit;
  enable = None;
}

abbrev edge_of : ℕ → ℕ → ℕ → Edge
edge_of from to to_port = record { from = from; from_port = 1; to = to; to_port = to_port }

abbrev product_of : Decimal → Block
product_of coefficient = record (block_of (Gain (coefficient ∷ []) (Fixed int8)) 1 1) { result = Internal }

-- with these roundings and overflows of its sum
abbrev pub sum_by : Rounding → Bool → Block
sum_by rounding saturate =
    record (block_of (Sum (false ∷ false ∷ false ∷ []) Internal) 3 1) { rounding = rounding; saturate = saturate }

abbrev diagram : Diagram
diagram = record {
  blocks = block_of (Inport 1 0) 0 1 ∷ block_of (Pass 0) 1 1 ∷ block_of (Delay 1 (five ∷ []) false) 1 1
      ∷ block_of (Delay 1 (seven ∷ []) false) 1 1 ∷ product_of one ∷ product_of two ∷ product_of three
      ∷ sum_by Floor false ∷ block_of (Pass 0) 1 1 ∷ block_of (Outport 1) 1 0 ∷ [];
  edges = edge_of 0 1 1 ∷ edge_of 1 2 1 ∷ edge_of 2 3 1 ∷ edge_of 1 4 1 ∷ edge_of 2 5 1 ∷ edge_of 3 6 1
      ∷ edge_of 4 7 1 ∷ edge_of 5 7 2 ∷ edge_of 6 7 3 ∷ edge_of 7 8 1 ∷ edge_of 8 9 1 ∷ [];
}

abbrev pub taps_by : List Decimal → List Decimal → Taps
taps_by coefficients initial = record { coefficients = coefficients; initial = initial; param = Fixed int8 }

abbrev pub drawn : Taps
drawn = taps_by (one ∷ two ∷ three ∷ []) (five ∷ seven ∷ [])

abbrev IsDelay : ℕ → Decimal → Type 0
IsDelay k value =
    (b : Block) × IsKindAt diagram (tap 1 (suc k)) (Delay 1 (value ∷ []) false) b × (b.enable ≡ None)
    × IsFed diagram (tap 1 k) (tap 1 (suc k)) 1

delays : (k : ℕ) (value : Decimal) → slice_get drawn.initial k ≡ Some value → IsDelay k value
delays zero value at =
    subst (IsDelay 0) (same_Some five value at) (_, record { block_is = refl; kind_is = refl }, refl, refl)
delays (suc zero) value at =
    subst (IsDelay 1) (same_Some seven value at) (_, record { block_is = refl; kind_is = refl }, refl, refl)
delays (suc (suc k)) value at = absurd (none-some value at)

abbrev IsProduct : ℕ → Decimal → Type 0
IsProduct k coefficient =
    (b : Block) × IsKindAt diagram (product 1 drawn k) (Gain (coefficient ∷ []) (Fixed int8)) b × (b.result ≡ Internal)
    × IsFed diagram (tap 1 k) (product 1 drawn k) 1 × IsFed diagram (product 1 drawn k) (sum_of 1 drawn) (suc k)

products : (k : ℕ) (coefficient : Decimal) → slice_get drawn.coefficients k ≡ Some coefficient → IsProduct k coefficient
products zero coefficient at =
    subst (IsProduct 0) (same_Some one coefficient at) (_, record { block_is = refl; kind_is = refl }, refl, refl, refl)
products (suc zero) coefficient at =
    subst (IsProduct 1) (same_Some two coefficient at) (_, record { block_is = refl; kind_is = refl }, refl, refl, refl)
products (suc (suc zero)) coefficient at =
    subst (IsProduct 2) (same_Some three coefficient at)
    (_, record { block_is = refl; kind_is = refl }, refl, refl, refl)
products (suc (suc (suc k))) coefficient at = absurd (none-some coefficient at)

-- it is one
filter : IsFilter diagram 1 drawn (sum_by Floor false) None false
filter = record {
  some = lit≤ tt;
  values = refl;
  input = (block_of (Pass 0) 1 1, record { block_is = refl; kind_is = refl });
  delays = delays;
  products = products;
  total = record { block_is = refl; kind_is = refl };
}
