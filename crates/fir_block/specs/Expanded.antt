-- The blocks and lines that a discrete FIR filter stands for (Simulink reference, Discrete FIR
-- Filter, direct form; the names of the blocks and a type for each coefficient are own).
use Rattle.std.specs.Prelude.{◌≡◌, ◌⊎◌, ◌<◌, ◌^◌, ℕ, ◌+◌, ◌-◌, ◌*◌, Bool, false, List, [], ◌∷◌, ◌++◌, length, map, codes, decimal, replicate, slice_index_or, Option, None}
use Rattle.std.specs.List.{range_with_len}
use Rattle.fx_type.specs.declared.decimal.Decimal.{Decimal}
use Rattle.fx_type.specs.declared.rounding.Rounding.TheVariants.{Floor}
use Rattle.fx_type.specs.declared.spec.TypeSpec.{TypeSpec}
use Rattle.fx_type.specs.declared.spec.TypeSpec.TheVariants.{Internal, Auto}
use Rattle.dg_model.specs.declared.diagram.Block.{Block}
use Rattle.dg_model.specs.declared.diagram.Edge.{Edge}
use Rattle.dg_model.specs.declared.diagram.PeriodSpec.TheVariants.{Inherit}
use Rattle.dg_model.specs.declared.kind.Kind.{Kind}
use Rattle.dg_model.specs.declared.kind.Kind.TheVariants.{Pass, Delay, Gain, Sum}
use Rattle.dg_model.specs.KindRow.{IsBetween}
use Rattle.dg_model.specs.Wires.{repeated}
use Rattle.fir_block.specs.declared.filter.Expansion.{Expansion}
use Rattle.fir_block.specs.declared.filter.Fir.{Fir}
use Rattle.fir_block.specs.declared.filter.FirBlock.{FirBlock}

-- a filter has 2 to 32 coefficients, and one initial value or one for each delay
pub record IsFir (fir : Fir) : Type 0 where
  pub coefficients : IsBetween 2 32 (length fir.coefficients)
  pub initial : (length fir.initial ≡ 1) ⊎ (length fir.initial + 1 ≡ length fir.coefficients)

-- how many blocks a filter of so many coefficients stands for, the subsystem among them
abbrev pub extent : ℕ → ℕ
extent coefficients = 2 * coefficients + 3

-- ---- blocks

-- a block of which nothing but its kind, its type and its inputs is said
abbrev pub plain_block : Kind → TypeSpec → ℕ → Block
plain_block kind result inputs = record {
  path = [];
  kind = kind;
  inputs = inputs;
  outputs = 1;
  result = result;
  rounding = Floor;
  saturate = false;
  period = Inherit;
  enable = None;
}

-- the name of a delay or of a product
abbrev pub numbered : List ℕ → ℕ → List ℕ
numbered letter number = letter ++ decimal number

-- the inner Inport and Outport
abbrev pub port_block : List ℕ → FirBlock
port_block name = record { name = name; block = plain_block (Pass 0) Auto 1 }

-- the initial value of delay k, from 1; a filter that isn't one has the other
abbrev pub initial_of : Decimal → Fir → ℕ → Decimal
initial_of other fir k = slice_index_or fir.initial (repeated (length fir.initial) (k - 1)) other

-- delay k, from 1
abbrev pub delay_block : Decimal → Fir → ℕ → FirBlock
delay_block other fir k = record {
  name = numbered (codes "d") k;
  block = plain_block (Delay 1 (initial_of other fir k ∷ []) false) Auto 1;
}

-- the product with a coefficient, numbered from 0
abbrev pub gain_block : Fir → ℕ → Decimal → FirBlock
gain_block fir k coefficient = record {
  name = numbered (codes "c") k;
  block = plain_block (Gain (coefficient ∷ []) fir.param) Internal 1;
}

-- these of all coefficients, the first of which has this number
abbrev pub gain_blocks : Fir → ℕ → List Decimal → List FirBlock
gain_blocks fir k [] = []
gain_blocks fir k (coefficient ∷ coefficients) =
    gain_block fir k coefficient ∷ gain_blocks fir (k + 1) coefficients

-- the sum
abbrev pub sum_block : Fir → FirBlock
sum_block fir = record {
  name = codes "sum";
  block =
      record (plain_block (Sum (replicate (length fir.coefficients) false) Internal) fir.result
      (length fir.coefficients)) {
        rounding = fir.rounding;
        saturate = fir.saturate;
        period = fir.period;
      };
}

-- the delays
abbrev pub delay_blocks : Decimal → Fir → List FirBlock
delay_blocks other fir = map (delay_block other fir) (range_with_len 1 (length fir.coefficients - 1))

-- all of them in file order
abbrev pub blocks_of : Decimal → Fir → List FirBlock
blocks_of other fir =
    port_block (codes "in") ∷ (delay_blocks other fir ++ (gain_blocks fir 0 fir.coefficients
    ++ (sum_block fir ∷ port_block (codes "out") ∷ [])))

-- ---- lines

-- a line into an input port of a block, by their numbers
abbrev pub line : ℕ → ℕ → ℕ → Edge
line from to to_port = record { from = from; from_port = 1; to = to; to_port = to_port }

-- the lines of the chain of delays of a filter of so many coefficients, whose Inport has the number
-- `first`
abbrev pub chain_of : ℕ → ℕ → List Edge
chain_of first count =
    map (λ k. line (first + (k - 1)) (first + k) 1) (range_with_len 1 (count - 1))

-- those from these into the products
abbrev pub taps_of : ℕ → ℕ → List Edge
taps_of first count =
    map (λ k. line (first + k) (first + (count + k)) 1) (range_with_len 0 count)

-- those from the products into the sum
abbrev pub terms_of : ℕ → ℕ → List Edge
terms_of first count =
    map (λ k. line (first + (count + k)) (first + 2 * count) (k + 1)) (range_with_len 0 count)

-- all of them
abbrev pub lines_of : ℕ → ℕ → List Edge
lines_of first count =
    chain_of first count ++ (taps_of first count ++ (terms_of first count
    ++ line (first + 2 * count) (first + 2 * count + 1) 1 ∷ []))

-- the blocks and lines of a filter that has this number as a subsystem
pub record IsExpansion (fir : Fir) (place : ℕ) (expansion : Expansion) : Type 0 where
  pub blocks : (other : Decimal) → expansion.blocks ≡ blocks_of other fir
  pub edges : expansion.edges ≡ lines_of (place + 1) (length fir.coefficients)
