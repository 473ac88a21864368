-- What is prepared for an operation from its types alone (own).
use Rattle.std.specs.Prelude.{◌≡◌, ℕ, ◌+◌, ◌≤◌, Bool, false, ℤ, ◌+ℤ◌, ◌≤ℤ◌, List, length, zip, All, ⊤, None}
use Rattle.std.specs.Int.{int_gap}
use Rattle.fx_type.specs.declared.kind.FxType.{FxType}
use Rattle.fx_type.specs.FullType.{IsFullSum}
use Rattle.fx_type.specs.FxType.{IsType, width_of, frac_of}
use Rattle.dg_model.specs.declared.kind.Criterion.{Criterion}
use Rattle.dg_model.specs.declared.op.Op.TheVariants.{Sum, Gain, Product, Switch, Convert}
use Rattle.dg_model.specs.Operation.{Operation, AreInRange, type_of}
use Rattle.dg_blocks.specs.declared.prepared.Prepared.{Prepared}
use Rattle.dg_blocks.specs.declared.prepared.Prepared.TheVariants.{Wide, Converted, Times, Scaled, Summed, Chosen}
use Rattle.dg_blocks.specs.declared.narrow.Narrow.{Narrow}
use Rattle.dg_blocks.specs.Narrow.{IsNarrow, HasRoom, magnitude_of}

-- a conversion of numbers of so many bits in units of 2 to the -frac is prepared for the
-- operation's result
abbrev pub IsReady : Operation → Narrow → ℕ → ℤ → Type 0
IsReady operation narrow bits frac =
    IsNarrow narrow frac operation.result operation.rounding operation.saturate
    × HasRoom narrow bits

-- how many bits a product of stored integers of two types has at most beside its sign
abbrev pub product_bits : FxType → FxType → ℕ
product_bits a b = magnitude_of a + magnitude_of b + 1

-- stored integers of the type have at most 61 bits and a sign, and at most 60 more where they are
-- written with frac bits behind the point
pub record IsShort (frac : ℤ) (type : FxType) : Type 0 where
  pub width : width_of type ≤ 61
  pub above : frac_of type ≤ℤ frac
  pub shift : int_gap (frac_of type) frac ≤ 60

-- the inputs of a sum of which every part has at most 61 bits and a sign, in units of 2 to the
-- -frac
pub record IsSummable (frac : ℤ) (signs : List Bool) (types : List FxType)
    (inputs : List ℤ) : Type 0 where
  pub signs_length : length signs ≡ length types
  pub types_valid : All IsType types
  pub values : AreInRange types inputs
  pub full : FxType
  pub is_full : IsFullSum (zip signs types) full
  pub frac_is : frac_of full ≡ frac
  pub bits : magnitude_of full ≤ 61
  pub short : All (IsShort frac) types

-- what is prepared fits the operation
abbrev pub IsPrepared : Prepared → Operation → Type 0
IsPrepared Wide operation = ⊤
IsPrepared (Converted narrow) operation =
    (operation.op ≡ Convert false)
    × IsReady operation narrow (magnitude_of (type_of operation.types 0))
    (frac_of (type_of operation.types 0))
IsPrepared (Times narrow) operation =
    (operation.op ≡ Product)
    × IsReady operation narrow
    (product_bits (type_of operation.types 0) (type_of operation.types 1))
    (frac_of (type_of operation.types 0) +ℤ frac_of (type_of operation.types 1))
IsPrepared (Scaled coefficient narrow) operation =
    (param : FxType) × (operation.op ≡ Gain coefficient param)
    × IsReady operation narrow (product_bits (type_of operation.types 0) param)
    (frac_of (type_of operation.types 0) +ℤ frac_of param)
IsPrepared (Summed frac narrow) operation =
    (full : FxType) × (operation.op ≡ Sum None) × IsFullSum (zip operation.signs operation.types) full
    × (frac_of full ≡ frac)
    × All (IsShort frac) operation.types × IsReady operation narrow (magnitude_of full) frac
IsPrepared (Chosen narrow) operation =
    (criterion : Criterion) × (threshold : ℤ) × (operation.op ≡ Switch criterion threshold)
    × (bits : ℕ) × (magnitude_of (type_of operation.types 0) ≤ bits)
    × (magnitude_of (type_of operation.types 2) ≤ bits)
    × (frac_of (type_of operation.types 2) ≡ frac_of (type_of operation.types 0))
    × IsReady operation narrow bits (frac_of (type_of operation.types 0))
