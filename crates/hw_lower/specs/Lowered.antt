-- What a block element as nets owes (own).
use Rattle.std.specs.Prelude.{◌≡◌, ℕ, ◌+◌, ◌<◌, ◌≤◌, ◌⊎◌, ℤ, List, map, length, Contains, slice_get, Option}
use Rattle.std.specs.Prelude.{Some, None, Bool, All, zip, ◌^◌, ◌≤ℤ◌}
use Rattle.math_num.specs.Word.{IsCongruent}
use Rattle.fx_type.specs.declared.kind.FxType.{FxType}
use Rattle.fx_type.specs.FxType.{IsType, is_signed, width_of, frac_of}
use Rattle.fx_type.specs.FullType.{IsFullSum}
use Rattle.dg_model.specs.declared.op.Op.{Op}
use Rattle.dg_model.specs.declared.op.Op.TheVariants.{Sum, Gain, Product, Switch, Relational, Logic}
use Rattle.dg_model.specs.declared.op.Op.TheVariants.{Convert, Pass}
use Rattle.dg_model.specs.Operation.{Operation, AreInRange, OpGives, signed_sum}
use Rattle.hw_net.specs.declared.netlist.Net.{Net}
use Rattle.hw_net.specs.declared.netlist.NetOp.{NetOp}
use Rattle.hw_net.specs.declared.netlist.NetOp.TheVariants.{Multiply}
use Rattle.hw_net.specs.declared.netlist.NetKind.TheVariants.{Comb}
use Rattle.hw_net.specs.Circuit.{Circuit}
use Rattle.hw_net.specs.Growing.{InRows, Appends}
use Rattle.hw_net.specs.Netlist.{HasWord}
use Rattle.hw_net.specs.NetRows.{Rows}

-- there is a net for each type, of its word
pub record AreArgs (netlist : Circuit) (types : List FxType) (args : List ℕ) : Type 0 where
  pub count : length args ≡ length types
  pub words : (input number : ℕ) (type : FxType) → slice_get args input ≡ Some number
      → slice_get types input ≡ Some type
      → HasWord netlist.nets number (width_of type) (is_signed type)

-- the numbers of nets at a clock
abbrev pub values_at : Rows → List ℕ → ℕ → List ℤ
values_at rows args clock = map (λ net. rows net clock) args

-- in the rows of every later netlist the net shows what the operation gives, at each clock at which
-- the arguments have numbers in the ranges of their types; and it has the word of the result
pub record IsLowered (before after : Circuit) (operation : Operation) (args : List ℕ)
    (number : ℕ) : Type 0 where
  pub gives : InRows before after (λ n rows. (clock : ℕ) → clock < n
      → AreInRange operation.types (values_at rows args clock)
      → OpGives operation (values_at rows args clock) (rows number clock))
  pub word : HasWord after.nets number (width_of operation.result) (is_signed operation.result)
  -- it is an argument, or was put behind the nets
  pub stands : Contains args number ⊎ (length before.nets ≤ number)

-- a Sum can be put in of some of its inputs and of sums of the others, given as terms of these types
pub record CanTotal (operation : Operation) (full : FxType) (signs : List Bool)
    (types : List FxType) : Type 0 where
  pub op : operation.op ≡ Sum None
  pub is_full : IsFullSum (zip operation.signs operation.types) full
  pub own_signs : length operation.signs ≡ length operation.types
  pub result : IsType operation.result
  pub signed : length signs ≡ length types
  pub some : 1 ≤ length types
  pub few : length types ≤ 32
  pub valid : All IsType types
  pub above : All (λ type. frac_of type ≤ℤ frac_of full) types

-- r is what the Sum gives of any values whose exact sum is that of what is given, modulo 2 to the
-- width of the full type
abbrev pub GivesOfTotals : Operation → FxType → List Bool → List FxType → List ℤ → ℤ → Type 0
GivesOfTotals operation full signs types given r =
    (values : List ℤ) → AreInRange operation.types values
    → IsCongruent (signed_sum (frac_of full) (zip signs types) given)
    (signed_sum (frac_of full) (zip operation.signs operation.types) values) (2 ^ width_of full)
    → OpGives operation values r

-- as `IsLowered`, of a Sum by such terms
pub record IsTotalled (before after : Circuit) (operation : Operation) (full : FxType)
    (signs : List Bool) (types : List FxType) (args : List ℕ) (number : ℕ) : Type 0 where
  pub gives : InRows before after (λ n rows. (clock : ℕ) → clock < n
      → AreInRange types (values_at rows args clock)
      → GivesOfTotals operation full signs types (values_at rows args clock) (rows number clock))
  pub word : HasWord after.nets number (width_of operation.result) (is_signed operation.result)
  pub stands : Contains args number ⊎ (length before.nets ≤ number)

-- the net of this number is an operation on others
pub record IsComb (after : Circuit) (number : ℕ) (op : NetOp) : Type 0 where
  pub net : Net
  pub reads : List ℕ
  pub is : slice_get after.nets number ≡ Some net
  pub kind : net.kind ≡ Comb op reads

-- which of the appended nets is the Multiply of an operation, if it has one
abbrev pub multiply_of : Op → Option ℕ
multiply_of (Sum accum) = None
multiply_of (Gain coefficient param) = Some 1
multiply_of Product = Some 0
multiply_of (Switch criterion threshold) = None
multiply_of (Relational operator) = None
multiply_of (Logic gate) = None
multiply_of (Convert stored) = None
multiply_of Pass = None

-- operations alone are put behind the nets, and among them the one Multiply of a Product or a Gain
pub record Lowers (before after : Circuit) (operation : Operation) (args : List ℕ) : Type 0 where
  pub appends : Appends before after args
  pub combs : (k : ℕ) → length before.nets ≤ k → k < length after.nets
      → (op : NetOp) × IsComb after k op
  pub multiplies : (place : ℕ) → multiply_of operation.op ≡ Some place
      → IsComb after (length before.nets + place) Multiply
  pub no_other : (place : ℕ) → IsComb after (length before.nets + place) Multiply
      → multiply_of operation.op ≡ Some place
