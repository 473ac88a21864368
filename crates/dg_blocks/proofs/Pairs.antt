-- What an operation with two inputs asks of them.
use Rattle.std.proofs.Common.{◌≡◌, ℕ, zero, suc, ◌<◌, ℤ, Bool, false, List, [], ◌∷◌, All, None, refl, arith}
use Rattle.fx_type.specs.declared.kind.FxType.{FxType}
use Rattle.fx_type.specs.FxType.{IsType, InRange}
use Rattle.fx_type.specs.declared.rounding.Rounding.{Rounding}
use Rattle.fx_type.specs.FullType.{IsFullSum}
use Rattle.dg_model.specs.declared.op.Op.TheVariants.{Sum}
use Rattle.dg_model.specs.Operation.{AreInRange, CanCarryOut, type_of, value_of}

pub pair_types : (a b : FxType) → IsType a → IsType b → All IsType (a ∷ b ∷ [])
pair_types a b p q zero d inside = p
pair_types a b p q (suc zero) d inside = q
pair_types a b p q (suc (suc k)) d inside = absurd (omega (arith, inside))

pub pair_values : (a b : FxType) (v w : ℤ) → InRange a v → InRange b w → AreInRange (a ∷ b ∷ []) (v ∷ w ∷ [])
pair_values a b v w p q = record { count = refl; in_range = go }
  where
    go : (input : ℕ) → input < 2 → InRange (type_of (a ∷ b ∷ []) input) (value_of (v ∷ w ∷ []) input)
    go zero inside = p
    go (suc zero) inside = q
    go (suc (suc k)) inside = absurd (omega (arith, inside))

-- the sum of two may be carried out
pub can_add : (accum kind : FxType) (negative : Bool) (before v : ℤ) (rounding : Rounding) (saturate : Bool) → IsType accum → IsType kind → InRange accum before → InRange kind v
    → (full : FxType) × IsFullSum ((false, accum) ∷ (negative, kind) ∷ []) full
    → CanCarryOut (record { op = Sum None; signs = false ∷ negative ∷ []; types = accum ∷ kind ∷ []; result = accum; rounding = rounding; saturate = saturate }) (before ∷ v ∷ [])
can_add accum kind negative before v rounding saturate a k b r full = record {
  prepared = record {
    arity = (omega arith, omega arith);
    signs = refl;
    types = pair_types accum kind a k;
    parameters = tt;
    result = a;
    result_type = tt;
    full_type = full;
  };
  values = pair_values accum kind before v b r;
}
