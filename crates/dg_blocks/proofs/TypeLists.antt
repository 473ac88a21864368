-- Types and inputs that are written out, as tests do.
use Rattle.std.proofs.Common.{◌≡◌, ℕ, zero, suc, ◌<◌, List, [], ◌∷◌, length, ℤ, Option, Some, None, IfSome, All, arith}
use Rattle.std.specs.Prelude.{⊤}
use Rattle.fx_type.specs.declared.kind.FxType.{FxType}
use Rattle.fx_type.specs.FxType.{IsType, InRange}
use Rattle.dg_model.specs.Operation.{AreInRange, type_of, value_of}

abbrev pub EachIsType : List FxType → Type 0
EachIsType [] = ⊤
EachIsType (t ∷ types) = IsType t × EachIsType types

pub all_types : (types : List FxType) → EachIsType types → All IsType types
all_types [] each k d h = absurd (omega arith)
all_types (t ∷ types) each zero d h = each.0
all_types (t ∷ types) each (suc k) d h = all_types types each.1 k d (omega arith)

abbrev pub EachInRange : List FxType → List ℤ → Type 0
EachInRange [] values = ⊤
EachInRange (t ∷ types) [] = ⊤
EachInRange (t ∷ types) (v ∷ values) = InRange t v × EachInRange types values

all_in_range : (types : List FxType) (values : List ℤ) → length values ≡ length types → EachInRange types values
    → (input : ℕ) → input < length types → InRange (type_of types input) (value_of values input)
all_in_range [] values same each k h = absurd (omega arith)
all_in_range (t ∷ types) [] same each k h = absurd (omega arith)
all_in_range (t ∷ types) (v ∷ values) same each zero h = each.0
all_in_range (t ∷ types) (v ∷ values) same each (suc k) h = all_in_range types values (omega arith) each.1 k (omega arith)

pub are_in_range : (types : List FxType) (values : List ℤ) → length values ≡ length types → EachInRange types values → AreInRange types values
are_in_range types values same each = record { count = same; in_range = all_in_range types values same each }

-- two facts of what is there make a third
pub both_of : {A : Type 0} (P Q R : A → Type 0) (result : Option A) → ((x : A) → P x → Q x → R x) → IfSome result P → IfSome result Q → IfSome result R
both_of P Q R None h p q = tt
both_of P Q R (Some x) h p q = h x p q
