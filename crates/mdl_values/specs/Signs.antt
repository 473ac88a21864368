-- The signs of a sum (Simulink reference, Sum, `Inputs`).
use Prim.Native.Char.{code}
use Rattle.std.specs.Prelude.{◌≡◌, ℕ, Bool, true, false, ◌==◌, ◌||◌, List, [], ◌∷◌, ◌++◌, length, replicate, Option, Some, None, ◌⊎◌, if◌then◌else◌}
use Rattle.mdl_text.specs.Bytes.{is_blank}
use Rattle.dg_model.specs.KindRow.{IsBetween}
use Rattle.mdl_values.specs.Numbers.{IsNumberText}

-- these signs and those after them
abbrev pub with_signs : List Bool → Option (List Bool) → Option (List Bool)
with_signs signs None = None
with_signs signs (Some more) = Some (signs ++ more)

-- `|` and blanks are passed over
abbrev pub is_spacer : ℕ → Bool
is_spacer byte = byte == code "|" || is_blank byte

-- of each `+` and `-`, whether it subtracts
abbrev pub signs_of : List ℕ → Option (List Bool)
signs_of [] = Some []
signs_of (byte ∷ bytes) =
    if byte == code "+" then with_signs (false ∷ []) (signs_of bytes)
    else (if byte == code "-" then with_signs (true ∷ []) (signs_of bytes)
    else (if is_spacer byte then signs_of bytes else None))

-- so many that add
pub record IsCount (text : List ℕ) (negative : List Bool) : Type 0 where
  pub count : ℕ
  pub read : IsNumberText 2 32 text count
  pub all_add : negative ≡ replicate count false

-- 2 to 32 signs
pub record AreSigns (text : List ℕ) (negative : List Bool) : Type 0 where
  pub read : signs_of text ≡ Some negative
  pub size : IsBetween 2 32 (length negative)

-- signs, or their number
abbrev pub IsSignsText : List ℕ → List Bool → Type 0
IsSignsText text negative = IsCount text negative ⊎ AreSigns text negative
