-- Data types as text (Fixed-Point Designer, `fixdt`; the widths are own).
use Prim.Native.Char.{code}
use Rattle.std.specs.Prelude.{◌≡◌, ℕ, Bool, true, false, ◌==◌, ◌||◌, List, [], ◌∷◌, Option, Some, None, ◌⊎◌, ℤ, pos, neg_ℤ, codes, bytes_eq, if◌then◌else◌}
use Rattle.fx_type.specs.declared.kind.FxType.{FxType}
use Rattle.fx_type.specs.declared.kind.FxType.TheVariants.{Num, Logical}
use Rattle.fx_type.specs.FxType.{IsType}
use Rattle.mdl_values.specs.Numbers.{IsNumberText}
use Rattle.mdl_values.specs.Pieces.{pieces_at, words_of, two_of}

-- the types that have a name
abbrev pub named_type : List ℕ → Option FxType
named_type text =
    if bytes_eq text (codes "int8") then Some (Num true 8 (pos 0))
    else (if bytes_eq text (codes "int16") then Some (Num true 16 (pos 0))
    else (if bytes_eq text (codes "int32") then Some (Num true 32 (pos 0))
    else (if bytes_eq text (codes "uint8") then Some (Num false 8 (pos 0))
    else (if bytes_eq text (codes "uint16") then Some (Num false 16 (pos 0))
    else (if bytes_eq text (codes "uint32") then Some (Num false 32 (pos 0))
    else (if bytes_eq text (codes "boolean") then Some Logical
    else None))))))

-- whether a type is signed: `1` or `true`, `0` or `false`
abbrev pub signedness_of : List ℕ → Option Bool
signedness_of text =
    if bytes_eq text (codes "1") || bytes_eq text (codes "true") then Some true
    else (if bytes_eq text (codes "0") || bytes_eq text (codes "false") then Some false else None)

-- a minus sign stands first, and what stands behind it
abbrev pub is_negative : List ℕ → Bool
is_negative [] = false
is_negative (byte ∷ bytes) = byte == code "-"

abbrev pub behind_first : List ℕ → List ℕ
behind_first [] = []
behind_first (byte ∷ bytes) = bytes

-- a whole number that may have a minus sign, of at most 128 either way
pub record IsFracText (text : List ℕ) (frac : ℤ) : Type 0 where
  pub size : ℕ
  pub read : IsNumberText 0 128 (if is_negative text then behind_first text else text) size
  pub value : frac ≡ (if is_negative text then neg_ℤ (pos size) else pos size)

-- a piece and the two behind it
abbrev pub with_first : List ℕ → Option (List ℕ × List ℕ) → Option (List ℕ × (List ℕ × List ℕ))
with_first first None = None
with_first first (Some more) = Some (first, more)

-- three pieces and no more
abbrev pub three_of : List (List ℕ) → Option (List ℕ × (List ℕ × List ℕ))
three_of [] = None
three_of (first ∷ more) = with_first first (two_of more)

-- what stands in the parentheses of `fixdt( .. )`
pub record IsCall (text inside : List ℕ) : Type 0 where
  pub behind : List ℕ
  pub opens : two_of (pieces_at (code "(") text) ≡ Some (codes "fixdt", behind)
  pub closes : two_of (pieces_at (code ")") behind) ≡ Some (inside, [])

-- whether it is signed, as one word with blanks around
pub record IsSignPart (part : List ℕ) (signed : Bool) : Type 0 where
  pub word : List ℕ
  pub alone : words_of part ≡ word ∷ []
  pub read : signedness_of word ≡ Some signed

-- the width, as one word with blanks around
pub record IsWidthPart (part : List ℕ) (width : ℕ) : Type 0 where
  pub word : List ℕ
  pub alone : words_of part ≡ word ∷ []
  pub read : IsNumberText 1 128 word width

-- the bits behind the point, as one word with blanks around
pub record IsFracPart (part : List ℕ) (frac : ℤ) : Type 0 where
  pub word : List ℕ
  pub alone : words_of part ≡ word ∷ []
  pub read : IsFracText word frac

-- three parts that are a sign, a width and the bits behind the point, of a type that is valid
pub record IsWordOf (first second third : List ℕ) (type : FxType) : Type 0 where
  pub signed : Bool
  pub sign_is : IsSignPart first signed
  pub width : ℕ
  pub width_is : IsWidthPart second width
  pub frac : ℤ
  pub frac_is : IsFracPart third frac
  pub type_is : type ≡ Num signed width frac
  pub valid : IsType type

-- `fixdt(s, w, f)`, with blanks allowed around each of the three
pub record IsFixdtText (text : List ℕ) (type : FxType) : Type 0 where
  pub inside : List ℕ
  pub call : IsCall text inside
  pub first : List ℕ
  pub second : List ℕ
  pub third : List ℕ
  pub parts : three_of (pieces_at (code ",") inside) ≡ Some (first, (second, third))
  pub word : IsWordOf first second third type

-- a type by its name, or a `fixdt`
abbrev pub IsTypeText : List ℕ → FxType → Type 0
IsTypeText text type = (named_type text ≡ Some type) ⊎ IsFixdtText text type
