-- The digits of a number may stand within a name.
use Rattle.std.proofs.Common.{◌≡◌, ℕ, ◌^◌, ◌<◌, ◌≤◌, ◌==◌, nat_le, true, ◌&&◌, ◌||◌, List, [], ◌∷◌, decimal, refl}
use Prim.Native.Char.{code}
use Rattle.std.specs.List.{list_all}
use Rattle.std.specs.Str.Parse.{AllDigits}
use Rattle.std.proofs.lemmas.Bool.{and_from, or_left, le-leb}
use Rattle.std.proofs.lemmas.Fmt.{decimal_is_IsNumeral}
use Rattle.std.proofs.lemmas.Str.Parse.{digit_from_value}
use Rattle.vl_names.specs.Identifiers.{continues_name}

pub digit_plain : (byte : ℕ) → 48 ≤ byte → byte ≤ 57 → continues_name byte ≡ true
digit_plain byte low high =
    or_left (((nat_le 48 byte && nat_le byte 57) || (nat_le 65 byte && nat_le byte 90)) || (nat_le 97 byte && nat_le byte 122)) (byte == code "_")
    (or_left ((nat_le 48 byte && nat_le byte 57) || (nat_le 65 byte && nat_le byte 90)) (nat_le 97 byte && nat_le byte 122)
    (or_left (nat_le 48 byte && nat_le byte 57) (nat_le 65 byte && nat_le byte 90) (and_from (nat_le 48 byte) (nat_le byte 57) (le-leb 48 byte low) (le-leb byte 57 high))))

digits_plain : (digits : List ℕ) → AllDigits 10 digits → list_all continues_name digits ≡ true
digits_plain [] all = refl
digits_plain (digit ∷ digits) all =
    let range = digit_from_value digit all.0
    in and_from (continues_name digit) (list_all continues_name digits) (digit_plain digit range.0 range.1) (digits_plain digits all.1)

pub number_plain : (k : ℕ) → k < 2 ^ 64 → list_all continues_name (decimal k) ≡ true
number_plain k small = digits_plain (decimal k) (decimal_is_IsNumeral k small).0.1
