-- Full types and unions as functions: the type that the relation allows, or none (Fixed-Point
-- Designer guide; exact widths own).
use Rattle.std.specs.Prelude.{ℕ, ◌+◌, ◌==◌, Bool, true, false, not, cond, ◌&&◌, ◌||◌, nat_le, [], ◌∷◌, Option, Some, None, ℤ, pos, negsuc, ◌+ℤ◌, int_lt, int_le}
use Rattle.std.specs.Int.{int_max, int_min}
use Rattle.std.specs.List.{find, range_with_len}
use Rattle.std.specs.Option.{option_map}
use Rattle.std.specs.Ordering.{int_eq}
use Rattle.math_num.specs.Word.{word_lowest, word_highest}
use Rattle.fx_type.specs.declared.kind.FxType.{FxType}
use Rattle.fx_type.specs.declared.kind.FxType.TheVariants.{Num, Logical}
use Rattle.fx_type.specs.FxType.{is_signed, width_of, frac_of}
use Rattle.fx_type.specs.FullType.{Terms}
use Rattle.fx_type.specs.Span.{least_term, greatest_term, sum_of}

-- ---- types of numbers

-- a word of this sign and width has both ends
abbrev pub holds_ends : ℤ → ℤ → Bool → ℕ → Bool
holds_ends least greatest signed width =
    int_le (word_lowest width signed) least && int_le greatest (word_highest width signed)

-- the narrowest type with `frac` bits behind the point that has both ends, signed where the least
-- is below 0
abbrev pub narrowest_of : ℤ → ℤ → ℤ → Option FxType
narrowest_of least greatest frac =
    let signed = int_lt least (pos 0) in
    let widths =
    range_with_len (cond signed 2 1) 127 in option_map (λ width. Num signed width frac)
    (find (holds_ends least greatest signed) widths)

-- ---- sums

-- the greatest frac of a type and of the terms
abbrev pub greatest_frac_of : FxType → Terms → ℤ
greatest_frac_of type [] = frac_of type
greatest_frac_of type (term ∷ terms) = int_max (frac_of type) (greatest_frac_of term.1 terms)

-- the type of a sum
abbrev pub full_sum_of : Terms → Option FxType
full_sum_of [] = None
full_sum_of (term ∷ terms) =
    let frac =
    greatest_frac_of term.1 terms in narrowest_of (sum_of (least_term frac) (term ∷ terms))
    (sum_of (greatest_term frac) (term ∷ terms)) frac

-- ---- products

-- a word has this width and sign
abbrev pub is_word : ℕ → Bool → Bool
is_word width true = nat_le 2 width && nat_le width 128
is_word width false = nat_le 1 width && nat_le width 127

-- the type of a product
abbrev pub full_product_of : FxType → FxType → Option FxType
full_product_of a b =
    let signed = is_signed a || is_signed b in
    let width = width_of a + width_of b in
    let frac =
    frac_of a +ℤ frac_of b in cond
    (is_word width signed && (int_le (negsuc 63) frac && int_le frac (pos 128)))
    (Some (Num signed width frac)) None

-- ---- unions

-- two signs are the same
abbrev pub same_sign : Bool → Bool → Bool
same_sign true other = other
same_sign false other = not other

-- two types are the same
abbrev pub same_type : FxType → FxType → Bool
same_type (Num signed width frac) (Num other_signed other_width other_frac) =
    same_sign signed other_signed && ((width == other_width) && int_eq frac other_frac)
same_type (Num signed width frac) Logical = false
same_type Logical (Num signed width frac) = false
same_type Logical Logical = true

-- the type of a choice between two
abbrev pub union_of : FxType → FxType → Option FxType
union_of a b =
    let frac = int_max (frac_of a) (frac_of b) in
    cond (same_type a b) (Some a)
    (narrowest_of (int_min (least_term frac (false, a)) (least_term frac (false, b)))
    (int_max (greatest_term frac (false, a)) (greatest_term frac (false, b))) frac)
