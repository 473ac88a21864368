-- FIR filters of three taps, worked by hand: the sum is the convolution of the coefficients with the input.
use Rattle.std.proofs.Common.{◌≡◌, ℕ, zero, suc, ◌+◌, ◌<◌, ◌^◌, ◌==◌, if◌then◌else◌, Bool, true, false, List, [], ◌∷◌}
use Rattle.std.proofs.Common.{get_or}
use Rattle.std.proofs.Common.{Option, Some, None, ℤ, pos, negsuc, ◌+ℤ◌, ◌*ℤ◌, ◌≤ℤ◌, refl, sym, subst, arith}
use Rattle.std.specs.Int.{int_gap}
use Rattle.std.proofs.Math.Dec.{T, lit<}
use Rattle.std.proofs.lemmas.Int.{ints}
use lib.Signed.{le_z, lt_z, le_z_yes, lt_z_yes}
use Rattle.fx_type.specs.declared.decimal.Decimal.{Decimal}
use Rattle.fx_type.specs.declared.kind.FxType.{FxType}
use Rattle.fx_type.specs.declared.kind.FxType.TheVariants.{Num}
use Rattle.fx_type.specs.declared.rounding.Rounding.{Rounding}
use Rattle.fx_type.specs.declared.rounding.Rounding.TheVariants.{Floor, Nearest}
use Rattle.fx_type.specs.Conversion.{Converts, Stores, StoresQuotient, twice}
use Rattle.fx_type.specs.FxType.{frac_of, highest_of, lowest_of}
use Rattle.dg_model.specs.Convolution.{Convolves, IsHeld}
use Rattle.dg_model.specs.Hits.{counted_hits}
use Rattle.dg_model.specs.Signals.{Attributes, Table}
use Rattle.tests_worked.proofs.Filters.{int8, int16, halves, whole, one, two, three, five, seven, sum_by, taps_by}
use Rattle.tests_worked.proofs.Filters.{drawn}

-- ---- numbers

abbrev minus_three : Decimal
minus_three = whole true 3 (lit< tt)

abbrev nought : Decimal
nought = whole false 0 (lit< tt)

-- 0.5
abbrev half : Decimal
half = record {
  negative = false;
  digits = 5;
  exponent = negsuc 0;
  eighteen_digits = lit< tt;
  least_exponent = le_z_yes tt;
  greatest_exponent = le_z_yes tt;
}

-- a number that a type holds is stored by the nearest
stored : {n : ℤ} {d : ℕ} (width : ℕ) (frac v : ℤ) → T (lt_z (twice n) (twice (v *ℤ pos d) +ℤ pos d))
    → T (le_z (twice (v *ℤ pos d)) (twice n +ℤ pos d)) → T (le_z (lowest_of (Num true width frac)) v)
    → T (le_z v (highest_of (Num true width frac))) → StoresQuotient n d (Num true width frac) Nearest true v
stored width frac v above most low high =
    let at_least : lowest_of (Num true width frac) ≤ℤ v = le_z_yes low in
    let no_more : v ≤ℤ highest_of (Num true width frac) = le_z_yes high in
    record {
      rounded = v;
      rounds = record { above = lt_z_yes above; at_most = le_z_yes most };
      settles = record {
        inside = λ h. refl;
        below = λ h. absurd (omega (arith, ints, h, at_least));
        above = λ h. absurd (omega (arith, ints, h, no_more));
      };
    }

-- ---- what a filter shows

-- signals of one element; the products have this type, and the sum that
abbrev attributes : FxType → FxType → FxType → ℕ → Attributes
attributes param full result period = record {
  width_at = λ block port. 1;
  type_at = λ block port. if block == 7 then result else (if block == 1 then int8 else full);
  param_at = λ block. param;
  period_at = λ block. Some period;
}

-- block 10 is a control
abbrev table : List ℤ → List ℤ → List ℤ → Table
table input control sums block port element t =
    if block == 7 then get_or sums t (pos 0)
    else (if block == 10 then get_or control t (pos 0) else get_or input t (pos 0))

-- no bit is lost
exact_of : (param full result : FxType) (period : ℕ) (frac : ℤ) → frac_of full ≤ℤ frac → (k : ℕ) → k < 3
    → frac_of ((attributes param full result period).type_at (1 + (3 + k)) 1) ≤ℤ frac
exact_of param full result period frac is zero below = is
exact_of param full result period frac is (suc zero) below = is
exact_of param full result period frac is (suc (suc zero)) below = is
exact_of param full result period frac is (suc (suc (suc k))) below = absurd (omega (arith, below))

-- a total is converted once
converted_by : (total frac : ℤ) (width : ℕ) (mode : Rounding) (saturate : Bool) (v : ℤ)
    → StoresQuotient (total *ℤ pos (2 ^ int_gap frac (pos 0))) (2 ^ int_gap (pos 0) frac)
    (Num true width (pos 0)) mode saturate v
    → (from : FxType) → frac_of from ≡ frac → Converts total from (Num true width (pos 0)) mode saturate v
converted_by total frac width mode saturate v is from same =
    subst (λ (f : ℤ). StoresQuotient (total *ℤ pos (2 ^ int_gap f (pos 0))) (2 ^ int_gap (pos 0) f)
    (Num true width (pos 0)) mode saturate v)
    (sym same) is

-- in an int16 it is what it was
kept : (v : ℤ) → T (le_z (negsuc 32767) v) → T (le_z v (pos 32767))
    → (from : FxType) → frac_of from ≡ pos 0 → Converts v from int16 Floor false v
kept v low high = converted_by v (pos 0) 16 Floor false v (record {
  rounded = v;
  rounds = record { at_most = omega (arith, ints); next_above = omega (arith, ints) };
  settles = record {
    in_word = record { low = le_z_yes low; high = le_z_yes high };
    congruent = record { turns = pos 0; equal = omega (arith, ints) };
  };
})

-- coefficients, initial values, and the numbers that they are stored as
one_is : Stores one int8 (pos 1)
one_is = stored 8 (pos 0) (pos 1) tt tt tt tt

two_is : Stores two int8 (pos 2)
two_is = stored 8 (pos 0) (pos 2) tt tt tt tt

three_is : Stores three int8 (pos 3)
three_is = stored 8 (pos 0) (pos 3) tt tt tt tt

minus_three_is : Stores minus_three int8 (negsuc 2)
minus_three_is = stored 8 (pos 0) (negsuc 2) tt tt tt tt

five_is : Stores five int8 (pos 5)
five_is = stored 8 (pos 0) (pos 5) tt tt tt tt

seven_is : Stores seven int8 (pos 7)
seven_is = stored 8 (pos 0) (pos 7) tt tt tt tt

nought_is : Stores nought int8 (pos 0)
nought_is = stored 8 (pos 0) (pos 0) tt tt tt tt

half_is : Stores half (Num true 8 (pos 1)) (pos 1)
half_is = stored 8 (pos 1) (pos 1) tt tt tt tt

-- the sum of a filter of these whole numbers, in an int16
module _ (d0 d1 d2 : Decimal) (c0 c1 c2 : ℤ) (is0 : Stores d0 int8 c0) (is1 : Stores d1 int8 c1)
    (is2 : Stores d2 int8 c2)
    (initial : List Decimal) (period : ℕ) (enable : Option ℕ) (reset : Bool) (table : Table) (t : ℕ) where
  abbrev Shows : Type 0
  Shows =
      Convolves (attributes int8 int16 int16 period) table 1 (taps_by (d0 ∷ d1 ∷ d2 ∷ []) initial) (sum_by Floor false)
      enable reset 0 t

  -- x stands at tap k
  abbrev Holds : ℕ → ℤ → Type 0
  Holds k x =
      IsHeld (attributes int8 int16 int16 period) table 1 (taps_by (d0 ∷ d1 ∷ d2 ∷ []) initial)
      (counted_hits table enable reset (Some period) t) 0 t k x

  shows : (x0 x1 x2 : ℤ) → Holds 0 x0 → Holds 1 x1 → Holds 2 x2
      → table 7 1 0 t ≡ (x0 *ℤ c0) *ℤ pos 1 +ℤ ((x1 *ℤ c1) *ℤ pos 1 +ℤ ((x2 *ℤ c2) *ℤ pos 1 +ℤ pos 0))
      → T (le_z (negsuc 32767) (table 7 1 0 t)) → T (le_z (table 7 1 0 t) (pos 32767)) → Shows
  shows x0 x1 x2 held0 held1 held2 total low high = record {
    frac = pos 0;
    total = table 7 1 0 t;
    exact = exact_of int8 int16 int16 period (pos 0) (le_z_yes tt);
    convolved = (x0, c0, _, held0, is0, (x1, c1, _, held1, is1, (x2, c2, pos 0, held2, is2, refl, refl), refl), total);
    converted = kept (table 7 1 0 t) low high;
  }

-- ---- 1, 2 and 3, with the initial values 5 and 7, the nearest first: 0, 0, 0 gives 31, 15, 0

abbrev Drawn : Table → ℕ → Type 0
Drawn table t =
    Convolves (attributes int8 int16 int16 1) table 1 drawn (sum_by Floor false) None false 0 t

abbrev begun : Table
begun = table (pos 0 ∷ pos 0 ∷ pos 0 ∷ []) [] (pos 31 ∷ pos 15 ∷ pos 0 ∷ [])

begins : Drawn begun 0 × Drawn begun 1 × Drawn begun 2
begins = (
  shows one two three (pos 1) (pos 2) (pos 3) one_is two_is three_is (five ∷ seven ∷ []) 1 None false begun 0 (pos 0)
      (pos 5) (pos 7) refl five_is seven_is refl tt tt,
  shows one two three (pos 1) (pos 2) (pos 3) one_is two_is three_is (five ∷ seven ∷ []) 1 None false begun 1 (pos 0)
      (pos 0) (pos 5) refl refl five_is refl tt tt,
  shows one two three (pos 1) (pos 2) (pos 3) one_is two_is three_is (five ∷ seven ∷ []) 1 None false begun 2 (pos 0)
      (pos 0) (pos 0) refl refl refl refl tt tt,
)

-- ---- 2, -3 and 1

abbrev Signed : List Decimal → ℕ → Option ℕ → Bool → Table → ℕ → Type 0
Signed initial period enable reset table t =
    Shows two minus_three one (pos 2) (negsuc 2)
    (pos 1) two_is minus_three_is one_is initial period enable reset table t

abbrev from_nought : List Decimal
from_nought = nought ∷ nought ∷ []

abbrev from_five : List Decimal
from_five = five ∷ seven ∷ []

-- in each base sample: 1, 4, -2, 0 gives 2, 5, -15, 10
abbrev each : Table
each = table (pos 1 ∷ pos 4 ∷ negsuc 1 ∷ pos 0 ∷ []) [] (pos 2 ∷ pos 5 ∷ negsuc 14 ∷ pos 10 ∷ [])

in_each : Signed from_nought 1 None false each 0
    × Signed from_nought 1 None false each 1
    × Signed from_nought 1 None false each 2
    × Signed from_nought 1 None false each 3
in_each = (
  shows two minus_three one (pos 2) (negsuc 2) (pos 1) two_is minus_three_is one_is from_nought
      1 None false each 0 (pos 1) (pos 0) (pos 0) refl nought_is nought_is refl tt tt,
  shows two minus_three one (pos 2) (negsuc 2) (pos 1) two_is minus_three_is one_is from_nought
      1 None false each 1 (pos 4) (pos 1) (pos 0) refl refl nought_is refl tt tt,
  shows two minus_three one (pos 2) (negsuc 2) (pos 1) two_is minus_three_is one_is from_nought
      1 None false each 2 (negsuc 1) (pos 4) (pos 1) refl refl refl refl tt tt,
  shows two minus_three one (pos 2) (negsuc 2) (pos 1) two_is minus_three_is one_is from_nought
      1 None false each 3 (pos 0) (negsuc 1) (pos 4) refl refl refl refl tt tt,
)

-- in every other base sample the same, whatever its input would be between
abbrev other : Table
other = table (pos 1 ∷ pos 9 ∷ pos 4 ∷ pos 9 ∷ negsuc 1 ∷ []) [] (pos 2 ∷ pos 2 ∷ pos 5 ∷ pos 5 ∷ negsuc 14 ∷ [])

in_every_other : Signed from_nought 2 None false other 0
    × Signed from_nought 2 None false other 2
    × Signed from_nought 2 None false other 4
in_every_other = (
  shows two minus_three one (pos 2) (negsuc 2) (pos 1) two_is minus_three_is one_is from_nought
      2 None false other 0 (pos 1) (pos 0) (pos 0) refl nought_is nought_is refl tt tt,
  shows two minus_three one (pos 2) (negsuc 2) (pos 1) two_is minus_three_is one_is from_nought
      2 None false other 2 (pos 4) (pos 1) (pos 0) refl refl nought_is refl tt tt,
  shows two minus_three one (pos 2) (negsuc 2) (pos 1) two_is minus_three_is one_is from_nought
      2 None false other 4 (negsuc 1) (pos 4) (pos 1) refl refl refl refl tt tt,
)

-- of an input that stays 3 it comes to 3 times the sum of the coefficients
abbrev steady : Table
steady = table (pos 3 ∷ pos 3 ∷ pos 3 ∷ pos 3 ∷ []) [] (pos 6 ∷ negsuc 2 ∷ pos 0 ∷ pos 0 ∷ [])

is_steady : Signed from_nought 1 None false steady 0
    × Signed from_nought 1 None false steady 1
    × Signed from_nought 1 None false steady 2
    × Signed from_nought 1 None false steady 3
is_steady = (
  shows two minus_three one (pos 2) (negsuc 2) (pos 1) two_is minus_three_is one_is from_nought
      1 None false steady 0 (pos 3) (pos 0) (pos 0) refl nought_is nought_is refl tt tt,
  shows two minus_three one (pos 2) (negsuc 2) (pos 1) two_is minus_three_is one_is from_nought
      1 None false steady 1 (pos 3) (pos 3) (pos 0) refl refl nought_is refl tt tt,
  shows two minus_three one (pos 2) (negsuc 2) (pos 1) two_is minus_three_is one_is from_nought
      1 None false steady 2 (pos 3) (pos 3) (pos 3) refl refl refl refl tt tt,
  shows two minus_three one (pos 2) (negsuc 2) (pos 1) two_is minus_three_is one_is from_nought
      1 None false steady 3 (pos 3) (pos 3) (pos 3) refl refl refl refl tt tt,
)

-- ---- in an enabled subsystem whose control is 1, 0, 1, 1, from 5 and 7

-- with held states the sample in which it isn't enabled isn't counted
abbrev held : Table
held =
    table (pos 1 ∷ pos 9 ∷ pos 4 ∷ negsuc 1 ∷ []) (pos 1 ∷ pos 0 ∷ pos 1 ∷ pos 1 ∷ [])
    (negsuc 5 ∷ pos 20 ∷ pos 10 ∷ negsuc 14 ∷ [])

is_held : Signed from_five 1 (Some 10) false held 0
    × Signed from_five 1 (Some 10) false held 1
    × Signed from_five 1 (Some 10) false held 2
    × Signed from_five 1 (Some 10) false held 3
is_held = (
  shows two minus_three one (pos 2) (negsuc 2) (pos 1) two_is minus_three_is one_is from_five
      1 (Some 10) false held 0 (pos 1) (pos 5) (pos 7) refl five_is seven_is refl tt tt,
  shows two minus_three one (pos 2) (negsuc 2) (pos 1) two_is minus_three_is one_is from_five
      1 (Some 10) false held 1 (pos 9) (pos 1) (pos 5) refl refl five_is refl tt tt,
  shows two minus_three one (pos 2) (negsuc 2) (pos 1) two_is minus_three_is one_is from_five
      1 (Some 10) false held 2 (pos 4) (pos 1) (pos 5) refl refl five_is refl tt tt,
  shows two minus_three one (pos 2) (negsuc 2) (pos 1) two_is minus_three_is one_is from_five
      1 (Some 10) false held 3 (negsuc 1) (pos 4) (pos 1) refl refl refl refl tt tt,
)

-- with reset states they begin anew behind it
abbrev anew : Table
anew =
    table (pos 1 ∷ pos 9 ∷ pos 4 ∷ negsuc 1 ∷ []) (pos 1 ∷ pos 0 ∷ pos 1 ∷ pos 1 ∷ [])
    (negsuc 5 ∷ pos 20 ∷ pos 0 ∷ negsuc 10 ∷ [])

begins_anew : Signed from_five 1 (Some 10) true anew 0
    × Signed from_five 1 (Some 10) true anew 1
    × Signed from_five 1 (Some 10) true anew 2
    × Signed from_five 1 (Some 10) true anew 3
begins_anew = (
  shows two minus_three one (pos 2) (negsuc 2) (pos 1) two_is minus_three_is one_is from_five
      1 (Some 10) true anew 0 (pos 1) (pos 5) (pos 7) refl five_is seven_is refl tt tt,
  shows two minus_three one (pos 2) (negsuc 2) (pos 1) two_is minus_three_is one_is from_five
      1 (Some 10) true anew 1 (pos 9) (pos 1) (pos 5) refl refl five_is refl tt tt,
  shows two minus_three one (pos 2) (negsuc 2) (pos 1) two_is minus_three_is one_is from_five
      1 (Some 10) true anew 2 (pos 4) (pos 5) (pos 7) refl five_is seven_is refl tt tt,
  shows two minus_three one (pos 2) (negsuc 2) (pos 1) two_is minus_three_is one_is from_five
      1 (Some 10) true anew 3 (negsuc 1) (pos 4) (pos 5) refl refl five_is refl tt tt,
)

-- ---- converted once

-- three products of 0.5 and 1 are 1.5: 1 by Floor and 2 by Nearest, and never three times 0 or 1
abbrev Rounded : Rounding → ℤ → Type 0
Rounded rounding v =
    Convolves (attributes (Num true 8 (pos 1)) halves int16 1) (table (pos 1 ∷ pos 1 ∷ pos 1 ∷ []) [] (v ∷ v ∷ v ∷ []))
    1 (taps_by (half ∷ half ∷ half ∷ []) from_nought) (sum_by rounding false) None false 0 2

rounded : (rounding : Rounding) (v : ℤ)
    → StoresQuotient (pos 3 *ℤ pos (2 ^ int_gap (pos 1) (pos 0))) (2 ^ int_gap (pos 0) (pos 1)) int16 rounding false v
    → Rounded rounding v
rounded rounding v stores = record {
  frac = pos 1;
  total = pos 3;
  exact = exact_of (Num true 8 (pos 1)) halves int16 1 (pos 1) (le_z_yes tt);
  convolved = (
    pos 1,
    pos 1,
    pos 2,
    refl,
    half_is,
    (pos 1, pos 1, pos 1, refl, half_is, (pos 1, pos 1, pos 0, refl, half_is, refl, refl), refl),
    refl,
  );
  converted = converted_by (pos 3) (pos 1) 16 rounding false v stores;
}

by_floor : Rounded Floor (pos 1)
by_floor = rounded Floor (pos 1) (record {
  rounded = pos 1;
  rounds = record { at_most = le_z_yes tt; next_above = lt_z_yes tt };
  settles = record {
    in_word = record { low = le_z_yes tt; high = le_z_yes tt };
    congruent = record { turns = pos 0; equal = refl };
  };
})

by_nearest : Rounded Nearest (pos 2)
by_nearest = rounded Nearest (pos 2) (record {
  rounded = pos 2;
  rounds = record { above = lt_z_yes tt; at_most = le_z_yes tt };
  settles = record {
    in_word = record { low = le_z_yes tt; high = le_z_yes tt };
    congruent = record { turns = pos 0; equal = refl };
  };
})

-- 100 and 100 under 2, -3 and 1 come to 200 and -100: an int8 ends at 127 or wraps to -56, and -100 stays
abbrev InByte : Bool → ℕ → ℤ → Type 0
InByte saturate t v =
    Convolves (attributes int8 int16 int8 1) (table (pos 100 ∷ pos 100 ∷ []) [] (v ∷ v ∷ [])) 1
    (taps_by (two ∷ minus_three ∷ one ∷ []) from_nought) (sum_by Floor saturate) None false 0 t

past : (saturate : Bool) (v : ℤ)
    → StoresQuotient (pos 200 *ℤ pos (2 ^ int_gap (pos 0) (pos 0))) (2 ^ int_gap (pos 0) (pos 0)) int8 Floor saturate v
    → InByte saturate 0 v
past saturate v stores = record {
  frac = pos 0;
  total = pos 200;
  exact = exact_of int8 int16 int8 1 (pos 0) (le_z_yes tt);
  convolved = (
    pos 100,
    pos 2,
    pos 0,
    refl,
    two_is,
    (pos 0, negsuc 2, pos 0, nought_is, minus_three_is, (pos 0, pos 1, pos 0, nought_is, one_is, refl, refl), refl),
    refl,
  );
  converted = converted_by (pos 200) (pos 0) 8 Floor saturate v stores;
}

saturates : InByte true 0 (pos 127)
saturates = past true (pos 127) (record {
  rounded = pos 200;
  rounds = record { at_most = le_z_yes tt; next_above = lt_z_yes tt };
  settles = record { inside = λ h. absurd h.high.le; below = λ h. absurd h.lt; above = λ h. refl };
})

wraps : InByte false 0 (negsuc 55)
wraps = past false (negsuc 55) (record {
  rounded = pos 200;
  rounds = record { at_most = le_z_yes tt; next_above = lt_z_yes tt };
  settles = record {
    in_word = record { low = le_z_yes tt; high = le_z_yes tt };
    congruent = record { turns = negsuc 0; equal = refl };
  };
})

-- though a part of the sum, 200, is past the end
stays : InByte true 1 (negsuc 99)
stays = record {
  frac = pos 0;
  total = negsuc 99;
  exact = exact_of int8 int16 int8 1 (pos 0) (le_z_yes tt);
  convolved = (
    pos 100,
    pos 2,
    negsuc 299,
    refl,
    two_is,
    (pos 100, negsuc 2, pos 0, refl, minus_three_is, (pos 0, pos 1, pos 0, nought_is, one_is, refl, refl), refl),
    refl,
  );
  converted = converted_by (negsuc 99) (pos 0) 8 Floor true (negsuc 99) (record {
    rounded = negsuc 99;
    rounds = record { at_most = le_z_yes tt; next_above = lt_z_yes tt };
    settles = record { inside = λ h. refl; below = λ h. absurd h.lt; above = λ h. absurd h.lt };
  });
}
