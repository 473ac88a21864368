-- Magnitudes of decimals.
use Rattle.std.proofs.Common.{◌≡◌, ℕ, ◌+◌, ◌-◌, ◌*◌, ◌/◌, ◌%◌, ◌^◌, ◌<◌, ◌≤◌, true, false, ℤ, pos, negsuc, ◌+ℤ◌, ◌*ℤ◌, neg_ℤ, ◌≤ℤ◌, ap, sym, ◌∙◌, refl, subst, arith, pow_pos, pow_mono}
use Rattle.std.proofs.Common.{mul-le-mul_left, mul-le-mul_right, div-add-mod', mod-lt, inl, inr, mul-lt-mul_of_pos_right}
use Rattle.std.proofs.lemmas.Int.{ints}
use Rattle.std.proofs.lemmas.Nat.{pow-add, le-div}
use Rattle.std.proofs.Math.Nat.{one-le-pow, pow-le-pow_right}
use Rattle.std.proofs.lemmas.Bool.{cases_lt}
use Rattle.std.specs.Prelude.{Option}
use Rattle.std.specs.Int.{int_gap}
use Rattle.fx_type.specs.declared.kind.FxType.{FxType}
use Rattle.fx_type.specs.declared.rounding.Rounding.TheVariants.{Nearest}
use Rattle.fx_type.specs.declared.kind.FxType.TheVariants.{Num, Logical}
use Rattle.fx_type.specs.FxType.{IsType, lowest_of, highest_of}
use Rattle.fx_type.specs.Conversion.{Saturates, StoresQuotient}
use Rattle.fx_round.specs.declared.split.Part.{Part}
use Rattle.fx_round.specs.declared.split.Part.TheVariants.{Whole, BelowHalf, Half, AboveHalf}
use Rattle.fx_round.specs.declared.split.Split.{Split}
use Rattle.fx_round.specs.inner.Parts.{IsPart, IsSplit, IsMagnitude, IsSize}
use Rattle.math_num.proofs.Arithmetic.{add-scaled, scaled-neg}
use Rattle.fx_round.proofs.Modes.{ties_up_low, ties_up_high}

-- ---- doubling
pub double_step : (n k k' i : ℕ) → k ≡ n * 2 ^ i → k' ≡ 2 * k → k' ≡ n * 2 ^ (i + 1)
double_step n k k' i e f =
    let p : n * 2 ^ (i + 1) ≡ n * (2 ^ i * 2 ^ 1) = ap (λ (x : ℕ). n * x) (pow-add 2 i 1) in
    omega arith

pub too_much : (n k i by u w r : ℕ) → k ≡ n * 2 ^ (i + 1) → k ≡ w * u + r → 170141183460469231731687303715884105728 ≤ w → i < by → 170141183460469231731687303715884105728 * u ≤ n * 2 ^ by
too_much n k i by u w r e f g h =
    let a : 170141183460469231731687303715884105728 * u ≤ w * u = mul-le-mul_right u g in
    let s : i + 1 ≤ by = omega arith in
    let b : n * 2 ^ (i + 1) ≤ n * 2 ^ by = mul-le-mul_left n (pow_mono s) in
    omega arith

pub magnitude_is : (n w r u : ℕ) (part : Part) (floor : ℤ) → n ≡ w * u + r → floor ≡ pos w → r < u → IsPart u r part → IsMagnitude n u (record { floor = floor; part = part })
magnitude_is n w r u part floor e f h p = subst (λ (z : ℤ). IsMagnitude n u (record { floor = z; part = part })) (sym f)
    (record { not_negative = omega (arith, ints); is_split = record { rest = r; whole = omega (arith, ints, e); below = h; is_part = p } })

-- ---- halving
part_scaled : (b low u : ℕ) (part : Part) → 0 < u → IsPart b low part → IsPart (u * b) (low * u + 0) part
part_scaled b low u Whole h p = omega (arith, ap (λ (x : ℕ). x * u) p)
part_scaled b low u BelowHalf h p =
    let a : (2 * low) * u < b * u = mul-lt-mul_of_pos_right p.1 h in
    let c : 0 * u < low * u = mul-lt-mul_of_pos_right p.0 h in
    (omega arith, omega arith)
part_scaled b low u Half h p = omega (arith, ap (λ (x : ℕ). x * u) p)
part_scaled b low u AboveHalf h p = let a : b * u < (2 * low) * u = mul-lt-mul_of_pos_right p h in omega arith

halved_count : (w r u by : ℕ) → w * u + r ≡ (w / 2 ^ by) * (u * 2 ^ by) + (w % 2 ^ by * u + r)
halved_count w r u by =
    let e : (w / 2 ^ by * 2 ^ by + w % 2 ^ by) * u ≡ w * u = ap (λ (x : ℕ). x * u) (div-add-mod' w (2 ^ by)) in
    omega arith

halved_below : (low r u b : ℕ) → low < b → r < u → low * u + r < u * b
halved_below low r u b h k =
    let a : (low + 1) * u ≤ b * u = mul-le-mul_right u (omega arith) in
    omega arith

module _ (w r u by : ℕ) (part : Part) (floor : ℤ) (unit : r < u) (at : floor ≡ pos (w / 2 ^ by)) where
  pub halved_whole : r ≡ 0 → IsPart (2 ^ by) (w % 2 ^ by) part → IsMagnitude (w * u + r) (u * 2 ^ by) (record { floor = floor; part = part })
  halved_whole e p =
      let positive : 0 < u = omega arith in
      let scaled : IsPart (u * 2 ^ by) (w % 2 ^ by * u + r) part = subst (λ (x : ℕ). IsPart (u * 2 ^ by) (w % 2 ^ by * u + x) part) (sym e) (part_scaled (2 ^ by) (w % 2 ^ by) u part positive p) in
      magnitude_is (w * u + r) (w / 2 ^ by) (w % 2 ^ by * u + r) (u * 2 ^ by) part floor (halved_count w r u by) at
      (halved_below (w % 2 ^ by) r u (2 ^ by) (mod-lt w (pow_pos by)) unit) scaled

  pub halved_past : IsPart (u * 2 ^ by) (w % 2 ^ by * u + r) part → IsMagnitude (w * u + r) (u * 2 ^ by) (record { floor = floor; part = part })
  halved_past p = magnitude_is (w * u + r) (w / 2 ^ by) (w % 2 ^ by * u + r) (u * 2 ^ by) part floor (halved_count w r u by) at
      (halved_below (w % 2 ^ by) r u (2 ^ by) (mod-lt w (pow_pos by)) unit) p

-- ---- scales
pub up_gap : (e : ℤ) (n : ℕ) → pos 0 ≤ℤ e → pos n ≡ e → n ≡ int_gap (pos 0) e
up_gap (pos b) n h is = omega (arith, ints, is)
up_gap (negsuc b) n h is = absurd (omega (arith, ints, h))

pub down_gap : (e : ℤ) (n : ℕ) → e ≤ℤ pos 0 → pos n ≡ neg_ℤ e → n ≡ int_gap e (pos 0)
down_gap (pos b) n h is = omega (arith, ints, h, is)
down_gap (negsuc b) n h is = omega (arith, ints, is)

pub size_up : (count unit by up down : ℕ) (size : Option Split) → up ≡ by → down ≡ 0 → IsSize (count * 2 ^ by) unit size → IsSize (count * 2 ^ up) (unit * 2 ^ down) size
size_up count unit by up down size raised none is = rw (raised, none) (subst (λ (u : ℕ). IsSize (count * 2 ^ by) u size) (omega arith) is)

pub size_down : (count unit by up down : ℕ) (split : Split) → up ≡ 0 → down ≡ by → IsMagnitude count (unit * 2 ^ by) split → IsMagnitude (count * 2 ^ up) (unit * 2 ^ down) split
size_down count unit by up down split none lowered is = rw (none, lowered) (subst (λ (n : ℕ). IsMagnitude n (unit * 2 ^ by) split) (omega arith) is)

pub whole_size : (whole count tens up down : ℕ) (size : Option Split) → whole ≡ count → tens ≡ 0
    → IsSize ((whole * 1 + 0) * 2 ^ up) (1 * 2 ^ down) size → IsSize (count * 2 ^ up) (10 ^ tens * 2 ^ down) size
whole_size whole count tens up down size same none is = rw none (subst (λ (n : ℕ). IsSize (n * 2 ^ up) (1 * 2 ^ down) size) (omega (arith, same)) is)

pub part_size : (whole rest power digits tens ups up down : ℕ) (size : Option Split) → whole * power + rest ≡ digits
    → power ≡ 10 ^ tens → ups ≡ 0 → IsSize ((whole * power + rest) * 2 ^ up) (power * 2 ^ down) size
    → IsSize (digits * 10 ^ ups * 2 ^ up) (10 ^ tens * 2 ^ down) size
part_size whole rest power digits tens ups up down size same unit none is = rw (none, sym unit) (subst (λ (n : ℕ). IsSize (n * 2 ^ up) (power * 2 ^ down) size) (omega (arith, same)) is)

-- ---- mirrors
pub mirror_whole : (n floor floor' : ℤ) (d : ℕ) → floor' ≡ neg_ℤ floor → IsSplit n d floor Whole → IsSplit (neg_ℤ n) d floor' Whole
mirror_whole n floor floor' d e s = record {
  rest = 0;
  whole = let k : floor' *ℤ pos d ≡ neg_ℤ (floor *ℤ pos d) = ap (λ (z : ℤ). z *ℤ pos d) e ∙ scaled-neg floor d in omega (arith, ints, k, s.whole, s.is_part);
  below = omega (arith, s.below);
  is_part = refl;
}

pub mirror_split : (n floor floor' : ℤ) (d : ℕ) (part part' : Part) → floor' ≡ negsuc 0 +ℤ neg_ℤ floor
    → (s : IsSplit n d floor part) → 0 < s.rest → IsPart d (d - s.rest) part' → IsSplit (neg_ℤ n) d floor' part'
mirror_split n floor floor' d part part' e s h p = record {
  rest = d - s.rest;
  whole = (let k : floor' *ℤ pos d ≡ neg_ℤ (pos d) +ℤ neg_ℤ (floor *ℤ pos d) =
      ap (λ (z : ℤ). z *ℤ pos d) e ∙ add-scaled (negsuc 0) (neg_ℤ floor) d ∙ ap (λ (z : ℤ). negsuc 0 *ℤ pos d +ℤ z) (scaled-neg floor d) ∙ omega (arith, ints) in
      omega (arith, ints, k, s.whole, s.below));
  below = omega (arith, s.below);
  is_part = p;
}

-- ---- out of every range
range_order : (t : FxType) → lowest_of t ≤ℤ highest_of t
range_order (Num true w f) = omega (arith, ints)
range_order (Num false w f) = omega (arith, ints)
range_order Logical = omega (arith, ints)

pub saturates_high : (t : FxType) (r : ℤ) → highest_of t ≤ℤ r → Saturates t r (highest_of t)
saturates_high t r h = record { inside = λ i. omega (arith, ints, i.high, h); below = λ b. absurd (omega (arith, ints, range_order t, b, h)); above = λ _. refl }

pub saturates_low : (t : FxType) (r : ℤ) → r ≤ℤ lowest_of t → Saturates t r (lowest_of t)
saturates_low t r h = record { inside = λ i. omega (arith, ints, i.low, h); below = λ _. refl; above = λ b. absurd (omega (arith, ints, range_order t, b, h)) }

-- every valid range is one of 128 bits
pub highest_bound : (t : FxType) → IsType t → highest_of t ≤ℤ pos 170141183460469231731687303715884105727
highest_bound (Num true w f) h = let k : w - 1 ≤ 127 = omega (arith, h.0.1) in let p : 2 ^ (w - 1) ≤ 2 ^ 127 = pow_mono k in omega (arith, ints)
highest_bound (Num false w f) h = let p : 2 ^ w ≤ 2 ^ 127 = pow_mono h.0.1 in omega (arith, ints)
highest_bound Logical h = omega (arith, ints)

pub lowest_bound : (t : FxType) → IsType t → negsuc 170141183460469231731687303715884105727 ≤ℤ lowest_of t
lowest_bound (Num true w f) h = let k : w - 1 ≤ 127 = omega (arith, h.0.1) in let p : 2 ^ (w - 1) ≤ 2 ^ 127 = pow_mono k in omega (arith, ints)
lowest_bound (Num false w f) h = omega (arith, ints)
lowest_bound Logical h = omega (arith, ints)

-- a number whose lower whole number passes the range is stored as its end
pub stores_high : (n : ℤ) (d : ℕ) (t : FxType) (floor : ℤ) (rest : ℕ) → n ≡ floor *ℤ pos d +ℤ pos rest → rest < d → highest_of t ≤ℤ floor → StoresQuotient n d t Nearest true (highest_of t)
stores_high n d t floor rest e h g = elim (cases_lt (2 * rest) d) [
  | inl l ↦ record { rounded = floor; rounds = ties_up_low n d floor rest e h l; settles = saturates_high t floor g }
  | inr k ↦ record { rounded = floor +ℤ pos 1; rounds = ties_up_high n d floor rest e h k; settles = saturates_high t (floor +ℤ pos 1) (omega (arith, ints, g)) }
]

pub huge_high : (n d : ℕ) (t : FxType) → IsType t → 0 < d → 170141183460469231731687303715884105728 * d ≤ n → StoresQuotient (pos n) d t Nearest true (highest_of t)
huge_high n d t v h g =
    let q : 170141183460469231731687303715884105728 ≤ n / d = le-div 170141183460469231731687303715884105728 n d h g in
    stores_high (pos n) d t (pos (n / d)) (n % d) (omega (arith, ints, div-add-mod' n d)) (mod-lt n h) (omega (arith, ints, q, highest_bound t v))

-- the same below
pub huge_low : (n d : ℕ) (t : FxType) → IsType t → 0 < d → 170141183460469231731687303715884105728 * d ≤ n → StoresQuotient (neg_ℤ (pos n)) d t Nearest true (lowest_of t)
huge_low n d t v h g =
    let q : 170141183460469231731687303715884105728 ≤ n / d = le-div 170141183460469231731687303715884105728 n d h g in
    let m = n % d in
    let e : n / d * d + m ≡ n = div-add-mod' n d in
    let b : m < d = mod-lt n h in
    let floor = neg_ℤ (pos (n / d + 1)) in
    let f : floor *ℤ pos d ≡ neg_ℤ (pos ((n / d + 1) * d)) = scaled-neg (pos (n / d + 1)) d in
    elim (cases_lt 0 m) [
      | inl l ↦ low_from floor (d - m) (omega (arith, ints, f, e)) (omega arith) (omega (arith, ints, q, lowest_bound t v))
      | inr k ↦ (let f' : neg_ℤ (pos (n / d)) *ℤ pos d ≡ neg_ℤ (pos (n / d * d)) = scaled-neg (pos (n / d)) d in
          record {
            rounded = neg_ℤ (pos (n / d));
            rounds =
                ties_up_low (neg_ℤ (pos n)) d (neg_ℤ (pos (n / d))) 0 (omega (arith, ints, f', e)) h (omega arith);
            settles = saturates_low t _ (omega (arith, ints, q, lowest_bound t v));
          })
    ]
  where
    low_from : (floor : ℤ) (rest : ℕ) → neg_ℤ (pos n) ≡ floor *ℤ pos d +ℤ pos rest → rest < d → (floor +ℤ pos 1) ≤ℤ lowest_of t → StoresQuotient (neg_ℤ (pos n)) d t Nearest true (lowest_of t)
    low_from floor rest e b g = elim (cases_lt (2 * rest) d) [
      | inl l ↦ record { rounded = floor; rounds = ties_up_low (neg_ℤ (pos n)) d floor rest e b l; settles = saturates_low t floor (omega (arith, ints, g)) }
      | inr k ↦ record { rounded = floor +ℤ pos 1; rounds = ties_up_high (neg_ℤ (pos n)) d floor rest e b k; settles = saturates_low t (floor +ℤ pos 1) g }
    ]

-- ---- powers of ten
pub ten_positive : (e : ℕ) → 0 < 10 ^ e
ten_positive e = one-le-pow e 10 (omega arith)

pub ten_bound : (e k : ℕ) → e ≤ k → 10 ^ e ≤ 10 ^ k
ten_bound e k h = pow-le-pow_right (omega arith) h
