-- Rounding, conversion and storing give exactly one number, and it is in range.
use Rattle.std.proofs.Common.{◌≡◌, ◌≢◌, ℕ, zero, suc, ◌-◌, ◌*◌, ◌^◌, ◌<◌, ◌≤◌, ◌⊎◌, inl, inr, Bool, true, false, ℤ, pos, neg_ℤ, ◌+ℤ◌, ◌*ℤ◌, ◌≤ℤ◌, ◌<ℤ◌, true≢false, sym, ◌∙◌, refl, subst, arith}
use Rattle.std.proofs.Common.{pow_pos, mul-pos}
use Rattle.std.specs.Int.{int_gap, int_div_euclid}
use Rattle.std.proofs.lemmas.Bool.{cases_lt}
use Rattle.std.proofs.lemmas.Int.{ints, by_lt_z}
use Rattle.math_num.specs.Word.{IsWrapped}
use Rattle.math_num.proofs.Arithmetic.{IsDivided, divided, next-scaled, scaled-neg, double, IsCongruent-sym, IsCongruent-trans}
use Rattle.fx_type.specs.declared.kind.FxType.TheVariants.{Num, Logical}
use Rattle.fx_type.specs.declared.rounding.Rounding.{Rounding}
use Rattle.fx_type.specs.declared.rounding.Rounding.TheVariants.{Nearest}
use Rattle.fx_type.specs.FxType.{IsType, InRange, GivesOne, frac_of, lowest_of, highest_of}
use Rattle.fx_type.specs.Conversion.{IsEven, Rounds, Saturates, Settles, IsTruthOf, StoresQuotient}
use Rattle.fx_round.specs.declared.split.Part.{Part}
use Rattle.fx_round.specs.declared.split.Part.TheVariants.{Whole, BelowHalf, Half, AboveHalf}
use Rattle.fx_round.specs.Laws.{RoundingGivesOne, ConversionGivesOne, StoringGivesOne}
use Rattle.fx_round.specs.inner.Parts.{IsPart, IsSplit, takes_upper}
use Rattle.fx_round.proofs.Orders.{rounding_monotone, word_only, word_width}
use Rattle.fx_round.proofs.Modes.{rounds_upper, rounds_lower}
use Rattle.fx_round.proofs.Sizes.{ten_positive}
use Rattle.fx_type.proofs.Decimals.{saturates_only}

-- ---- at most one
rounds_one : (mode : Rounding) (n : ℤ) (d : ℕ) (r s : ℤ) → 0 < d → Rounds mode n d r → Rounds mode n d s → r ≡ s
rounds_one mode n d r s h a b =
    let k : n ≤ℤ n = omega (arith, ints) in
    omega (arith, ints, rounding_monotone mode n n d r s h k a b, rounding_monotone mode n n d s r h k b a)

wrapped_one : (v : ℤ) (w : ℕ) (s : Bool) (a b : ℤ) → 1 ≤ w → IsWrapped v w s a → IsWrapped v w s b → a ≡ b
wrapped_one v w s a b h p q = word_only w s a b h p.in_word q.in_word (IsCongruent-trans (2 ^ w) p.congruent (IsCongruent-sym (2 ^ w) q.congruent))

settles_one : (s : Bool) (w : ℕ) (f : ℤ) (saturate : Bool) (r a b : ℤ) → IsType (Num s w f) → Settles (Num s w f) saturate r a → Settles (Num s w f) saturate r b → a ≡ b
settles_one s w f true r a b t p q = saturates_only (Num s w f) r a b p q
settles_one s w f false r a b t p q = wrapped_one r w s a b (word_width w s f t) p q

stores_quotient_one : (n : ℤ) (d : ℕ) (s : Bool) (w : ℕ) (f : ℤ) (mode : Rounding) (saturate : Bool) (a b : ℤ)
    → 0 < d → IsType (Num s w f) → StoresQuotient n d (Num s w f) mode saturate a
    → StoresQuotient n d (Num s w f) mode saturate b → a ≡ b
stores_quotient_one n d s w f mode saturate a b h t p q =
    let e : p.rounded ≡ q.rounded = rounds_one mode n d p.rounded q.rounded h p.rounds q.rounds in
    settles_one s w f saturate q.rounded a b t (subst (λ (z : ℤ). Settles (Num s w f) saturate z a) e p.settles) q.settles

truth_one : (v a b : ℤ) → IsTruthOf v a → IsTruthOf v b → a ≡ b
truth_one v a b p q = by_lt_z v (pos 0)
    (λ h. one (λ e. omega (arith, ints, e, h)))
    (λ h. by_lt_z (pos 0) v (λ k. one (λ e. omega (arith, ints, e, k))) (λ k. let z : v ≡ pos 0 = omega (arith, ints, h, k) in p.zero z ∙ sym (q.zero z)))
  where
    one : v ≢ pos 0 → a ≡ b
    one n = p.one n ∙ sym (q.one n)

-- ---- some, in range
pub part_of : (d rest : ℕ) → rest < d → (part : Part) × IsPart d rest part
part_of d zero below = (Whole, refl)
part_of d (suc rest) below = go (cases_lt (2 * suc rest) d) (cases_lt d (2 * suc rest))
  where
    go : (2 * suc rest < d) ⊎ (d ≤ 2 * suc rest) → (d < 2 * suc rest) ⊎ (2 * suc rest ≤ d) → (part : Part) × IsPart d (suc rest) part
    go (inl h) k = (BelowHalf, (omega arith, h))
    go (inr h) (inl k) = (AboveHalf, k)
    go (inr h) (inr k) = (Half, omega (arith, h, k))

pub record IsParity (z : ℤ) : Type 0 where
  pub odd : Bool
  pub is_odd : odd ≡ true → IsEven (z +ℤ pos 1)
  pub is_even : odd ≡ false → IsEven z

parity_of : (z : ℤ) → IsParity z
parity_of z = go (divided z 2 (omega arith))
  where
    by_rest : (floor : ℤ) (rest : ℕ) → z ≡ floor *ℤ pos 2 +ℤ pos rest → rest < 2 → IsParity z
    by_rest floor zero e h = record { odd = false; is_odd = λ k. absurd (true≢false (sym k)); is_even = λ k. (floor, omega (arith, ints, e)) }
    by_rest floor (suc zero) e h = record { odd = true; is_odd = λ k. (floor +ℤ pos 1, omega (arith, ints, e)); is_even = λ k. absurd (true≢false k) }
    by_rest floor (suc (suc rest)) e h = absurd (omega (arith, h))

    go : IsDivided z 2 (int_div_euclid z (pos 2)) → IsParity z
    go d = by_rest (int_div_euclid z (pos 2)) d.rest d.whole d.below

rounds_some : (mode : Rounding) (n : ℤ) (d : ℕ) → 0 < d → (r : ℤ) × Rounds mode n d r
rounds_some mode n d h = with_part (part_of d e.rest e.below)
  where
    e : IsDivided n d (int_div_euclid n (pos d))
    e = divided n d h

    o : IsParity (int_div_euclid n (pos d))
    o = parity_of (int_div_euclid n (pos d))

    choose : (part : Part) → IsSplit n d (int_div_euclid n (pos d)) part → (negative : Bool)
        → (negative ≡ true → int_div_euclid n (pos d) <ℤ pos 0)
        → (negative ≡ false → pos 0 ≤ℤ int_div_euclid n (pos d)) → (upper : Bool)
        → takes_upper mode part negative o.odd ≡ upper → (r : ℤ) × Rounds mode n d r
    choose part split negative p q true k = (int_div_euclid n (pos d) +ℤ pos 1, rounds_upper n d (int_div_euclid n (pos d)) part mode split negative o.odd p q o.is_odd o.is_even k)
    choose part split negative p q false k = (int_div_euclid n (pos d), rounds_lower n d (int_div_euclid n (pos d)) part mode split negative o.odd p q o.is_odd o.is_even k)

    with_part : (part : Part) × IsPart d e.rest part → (r : ℤ) × Rounds mode n d r
    with_part part =
        let split : IsSplit n d (int_div_euclid n (pos d)) part.0 = record { rest = e.rest; whole = e.whole; below = e.below; is_part = part.1 } in
        by_lt_z (int_div_euclid n (pos d)) (pos 0)
        (λ s. choose part.0 split true (λ _. s) (λ k. absurd (true≢false k)) (takes_upper mode part.0 true o.odd) refl)
        (λ s. choose part.0 split false (λ k. absurd (true≢false (sym k))) (λ _. s) (takes_upper mode part.0 false o.odd) refl)

pub rounds_gives_one : RoundingGivesOne
rounds_gives_one mode n d h = let r = rounds_some mode n d h in (r.0, r.1, λ other p. rounds_one mode n d other r.0 h p r.1)

-- ---- what a type stores
ends : (s : Bool) (w : ℕ) (f : ℤ) → IsType (Num s w f) → lowest_of (Num s w f) ≤ℤ highest_of (Num s w f)
ends true w f t = omega (arith, ints, pow_pos (w - 1))
ends false w f t = omega (arith, ints, pow_pos w)

saturates_some : (s : Bool) (w : ℕ) (f : ℤ) (r : ℤ) → IsType (Num s w f) → (v : ℤ) × Saturates (Num s w f) r v × InRange (Num s w f) v
saturates_some s w f r t = by_lt_z r (lowest_of (Num s w f))
    (λ h. (
      lowest_of (Num s w f),
      record {
        inside = λ i. absurd (omega (arith, ints, h, i.low));
        below =
            λ _. refl;
        above = λ k. absurd (omega (arith, ints, h, k, ends s w f t));
      },
      record { low = omega (arith, ints); high = ends s w f t },
    ))
    (λ low. by_lt_z (highest_of (Num s w f)) r
    (λ h. (
      highest_of (Num s w f),
      record {
        inside = λ i. absurd (omega (arith, ints, h, i.high));
        below =
            λ k. absurd (omega (arith, ints, h, k, ends s w f t));
        above = λ _. refl;
      },
      record { low = ends s w f t; high = omega (arith, ints) },
    ))
    (λ high. (r, record { inside = λ _. refl; below = λ k. absurd (omega (arith, ints, k, low)); above = λ k. absurd (omega (arith, ints, k, high)) }, record { low = low; high = high })))

wrapped_some : (s : Bool) (w : ℕ) (f : ℤ) (r : ℤ) → IsType (Num s w f) → (v : ℤ) × IsWrapped r w s v × InRange (Num s w f) v
wrapped_some true w f r t = go (cases_lt e.rest (2 ^ (w - 1)))
  where
    e : IsDivided r (2 ^ w) (int_div_euclid r (pos (2 ^ w)))
    e = divided r (2 ^ w) (pow_pos w)

    width : 1 ≤ w
    width = omega (arith, t.0.0)

    turn_back : (z : ℤ) (m : ℕ) → neg_ℤ z *ℤ pos m ≡ neg_ℤ (z *ℤ pos m)
    turn_back z m = scaled-neg z m

    go : (e.rest < 2 ^ (w - 1)) ⊎ (2 ^ (w - 1) ≤ e.rest) → (v : ℤ) × IsWrapped r w true v × InRange (Num true w f) v
    go (inl h) =
        let low : neg_ℤ (pos (2 ^ (w - 1))) ≤ℤ pos e.rest = omega (arith, ints) in
        let high : pos e.rest ≤ℤ pos (2 ^ (w - 1) - 1) = omega (arith, ints, h) in (
          pos e.rest,
          record {
            in_word = record { low = low; high = high };
            congruent =
                record {
                  turns = neg_ℤ (int_div_euclid r (pos (2 ^ w)));
                  equal =
                      omega (arith, ints, e.whole, turn_back (int_div_euclid r (pos (2 ^ w))) (2 ^ w));
                };
          },
          record { low = low; high = high },
        )
    go (inr h) =
        let v = pos e.rest +ℤ neg_ℤ (pos (2 ^ w)) in
        let low : neg_ℤ (pos (2 ^ (w - 1))) ≤ℤ v = omega (arith, ints, h, double w width) in
        let high : v ≤ℤ pos (2 ^ (w - 1) - 1) = omega (arith, ints, e.below, pow_pos (w - 1)) in (
          v,
          record {
            in_word = record { low = low; high = high };
            congruent =
                record {
                  turns = neg_ℤ (int_div_euclid r (pos (2 ^ w)) +ℤ pos 1);
                  equal =
                      omega (
                        arith,
                        ints,
                        e.whole,
                        turn_back (int_div_euclid r (pos (2 ^ w)) +ℤ pos 1) (2 ^ w),
                        next-scaled (int_div_euclid r (pos (2 ^ w))) (2 ^ w),
                      );
                };
          },
          record { low = low; high = high },
        )
wrapped_some false w f r t = (
  pos e.rest,
  record {
    in_word = record { low = low; high = high };
    congruent =
        record {
          turns = neg_ℤ (int_div_euclid r (pos (2 ^ w)));
          equal =
              omega (arith, ints, e.whole, scaled-neg (int_div_euclid r (pos (2 ^ w))) (2 ^ w));
        };
  },
  record { low = low; high = high },
)
  where
    e : IsDivided r (2 ^ w) (int_div_euclid r (pos (2 ^ w)))
    e = divided r (2 ^ w) (pow_pos w)

    low : pos 0 ≤ℤ pos e.rest
    low = omega (arith, ints)

    high : pos e.rest ≤ℤ pos (2 ^ w - 1)
    high = omega (arith, ints, e.below)

settles_some : (s : Bool) (w : ℕ) (f : ℤ) (saturate : Bool) (r : ℤ) → IsType (Num s w f) → (v : ℤ) × Settles (Num s w f) saturate r v × InRange (Num s w f) v
settles_some s w f true r t = saturates_some s w f r t
settles_some s w f false r t = wrapped_some s w f r t

quotient_gives_one : (n : ℤ) (d : ℕ) (s : Bool) (w : ℕ) (f : ℤ) (mode : Rounding) (saturate : Bool) → 0 < d → IsType (Num s w f) → GivesOne (StoresQuotient n d (Num s w f) mode saturate) (Num s w f)
quotient_gives_one n d s w f mode saturate h t =
    let r = rounds_some mode n d h in
    let v = settles_some s w f saturate r.0 t in
    let given : StoresQuotient n d (Num s w f) mode saturate v.0 = record { rounded = r.0; rounds = r.1; settles = v.1 } in
    record { number = v.0; given = given; in_range = v.2; only = λ other p. stores_quotient_one n d s w f mode saturate other v.0 h t p given }

truth_some : (v : ℤ) → (r : ℤ) × IsTruthOf v r × InRange Logical r
truth_some v = by_lt_z v (pos 0) (λ h. one (λ e. omega (arith, ints, e, h))) (λ h. by_lt_z (pos 0) v (λ k. one (λ e. omega (arith, ints, e, k))) (λ k. none (omega (arith, ints, h, k))))
  where
    one : v ≢ pos 0 → (r : ℤ) × IsTruthOf v r × InRange Logical r
    one n = (pos 1, record { zero = λ e. absurd (n e); one = λ _. refl }, record { low = omega (arith, ints); high = omega (arith, ints) })

    none : v ≡ pos 0 → (r : ℤ) × IsTruthOf v r × InRange Logical r
    none e = (pos 0, record { zero = λ _. refl; one = λ n. absurd (n e) }, record { low = omega (arith, ints); high = omega (arith, ints) })

truth_gives_one : (v : ℤ) → GivesOne (IsTruthOf v) Logical
truth_gives_one v = let r = truth_some v in record { number = r.0; given = r.1; in_range = r.2; only = λ other p. truth_one v other r.0 p r.1 }

pub conversion_gives_one : ConversionGivesOne
conversion_gives_one v from Logical mode saturate t = truth_gives_one v
conversion_gives_one v from (Num s w f) mode saturate t = quotient_gives_one _ _ s w f mode saturate (pow_pos (int_gap f (frac_of from))) t

pub storing_gives_one : StoringGivesOne
storing_gives_one d Logical t = truth_gives_one (pos d.digits)
storing_gives_one d (Num s w f) t = quotient_gives_one _ _ s w f Nearest true (mul-pos (ten_positive (int_gap d.exponent (pos 0))) (pow_pos (int_gap f (pos 0)))) t
