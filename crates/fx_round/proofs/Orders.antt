-- How rounded numbers lie to one another.
use Rattle.std.proofs.Common.{◌≡◌, ℕ, ◌-◌, ◌^◌, ◌<◌, ◌≤◌, Bool, true, false, ℤ, pos, ◌+ℤ◌, ◌*ℤ◌, ◌≤ℤ◌, ◌<ℤ◌, sym, ◌∙◌, refl, subst, arith, pow_pos}
use Rattle.std.specs.Int.{int_gap}
use Rattle.std.proofs.lemmas.Int.{ints, by_lt_z}
use Rattle.math_num.proofs.Arithmetic.{scaled-mono, next-scaled, unit_apart, near_congruent, double}
use Rattle.math_num.specs.Word.{InWord, IsCongruent}
use Rattle.fx_type.specs.declared.kind.FxType.TheVariants.{Num, Logical}
use Rattle.fx_type.specs.declared.rounding.Rounding.{Rounding}
use Rattle.fx_type.specs.declared.rounding.Rounding.TheVariants.{Floor, Ceiling, Zero, Nearest, Round, Convergent}
use Rattle.fx_type.specs.FxType.{IsType, frac_of, InRange}
use Rattle.fx_type.specs.Conversion.{RoundsDown, RoundsUp, RoundsTiesUp, RoundsTiesDown, RoundsTiesEven, Rounds, Settles, StoresQuotient}
use Rattle.fx_round.specs.Laws.{RoundingIsMonotone, FloorIsLeast, CeilingIsGreatest, ExactIsKept, SameTypeIsIdentity}

-- whatever the mode, the number is less than a unit above and below
module _ (n : ℤ) (d : ℕ) (r : ℤ) (h : 0 < d) where
  rounds_next : (mode : Rounding) → Rounds mode n d r → n <ℤ (r *ℤ pos d +ℤ pos d)
  rounds_next Floor e = e.next_above
  rounds_next Ceiling e = omega (arith, ints, e.at_least)
  rounds_next Zero e = by_lt_z n (pos 0) (λ s. let u = e.negative s in omega (arith, ints, u.at_least)) (λ s. (e.not_negative s).next_above)
  rounds_next Nearest e = omega (arith, ints, e.above)
  rounds_next Round e = by_lt_z n (pos 0) (λ s. let u = e.negative s in omega (arith, ints, u.at_least)) (λ s. let u = e.not_negative s in omega (arith, ints, u.above))
  rounds_next Convergent e = omega (arith, ints, e.at_least)

  rounds_previous : (mode : Rounding) → Rounds mode n d r → (r *ℤ pos d) <ℤ (n +ℤ pos d)
  rounds_previous Floor e = omega (arith, ints, e.at_most)
  rounds_previous Ceiling e = e.previous_below
  rounds_previous Zero e = by_lt_z n (pos 0) (λ s. (e.negative s).previous_below) (λ s. let u = e.not_negative s in omega (arith, ints, u.at_most))
  rounds_previous Nearest e = omega (arith, ints, e.at_most)
  rounds_previous Round e = by_lt_z n (pos 0) (λ s. let u = e.negative s in omega (arith, ints, u.below)) (λ s. let u = e.not_negative s in omega (arith, ints, u.at_most))
  rounds_previous Convergent e = omega (arith, ints, e.at_most)

pub floor_least : FloorIsLeast
floor_least mode n d least r h f e = by_lt_z r least
    (λ s. absurd (omega (arith, ints, unit_apart r least d s, f.at_most, rounds_next n d r h mode e)))
    (λ s. s)

pub ceiling_greatest : CeilingIsGreatest
ceiling_greatest mode n d greatest r h c e = by_lt_z greatest r
    (λ s. absurd (omega (arith, ints, unit_apart greatest r d s, c.at_least, rounds_previous n d r h mode e)))
    (λ s. s)

-- ---- monotony: no mode takes a greater number below the one that it takes for a lesser
module _ (n m : ℤ) (d : ℕ) (r s : ℤ) (h : 0 < d) (order : n ≤ℤ m) (less : s <ℤ r) where
  unit_less : (s *ℤ pos d +ℤ pos d) ≤ℤ (r *ℤ pos d)
  unit_less = unit_apart s r d less

  not_down : RoundsDown n d r → RoundsDown m d s → ⊥
  not_down a b = omega (arith, ints, order, unit_less, a.at_most, b.next_above)

  not_up : RoundsUp n d r → RoundsUp m d s → ⊥
  not_up a b = omega (arith, ints, order, unit_less, a.previous_below, b.at_least)

  not_across : n <ℤ pos 0 → pos 0 ≤ℤ m → RoundsUp n d r → RoundsDown m d s → ⊥
  not_across p q a b = by_lt_z s (pos 0)
      (λ k. omega (arith, ints, unit_apart s (pos 0) d k, b.next_above, q))
      (λ k. omega (arith, ints, scaled-mono (pos 0) s d k, unit_less, a.previous_below, p))

  not_ties_up : RoundsTiesUp n d r → RoundsTiesUp m d s → ⊥
  not_ties_up a b = omega (arith, ints, order, unit_less, a.at_most, b.above)

  not_ties_down : RoundsTiesDown n d r → RoundsTiesDown m d s → ⊥
  not_ties_down a b = omega (arith, ints, order, unit_less, a.below, b.at_least)

  not_ties_across : RoundsTiesDown n d r → RoundsTiesUp m d s → ⊥
  not_ties_across a b = omega (arith, ints, order, unit_less, a.below, b.above)

  not_ties_even : RoundsTiesEven n d r → RoundsTiesEven m d s → ⊥
  not_ties_even a b =
      let (j, r_even) = a.even_above (omega (arith, ints, order, unit_less, a.at_most, b.at_least)) in
      let (k, s_even) = b.even_below (omega (arith, ints, order, unit_less, a.at_most, b.at_least)) in
      by_lt_z (s +ℤ pos 1) r
      (λ t. omega (arith, ints, order, unit_apart (s +ℤ pos 1) r d t, next-scaled s d, a.at_most, b.at_least))
      (λ t. omega (arith, ints, t, less, r_even, s_even))

  not_monotone : (mode : Rounding) → Rounds mode n d r → Rounds mode m d s → ⊥
  not_monotone Floor a b = not_down a b
  not_monotone Ceiling a b = not_up a b
  not_monotone Zero a b = by_lt_z n (pos 0)
      (λ p. by_lt_z m (pos 0) (λ q. not_up (a.negative p) (b.negative q)) (λ q. not_across p q (a.negative p) (b.not_negative q)))
      (λ p. not_down (a.not_negative p) (b.not_negative (omega (arith, ints, p, order))))
  not_monotone Nearest a b = not_ties_up a b
  not_monotone Round a b = by_lt_z n (pos 0)
      (λ p. by_lt_z m (pos 0) (λ q. not_ties_down (a.negative p) (b.negative q)) (λ q. not_ties_across (a.negative p) (b.not_negative q)))
      (λ p. not_ties_up (a.not_negative p) (b.not_negative (omega (arith, ints, p, order))))
  not_monotone Convergent a b = not_ties_even a b

pub rounding_monotone : RoundingIsMonotone
rounding_monotone mode n m d r s h order a b = by_lt_z s r (λ less. absurd (not_monotone n m d r s h order less mode a b)) (λ k. k)

-- ---- what is exact
exact_only : (mode : Rounding) (q : ℤ) (d : ℕ) (r : ℤ) → 0 < d → Rounds mode (q *ℤ pos d) d r → r ≡ q
exact_only mode q d r h e =
    let a : q ≤ℤ r = by_lt_z r q (λ s. absurd (omega (arith, ints, unit_apart r q d s, rounds_next (q *ℤ pos d) d r h mode e))) (λ s. s) in
    let b : r ≤ℤ q = by_lt_z q r (λ s. absurd (omega (arith, ints, unit_apart q r d s, rounds_previous (q *ℤ pos d) d r h mode e))) (λ s. s) in
    omega (arith, ints, a, b)

pub word_only : (w : ℕ) (s : Bool) (a b : ℤ) → 1 ≤ w → InWord w s a → InWord w s b → IsCongruent a b (2 ^ w) → a ≡ b
word_only w true a b h p q c = near_congruent a b (2 ^ w) c (omega (arith, ints, p.high, q.low, double w h, pow_pos (w - 1))) (omega (arith, ints, q.high, p.low, double w h, pow_pos (w - 1)))
word_only w false a b h p q c = near_congruent a b (2 ^ w) c (omega (arith, ints, p.high, q.low, pow_pos w)) (omega (arith, ints, q.high, p.low, pow_pos w))

pub word_width : (w : ℕ) (s : Bool) (f : ℤ) → IsType (Num s w f) → 1 ≤ w
word_width w true f h = omega (arith, h.0.0)
word_width w false f h = h.0.0

settles_only : (s : Bool) (w : ℕ) (f : ℤ) (saturate : Bool) (q result : ℤ) → IsType (Num s w f) → InRange (Num s w f) q → Settles (Num s w f) saturate q result → result ≡ q
settles_only s w f true q result h i e = e.inside i
settles_only s w f false q result h i e = word_only w s result q (word_width w s f h) e.in_word (record { low = i.low; high = i.high }) e.congruent

stores_only : (n : ℤ) (d : ℕ) (s : Bool) (w : ℕ) (f : ℤ) (mode : Rounding) (saturate : Bool) (q result : ℤ) → 0 < d
    → IsType (Num s w f) → InRange (Num s w f) q → n ≡ q *ℤ pos d
    → StoresQuotient n d (Num s w f) mode saturate result → result ≡ q
stores_only n d s w f mode saturate q result h t i e k =
    let r : k.rounded ≡ q = exact_only mode q d k.rounded h (subst (λ (z : ℤ). Rounds mode z d k.rounded) e k.rounds) in
    settles_only s w f saturate q result t i (subst (λ (z : ℤ). Settles (Num s w f) saturate z result) r k.settles)

pub exact_kept : ExactIsKept
exact_kept v from Logical mode saturate q result t n i e k = absurd n
exact_kept v from (Num s w f) mode saturate q result t n i e k = stores_only _ _ s w f mode saturate q result (pow_pos (int_gap f (frac_of from))) t i e k

pub same_identity : SameTypeIsIdentity
same_identity v Logical mode saturate result t i k = by_lt_z (pos 0) v
    (λ p. k.one (λ e. omega (arith, ints, e, p)) ∙ omega (arith, ints, p, i.high))
    (λ p. let z : v ≡ pos 0 = omega (arith, ints, p, i.low) in k.zero z ∙ sym z)
same_identity v (Num s w f) mode saturate result t i k = stores_only _ _ s w f mode saturate v result (pow_pos (int_gap f f)) t i refl k
