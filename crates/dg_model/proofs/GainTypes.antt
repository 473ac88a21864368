-- The internal type of a Gain of 1 on int8: 8 bits of which 6 stand behind the point, since 1 is 64 there and would be 128 with one bit more.
use Rattle.std.proofs.Common.{◌≡◌, ℕ, zero, suc, ◌-◌, ◌≤◌, ◌^◌, List, [], ◌∷◌, ℤ, pos, negsuc, true, ◌≤ℤ◌, ◌<ℤ◌, refl, ap, subst, arith}
use lib.Signed.{le_z_yes, lt_z_yes}
use Rattle.std.proofs.Math.Dec.{lit<}
use Rattle.std.proofs.Math.Pow.{pow_mono}
use Rattle.std.proofs.lemmas.Int.{ints}
use Rattle.fx_type.specs.declared.kind.FxType.TheVariants.{Num}
use Rattle.fx_type.specs.declared.decimal.Decimal.{Decimal}
use Rattle.fx_type.specs.Conversion.{RoundsTiesUp}
use Rattle.dg_model.specs.GainParam.{IsInternalParam, FitsAt}
use Rattle.dg_model.proofs.Examples.{int8, decimal_of}

abbrev ones : List Decimal
ones = decimal_of 1 (lit< tt) ∷ []

one_at_six : FitsAt ones true 8 (pos 6)
one_at_six zero d below = (
  pos 64,
  record {
    rounded = pos 64;
    rounds = record { above = lt_z_yes tt; at_most = le_z_yes tt };
    settles = record { inside = λ h. refl; below = λ h. absurd h.lt; above = λ h. absurd h.lt };
  },
  record { low = le_z_yes tt; high = le_z_yes tt },
)
one_at_six (suc k) d below = absurd (omega arith)

-- 128 and more, rounded by 1, isn't in range
beyond : (n d : ℕ) (r : ℤ) → 128 ≤ n → d ≡ 1 → RoundsTiesUp (pos n) d r → r ≤ℤ pos 127 → ⊥
beyond n d r large one rounds small =
    let rounds : RoundsTiesUp (pos n) 1 r = subst (λ d. RoundsTiesUp (pos n) d r) one rounds in omega (arith, ints, rounds.above)

not_beyond : (other : ℤ) → pos 6 <ℤ other → other ≤ℤ pos 128 → ¬ FitsAt ones true 8 other
not_beyond (pos frac) above at_most fits =
    let row = fits 0 (decimal_of 1 (lit< tt)) (lit< tt)
    in let more : 7 ≤ frac - 0 = omega (arith, ints)
    in let large : 2 ^ 7 ≤ 2 ^ (frac - 0) = pow_mono more
    in let none : 0 - frac ≡ 0 = omega arith
    in beyond _ _ row.1.rounded (omega (arith, large)) (omega (arith, ap (λ k. 2 ^ k) none)) row.1.rounds row.2.high
not_beyond (negsuc frac) above at_most fits = absurd above.lt

gain_of_one : IsInternalParam ones int8 (Num true 8 (pos 6))
gain_of_one = (pos 6, refl, record { low = le_z_yes tt; high = le_z_yes tt; fits = one_at_six; greatest = not_beyond })
