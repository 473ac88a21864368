-- The full type of a sum of two int8, and of the first less the second.
use Rattle.std.proofs.Common.{◌≡◌, ℕ, zero, suc, ◌-◌, ◌^◌, ◌≤◌, Bool, true, false, true≢false, [], ◌∷◌, ℤ, pos, negsuc, neg_ℤ, ◌≤ℤ◌, refl, subst, arith}
use lib.Signed.{le_z_yes}
use Rattle.std.proofs.lemmas.Int.{ints}
use Rattle.std.proofs.Math.Dec.{lit<, lit≤}
use Rattle.std.specs.Prelude.{All}
use Rattle.fx_type.specs.declared.kind.FxType.{FxType}
use Rattle.fx_type.specs.declared.kind.FxType.TheVariants.{Num, Logical}
use Rattle.fx_type.specs.FxType.{IsType, IsNumber, frac_of, width_of}
use Rattle.fx_type.specs.FullType.{Terms, IsPossibleSum, HoldsSums, IsFullSum}
use Rattle.dg_model.proofs.Examples.{int8}

-- two int8, of which the second may be subtracted
abbrev bytes : Bool → Terms
bytes less = (false, int8) ∷ (less, int8) ∷ []

low_second : (less : Bool) → IsPossibleSum (pos 0) ((less, int8) ∷ []) (negsuc 126)
low_second false = record { value = negsuc 126; others = pos 0; in_range = record { low = le_z_yes tt; high = le_z_yes tt }; is_rest = refl; is_total = refl }
low_second true = record { value = pos 127; others = pos 0; in_range = record { low = le_z_yes tt; high = le_z_yes tt }; is_rest = refl; is_total = refl }

low : (less : Bool) → IsPossibleSum (pos 0) (bytes less) (negsuc 254)
low less = record {
  value = negsuc 127;
  others = negsuc 126;
  in_range = record { low = le_z_yes tt; high = le_z_yes tt };
  is_total = refl;
  is_rest = low_second less;
}

holds : (less : Bool) → HoldsSums (bytes less) (Num true 9 (pos 0))
holds false total sum = record {
  low =
      omega (arith, ints, sum.in_range, sum.is_rest.in_range, sum.is_rest.is_rest);
  high =
      omega (arith, ints, sum.in_range, sum.is_rest.in_range, sum.is_rest.is_rest);
}
holds true total sum = record {
  low = omega (arith, ints, sum.in_range, sum.is_rest.in_range, sum.is_rest.is_rest);
  high = omega (arith, ints, sum.in_range, sum.is_rest.in_range, sum.is_rest.is_rest);
}

wide : (width : ℕ) → neg_ℤ (pos (2 ^ (width - 1))) ≤ℤ negsuc 254 → 9 ≤ width
wide zero h = absurd h.le
wide (suc zero) h = absurd h.le
wide (suc (suc zero)) h = absurd h.le
wide (suc (suc (suc zero))) h = absurd h.le
wide (suc (suc (suc (suc zero)))) h = absurd h.le
wide (suc (suc (suc (suc (suc zero))))) h = absurd h.le
wide (suc (suc (suc (suc (suc (suc zero)))))) h = absurd h.le
wide (suc (suc (suc (suc (suc (suc (suc zero))))))) h = absurd h.le
wide (suc (suc (suc (suc (suc (suc (suc (suc zero)))))))) h = absurd h.le
wide (suc (suc (suc (suc (suc (suc (suc (suc (suc width))))))))) h = omega arith

narrowest : (less : Bool) (other : FxType) → IsType other → IsNumber other → frac_of other ≡ pos 0 → HoldsSums (bytes less) other → 9 ≤ width_of other
narrowest less (Num true width frac) valid number same holds_all =
    wide width (subst (λ f. (total : ℤ) → IsPossibleSum f (bytes less) total → neg_ℤ (pos (2 ^ (width - 1))) ≤ℤ total) same (λ total sum. (holds_all total sum).low) (negsuc 254) (low less))
narrowest less (Num false width frac) valid number same holds_all =
    absurd (subst (λ f. (total : ℤ) → IsPossibleSum f (bytes less) total → pos 0 ≤ℤ total) same (λ total sum. (holds_all total sum).low) (negsuc 254) (low less)).le
narrowest less Logical valid number same holds_all = absurd number

bound : (less : Bool) → All (λ (term : Bool × FxType). frac_of term.1 ≤ℤ pos 0) (bytes less)
bound less zero d below = le_z_yes tt
bound less (suc zero) d below = le_z_yes tt
bound less (suc (suc k)) d below = absurd (omega arith)

bytes_full : (less : Bool) → IsFullSum (bytes less) (Num true 9 (pos 0))
bytes_full less = record {
  valid = ((lit≤ tt, lit≤ tt), le_z_yes tt, le_z_yes tt);
  number = tt;
  frac = record { bound = bound less; reached = (0, (false, int8), lit< tt, refl, refl) };
  holds = holds less;
  narrowest = narrowest less;
  sign = (λ e. absurd (true≢false e), λ all. absurd (all (negsuc 254) (low less)).le);
}

pub two_bytes_full : IsFullSum ((false, int8) ∷ (false, int8) ∷ []) (Num true 9 (pos 0))
two_bytes_full = bytes_full false

pub byte_less_byte_full : IsFullSum ((false, int8) ∷ (true, int8) ∷ []) (Num true 9 (pos 0))
byte_less_byte_full = bytes_full true
