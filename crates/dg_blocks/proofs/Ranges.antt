-- Stored integers, and aligned ones, fit 128 bits.
use Rattle.std.proofs.Common.{◌≡◌, ℕ, suc, ◌*◌, ◌≤◌, inl, inr, ℤ, pos, negsuc, neg_ℤ, ◌-ℤ◌, ◌*ℤ◌, FitsSigned, subst, sym, ap, ◌∙◌, arith}
use Rattle.std.specs.Int.{int_max, int_gap, w128}
use Rattle.std.proofs.lemmas.Int.{ints}
use Rattle.std.proofs.Math.IntN.{neg_ℤ-neg_ℤ, +ℤ_idl}
use Rattle.std.proofs.Math.Nat.{mul-le-mul_left}
use Rattle.fx_type.specs.declared.kind.FxType.{FxType}
use Rattle.fx_type.specs.FxType.{IsType, InRange, frac_of, aligned}
use Rattle.fx_type.specs.FullType.{IsUnion}
use Rattle.fx_type.proofs.Ranges.{InRange-fits}
use Rattle.math_num.proofs.Integers.{int_max_cases}
use Rattle.math_num.proofs.Arithmetic.{int_cases}

-- minus a number, as the code computes it
pub minus_is : (v : ℤ) → pos 0 -ℤ v ≡ neg_ℤ v
minus_is v = +ℤ_idl (neg_ℤ v)

-- where minus a scaled number fits, minus the number does
pub neg_fits : (v : ℤ) (d : ℕ) → 1 ≤ d → FitsSigned w128 v → FitsSigned w128 (neg_ℤ (v *ℤ pos d)) → FitsSigned w128 (neg_ℤ v)
neg_fits (pos n) d some fits scaled = omega (arith, ints)
neg_fits (negsuc n) d some fits scaled =
    let more : suc n * 1 ≤ suc n * d = mul-le-mul_left (suc n) some
    in let product : neg_ℤ (negsuc n *ℤ pos d) ≡ pos (suc n * d) = neg_ℤ-neg_ℤ (pos (suc n * d))
    in omega (arith, ints, product)

gap-same : (f : ℤ) → int_gap f f ≡ 0
gap-same (pos n) = omega arith
gap-same (negsuc n) = omega arith

-- nothing changes at the type's own frac
aligned-same : (type : FxType) (frac v : ℤ) → frac ≡ frac_of type → aligned frac type v ≡ v
aligned-same type frac v e =
    let gap : int_gap (frac_of type) frac ≡ 0 = ap (int_gap (frac_of type)) e ∙ gap-same (frac_of type)
    in rw gap (omega (arith, ints))

-- a stored integer aligned to a union fits 128 bits
module _ (a b union : FxType) (is_union : IsUnion a b union) where
  pub left_fits : (x : ℤ) → IsType a → InRange a x → FitsSigned w128 (aligned (int_max (frac_of a) (frac_of b)) a x)
  left_fits x valid range = elim (int_cases (frac_of a) (frac_of b)) [
    | inl e ↦
        let frac : int_max (frac_of a) (frac_of b) ≡ frac_of a = elim (int_max_cases (frac_of a) (frac_of b)) [ inl k ↦ k | inr k ↦ k ∙ sym e ]
        in let same : aligned (int_max (frac_of a) (frac_of b)) a x ≡ x = aligned-same a _ x frac
        in subst (FitsSigned w128) (sym same) (InRange-fits a x valid range)
    | inr n ↦
        let holds = is_union.different (λ p. n (ap frac_of p))
        in InRange-fits union _ holds.valid (rw holds.frac at (holds.left x range))
  ]

  pub right_fits : (y : ℤ) → IsType b → InRange b y → FitsSigned w128 (aligned (int_max (frac_of a) (frac_of b)) b y)
  right_fits y valid range = elim (int_cases (frac_of a) (frac_of b)) [
    | inl e ↦
        let frac : int_max (frac_of a) (frac_of b) ≡ frac_of b = elim (int_max_cases (frac_of a) (frac_of b)) [ inl k ↦ k ∙ e | inr k ↦ k ]
        in let same : aligned (int_max (frac_of a) (frac_of b)) b y ≡ y = aligned-same b _ y frac
        in subst (FitsSigned w128) (sym same) (InRange-fits b y valid range)
    | inr n ↦
        let holds = is_union.different (λ p. n (ap frac_of p))
        in InRange-fits union _ holds.valid (rw holds.frac at (holds.right y range))
  ]
