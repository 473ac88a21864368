-- The greater of two whole numbers, and how far one is above another.
use Rattle.std.proofs.Common.{◌≡◌, Bool, true, false, cond, ◌⊎◌, inl, inr, ℤ, pos, negsuc, ◌≤ℤ◌, refl, arith, ◌-ℤ◌, nat_abs}
use Rattle.std.specs.Int.{int_max, int_gap}
use Rattle.std.proofs.lemmas.Int.{ints}

-- the greater of two is one of them
pub int_max_cases : (x y : ℤ) → (int_max x y ≡ x) ⊎ (int_max x y ≡ y)
int_max_cases x y = cases _
  where
    cases : (b : Bool) → (cond b x y ≡ x) ⊎ (cond b x y ≡ y)
    cases true = inl refl
    cases false = inr refl

-- the greater of two is bounded as both are
pub int_max_most : (x y most : ℤ) → x ≤ℤ most → y ≤ℤ most → int_max x y ≤ℤ most
int_max_most x y most left right =
    elim (int_max_cases x y) [
      | inl is ↦ rw is left
      | inr is ↦ rw is right
    ]

-- how far one frac is above another
pub gap_is : (a b x : ℤ) → a ≤ℤ b → x ≡ b -ℤ a → nat_abs x ≡ int_gap a b
gap_is (pos a) (pos b) x h e = omega (arith, ints, h)
gap_is (pos a) (negsuc b) x h e = absurd (omega (arith, ints, h))
gap_is (negsuc a) (pos b) x h e = omega (arith, ints, h)
gap_is (negsuc a) (negsuc b) x h e = omega (arith, ints, h)

pub gap_none : (a b : ℤ) → b ≤ℤ a → int_gap a b ≡ 0
gap_none (pos a) (pos b) h = omega (arith, ints, h)
gap_none (pos a) (negsuc b) h = refl
gap_none (negsuc a) (pos b) h = absurd (omega (arith, ints, h))
gap_none (negsuc a) (negsuc b) h = omega (arith, ints, h)
