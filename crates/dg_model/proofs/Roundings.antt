-- A conversion from one bit behind the point to none, of 5 and of -5, that is of 2.5 and -2.5, by each rounding mode.
use Rattle.std.proofs.Common.{ℕ, ◌+ℤ◌, ◌*ℤ◌, true, false, [], ◌∷◌, ℤ, pos, negsuc, refl, arith}
use lib.Signed.{le_z, lt_z, le_z_yes, lt_z_yes}
use Rattle.std.proofs.Math.Dec.{T}
use Rattle.std.proofs.lemmas.Int.{ints}
use Rattle.fx_type.specs.declared.kind.FxType.TheVariants.{Num}
use Rattle.fx_type.specs.declared.rounding.Rounding.{Rounding}
use Rattle.fx_type.specs.declared.rounding.Rounding.TheVariants.{Floor, Ceiling, Zero, Nearest, Round, Convergent}
use Rattle.fx_type.specs.Conversion.{Rounds, RoundsUp, RoundsTiesUp, BySign, twice}
use Rattle.dg_model.specs.declared.op.Op.TheVariants.{Convert}
use Rattle.dg_model.specs.Operation.{OpGives}
use Rattle.dg_model.proofs.Examples.{down}

-- r is the conversion of v
abbrev IsRow : Rounding → ℤ → ℤ → Type 0
IsRow mode v r = OpGives (record { op = Convert false; signs = []; types = Num true 8 (pos 1) ∷ []; result = Num true 8 (pos 0); rounding = mode; saturate = false }) (v ∷ []) r

-- what each mode makes of 5 halves and of -5 halves
abbrev AreRows : Rounding → ℤ → ℤ → Type 0
AreRows mode of_above of_below = IsRow mode (pos 5) of_above × IsRow mode (negsuc 4) of_below

row : (mode : Rounding) (v r : ℤ) → T (le_z (negsuc 127) r) → T (le_z r (pos 127)) → Rounds mode (v *ℤ pos 1) 2 r → IsRow mode v r
row mode v r low high rounds = record {
  rounded = r;
  rounds = rounds;
  settles = record { in_word = record { low = le_z_yes low; high = le_z_yes high }; congruent = record { turns = pos 0; equal = omega (arith, ints) } };
}

up : {n r : ℤ} {d : ℕ} → T (le_z n (r *ℤ pos d)) → T (lt_z (r *ℤ pos d) (n +ℤ pos d)) → RoundsUp n d r
up at_least previous = record { at_least = le_z_yes at_least; previous_below = lt_z_yes previous }

ties_up : {n r : ℤ} {d : ℕ} → T (lt_z (twice n) (twice (r *ℤ pos d) +ℤ pos d)) → T (le_z (twice (r *ℤ pos d)) (twice n +ℤ pos d)) → RoundsTiesUp n d r
ties_up above at_most = record { above = lt_z_yes above; at_most = le_z_yes at_most }

-- the row for numbers from 0 on, and the row for those below
from_zero : {n : ℤ} {A B : Type 0} → T (le_z (pos 0) n) → A → BySign n A B
from_zero {n} from holds = record { not_negative = λ h. holds; negative = λ h. absurd (omega (arith, ints, le_z_yes {a = pos 0} {b = n} from, h)) }

below_zero : {n : ℤ} {A B : Type 0} → T (lt_z n (pos 0)) → B → BySign n A B
below_zero {n} below holds = record { not_negative = λ h. absurd (omega (arith, ints, lt_z_yes {a = n} {b = pos 0} below, h)); negative = λ h. holds }

floor : AreRows Floor (pos 2) (negsuc 2)
floor = (row Floor (pos 5) (pos 2) tt tt (down tt tt), row Floor (negsuc 4) (negsuc 2) tt tt (down tt tt))

ceiling : AreRows Ceiling (pos 3) (negsuc 1)
ceiling = (row Ceiling (pos 5) (pos 3) tt tt (up tt tt), row Ceiling (negsuc 4) (negsuc 1) tt tt (up tt tt))

to_zero : AreRows Zero (pos 2) (negsuc 1)
to_zero = (row Zero (pos 5) (pos 2) tt tt (from_zero tt (down tt tt)), row Zero (negsuc 4) (negsuc 1) tt tt (below_zero tt (up tt tt)))

nearest : AreRows Nearest (pos 3) (negsuc 1)
nearest = (row Nearest (pos 5) (pos 3) tt tt (ties_up tt tt), row Nearest (negsuc 4) (negsuc 1) tt tt (ties_up tt tt))

round : AreRows Round (pos 3) (negsuc 2)
round = (row Round (pos 5) (pos 3) tt tt (from_zero tt (ties_up tt tt)), row Round (negsuc 4) (negsuc 2) tt tt (below_zero tt (record { at_least = le_z_yes tt; below = lt_z_yes tt })))

convergent : AreRows Convergent (pos 2) (negsuc 1)
convergent = (
  row Convergent (pos 5) (pos 2) tt tt (record { at_least = le_z_yes tt; at_most = le_z_yes tt; even_below = λ h. (pos 1, refl); even_above = λ h. (pos 1, refl) }),
  row Convergent (negsuc 4) (negsuc 1) tt tt (record { at_least = le_z_yes tt; at_most = le_z_yes tt; even_below = λ h. (negsuc 0, refl); even_above = λ h. (negsuc 0, refl) }),
)

-- by Nearest a tie goes up, so 5 halves below zero never give -3
ties_go_up : Rounds Nearest (negsuc 4) 2 (negsuc 2) → ⊥
ties_go_up rounds = absurd rounds.above.lt
