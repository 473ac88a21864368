-- Relations, criteria, gates and the ends of types, each below, at and above its bound.
use Rattle.std.proofs.Common.{ℤ, pos, negsuc, Bool, true, false, None, List, [], ◌∷◌, refl, arith}
use Rattle.std.proofs.Math.Dec.{T, lit≤}
use Rattle.std.proofs.lemmas.Int.{ints}
use lib.Signed.{le_z, le_z_yes, lt_z_yes}
use Rattle.fx_type.specs.declared.kind.FxType.{FxType}
use Rattle.fx_type.specs.declared.kind.FxType.TheVariants.{Num, Logical}
use Rattle.fx_type.specs.declared.rounding.Rounding.TheVariants.{Floor}
use Rattle.fx_type.specs.Conversion.{Converts}
use Rattle.fx_type.specs.FxType.{IsType, InRange}
use Rattle.dg_model.specs.declared.kind.Criterion.{Criterion}
use Rattle.dg_model.specs.declared.kind.Criterion.TheVariants.{AtLeast, Above, NotZero}
use Rattle.dg_model.specs.declared.kind.Gate.TheVariants.{And, Or, Nand, Nor, Xor, Nxor, Not}
use Rattle.dg_model.specs.declared.kind.Relation.{Relation}
use Rattle.dg_model.specs.declared.kind.Relation.TheVariants.{Eq, Ne, Lt, Le, Ge, Gt}
use Rattle.dg_model.specs.declared.op.Op.{Op}
use Rattle.dg_model.specs.declared.op.Op.TheVariants.{Sum, Switch, Relational, Logic, Convert}
use Rattle.dg_model.specs.Operation.{HasArity, OpGives}

abbrev int8 : FxType
int8 = Num true 8 (pos 0)

abbrev int16 : FxType
int16 = Num true 16 (pos 0)

abbrev uint8 : FxType
uint8 = Num false 8 (pos 0)

-- with one bit behind the point
abbrev halves : FxType
halves = Num true 8 (pos 1)

abbrev Gives : Op → List FxType → FxType → Bool → List ℤ → ℤ → Type 0
Gives op types result saturate inputs r =
    OpGives (record { op = op; signs = []; types = types; result = result; rounding = Floor; saturate = saturate }) inputs r

-- ---- relations: 3, 4 and 5 against 4
record Relates (relation : Relation) (below equal above : ℤ) : Type 0 where
  three : Gives (Relational relation) (int8 ∷ int8 ∷ []) Logical false (pos 3 ∷ pos 4 ∷ []) below
  four : Gives (Relational relation) (int8 ∷ int8 ∷ []) Logical false (pos 4 ∷ pos 4 ∷ []) equal
  five : Gives (Relational relation) (int8 ∷ int8 ∷ []) Logical false (pos 5 ∷ pos 4 ∷ []) above
  -- the same as real values: 7, 8 and 9 halves against 4
  seven_halves : Gives (Relational relation) (halves ∷ int8 ∷ []) Logical false (pos 7 ∷ pos 4 ∷ []) below
  eight_halves : Gives (Relational relation) (halves ∷ int8 ∷ []) Logical false (pos 8 ∷ pos 4 ∷ []) equal
  nine_halves : Gives (Relational relation) (halves ∷ int8 ∷ []) Logical false (pos 9 ∷ pos 4 ∷ []) above
  -- and across 0: -1, 0 and 1 against 0
  minus_one : Gives (Relational relation) (int8 ∷ uint8 ∷ []) Logical false (negsuc 0 ∷ pos 0 ∷ []) below
  nought : Gives (Relational relation) (int8 ∷ uint8 ∷ []) Logical false (pos 0 ∷ pos 0 ∷ []) equal
  one : Gives (Relational relation) (int8 ∷ uint8 ∷ []) Logical false (pos 1 ∷ pos 0 ∷ []) above

related : Relates Eq (pos 0) (pos 1) (pos 0) × Relates Ne (pos 1) (pos 0) (pos 1)
    × Relates Lt (pos 1) (pos 0) (pos 0) × Relates Le (pos 1) (pos 1) (pos 0) × Relates Ge (pos 0) (pos 1) (pos 1)
    × Relates Gt (pos 0) (pos 0) (pos 1)
related = (
  record { three = refl; four = refl; five = refl; seven_halves = refl; eight_halves = refl; nine_halves = refl; minus_one = refl; nought = refl; one = refl },
  record { three = refl; four = refl; five = refl; seven_halves = refl; eight_halves = refl; nine_halves = refl; minus_one = refl; nought = refl; one = refl },
  record { three = refl; four = refl; five = refl; seven_halves = refl; eight_halves = refl; nine_halves = refl; minus_one = refl; nought = refl; one = refl },
  record { three = refl; four = refl; five = refl; seven_halves = refl; eight_halves = refl; nine_halves = refl; minus_one = refl; nought = refl; one = refl },
  record { three = refl; four = refl; five = refl; seven_halves = refl; eight_halves = refl; nine_halves = refl; minus_one = refl; nought = refl; one = refl },
  record { three = refl; four = refl; five = refl; seven_halves = refl; eight_halves = refl; nine_halves = refl; minus_one = refl; nought = refl; one = refl },
)

-- ---- criteria of a Switch of 7 and 9 whose threshold is 4
kept : (v : ℤ) → T (le_z (negsuc 127) v) → T (le_z v (pos 127)) → Converts v int8 int8 Floor false v
kept v low high = record {
  rounded = v;
  rounds = record { at_most = omega (arith, ints); next_above = omega (arith, ints) };
  settles = record { in_word = record { low = le_z_yes low; high = le_z_yes high }; congruent = record { turns = pos 0; equal = omega (arith, ints) } };
}

abbrev Takes : Criterion → ℤ → ℤ → Type 0
Takes criterion control r =
    Gives (Switch criterion (pos 4)) (int8 ∷ int8 ∷ int8 ∷ []) int8 false (pos 7 ∷ control ∷ pos 9 ∷ []) r

-- what is given where input 2 is -1, 0, 3, 4 and 5
record Chooses (criterion : Criterion) (of_minus_one of_nought of_three of_four of_five : ℤ) : Type 0 where
  minus_one : Takes criterion (negsuc 0) of_minus_one
  nought : Takes criterion (pos 0) of_nought
  three : Takes criterion (pos 3) of_three
  four : Takes criterion (pos 4) of_four
  five : Takes criterion (pos 5) of_five

from_threshold : Chooses AtLeast (pos 9) (pos 9) (pos 9) (pos 7) (pos 7)
from_threshold = record { minus_one = kept (pos 9) tt tt; nought = kept (pos 9) tt tt; three = kept (pos 9) tt tt; four = kept (pos 7) tt tt; five = kept (pos 7) tt tt }

above_threshold : Chooses Above (pos 9) (pos 9) (pos 9) (pos 9) (pos 7)
above_threshold = record { minus_one = kept (pos 9) tt tt; nought = kept (pos 9) tt tt; three = kept (pos 9) tt tt; four = kept (pos 9) tt tt; five = kept (pos 7) tt tt }

-- the threshold isn't looked at
but_at_nought : Chooses NotZero (pos 7) (pos 9) (pos 7) (pos 7) (pos 7)
but_at_nought = record { minus_one = kept (pos 7) tt tt; nought = kept (pos 9) tt tt; three = kept (pos 7) tt tt; four = kept (pos 7) tt tt; five = kept (pos 7) tt tt }

-- 7 is no 9
other_than : Converts (pos 7) int8 int8 Floor false (pos 9) → ⊥
other_than gives =
    let low = gives.rounds.at_most in
    let high = gives.rounds.next_above in
    let turns = gives.settles.congruent.equal in
    absurd (omega (arith, ints, low, high, turns))

neither : (¬ Takes AtLeast (pos 4) (pos 9)) × (¬ Takes NotZero (pos 4) (pos 9)) × (¬ Takes Above (pos 5) (pos 9))
neither = (other_than, other_than, other_than)

-- ---- gates of two inputs: none, one and both of which are true; -1 is true
record Joins (gate : Op) (of_none of_first of_last of_both : ℤ) : Type 0 where
  none : Gives gate (int8 ∷ int8 ∷ []) Logical false (pos 0 ∷ pos 0 ∷ []) of_none
  first : Gives gate (int8 ∷ int8 ∷ []) Logical false (negsuc 0 ∷ pos 0 ∷ []) of_first
  last : Gives gate (int8 ∷ int8 ∷ []) Logical false (pos 0 ∷ pos 1 ∷ []) of_last
  both : Gives gate (int8 ∷ int8 ∷ []) Logical false (pos 2 ∷ negsuc 0 ∷ []) of_both

joined : Joins (Logic And) (pos 0) (pos 0) (pos 0) (pos 1) × Joins (Logic Or) (pos 0) (pos 1) (pos 1) (pos 1)
    × Joins (Logic Nand) (pos 1) (pos 1) (pos 1) (pos 0) × Joins (Logic Nor) (pos 1) (pos 0) (pos 0) (pos 0)
    × Joins (Logic Xor) (pos 0) (pos 1) (pos 1) (pos 0) × Joins (Logic Nxor) (pos 1) (pos 0) (pos 0) (pos 1)
joined = (
  record { none = refl; first = refl; last = refl; both = refl },
  record { none = refl; first = refl; last = refl; both = refl },
  record { none = refl; first = refl; last = refl; both = refl },
  record { none = refl; first = refl; last = refl; both = refl },
  record { none = refl; first = refl; last = refl; both = refl },
  record { none = refl; first = refl; last = refl; both = refl },
)

negated : Gives (Logic Not) (int8 ∷ []) Logical false (pos 0 ∷ []) (pos 1) × Gives (Logic Not) (int8 ∷ []) Logical false (negsuc 0 ∷ []) (pos 0)
negated = (refl, refl)

-- ---- how many inputs
several : HasArity (Sum None) 1 × HasArity (Sum None) 32 × HasArity (Logic And) 2 × HasArity (Logic Nxor) 32 × HasArity (Logic Not) 1
several = ((lit≤ tt, lit≤ tt), (lit≤ tt, lit≤ tt), (lit≤ tt, lit≤ tt), (lit≤ tt, lit≤ tt), refl)

not_so_many : (¬ HasArity (Sum None) 0) × (¬ HasArity (Sum None) 33) × (¬ HasArity (Logic Or) 1) × (¬ HasArity (Logic Xor) 33) × (¬ HasArity (Logic Not) 2)
not_so_many = (
  λ has. absurd (omega (arith, has.0)),
  λ has. absurd (omega (arith, has.1)),
  λ has. absurd (omega (arith, has.0)),
  λ has. absurd (omega (arith, has.1)),
  λ has. absurd (omega (arith, has)),
)

-- ---- the ends of int8 and uint8
bytes : InRange int8 (negsuc 127) × InRange int8 (pos 127) × InRange uint8 (pos 0) × InRange uint8 (pos 255) × InRange Logical (pos 0) × InRange Logical (pos 1)
bytes = (
  record { low = le_z_yes tt; high = le_z_yes tt },
  record { low = le_z_yes tt; high = le_z_yes tt },
  record { low = le_z_yes tt; high = le_z_yes tt },
  record { low = le_z_yes tt; high = le_z_yes tt },
  record { low = le_z_yes tt; high = le_z_yes tt },
  record { low = le_z_yes tt; high = le_z_yes tt },
)

no_bytes : (¬ InRange int8 (negsuc 128)) × (¬ InRange int8 (pos 128)) × (¬ InRange uint8 (negsuc 0)) × (¬ InRange uint8 (pos 256)) × (¬ InRange Logical (negsuc 0)) × (¬ InRange Logical (pos 2))
no_bytes = (λ is. absurd is.low.le, λ is. absurd is.high.le, λ is. absurd is.low.le, λ is. absurd is.high.le, λ is. absurd is.low.le, λ is. absurd is.high.le)

-- an int16 in a byte, by the nearest number of its range or by the congruent one
abbrev Saturated : FxType → ℤ → ℤ → Type 0
Saturated type v r = Gives (Convert false) (int16 ∷ []) type true (v ∷ []) r

abbrev Wrapped : FxType → ℤ → ℤ → Type 0
Wrapped type v r = Gives (Convert false) (int16 ∷ []) type false (v ∷ []) r

saturates_high : Saturated int8 (pos 126) (pos 126) × Saturated int8 (pos 127) (pos 127) × Saturated int8 (pos 128) (pos 127)
saturates_high = (
  record { rounded = pos 126; rounds = record { at_most = le_z_yes tt; next_above = lt_z_yes tt }; settles = record { inside = λ h. refl; below = λ h. absurd h.lt; above = λ h. absurd h.lt } },
  record { rounded = pos 127; rounds = record { at_most = le_z_yes tt; next_above = lt_z_yes tt }; settles = record { inside = λ h. refl; below = λ h. absurd h.lt; above = λ h. absurd h.lt } },
  record { rounded = pos 128; rounds = record { at_most = le_z_yes tt; next_above = lt_z_yes tt }; settles = record { inside = λ h. absurd h.high.le; below = λ h. absurd h.lt; above = λ h. refl } },
)

saturates_low : Saturated int8 (negsuc 126) (negsuc 126) × Saturated int8 (negsuc 127) (negsuc 127) × Saturated int8 (negsuc 128) (negsuc 127)
saturates_low = (
  record { rounded = negsuc 126; rounds = record { at_most = le_z_yes tt; next_above = lt_z_yes tt }; settles = record { inside = λ h. refl; below = λ h. absurd h.lt; above = λ h. absurd h.lt } },
  record { rounded = negsuc 127; rounds = record { at_most = le_z_yes tt; next_above = lt_z_yes tt }; settles = record { inside = λ h. refl; below = λ h. absurd h.lt; above = λ h. absurd h.lt } },
  record { rounded = negsuc 128; rounds = record { at_most = le_z_yes tt; next_above = lt_z_yes tt }; settles = record { inside = λ h. absurd h.low.le; below = λ h. refl; above = λ h. absurd h.lt } },
)

saturates_unsigned : Saturated uint8 (pos 255) (pos 255) × Saturated uint8 (pos 256) (pos 255) × Saturated uint8 (pos 0) (pos 0) × Saturated uint8 (negsuc 0) (pos 0)
saturates_unsigned = (
  record { rounded = pos 255; rounds = record { at_most = le_z_yes tt; next_above = lt_z_yes tt }; settles = record { inside = λ h. refl; below = λ h. absurd h.lt; above = λ h. absurd h.lt } },
  record { rounded = pos 256; rounds = record { at_most = le_z_yes tt; next_above = lt_z_yes tt }; settles = record { inside = λ h. absurd h.high.le; below = λ h. absurd h.lt; above = λ h. refl } },
  record { rounded = pos 0; rounds = record { at_most = le_z_yes tt; next_above = lt_z_yes tt }; settles = record { inside = λ h. refl; below = λ h. absurd h.lt; above = λ h. absurd h.lt } },
  record { rounded = negsuc 0; rounds = record { at_most = le_z_yes tt; next_above = lt_z_yes tt }; settles = record { inside = λ h. absurd h.low.le; below = λ h. refl; above = λ h. absurd h.lt } },
)

wraps : Wrapped int8 (pos 127) (pos 127) × Wrapped int8 (pos 128) (negsuc 127)
    × Wrapped int8 (negsuc 127) (negsuc 127) × Wrapped int8 (negsuc 128) (pos 127) × Wrapped uint8 (pos 256) (pos 0)
    × Wrapped uint8 (negsuc 0) (pos 255)
wraps = (
  record {
    rounded = pos 127;
    rounds = record { at_most = le_z_yes tt; next_above = lt_z_yes tt };
    settles =
        record {
          in_word = record { low = le_z_yes tt; high = le_z_yes tt };
          congruent =
              record { turns = pos 0; equal = refl };
        };
  },
  record {
    rounded = pos 128;
    rounds = record { at_most = le_z_yes tt; next_above = lt_z_yes tt };
    settles =
        record {
          in_word = record { low = le_z_yes tt; high = le_z_yes tt };
          congruent =
              record { turns = negsuc 0; equal = refl };
        };
  },
  record {
    rounded = negsuc 127;
    rounds = record { at_most = le_z_yes tt; next_above = lt_z_yes tt };
    settles =
        record {
          in_word = record { low = le_z_yes tt; high = le_z_yes tt };
          congruent =
              record { turns = pos 0; equal = refl };
        };
  },
  record {
    rounded = negsuc 128;
    rounds = record { at_most = le_z_yes tt; next_above = lt_z_yes tt };
    settles =
        record {
          in_word = record { low = le_z_yes tt; high = le_z_yes tt };
          congruent =
              record { turns = pos 1; equal = refl };
        };
  },
  record {
    rounded = pos 256;
    rounds = record { at_most = le_z_yes tt; next_above = lt_z_yes tt };
    settles =
        record {
          in_word = record { low = le_z_yes tt; high = le_z_yes tt };
          congruent =
              record { turns = negsuc 0; equal = refl };
        };
  },
  record {
    rounded = negsuc 0;
    rounds = record { at_most = le_z_yes tt; next_above = lt_z_yes tt };
    settles =
        record {
          in_word = record { low = le_z_yes tt; high = le_z_yes tt };
          congruent =
              record { turns = pos 1; equal = refl };
        };
  },
)

-- ---- the ends of what is a type
widest : IsType (Num true 2 (pos 0)) × IsType (Num true 128 (pos 128)) × IsType (Num false 1 (negsuc 63)) × IsType (Num false 127 (pos 128))
widest = (
  ((lit≤ tt, lit≤ tt), le_z_yes tt, le_z_yes tt),
  ((lit≤ tt, lit≤ tt), le_z_yes tt, le_z_yes tt),
  ((lit≤ tt, lit≤ tt), le_z_yes tt, le_z_yes tt),
  ((lit≤ tt, lit≤ tt), le_z_yes tt, le_z_yes tt),
)

no_types : (¬ IsType (Num true 1 (pos 0))) × (¬ IsType (Num true 129 (pos 0))) × (¬ IsType (Num false 0 (pos 0)))
    × (¬ IsType (Num false 128 (pos 0))) × (¬ IsType (Num true 8 (negsuc 64))) × (¬ IsType (Num true 8 (pos 129)))
no_types = (
  λ is. absurd (omega (arith, is.0.0)),
  λ is. absurd (omega (arith, is.0.1)),
  λ is. absurd (omega (arith, is.0.0)),
  λ is. absurd (omega (arith, is.0.1)),
  λ is. absurd is.1.le,
  λ is. absurd is.2.le,
)
