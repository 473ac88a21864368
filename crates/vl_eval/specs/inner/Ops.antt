-- What an operation gives, and what a whole sweep of them leaves.
use Rattle.std.specs.Prelude.{◌≡◌, ℕ, ◌+◌, ◌-◌, ◌*◌, ◌/◌, ◌%◌, ◌^◌, ◌<◌, ◌==◌, nat_le, nat_lt, not, ◌&&◌, ◌||◌, if◌then◌else◌, List, length, slice_index, slice_index_or, bit_and, bit_or, bit_xor, ⊤}
use Rattle.vl_ast.specs.Value.{truth}
use Rattle.vl_eval.specs.declared.ops.OneOp.{OneOp}
use Rattle.vl_eval.specs.declared.ops.OneOp.TheVariants.{Extended, Select, Negate, Invert, IsZero, Up, SignedDown}
use Rattle.vl_eval.specs.declared.ops.TwoOp.{TwoOp}
use Rattle.vl_eval.specs.declared.ops.TwoOp.TheVariants.{Add, Subtract, Multiply, And, Or, Xor, Equal, NotEqual, Less, LessEqual, Both, Either}
use Rattle.vl_eval.specs.declared.ops.Op.{Op}
use Rattle.vl_eval.specs.declared.ops.Op.TheVariants.{Constant, One, Two, Beside, Choose, Next}

-- what an operation gives of one value
abbrev pub one_value : OneOp → ℕ → ℕ
one_value (Extended half fill) bits = if nat_le half bits then (bits + fill) % 2 ^ 128 else bits
one_value (Select low mask) bits = bit_and (bits / 2 ^ low) mask
one_value (Negate mask) bits = bit_and ((0 + (2 ^ 128 - bits)) % 2 ^ 128) mask
one_value (Invert mask) bits = (mask + (2 ^ 128 - bits)) % 2 ^ 128
one_value IsZero bits = truth (bits == 0)
one_value (Up places mask) bits = bit_and (bits * 2 ^ places % 2 ^ 128) mask
one_value (SignedDown places half mask) bits =
    if nat_le half bits
    then (mask + (2 ^ 128 - (mask + (2 ^ 128 - bits)) % 2 ^ 128 / 2 ^ places)) % 2 ^ 128
    else bits / 2 ^ places

-- and of two
abbrev pub two_value : TwoOp → ℕ → ℕ → ℕ
two_value (Add mask) left right = bit_and ((left + right) % 2 ^ 128) mask
two_value (Subtract mask) left right = bit_and ((left + (2 ^ 128 - right)) % 2 ^ 128) mask
two_value (Multiply mask) left right = bit_and (left * right % 2 ^ 128) mask
two_value And left right = bit_and left right
two_value Or left right = bit_or left right
two_value Xor left right = bit_xor left right
two_value Equal left right = truth (left == right)
two_value NotEqual left right = truth (not (left == right))
two_value (Less half) left right = truth (nat_lt (bit_xor left half) (bit_xor right half))
two_value (LessEqual half) left right =
    truth (not (nat_lt (bit_xor right half) (bit_xor left half)))
two_value Both left right = truth (not (left == 0) && not (right == 0))
two_value Either left right = truth (not (left == 0) || not (right == 0))

abbrev pub op_value : Op → (ℕ → ℕ) → ℕ
op_value (Constant bits) at = bits
op_value (One op part) at = one_value op (at part)
op_value (Two op left right) at = two_value op (at left) (at right)
op_value (Beside left right places) at = (at left * 2 ^ places % 2 ^ 128 + at right) % 2 ^ 128
op_value (Choose test chosen other) at = if at test == 0 then at other else at chosen
op_value (Next register) at =
    if at register.reset == 1 then register.first
    else (if at register.test == 0 then at register.kept else at register.value)

-- whether an operation shifts by less than a word
abbrev pub shifts_within : OneOp → Type 0
shifts_within (Extended half fill) = ⊤
shifts_within (Select low mask) = low < 128
shifts_within (Negate mask) = ⊤
shifts_within (Invert mask) = ⊤
shifts_within IsZero = ⊤
shifts_within (Up places mask) = places < 128
shifts_within (SignedDown places half mask) = places < 128

-- whether an operation reads only places below a bound, and shifts by less than a word
abbrev pub reads_below : Op → ℕ → Type 0
reads_below (Constant bits) end = ⊤
reads_below (One op part) end = (part < end) × shifts_within op
reads_below (Two op left right) end = (left < end) × (right < end)
reads_below (Beside left right places) end = (left < end) × (right < end) × (places < 128)
reads_below (Choose test chosen other) end = (test < end) × (chosen < end) × (other < end)
reads_below (Next register) end =
    (register.reset < end) × (register.test < end) × (register.value < end) × (register.kept < end)

-- each operation reads what stands before its own place
pub record IsOrdered (base : ℕ) (ops : List Op) : Type 0 where
  pub at : (k : ℕ) (d : Op) → k < length ops → reads_below (slice_index_or ops k d) (base + k)

-- each operation's place has its value
pub record IsSettled (base : ℕ) (ops : List Op) (values : ℕ → ℕ) : Type 0 where
  pub at : (k : ℕ) (d : Op) → k < length ops
      → values (base + k) ≡ op_value (slice_index_or ops k d) values

-- the first so many places of operations have their values
pub record AreSettled (base count : ℕ) (ops : List Op) (values : List ℕ) : Type 0 where
  pub at : (k : ℕ) (d : Op) → k < count
      → slice_index values (base + k)
      ≡ op_value (slice_index_or ops k d) (λ i. slice_index values i)
