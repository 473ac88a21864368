-- The value of an expression in its context (IEEE 1364-2005, 5.1, 5.5.2 and 5.6), with two values a
-- bit. Bits are a number below 2 to their length.
use Rattle.std.specs.Prelude.{ℕ, ◌+◌, ◌-◌, ◌*◌, ◌/◌, ◌%◌, ◌^◌, ◌==◌, nat_le, max, Bool, not, ◌&&◌, ◌||◌, if◌then◌else◌, List, fold, replicate, bit_and, bit_or, bit_xor, ℤ, pos, negsuc, ◌-ℤ◌, int_lt}
use Rattle.std.specs.Int.{bit_at}
use Rattle.vl_ast.specs.declared.expressions.UnOp.{UnOp}
use Rattle.vl_ast.specs.declared.expressions.UnOp.TheVariants.{Negate, Invert, IsZero}
use Rattle.vl_ast.specs.declared.expressions.BinOp.{BinOp}
use Rattle.vl_ast.specs.declared.expressions.BinOp.TheVariants.{Add, Subtract, Multiply, And, Or, Xor, Equal, NotEqual, Less, LessEqual, Greater, GreaterEqual, Both, Either}
use Rattle.vl_ast.specs.declared.expressions.ShiftOp.{ShiftOp}
use Rattle.vl_ast.specs.declared.expressions.ShiftOp.TheVariants.{Left, Right, RightSigned}
use Rattle.vl_ast.specs.declared.expressions.Sized.{Sized}
use Rattle.vl_ast.specs.declared.expressions.Expr.{Expr}
use Rattle.vl_ast.specs.declared.expressions.Expr.TheOpen.{Expr-F}
use Rattle.vl_ast.specs.declared.expressions.Expr.TheFolds.{para-Expr}
use Rattle.vl_ast.specs.Context.{Net, Operand, own_length, is_signed, in_context}

-- bits with their length and sign
pub record Bits : Type 0 where
  pub width : ℕ
  pub signed : Bool
  pub bits : ℕ

-- whether the sign bit is read and set
abbrev pub is_negative : Bits → Bool
is_negative operand = operand.signed && nat_le (2 ^ (operand.width - 1)) operand.bits

-- the number, by two's complement where the bits are signed
abbrev pub number_of : Bits → ℤ
number_of operand =
    if is_negative operand then pos operand.bits -ℤ pos (2 ^ operand.width) else pos operand.bits

-- the bits of a number, by two's complement
abbrev pub bits_of : ℕ → ℤ → ℕ
bits_of width (pos n) = n % 2 ^ width
bits_of width (negsuc n) = 2 ^ width - 1 - n % 2 ^ width

-- in a longer context: the sign bit fills the left where the whole is signed, and else zeros do
abbrev pub extended : Bits → ℕ → ℕ
extended operand width =
    if is_negative operand then operand.bits + (2 ^ width - 2 ^ operand.width) else operand.bits

-- two operands side by side, the first on the left
abbrev pub beside : ℕ → Bits → ℕ
beside left right = left * 2 ^ right.width + right.bits

-- 1 where it holds, else 0
abbrev pub truth : Bool → ℕ
truth holds = if holds then 1 else 0

-- what a unary operator gives
abbrev pub unary_bits : UnOp → ℕ → Bits → ℕ
unary_bits Negate width part = (2 ^ width - part.bits) % 2 ^ width
unary_bits Invert width part = 2 ^ width - 1 - part.bits
unary_bits IsZero width part = truth (part.bits == 0)

-- what a binary operator gives
abbrev pub binary_bits : BinOp → ℕ → Bits → Bits → ℕ
binary_bits Add width left right = (left.bits + right.bits) % 2 ^ width
binary_bits Subtract width left right = (left.bits + (2 ^ width - right.bits)) % 2 ^ width
binary_bits Multiply width left right = left.bits * right.bits % 2 ^ width
binary_bits And width left right = bit_and left.bits right.bits
binary_bits Or width left right = bit_or left.bits right.bits
binary_bits Xor width left right = bit_xor left.bits right.bits
binary_bits Equal width left right = truth (left.bits == right.bits)
binary_bits NotEqual width left right = truth (not (left.bits == right.bits))
binary_bits Less width left right = truth (int_lt (number_of left) (number_of right))
binary_bits LessEqual width left right = truth (not (int_lt (number_of right) (number_of left)))
binary_bits Greater width left right = truth (int_lt (number_of right) (number_of left))
binary_bits GreaterEqual width left right = truth (not (int_lt (number_of left) (number_of right)))
binary_bits Both width left right = truth (not (left.bits == 0) && not (right.bits == 0))
binary_bits Either width left right = truth (not (left.bits == 0) || not (right.bits == 0))

-- a shift by so many places; from the left come zeros, or the sign bit
abbrev pub shift_bits : ShiftOp → Bits → ℕ → ℕ
shift_bits Left part places = part.bits * 2 ^ places % 2 ^ part.width
shift_bits Right part places = part.bits / 2 ^ places
shift_bits RightSigned part places =
    if is_negative part then 2 ^ part.width - 1 - (2 ^ part.width - 1 - part.bits) / 2 ^ places
    else part.bits / 2 ^ places

-- an expression in a context of this length and sign, where its operands have their values already
abbrev pub bits_step : (List ℕ → Net) → (List ℕ → ℕ) → ℕ → Bool → Expr-F Bits → ℕ
bits_step nets row width signed (Expr-F.Name name) =
    extended (record { width = (nets name).width; signed = signed; bits = row name }) width
bits_step nets row width signed (Expr-F.Bit name place) = bit_at (row name) place
bits_step nets row width signed (Expr-F.Part name high low) =
    row name / 2 ^ low % 2 ^ (high + 1 - low)
bits_step nets row width signed (Expr-F.Literal number) =
    extended (record { width = number.width; signed = signed; bits = number.bits }) width
bits_step nets row width signed (Expr-F.Concat parts) = fold beside 0 parts
bits_step nets row width signed (Expr-F.Repeat count part) = fold beside 0 (replicate count part)
bits_step nets row width signed (Expr-F.AsSigned part) =
    extended (record { width = part.width; signed = signed; bits = part.bits }) width
bits_step nets row width signed (Expr-F.AsUnsigned part) = part.bits
bits_step nets row width signed (Expr-F.Unary op part) = unary_bits op width part
bits_step nets row width signed (Expr-F.Binary op left right) = binary_bits op width left right
bits_step nets row width signed (Expr-F.Shift op part amount) = shift_bits op part amount.bits
bits_step nets row width signed (Expr-F.Choose test chosen other) =
    if test.bits == 0 then other.bits else chosen.bits

-- the bits of an expression in each context, by its form
abbrev pub meaning_step : (List ℕ → Net) → (List ℕ → ℕ) → Expr-F (Operand Bits) → ℕ → Bool → Bits
meaning_step nets row layer width signed =
    record {
      width = width;
      signed = signed;
      bits = bits_step nets row width signed (in_context nets width signed layer);
    }

-- an expression's bits in a context, where the row gives each name its bits
abbrev pub value_in : (List ℕ → Net) → (List ℕ → ℕ) → ℕ → Bool → Expr → ℕ
value_in nets row width signed e =
    (para-Expr (ℕ → Bool → Bits) (meaning_step nets row) e width signed).bits

-- the same with the context's length and sign
abbrev pub bits_in : (List ℕ → Net) → (List ℕ → ℕ) → ℕ → Bool → Expr → Bits
bits_in nets row width signed e =
    record { width = width; signed = signed; bits = value_in nets row width signed e }

-- an operand with its bits in each context
abbrev pub operand_of : (List ℕ → Net) → (List ℕ → ℕ) → Expr → Operand Bits
operand_of nets row e = (e, λ width signed. bits_in nets row width signed e)

-- what an assignment gives a left side of this width, which has no say in the sign
abbrev pub assigned : (List ℕ → Net) → (List ℕ → ℕ) → ℕ → Expr → ℕ
assigned nets row width e =
    value_in nets row (max width (own_length nets e)) (is_signed nets e) e % 2 ^ width

-- whether a condition is true: its value, which stands alone, isn't 0
abbrev pub is_true : (List ℕ → Net) → (List ℕ → ℕ) → Expr → Bool
is_true nets row e = not (value_in nets row (own_length nets e) (is_signed nets e) e == 0)

-- what the assignment of a number gives a left side of this width
abbrev pub assigned_number : ℕ → Sized → ℕ
assigned_number width number =
    extended (record { width = number.width; signed = number.signed; bits = number.bits })
    (max width number.width)
    % 2 ^ width
