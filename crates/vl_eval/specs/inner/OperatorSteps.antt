-- The operation of each operator, over the places of its operands. `mask` has the bits of the
-- context, and `half` is the weight of the sign bit of the operands' context where they are signed.
use Rattle.std.specs.Prelude.{ℕ, ◌-◌, ◌^◌, min, nat_lt, Bool, if◌then◌else◌}
use Rattle.vl_ast.specs.declared.expressions.UnOp.{UnOp}
use Rattle.vl_ast.specs.declared.expressions.UnOp.TheVariants.{Negate as NegateOf, Invert as InvertOf, IsZero as IsZeroOf}
use Rattle.vl_ast.specs.declared.expressions.BinOp.{BinOp}
use Rattle.vl_ast.specs.declared.expressions.BinOp.TheVariants.{Add as AddOf, Subtract as SubtractOf, Multiply as MultiplyOf, And as AndOf, Or as OrOf, Xor as XorOf, Equal as EqualOf, NotEqual as NotEqualOf, Less as LessOf, LessEqual as LessEqualOf, Greater as GreaterOf, GreaterEqual as GreaterEqualOf, Both as BothOf, Either as EitherOf}
use Rattle.vl_ast.specs.declared.expressions.ShiftOp.{ShiftOp}
use Rattle.vl_ast.specs.declared.expressions.ShiftOp.TheVariants.{Left, Right, RightSigned}
use Rattle.vl_eval.specs.declared.ops.Op.{Op}
use Rattle.vl_eval.specs.declared.ops.Op.TheVariants.{Constant, One, Two}
use Rattle.vl_eval.specs.declared.ops.OneOp.TheVariants.{Negate, Invert, IsZero, Select, Up, SignedDown}
use Rattle.vl_eval.specs.declared.ops.TwoOp.TheVariants.{Add, Subtract, Multiply, And, Or, Xor, Equal, NotEqual, Less, LessEqual, Both, Either}

abbrev pub unary_op : UnOp → ℕ → ℕ → Op
unary_op NegateOf part mask = One (Negate mask) part
unary_op InvertOf part mask = One (Invert mask) part
unary_op IsZeroOf part mask = One IsZero part

abbrev pub binary_op : BinOp → ℕ → ℕ → ℕ → ℕ → Op
binary_op AddOf left right mask half = Two (Add mask) left right
binary_op SubtractOf left right mask half = Two (Subtract mask) left right
binary_op MultiplyOf left right mask half = Two (Multiply mask) left right
binary_op AndOf left right mask half = Two And left right
binary_op OrOf left right mask half = Two Or left right
binary_op XorOf left right mask half = Two Xor left right
binary_op EqualOf left right mask half = Two Equal left right
binary_op NotEqualOf left right mask half = Two NotEqual left right
binary_op LessOf left right mask half = Two (Less half) left right
binary_op LessEqualOf left right mask half = Two (LessEqual half) left right
binary_op GreaterOf left right mask half = Two (Less half) right left
binary_op GreaterEqualOf left right mask half = Two (LessEqual half) right left
binary_op BothOf left right mask half = Two Both left right
binary_op EitherOf left right mask half = Two Either left right

abbrev pub down : ℕ → ℕ → ℕ → Op
down part amount width =
    if nat_lt amount width then One (Select amount (2 ^ width - 1)) part else Constant 0

abbrev pub shift_op : ShiftOp → ℕ → ℕ → ℕ → Bool → Op
shift_op Left part amount width signed =
    if nat_lt amount width then One (Up amount (2 ^ width - 1)) part else Constant 0
shift_op Right part amount width signed = down part amount width
shift_op RightSigned part amount width signed =
    if signed then One (SignedDown (min amount (width - 1)) (2 ^ (width - 1)) (2 ^ width - 1)) part
    else down part amount width
