-- How an operation of the netlist is written as an expression. Each operand is written at the width
-- at which it is used. Where one operand of a comparison is signed and the other isn't, both are
-- written one bit longer than the unsigned one and are compared as signed. A factor of a product is
-- written with no more bits than its numbers need, and the product's context extends it.
use Rattle.std.specs.Prelude.{Bool, ℕ, ◌+◌, ◌-◌, ◌==◌, nat_le, nat_lt, max, min, true, false}
use Rattle.std.specs.Prelude.{if◌then◌else◌, [], ◌∷◌, ◌&&◌, ◌||◌}
use Rattle.vl_ast.specs.declared.expressions.UnOp.TheVariants as unary
use Rattle.vl_ast.specs.declared.expressions.BinOp.{BinOp}
use Rattle.vl_ast.specs.declared.expressions.BinOp.TheVariants as binary
use Rattle.vl_ast.specs.declared.expressions.ShiftOp.TheVariants.{Left}
use Rattle.vl_ast.specs.declared.expressions.Expr.{Expr}
use Rattle.vl_ast.specs.declared.expressions.Expr.TheVariants as expression
use Rattle.vl_ast.specs.Value.{bits_of}
use Rattle.hw_net.specs.declared.netlist.NetOp.{NetOp}
use Rattle.hw_net.specs.declared.netlist.NetOp.TheVariants.{Input, Const, Resize, ShiftUp}
use Rattle.hw_net.specs.declared.netlist.NetOp.TheVariants.{ShiftDown, Add, Subtract, Negate}
use Rattle.hw_net.specs.declared.netlist.NetOp.TheVariants.{Multiply, And, Or, Xor, Not, Less}
use Rattle.hw_net.specs.declared.netlist.NetOp.TheVariants.{Equal, Choose, Slice}
use Rattle.vl_emit.specs.Names.{Wire}
use Rattle.vl_emit.specs.inner.Pieces.{zeros, piece, at_width}

-- one bit at a width
abbrev pub widened : ℕ → Expr → Expr
widened width bit = if width == 1 then bit else expression.Concat (zeros (width - 1) ∷ bit ∷ [])

-- the width at which a net's numbers have a sign bit
abbrev pub signed_width : Wire → ℕ
signed_width wire = if wire.signed then wire.width else wire.width + 1

-- whether a comparison is of signed numbers
abbrev pub by_sign : Wire → Wire → Bool
by_sign left right = left.signed || right.signed

-- where two nets are compared: with a sign bit each where one of them is signed
abbrev pub common_width : Wire → Wire → ℕ
common_width left right =
    if by_sign left right then max (signed_width left)
    (signed_width right) else max left.width right.width

abbrev pub compared : Bool → Expr → Expr
compared signed e = if signed then expression.AsSigned e else e

-- whether a product is of signed numbers; where a net of one bit is a factor, it only lets the
-- other's bits through
abbrev pub product_signed : Wire → Wire → Bool
product_signed left right =
    by_sign left right && (nat_lt 1 left.width && nat_lt 1 right.width)

-- a factor of a product of this sign and width
abbrev pub factor : Bool → ℕ → Wire → Expr
factor true width wire =
    if wire.signed && nat_le wire.width width then expression.Name wire.name
    else expression.AsSigned (at_width (min (signed_width wire) width) wire)
factor false width wire =
    at_width (if wire.signed then width else min wire.width width) wire

abbrev pub product : ℕ → Wire → Wire → Expr
product width left right =
    expression.Binary binary.Multiply (factor (product_signed left right) width left)
    (factor (product_signed left right) width right)

-- one bit that tells whether a net isn't 0
abbrev pub test_of : Wire → Expr
test_of wire =
    if wire.width == 1 then expression.Name wire.name
    else expression.Binary binary.NotEqual (expression.Name wire.name) (zeros wire.width)

abbrev pub in_width : BinOp → ℕ → (ℕ → Wire) → Expr
in_width op width a = expression.Binary op (at_width width (a 0)) (at_width width (a 1))

-- a part of a net that is written without sign
abbrev pub slice_at : ℕ → Wire → ℕ → ℕ → Expr
slice_at width wire low count =
    if nat_le width count then piece wire low width
    else expression.Concat (zeros (width - count) ∷ piece wire low count ∷ [])

-- a shift of all places or more leaves zeros
abbrev pub shifted_up : Wire → ℕ → ℕ → Expr
shifted_up wire places width =
    if nat_lt places width then expression.Shift Left (at_width width wire)
    (record { width = 8; signed = false; bits = places })
    else zeros width

-- from the input ports, the nets of the arguments and the width of the result
abbrev pub expression_of : NetOp → (ℕ → Wire) → (ℕ → Wire) → ℕ → Expr
expression_of (Input port) ports a width = at_width width (ports port)
expression_of (Const number) ports a width =
    expression.Literal (record { width = width; signed = false; bits = bits_of width number })
expression_of Resize ports a width = at_width width (a 0)
expression_of (ShiftUp places) ports a width = shifted_up (a 0) places width
expression_of (ShiftDown places) ports a width = piece (a 0) places width
expression_of Add ports a width = in_width binary.Add width a
expression_of Subtract ports a width = in_width binary.Subtract width a
expression_of Negate ports a width = expression.Unary unary.Negate (at_width width (a 0))
expression_of Multiply ports a width = product width (a 0) (a 1)
expression_of And ports a width = in_width binary.And width a
expression_of Or ports a width = in_width binary.Or width a
expression_of Xor ports a width = in_width binary.Xor width a
expression_of Not ports a width = expression.Unary unary.Invert (at_width width (a 0))
expression_of Less ports a width =
    let common : ℕ = common_width (a 0) (a 1) in
    let signed : Bool = by_sign (a 0) (a 1) in
    widened width (expression.Binary binary.Less (compared signed (at_width common (a 0)))
    (compared signed (at_width common (a 1))))
expression_of Equal ports a width =
    widened width (in_width binary.Equal (common_width (a 0) (a 1)) a)
expression_of Choose ports a width =
    expression.Choose (test_of (a 0)) (at_width width (a 1)) (at_width width (a 2))
expression_of (Slice high low) ports a width = slice_at width (a 0) low (high + 1 - low)
