-- The length and the sign of an expression, and the context in which each operand stands
-- (IEEE 1364-2005, 5.4.1 and 5.5.1). A context is a length and a sign.
use Rattle.std.specs.Prelude.{ℕ, ◌+◌, ◌-◌, ◌*◌, max, sum, Bool, true, false, ◌&&◌, List, map}
use Rattle.vl_ast.specs.declared.expressions.UnOp.{UnOp}
use Rattle.vl_ast.specs.declared.expressions.UnOp.TheVariants.{Negate, Invert, IsZero}
use Rattle.vl_ast.specs.declared.expressions.BinOp.{BinOp}
use Rattle.vl_ast.specs.declared.expressions.BinOp.TheVariants.{Add, Subtract, Multiply, And, Or, Xor, Equal, NotEqual, Less, LessEqual, Greater, GreaterEqual, Both, Either}
use Rattle.vl_ast.specs.declared.expressions.Expr.{Expr}
use Rattle.vl_ast.specs.declared.expressions.Expr.TheOpen.{Expr-F}
use Rattle.vl_ast.specs.declared.expressions.Expr.TheFolds.{fold-Expr}

-- what is declared of a name
pub record Net : Type 0 where
  pub width : ℕ
  pub signed : Bool

-- where the operands of an operator stand: in the context of the whole, in one of their own, or
-- alone
pub data Place : Type 0 where
  InWhole : Place
  Together : Place
  Alone : Place

-- where the operand of a unary operator stands
abbrev pub unary_place : UnOp → Place
unary_place Negate = InWhole
unary_place Invert = InWhole
unary_place IsZero = Alone

-- where the operands of a binary operator stand
abbrev pub binary_place : BinOp → Place
binary_place Add = InWhole
binary_place Subtract = InWhole
binary_place Multiply = InWhole
binary_place And = InWhole
binary_place Or = InWhole
binary_place Xor = InWhole
binary_place Equal = Together
binary_place NotEqual = Together
binary_place Less = Together
binary_place LessEqual = Together
binary_place Greater = Together
binary_place GreaterEqual = Together
binary_place Both = Alone
binary_place Either = Alone

-- an operator's own length: that of its operands in its context, and else one bit
abbrev pub length_at : Place → ℕ → ℕ
length_at InWhole operands = operands
length_at Together operands = 1
length_at Alone operands = 1

-- an operator's sign: that of its operands in its context, and else unsigned
abbrev pub sign_at : Place → Bool → Bool
sign_at InWhole operands = operands
sign_at Together operands = false
sign_at Alone operands = false

-- `own_length` by the form of an expression
abbrev pub length_step : (List ℕ → Net) → Expr-F ℕ → ℕ
length_step nets (Expr-F.Name name) = (nets name).width
length_step nets (Expr-F.Bit name place) = 1
length_step nets (Expr-F.Part name high low) = high + 1 - low
length_step nets (Expr-F.Literal number) = number.width
length_step nets (Expr-F.Concat parts) = sum parts
length_step nets (Expr-F.Repeat count part) = count * part
length_step nets (Expr-F.AsSigned part) = part
length_step nets (Expr-F.AsUnsigned part) = part
length_step nets (Expr-F.Unary op part) = length_at (unary_place op) part
length_step nets (Expr-F.Binary op left right) = length_at (binary_place op) (max left right)
length_step nets (Expr-F.Shift op part amount) = part
length_step nets (Expr-F.Choose test chosen other) = max chosen other

-- how many bits an expression has by itself
abbrev pub own_length : (List ℕ → Net) → Expr → ℕ
own_length nets = fold-Expr ℕ (length_step nets)

-- `is_signed` by the form of an expression
abbrev pub sign_step : (List ℕ → Net) → Expr-F Bool → Bool
sign_step nets (Expr-F.Name name) = (nets name).signed
sign_step nets (Expr-F.Bit name place) = false
sign_step nets (Expr-F.Part name high low) = false
sign_step nets (Expr-F.Literal number) = number.signed
sign_step nets (Expr-F.Concat parts) = false
sign_step nets (Expr-F.Repeat count part) = false
sign_step nets (Expr-F.AsSigned part) = true
sign_step nets (Expr-F.AsUnsigned part) = false
sign_step nets (Expr-F.Unary op part) = sign_at (unary_place op) part
sign_step nets (Expr-F.Binary op left right) = sign_at (binary_place op) (left && right)
sign_step nets (Expr-F.Shift op part amount) = part
sign_step nets (Expr-F.Choose test chosen other) = chosen && other

-- whether all operands that share an expression's context are signed
abbrev pub is_signed : (List ℕ → Net) → Expr → Bool
is_signed nets = fold-Expr Bool (sign_step nets)

-- an operand, and what it is in each context
abbrev pub Operand : Type 0 → Type 0
Operand A = Expr × (ℕ → Bool → A)

-- an operand in the context that it makes by itself
abbrev pub alone : {A : Type 0} → (List ℕ → Net) → Operand A → A
alone nets operand = operand.1 (own_length nets operand.0) (is_signed nets operand.0)

-- an operand in the context that it makes with another
abbrev pub together : {A : Type 0} → (List ℕ → Net) → Operand A → Operand A → A
together nets operand other =
    operand.1 (max (own_length nets operand.0) (own_length nets other.0))
    (is_signed nets operand.0 && is_signed nets other.0)

-- an operand in the context that its place gives it
abbrev pub operand_at : {A : Type 0} → (List ℕ → Net) → Place → ℕ → Bool → Operand A → Operand A → A
operand_at nets InWhole length signed operand other = operand.1 length signed
operand_at nets Together length signed operand other = together nets operand other
operand_at nets Alone length signed operand other = alone nets operand

-- each operand of an expression in its context, where the whole stands in this one
abbrev pub in_context : {A : Type 0} → (List ℕ → Net) → ℕ → Bool → Expr-F (Operand A) → Expr-F A
in_context nets length signed (Expr-F.Name name) = Expr-F.Name name
in_context nets length signed (Expr-F.Bit name place) = Expr-F.Bit name place
in_context nets length signed (Expr-F.Part name high low) = Expr-F.Part name high low
in_context nets length signed (Expr-F.Literal number) = Expr-F.Literal number
in_context nets length signed (Expr-F.Concat parts) = Expr-F.Concat (map (alone nets) parts)
in_context nets length signed (Expr-F.Repeat count part) = Expr-F.Repeat count (alone nets part)
in_context nets length signed (Expr-F.AsSigned part) = Expr-F.AsSigned (alone nets part)
in_context nets length signed (Expr-F.AsUnsigned part) = Expr-F.AsUnsigned (alone nets part)
in_context nets length signed (Expr-F.Unary op part) =
    Expr-F.Unary op (operand_at nets (unary_place op) length signed part part)
in_context nets length signed (Expr-F.Binary op left right) =
    Expr-F.Binary op (operand_at nets (binary_place op) length signed left right)
    (operand_at nets (binary_place op) length signed right left)
in_context nets length signed (Expr-F.Shift op part amount) =
    Expr-F.Shift op (part.1 length signed) amount
in_context nets length signed (Expr-F.Choose test chosen other) =
    Expr-F.Choose (alone nets test) (chosen.1 length signed) (other.1 length signed)
