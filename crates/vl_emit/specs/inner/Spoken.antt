-- What the code's operands stand for.
use Rattle.std.specs.Prelude.{ℕ, zero, suc, Bool, ◌≤◌, ◌<◌, List}
use Rattle.math_num.specs.Word.{IsWord}
use Rattle.vl_ast.specs.declared.expressions.BinOp.{BinOp}
use Rattle.vl_ast.specs.declared.expressions.Expr.{Expr}
use Rattle.vl_ast.specs.declared.expressions.Expr.TheVariants.{Binary}
use Rattle.vl_ast.specs.declared.expressions.Expr.TheVariants as expression
use Rattle.hw_net.specs.declared.netlist.NetOp.{NetOp}
use Rattle.hw_net.specs.declared.netlist.NetOp.TheVariants.{Input, Const, Resize, ShiftUp}
use Rattle.hw_net.specs.declared.netlist.NetOp.TheVariants.{ShiftDown, Add, Subtract, Negate}
use Rattle.hw_net.specs.declared.netlist.NetOp.TheVariants.{Multiply, And, Or, Xor, Not, Less}
use Rattle.hw_net.specs.declared.netlist.NetOp.TheVariants.{Equal, Choose, Slice}
use Rattle.vl_emit.specs.declared.operands.Called.{Called}
use Rattle.vl_emit.specs.declared.operands.Called.TheVariants.{Number, Named}
use Rattle.vl_emit.specs.declared.operands.Operand.{Operand}
use Rattle.vl_emit.specs.Names.{net_name}
use Rattle.vl_emit.specs.inner.Operators.{expression_of, product, test_of}
use Rattle.vl_emit.specs.inner.Pieces.{at_width}
use Rattle.vl_emit.specs.Names.{Wire}

-- the name that is meant
abbrev pub called_text : Called → List ℕ
called_text (Number number) = net_name number
called_text (Named name) = name.now

abbrev pub wire_at : Operand → Wire
wire_at operand =
    record { name = called_text operand.called; width = operand.width; signed = operand.signed }

-- three arguments by their numbers
abbrev pub triple : Wire → Wire → Wire → ℕ → Wire
triple first second third zero = first
triple first second third (suc zero) = second
triple first second third (suc (suc more)) = third

abbrev pub HasRoom : ℕ → Type 0
HasRoom width = (1 ≤ width) × (width ≤ 128)

-- the net has the width of a word
abbrev pub CanBeWritten : Operand → Type 0
CanBeWritten operand = IsWord operand.width operand.signed

-- a net of a word is written at a width
pub record CanBeAt (operand : Operand) (width : ℕ) : Type 0 where
  pub word : CanBeWritten operand
  pub room : HasRoom width

-- so are two
pub record CanBothBeAt (one other : Operand) (width : ℕ) : Type 0 where
  pub left : CanBeWritten one
  pub right : CanBeWritten other
  pub room : HasRoom width

-- a slice lies within a net of this width
abbrev pub IsWithin : NetOp → ℕ → Type 0
IsWithin (Input port) width = Unit
IsWithin (Const number) width = Unit
IsWithin Resize width = Unit
IsWithin (ShiftUp places) width = Unit
IsWithin (ShiftDown places) width = Unit
IsWithin Add width = Unit
IsWithin Subtract width = Unit
IsWithin Negate width = Unit
IsWithin Multiply width = Unit
IsWithin And width = Unit
IsWithin Or width = Unit
IsWithin Xor width = Unit
IsWithin Not width = Unit
IsWithin Less width = Unit
IsWithin Equal width = Unit
IsWithin Choose width = Unit
IsWithin (Slice high low) width = (low ≤ high) × (high < width)

-- an operation and its operands, each at the width of its result
pub record CanBeExpressed (op : NetOp) (shown one two three : Operand) (width : ℕ) (signed : Bool)
    : Type 0 where
  pub port : CanBeAt shown width
  pub first : CanBeAt one width
  pub both : CanBothBeAt one two width
  pub others : CanBothBeAt two three width
  pub word : IsWord width signed
  pub bounds : IsWithin op one.width

-- operators over operands that are written at a width
abbrev pub both_at : BinOp → ℕ → Operand → Operand → Expr
both_at op width left right =
    Binary op (at_width width (wire_at left)) (at_width width (wire_at right))

abbrev pub product_at : ℕ → Operand → Operand → Expr
product_at width left right = product width (wire_at left) (wire_at right)

abbrev pub comparison_at : NetOp → ℕ → Operand → Operand → Expr
comparison_at op width left right =
    expression_of op (λ port. wire_at left) (triple (wire_at left) (wire_at right) (wire_at right))
    width

abbrev pub choice_at : ℕ → Operand → Operand → Operand → Expr
choice_at width test chosen other =
    expression.Choose (test_of (wire_at test)) (at_width width (wire_at chosen))
    (at_width width (wire_at other))

abbrev pub operation_at : NetOp → ℕ → Operand → Operand → Operand → Operand → Expr
operation_at op width port first second third =
    expression_of op (λ place. wire_at port) (triple (wire_at first) (wire_at second)
    (wire_at third)) width
