-- The context of each operand, as a length and a sign.
use Rattle.std.specs.Prelude.{ℕ, ◌-◌, ◌^◌, max, Bool, ◌&&◌, if◌then◌else◌, List}
use Rattle.vl_ast.specs.declared.expressions.UnOp.{UnOp}
use Rattle.vl_ast.specs.declared.expressions.BinOp.{BinOp}
use Rattle.vl_ast.specs.declared.expressions.Expr.{Expr}
use Rattle.vl_ast.specs.Context.{Net, Place, InWhole, Together, Alone, own_length, is_signed, unary_place, binary_place}
use Rattle.vl_check.specs.declared.shapes.Shape.{Shape}
use Rattle.vl_check.specs.Shape.{shape_of}

abbrev pub context_at : Place → Shape → Shape → Shape
context_at InWhole whole alone = whole
context_at Together whole alone = alone
context_at Alone whole alone = alone

abbrev pub unary_context : (List ℕ → Net) → UnOp → Expr → ℕ → Bool → Shape
unary_context nets op part width signed =
    context_at (unary_place op) (shape_of width signed)
    (shape_of (own_length nets part) (is_signed nets part))

-- of an operand of this length and sign beside another
abbrev pub context_of : Place → ℕ → Bool → ℕ → ℕ → Bool → Bool → Shape
context_of InWhole width signed length other sign sign' = shape_of width signed
context_of Together width signed length other sign sign' =
    shape_of (max length other) (sign && sign')
context_of Alone width signed length other sign sign' = shape_of length sign

abbrev pub left_context : (List ℕ → Net) → BinOp → Expr → Expr → ℕ → Bool → Shape
left_context nets op left right width signed =
    context_of (binary_place op) width signed (own_length nets left) (own_length nets right)
    (is_signed nets left) (is_signed nets right)

abbrev pub right_context : (List ℕ → Net) → BinOp → Expr → Expr → ℕ → Bool → Shape
right_context nets op left right width signed =
    context_of (binary_place op) width signed (own_length nets right) (own_length nets left)
    (is_signed nets right) (is_signed nets left)

-- the weight of the sign bit, or 0 in a context without sign
abbrev pub half_in : Shape → ℕ
half_in shape = if shape.signed then 2 ^ (shape.length - 1) else 0
