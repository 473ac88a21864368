-- The length and the sign of a sound expression.
use Rattle.std.specs.Prelude.{ℕ, ◌+◌, ◌-◌, max, nat_le, nat_lt, Bool, false, ◌&&◌, if◌then◌else◌, List, Option, Some, None}
use Rattle.vl_ast.specs.declared.expressions.UnOp.{UnOp}
use Rattle.vl_ast.specs.declared.expressions.BinOp.{BinOp}
use Rattle.vl_ast.specs.declared.expressions.Sized.{Sized}
use Rattle.vl_ast.specs.declared.expressions.Expr.{Expr}
use Rattle.vl_ast.specs.Context.{Net, own_length, is_signed, length_at, sign_at, unary_place, binary_place}
use Rattle.vl_ast.specs.Conditions.{is_number, is_sound}
use Rattle.vl_check.specs.declared.shapes.Shape.{Shape}

abbrev pub shape_of : ℕ → Bool → Shape
shape_of length signed = record { length = length; signed = signed }

abbrev pub net_of : Shape → Net
net_of shape = record { width = shape.length; signed = shape.signed }

-- the length and the sign of an expression, where it is sound
abbrev pub shape_in : (List ℕ → Net) → Expr → Option Shape
shape_in nets e =
    if is_sound nets e then Some (shape_of (own_length nets e) (is_signed nets e)) else None

abbrev pub narrow : ℕ → Bool → Option Shape
narrow length signed = if nat_le length 128 then Some (shape_of length signed) else None

abbrev pub unary_shape : UnOp → Shape → Shape
unary_shape op part =
    shape_of (length_at (unary_place op) part.length) (sign_at (unary_place op) part.signed)

abbrev pub binary_shape : BinOp → Shape → Shape → Shape
binary_shape op left right =
    shape_of (length_at (binary_place op) (max left.length right.length))
    (sign_at (binary_place op) (left.signed && right.signed))

abbrev pub bit_shape : Net → ℕ → Option Shape
bit_shape net place =
    if nat_lt 1 net.width && nat_lt place net.width then Some (shape_of 1 false) else None

abbrev pub part_shape : Net → ℕ → ℕ → Option Shape
part_shape net high low =
    if nat_lt 1 net.width && nat_le low high && nat_lt high net.width
    then narrow (high + 1 - low) false else None

abbrev pub literal_shape : Sized → Option Shape
literal_shape number = if is_number number then Some (shape_of number.width number.signed) else None

abbrev pub with_both : (Shape → Shape → Shape) → Option Shape → Option Shape → Option Shape
with_both f None right = None
with_both f (Some l) None = None
with_both f (Some l) (Some r) = Some (f l r)

abbrev pub choice_shape : Option Shape → Option Shape → Option Shape → Option Shape
choice_shape None chosen other = None
choice_shape (Some test) chosen other =
    with_both (λ c o. shape_of (max c.length o.length) (c.signed && o.signed)) chosen other
