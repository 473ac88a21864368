-- The operators of expressions and how each is written (IEEE 1364-2005, 5.1).
use Rattle.std.specs.Prelude.{ℕ, List, [], ◌∷◌, find, bytes_eq, codes, Option}
use Rattle.vl_ast.specs.declared.expressions.UnOp.{UnOp}
use Rattle.vl_ast.specs.declared.expressions.UnOp.TheVariants.{Negate, Invert, IsZero}
use Rattle.vl_ast.specs.declared.expressions.BinOp.{BinOp}
use Rattle.vl_ast.specs.declared.expressions.BinOp.TheVariants.{Add, Subtract, Multiply, And, Or, Xor, Equal, NotEqual, Less, LessEqual, Greater, GreaterEqual, Both, Either}
use Rattle.vl_ast.specs.declared.expressions.ShiftOp.{ShiftOp}
use Rattle.vl_ast.specs.declared.expressions.ShiftOp.TheVariants.{Left, Right, RightSigned}

-- the sign of a unary operator
abbrev pub unary_text : UnOp → List ℕ
unary_text Negate = codes "-"
unary_text Invert = codes "~"
unary_text IsZero = codes "!"

-- the sign of a binary operator
abbrev pub binary_text : BinOp → List ℕ
binary_text Add = codes "+"
binary_text Subtract = codes "-"
binary_text Multiply = codes "*"
binary_text And = codes "&"
binary_text Or = codes "|"
binary_text Xor = codes "^"
binary_text Equal = codes "=="
binary_text NotEqual = codes "!="
binary_text Less = codes "<"
binary_text LessEqual = codes "<="
binary_text Greater = codes ">"
binary_text GreaterEqual = codes ">="
binary_text Both = codes "&&"
binary_text Either = codes "||"

-- the sign of a shift
abbrev pub shift_text : ShiftOp → List ℕ
shift_text Left = codes "<<"
shift_text Right = codes ">>"
shift_text RightSigned = codes ">>>"

-- every unary operator
abbrev pub unary_operators : List UnOp
unary_operators = Negate ∷ Invert ∷ IsZero ∷ []

-- every binary operator
abbrev pub binary_operators : List BinOp
binary_operators =
    Add ∷ Subtract ∷ Multiply ∷ And ∷ Or ∷ Xor ∷ Equal ∷ NotEqual ∷ Less ∷ LessEqual ∷ Greater
    ∷ GreaterEqual
    ∷ Both ∷ Either ∷ []

-- every shift
abbrev pub shift_operators : List ShiftOp
shift_operators = Left ∷ Right ∷ RightSigned ∷ []

-- the unary operator of a sign, if it has one
abbrev pub unary_of : List ℕ → Option UnOp
unary_of sign = find (λ op. bytes_eq sign (unary_text op)) unary_operators

-- the binary operator of a sign, if it has one
unfoldable pub infix_of : List ℕ → Option BinOp
infix_of sign = find (λ op. bytes_eq sign (binary_text op)) binary_operators

-- the shift of a sign, if it has one
abbrev pub shift_of : List ℕ → Option ShiftOp
shift_of sign = find (λ op. bytes_eq sign (shift_text op)) shift_operators
