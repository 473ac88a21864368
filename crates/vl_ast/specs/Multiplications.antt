-- The multiplications of a module: the `*` of its expressions in the order of the text, each with
-- its operands and the context in which they stand (own).
use Rattle.std.specs.Prelude.{ℕ, max, Bool, List, [], ◌∷◌, ◌++◌, flat_map, Option, Some, None}
use Rattle.vl_ast.specs.declared.expressions.BinOp.{BinOp}
use Rattle.vl_ast.specs.declared.expressions.BinOp.TheVariants.{Add, Subtract, Multiply, And, Or, Xor, Equal, NotEqual, Less, LessEqual, Greater, GreaterEqual, Both, Either}
use Rattle.vl_ast.specs.declared.expressions.Expr.{Expr}
use Rattle.vl_ast.specs.declared.expressions.Expr.TheOpen.{Expr-F}
use Rattle.vl_ast.specs.declared.expressions.Expr.TheFolds.{para-Expr}
use Rattle.vl_ast.specs.declared.modules.ModItem.{ModItem}
use Rattle.vl_ast.specs.declared.modules.ModItem.TheVariants.{Wire, Reg, Assign, Always}
use Rattle.vl_ast.specs.declared.modules.Module.{Module}
use Rattle.vl_ast.specs.Context.{Net, Operand, own_length, is_signed, in_context}
use Rattle.vl_ast.specs.Nets.{nets_of}

-- a multiplication: its operands and its context
pub record Multiplication : Type 0 where
  pub left : Expr
  pub right : Expr
  pub width : ℕ
  pub signed : Bool

-- the multiplication that an operator itself is
abbrev pub product_of : BinOp → Multiplication → List Multiplication
product_of Multiply product = product ∷ []
product_of Add product = []
product_of Subtract product = []
product_of And product = []
product_of Or product = []
product_of Xor product = []
product_of Equal product = []
product_of NotEqual product = []
product_of Less product = []
product_of LessEqual product = []
product_of Greater product = []
product_of GreaterEqual product = []
product_of Both product = []
product_of Either product = []

-- an operator's own multiplication, by the form
abbrev pub product_here : Expr-F (Operand (List Multiplication)) → ℕ → Bool → List Multiplication
product_here (Expr-F.Binary op left right) width signed =
    product_of op (record { left = left.0; right = right.0; width = width; signed = signed })
product_here (Expr-F.Name name) width signed = []
product_here (Expr-F.Bit name place) width signed = []
product_here (Expr-F.Part name high low) width signed = []
product_here (Expr-F.Literal number) width signed = []
product_here (Expr-F.Concat parts) width signed = []
product_here (Expr-F.Repeat count part) width signed = []
product_here (Expr-F.AsSigned part) width signed = []
product_here (Expr-F.AsUnsigned part) width signed = []
product_here (Expr-F.Unary op part) width signed = []
product_here (Expr-F.Shift op part amount) width signed = []
product_here (Expr-F.Choose test chosen other) width signed = []

-- those of the operands, with the operator's own at its place between them
abbrev pub in_text_order : List Multiplication → Expr-F (List Multiplication) → List Multiplication
in_text_order here (Expr-F.Name name) = []
in_text_order here (Expr-F.Bit name place) = []
in_text_order here (Expr-F.Part name high low) = []
in_text_order here (Expr-F.Literal number) = []
in_text_order here (Expr-F.Concat parts) = flat_map (λ part. part) parts
in_text_order here (Expr-F.Repeat count part) = part
in_text_order here (Expr-F.AsSigned part) = part
in_text_order here (Expr-F.AsUnsigned part) = part
in_text_order here (Expr-F.Unary op part) = part
in_text_order here (Expr-F.Binary op left right) = left ++ (here ++ right)
in_text_order here (Expr-F.Shift op part amount) = part
in_text_order here (Expr-F.Choose test chosen other) = test ++ (chosen ++ other)

-- `multiplications_in` by the form
abbrev pub multiplications_step : (List ℕ → Net) → Expr-F (Operand (List Multiplication)) → ℕ → Bool
    → List Multiplication
multiplications_step nets layer width signed =
    in_text_order (product_here layer width signed) (in_context nets width signed layer)

-- the multiplications of an expression in a context
abbrev pub multiplications_in : (List ℕ → Net) → ℕ → Bool → Expr → List Multiplication
multiplications_in nets width signed e =
    para-Expr (ℕ → Bool → List Multiplication) (multiplications_step nets) e width signed

-- those of the value that a name of this width is assigned
abbrev pub value_multiplications : (List ℕ → Net) → ℕ → Expr → List Multiplication
value_multiplications nets width value =
    multiplications_in nets (max width (own_length nets value)) (is_signed nets value) value

-- those of a condition
abbrev pub condition_multiplications : (List ℕ → Net) → Option Expr → List Multiplication
condition_multiplications nets None = []
condition_multiplications nets (Some condition) =
    multiplications_in nets (own_length nets condition) (is_signed nets condition) condition

-- those of an item
abbrev pub item_multiplications : (List ℕ → Net) → ModItem → List Multiplication
item_multiplications nets (Wire signed width name) = []
item_multiplications nets (Reg signed width name) = []
item_multiplications nets (Assign name value) = value_multiplications nets (nets name).width value
item_multiplications nets (Always name first condition value) =
    condition_multiplications nets condition ++ value_multiplications nets (nets name).width value

-- those of a module
abbrev pub multiplications : Module → List Multiplication
multiplications m = flat_map (item_multiplications (nets_of m)) m.items
