-- Values of expressions, worked out by hand after IEEE 1364-2005, 5.1, 5.4 and 5.5. Crates above may
-- cite the lemmas on one layer, whose names end in `-roll`.
use Rattle.std.specs.Prelude.{◌≡◌, ℕ, Bool, true, false, List, [], ◌∷◌, codes, bytes_eq}
use Rattle.std.proofs.Common.{ap}
use Rattle.vl_ast.specs.declared.expressions.UnOp.{UnOp}
use Rattle.vl_ast.specs.declared.expressions.UnOp.TheVariants.{Negate, Invert, IsZero}
use Rattle.vl_ast.specs.declared.expressions.BinOp.{BinOp}
use Rattle.vl_ast.specs.declared.expressions.BinOp.TheVariants.{Add, Subtract, Multiply, And, Or, Xor, Equal, NotEqual, Less, LessEqual, Greater, GreaterEqual, Both, Either}
use Rattle.vl_ast.specs.declared.expressions.ShiftOp.{ShiftOp}
use Rattle.vl_ast.specs.declared.expressions.ShiftOp.TheVariants.{Left, Right, RightSigned}
use Rattle.vl_ast.specs.declared.expressions.Expr.{Expr}
use Rattle.vl_ast.specs.declared.expressions.Expr.TheOpen.{Expr-F}
use Rattle.vl_ast.specs.declared.expressions.Expr.TheViews.{roll-Expr}
use Rattle.vl_ast.specs.declared.expressions.Expr.TheFolds.{map-Expr, para-Expr, para-roll-Expr, fold-roll-Expr}
use Rattle.vl_ast.specs.Context.{Net, Operand, own_length, length_step, is_signed, sign_step}
use Rattle.vl_ast.specs.Value.{Bits, meaning_step, value_in, assigned}

pub meaning-roll : (nets : List ℕ → Net) (row : List ℕ → ℕ) (x : Expr-F Expr) (width : ℕ) (signed : Bool) →
    para-Expr (ℕ → Bool → Bits) (meaning_step nets row) (roll-Expr x) width signed
    ≡ meaning_step nets row (map-Expr Expr (Operand Bits) (λ e. (e, para-Expr (ℕ → Bool → Bits) (meaning_step nets row) e)) x) width signed
meaning-roll nets row x width signed = ap (λ (f : ℕ → Bool → Bits). f width signed) (para-roll-Expr (ℕ → Bool → Bits) (meaning_step nets row) x)

pub value_in-roll : (nets : List ℕ → Net) (row : List ℕ → ℕ) (width : ℕ) (signed : Bool) (x : Expr-F Expr) →
    value_in nets row width signed (roll-Expr x)
    ≡ (meaning_step nets row (map-Expr Expr (Operand Bits) (λ e. (e, para-Expr (ℕ → Bool → Bits) (meaning_step nets row) e)) x) width signed).bits
value_in-roll nets row width signed x = ap (λ (b : Bits). b.bits) (meaning-roll nets row x width signed)

pub own_length-roll : (nets : List ℕ → Net) (x : Expr-F Expr) → own_length nets (roll-Expr x) ≡ length_step nets (map-Expr Expr ℕ (own_length nets) x)
own_length-roll nets x = fold-roll-Expr ℕ (length_step nets) x

pub is_signed-roll : (nets : List ℕ → Net) (x : Expr-F Expr) → is_signed nets (roll-Expr x) ≡ sign_step nets (map-Expr Expr Bool (is_signed nets) x)
is_signed-roll nets x = fold-roll-Expr Bool (sign_step nets) x

-- four bits of 9: the name `s` is signed, and so -7; each other is not
abbrev nets : List ℕ → Net
nets name = record { width = 4; signed = bytes_eq name (codes "s") }

abbrev row : List ℕ → ℕ
row name = 9

abbrev s : Expr
s = roll-Expr (Expr-F.Name (codes "s"))

abbrev u : Expr
u = roll-Expr (Expr-F.Name (codes "u"))

-- an unsigned and a signed number
abbrev num : ℕ → ℕ → Expr
num width bits = roll-Expr (Expr-F.Literal (record { width = width; signed = false; bits = bits }))

abbrev snum : ℕ → ℕ → Expr
snum width bits = roll-Expr (Expr-F.Literal (record { width = width; signed = true; bits = bits }))

abbrev un : UnOp → Expr → Expr
un op a = roll-Expr (Expr-F.Unary op a)

abbrev bin : Expr → BinOp → Expr → Expr
bin a op b = roll-Expr (Expr-F.Binary op a b)

abbrev shift : Expr → ShiftOp → ℕ → Expr
shift a op places = roll-Expr (Expr-F.Shift op a (record { width = 4; signed = true; bits = places }))

abbrev cat : List Expr → Expr
cat parts = roll-Expr (Expr-F.Concat parts)

abbrev rep : ℕ → Expr → Expr
rep count part = roll-Expr (Expr-F.Repeat count part)

abbrev as_s : Expr → Expr
as_s a = roll-Expr (Expr-F.AsSigned a)

abbrev as_u : Expr → Expr
as_u a = roll-Expr (Expr-F.AsUnsigned a)

abbrev pick : Expr → Expr → Expr → Expr
pick test chosen other = roll-Expr (Expr-F.Choose test chosen other)

-- what an assignment of the expression gives so many bits
abbrev to : ℕ → Expr → ℕ
to width e = assigned nets row width e

-- sums: the carry is kept in a wider context, signs are kept only where both are signed
sums :
    to 4 (bin u Add u) ∷ to 8 (bin u Add u) ∷ to 8 (bin s Add s) ∷ to 8 (bin s Add u) ∷ to 8 (bin s Add (snum 8 1)) ∷ to 8 (bin s Add (num 8 1))
    ∷ to 8 (bin u Subtract (num 4 10)) ∷ to 4 (bin u Subtract (num 4 10)) ∷ to 8 (bin s Subtract (snum 4 1)) ∷ []
    ≡ 2 ∷ 18 ∷ 242 ∷ 18 ∷ 250 ∷ 10 ∷ 255 ∷ 15 ∷ 248 ∷ []
sums = simp (value_in-roll, meaning-roll, own_length-roll, is_signed-roll)

-- products, in the length of the context and not of the operands
products :
    to 4 (bin u Multiply u) ∷ to 8 (bin u Multiply u) ∷ to 8 (bin s Multiply s) ∷ to 8 (bin s Multiply u) ∷ to 8 (bin s Multiply (snum 4 3)) ∷ []
    ≡ 1 ∷ 81 ∷ 49 ∷ 81 ∷ 235 ∷ []
products = simp (value_in-roll, meaning-roll, own_length-roll, is_signed-roll)

-- bit by bit, and before an operand
bitwise :
    to 4 (bin u And (num 4 12)) ∷ to 8 (bin s And (snum 8 252)) ∷ to 8 (bin s Or (num 8 16)) ∷ to 8 (bin s Xor s) ∷ to 8 (un Negate u) ∷ to 8 (un Negate s)
    ∷ to 8 (un Invert u) ∷ to 8 (un Invert s) ∷ to 4 (un Invert u) ∷ to 8 (un IsZero u) ∷ to 8 (un IsZero (num 4 0)) ∷ to 8 (un Invert (un IsZero u)) ∷ []
    ≡ 8 ∷ 248 ∷ 25 ∷ 0 ∷ 247 ∷ 7 ∷ 246 ∷ 6 ∷ 6 ∷ 0 ∷ 1 ∷ 255 ∷ []
bitwise = simp (value_in-roll, meaning-roll, own_length-roll, is_signed-roll)

-- comparisons: by signed numbers only where both are signed; inside a sum they are one bit
comparisons :
    to 1 (bin s Less (snum 4 1)) ∷ to 1 (bin s Less (num 4 1)) ∷ to 1 (bin s Less (snum 8 249)) ∷ to 1 (bin s LessEqual (snum 8 249)) ∷ to 1 (bin s Equal (snum 8 249))
    ∷ to 1 (bin s Equal (num 8 9)) ∷ to 1 (bin u NotEqual s) ∷ to 1 (bin s Greater (snum 4 8)) ∷ to 1 (bin u GreaterEqual (num 8 10))
    ∷ to 8 (bin (bin u Less (num 4 10)) Add u) ∷ to 1 (bin (bin u Add u) Equal (num 8 18)) ∷ to 1 (bin (bin u Add u) Equal (num 4 2)) ∷ []
    ≡ 1 ∷ 0 ∷ 0 ∷ 1 ∷ 1 ∷ 1 ∷ 0 ∷ 1 ∷ 0 ∷ 10 ∷ 1 ∷ 1 ∷ []
comparisons = simp (value_in-roll, meaning-roll, own_length-roll, is_signed-roll)

-- shifts: the amount is its bits, and has no say in the length or the sign
shifts :
    to 8 (shift u Left 2) ∷ to 4 (shift u Left 2) ∷ to 8 (shift s Left 1) ∷ to 8 (shift s Right 1) ∷ to 8 (shift s RightSigned 1) ∷ to 8 (shift u RightSigned 1)
    ∷ to 4 (shift s RightSigned 9) ∷ to 8 (bin (shift s RightSigned 1) Add u) ∷ []
    ≡ 36 ∷ 4 ∷ 242 ∷ 124 ∷ 252 ∷ 4 ∷ 15 ∷ 13 ∷ []
shifts = simp (value_in-roll, meaning-roll, own_length-roll, is_signed-roll)

-- parts that stand alone: selects, concatenations, repetitions, casts, conditions
parts :
    to 8 (roll-Expr (Expr-F.Bit (codes "s") 3)) ∷ to 8 (roll-Expr (Expr-F.Part (codes "s") 3 1)) ∷ to 8 (cat (s ∷ num 2 1 ∷ [])) ∷ to 8 (cat (bin u Add u ∷ num 4 1 ∷ []))
    ∷ to 8 (rep 2 (num 2 2)) ∷ to 8 (as_s u) ∷ to 8 (as_u s) ∷ to 8 (as_s (bin u Add u)) ∷ to 8 (bin (as_s u) Add s) ∷ to 8 (bin (cat (s ∷ [])) Add s)
    ∷ to 8 (pick (bin u Subtract u) s (snum 4 15)) ∷ to 8 (pick u s (num 8 0)) ∷ to 8 (pick u s (snum 8 0)) ∷ to 1 (bin u Both (num 4 0)) ∷ to 1 (bin (num 4 0) Either s) ∷ []
    ≡ 1 ∷ 4 ∷ 37 ∷ 33 ∷ 10 ∷ 249 ∷ 9 ∷ 2 ∷ 242 ∷ 18 ∷ 255 ∷ 9 ∷ 249 ∷ 0 ∷ 1 ∷ []
parts = simp (value_in-roll, meaning-roll, own_length-roll, is_signed-roll)
