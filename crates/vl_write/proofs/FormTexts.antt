-- What is put for each form of an expression is the text of the expression.
use Rattle.std.proofs.Common.{◌≡◌, ℕ, List, ◌++◌, map, codes, refl, sym, ap, ◌∙◌}
use Rattle.std.specs.Fmt.{decimal}
use Rattle.vl_ast.specs.declared.expressions.UnOp.{UnOp}
use Rattle.vl_ast.specs.declared.expressions.BinOp.{BinOp}
use Rattle.vl_ast.specs.declared.expressions.ShiftOp.{ShiftOp}
use Rattle.vl_ast.specs.declared.expressions.Sized.{Sized}
use Rattle.vl_ast.specs.declared.expressions.Expr.{Expr}
use Rattle.vl_ast.specs.declared.expressions.Expr.TheOpen.{Expr-F}
use Rattle.vl_ast.specs.declared.expressions.Expr.TheVariants.{Name, Bit, Part, Literal, Concat, Repeat, AsSigned, AsUnsigned, Unary, Binary, Shift, Choose}
use Rattle.vl_ast.specs.declared.expressions.Expr.TheVariants.{rolls-Name, rolls-Bit, rolls-Part, rolls-Literal, rolls-Concat, rolls-Repeat, rolls-AsSigned, rolls-AsUnsigned, rolls-Unary}
use Rattle.vl_ast.specs.declared.expressions.Expr.TheVariants.{rolls-Binary, rolls-Shift, rolls-Choose}
use Rattle.vl_ast.specs.declared.expressions.Expr.TheFolds.{fold-roll-Expr}
use Rattle.vl_ast.specs.Operators.{unary_text, binary_text, shift_text}
use Rattle.vl_ast.specs.Spelling.{joined, expr_step, expr_text, sized_text}
use Rattle.vl_write.specs.declared.parts.Writer.{Writer}
use Rattle.vl_write.specs.inner.Puts.{Puts}
use Rattle.vl_write.proofs.Puts.{binary-left, choose-left, left3, left5, puts-as, repeat-left}

of-form : {old new : Writer} {put text : List ℕ} (e made : Expr) → e ≡ made → expr_text made ≡ text → put ≡ text → Puts old new put → Puts old new (expr_text e)
of-form e made is same ends puts = puts-as (ends ∙ sym same ∙ ap expr_text (sym is)) puts

pub wrote-name : {old new : Writer} (name : List ℕ) (e : Expr) → e ≡ Name name → Puts old new name → Puts old new (expr_text e)
wrote-name name e is puts =
    of-form e (Name name) is (ap expr_text (sym (rolls-Name name)) ∙ fold-roll-Expr (List ℕ) expr_step (Expr-F.Name name))
    refl puts

pub wrote-bit : {old new : Writer} (name : List ℕ) (place : ℕ) (e : Expr) → e ≡ Bit name place → Puts old new (name ++ codes " [" ++ decimal place ++ codes "]") → Puts old new (expr_text e)
wrote-bit name place e is puts =
    of-form e (Bit name place) is (ap expr_text (sym (rolls-Bit name place)) ∙ fold-roll-Expr (List ℕ) expr_step (Expr-F.Bit name place))
    refl puts

pub wrote-part : {old new : Writer} (name : List ℕ) (high low : ℕ) (e : Expr) → e ≡ Part name high low
    → Puts old new (name ++ codes " [" ++ decimal high ++ codes ":" ++ decimal low ++ codes "]")
    → Puts old new (expr_text e)
wrote-part name high low e is puts =
    of-form e (Part name high low) is (ap expr_text (sym (rolls-Part name high low)) ∙ fold-roll-Expr (List ℕ) expr_step (Expr-F.Part name high low))
    refl puts

pub wrote-literal : {old new : Writer} (number : Sized) (e : Expr) → e ≡ Literal number → Puts old new (sized_text number) → Puts old new (expr_text e)
wrote-literal number e is puts =
    of-form e (Literal number) is (ap expr_text (sym (rolls-Literal number)) ∙ fold-roll-Expr (List ℕ) expr_step (Expr-F.Literal number))
    refl puts

pub wrote-concat : {old new : Writer} (parts : List Expr) (e : Expr) → e ≡ Concat parts
    → Puts old new
    (codes "{" ++ (joined (codes ", ") (map expr_text parts) ++ codes "}")) → Puts old new (expr_text e)
wrote-concat parts e is puts =
    of-form e (Concat parts) is (ap expr_text (sym (rolls-Concat parts)) ∙ fold-roll-Expr (List ℕ) expr_step (Expr-F.Concat parts))
    (left3 (codes "{") (joined (codes ", ") (map expr_text parts)) (codes "}")) puts

pub wrote-repeat : {old new : Writer} (count : ℕ) (part : Expr) (e : Expr) → e ≡ Repeat count part
    → Puts old new ((codes "{" ++ (decimal count ++ codes " {")) ++ (expr_text part ++ codes "}}"))
    → Puts old new (expr_text e)
wrote-repeat count part e is puts =
    of-form e (Repeat count part) is (ap expr_text (sym (rolls-Repeat count part)) ∙ fold-roll-Expr (List ℕ) expr_step (Expr-F.Repeat count part))
    (repeat-left (codes "{") (decimal count) (codes " {") (expr_text part) (codes "}}")) puts

pub wrote-signed : {old new : Writer} (part : Expr) (e : Expr) → e ≡ AsSigned part → Puts old new (codes "$signed (" ++ (expr_text part ++ codes ")")) → Puts old new (expr_text e)
wrote-signed part e is puts =
    of-form e (AsSigned part) is (ap expr_text (sym (rolls-AsSigned part)) ∙ fold-roll-Expr (List ℕ) expr_step (Expr-F.AsSigned part))
    (left3 (codes "$signed (") (expr_text part) (codes ")")) puts

pub wrote-unsigned : {old new : Writer} (part : Expr) (e : Expr) → e ≡ AsUnsigned part → Puts old new (codes "$unsigned (" ++ (expr_text part ++ codes ")")) → Puts old new (expr_text e)
wrote-unsigned part e is puts =
    of-form e (AsUnsigned part) is (ap expr_text (sym (rolls-AsUnsigned part)) ∙ fold-roll-Expr (List ℕ) expr_step (Expr-F.AsUnsigned part))
    (left3 (codes "$unsigned (") (expr_text part) (codes ")")) puts

pub wrote-unary : {old new : Writer} (op : UnOp) (word : List ℕ) (part : Expr) (e : Expr) → e ≡ Unary op part
    → word ≡ unary_text op → Puts old new (codes "(" ++ (word ++ (codes " " ++ (expr_text part ++ codes ")"))))
    → Puts old new (expr_text e)
wrote-unary op word part e is own puts =
    of-form e (Unary op part) is (ap expr_text (sym (rolls-Unary op part)) ∙ fold-roll-Expr (List ℕ) expr_step (Expr-F.Unary op part))
    (ap (λ xs. codes "(" ++ (xs ++ (codes " " ++ (expr_text part ++ codes ")")))) own ∙ left5 (codes "(") (unary_text op) (codes " ") (expr_text part) (codes ")")) puts

pub wrote-binary : {old new : Writer} (op : BinOp) (word : List ℕ) (left right : Expr) (e : Expr)
    → e ≡ Binary op left right → word ≡ binary_text op
    → Puts old new ((codes "(" ++ (expr_text left ++ codes " "))
    ++ (word ++ (codes " " ++ (expr_text right ++ codes ")")))) → Puts old new (expr_text e)
wrote-binary op word left right e is own puts =
    of-form e (Binary op left right) is (ap expr_text (sym (rolls-Binary op left right)) ∙ fold-roll-Expr (List ℕ) expr_step (Expr-F.Binary op left right))
    (ap (λ xs. (codes "(" ++ (expr_text left ++ codes " ")) ++ (xs ++ (codes " " ++ (expr_text right ++ codes ")")))) own
    ∙ binary-left (codes "(") (expr_text left) (codes " ") (binary_text op) (expr_text right) (codes ")")) puts

pub wrote-shift : {old new : Writer} (op : ShiftOp) (word : List ℕ) (part : Expr) (amount : Sized) (e : Expr)
    → e ≡ Shift op part amount → word ≡ shift_text op
    → Puts old new ((codes "(" ++ (expr_text part ++ codes " "))
    ++ (word ++ (codes " " ++ (sized_text amount ++ codes ")")))) → Puts old new (expr_text e)
wrote-shift op word part amount e is own puts =
    of-form e (Shift op part amount) is (ap expr_text (sym (rolls-Shift op part amount)) ∙ fold-roll-Expr (List ℕ) expr_step (Expr-F.Shift op part amount))
    (ap (λ xs. (codes "(" ++ (expr_text part ++ codes " ")) ++ (xs ++ (codes " " ++ (sized_text amount ++ codes ")")))) own
    ∙ binary-left (codes "(") (expr_text part) (codes " ") (shift_text op) (sized_text amount) (codes ")")) puts

pub wrote-choose : {old new : Writer} (test chosen other : Expr) (e : Expr) → e ≡ Choose test chosen other
    → Puts old new ((codes "(" ++ (expr_text test ++ codes " ? "))
    ++ ((expr_text chosen ++ codes " : ") ++ (expr_text other ++ codes ")"))) → Puts old new (expr_text e)
wrote-choose test chosen other e is puts =
    of-form e (Choose test chosen other) is (ap expr_text (sym (rolls-Choose test chosen other)) ∙ fold-roll-Expr (List ℕ) expr_step (Expr-F.Choose test chosen other))
    (choose-left (codes "(") (expr_text test) (codes " ? ") (expr_text chosen) (codes " : ") (expr_text other) (codes ")")) puts
