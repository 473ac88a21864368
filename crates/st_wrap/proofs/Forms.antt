-- What is made of the renamed parts of an expression is the expression renamed.
use Rattle.std.proofs.Common.{◌≡◌, ◌∙◌, ℕ, IfOk, List, Ok, Result, map, refl, ap, subst, sym}
use Rattle.vl_ast.specs.declared.expressions.UnOp.{UnOp}
use Rattle.vl_ast.specs.declared.expressions.BinOp.{BinOp}
use Rattle.vl_ast.specs.declared.expressions.ShiftOp.{ShiftOp}
use Rattle.vl_ast.specs.declared.expressions.Sized.{Sized}
use Rattle.vl_ast.specs.declared.expressions.Expr.{Expr}
use Rattle.vl_ast.specs.declared.expressions.Expr.TheOpen.{Expr-F}
use Rattle.vl_ast.specs.declared.expressions.Expr.TheVariants.{Name, Bit, Part, Literal, Concat, Repeat, AsSigned, AsUnsigned, Unary, Binary, Shift, Choose}
use Rattle.vl_ast.specs.declared.expressions.Expr.TheVariants.{rolls-Name, rolls-Bit, rolls-Part, rolls-Literal, rolls-Concat, rolls-Repeat, rolls-AsSigned, rolls-AsUnsigned, rolls-Unary}
use Rattle.vl_ast.specs.declared.expressions.Expr.TheVariants.{rolls-Binary, rolls-Shift, rolls-Choose}
use Rattle.vl_ast.specs.declared.expressions.Expr.TheViews.{roll-Expr, out-Expr, roll-out-Expr, out-roll-Expr}
use Rattle.vl_ast.specs.declared.expressions.Expr.TheFolds.{fold-roll-Expr}
use Rattle.st_wrap.specs.inner.Names.{inner_name}
use Rattle.st_wrap.specs.inner.CoreNames.{renamed, renamed_step, with_name, with_part}

pub of-name : (name : List ℕ) (e : Expr) → e ≡ Name name → Name (inner_name name) ≡ renamed e
of-name name e is = sym (ap renamed (is ∙ sym (rolls-Name name)) ∙ fold-roll-Expr Expr renamed_step (Expr-F.Name name))

pub of-bit : (name : List ℕ) (place : ℕ) (e : Expr) → e ≡ Bit name place → Bit (inner_name name) place ≡ renamed e
of-bit name place e is = sym (ap renamed (is ∙ sym (rolls-Bit name place)) ∙ fold-roll-Expr Expr renamed_step (Expr-F.Bit name place))

pub of-part : (name : List ℕ) (high low : ℕ) (e : Expr) → e ≡ Part name high low → Part (inner_name name) high low ≡ renamed e
of-part name high low e is = sym (ap renamed (is ∙ sym (rolls-Part name high low)) ∙ fold-roll-Expr Expr renamed_step (Expr-F.Part name high low))

pub of-literal : (number : Sized) (e : Expr) → e ≡ Literal number → Literal number ≡ renamed e
of-literal number e is = sym (ap renamed (is ∙ sym (rolls-Literal number)) ∙ fold-roll-Expr Expr renamed_step (Expr-F.Literal number))

pub of-concat : (parts : List Expr) (e : Expr) → e ≡ Concat parts → Concat (map renamed parts) ≡ renamed e
of-concat parts e is = sym (ap renamed (is ∙ sym (rolls-Concat parts)) ∙ fold-roll-Expr Expr renamed_step (Expr-F.Concat parts))

pub of-repeat : (count : ℕ) (part : Expr) (e : Expr) → e ≡ Repeat count part → Repeat count (renamed part) ≡ renamed e
of-repeat count part e is = sym (ap renamed (is ∙ sym (rolls-Repeat count part)) ∙ fold-roll-Expr Expr renamed_step (Expr-F.Repeat count part))

pub of-signed : (part : Expr) (e : Expr) → e ≡ AsSigned part → AsSigned (renamed part) ≡ renamed e
of-signed part e is = sym (ap renamed (is ∙ sym (rolls-AsSigned part)) ∙ fold-roll-Expr Expr renamed_step (Expr-F.AsSigned part))

pub of-unsigned : (part : Expr) (e : Expr) → e ≡ AsUnsigned part → AsUnsigned (renamed part) ≡ renamed e
of-unsigned part e is = sym (ap renamed (is ∙ sym (rolls-AsUnsigned part)) ∙ fold-roll-Expr Expr renamed_step (Expr-F.AsUnsigned part))

pub of-unary : (op : UnOp) (part : Expr) (e : Expr) → e ≡ Unary op part → Unary op (renamed part) ≡ renamed e
of-unary op part e is = sym (ap renamed (is ∙ sym (rolls-Unary op part)) ∙ fold-roll-Expr Expr renamed_step (Expr-F.Unary op part))

pub of-binary : (op : BinOp) (left right : Expr) (e : Expr) → e ≡ Binary op left right → Binary op (renamed left) (renamed right) ≡ renamed e
of-binary op left right e is = sym (ap renamed (is ∙ sym (rolls-Binary op left right)) ∙ fold-roll-Expr Expr renamed_step (Expr-F.Binary op left right))

pub of-shift : (op : ShiftOp) (part : Expr) (amount : Sized) (e : Expr) → e ≡ Shift op part amount → Shift op (renamed part) amount ≡ renamed e
of-shift op part amount e is = sym (ap renamed (is ∙ sym (rolls-Shift op part amount)) ∙ fold-roll-Expr Expr renamed_step (Expr-F.Shift op part amount))

pub of-choose : (test chosen other : Expr) (e : Expr) → e ≡ Choose test chosen other → Choose (renamed test) (renamed chosen) (renamed other) ≡ renamed e
of-choose test chosen other e is = sym (ap renamed (is ∙ sym (rolls-Choose test chosen other)) ∙ fold-roll-Expr Expr renamed_step (Expr-F.Choose test chosen other))

form : (x : Expr-F Expr) (e : Expr) → e ≡ roll-Expr x → out-Expr e ≡ x
form x e is = ap out-Expr is ∙ out-roll-Expr x

-- ---- another name, or another operand

pub over-name : (name text : List ℕ) (e : Expr) → e ≡ Name name → with_name (out-Expr e) text ≡ Name text
over-name name text e is = ap (λ (x : Expr-F Expr). with_name x text) (form (Expr-F.Name name) e (is ∙ sym (rolls-Name name)))

pub over-bit : (name text : List ℕ) (place : ℕ) (e : Expr) → e ≡ Bit name place → with_name (out-Expr e) text ≡ Bit text place
over-bit name text place e is = ap (λ (x : Expr-F Expr). with_name x text) (form (Expr-F.Bit name place) e (is ∙ sym (rolls-Bit name place)))

pub over-part : (name text : List ℕ) (high low : ℕ) (e : Expr) → e ≡ Part name high low → with_name (out-Expr e) text ≡ Part text high low
over-part name text high low e is = ap (λ (x : Expr-F Expr). with_name x text) (form (Expr-F.Part name high low) e (is ∙ sym (rolls-Part name high low)))

pub over-else : (text : List ℕ) (e : Expr) → ((name : List ℕ) (place : ℕ) → e ≡ Bit name place → ⊥)
    → ((name : List ℕ) (high low : ℕ) → e ≡ Part name high low → ⊥) → with_name (out-Expr e) text ≡ Name text
over-else text e no-bit no-part = by (out-Expr e) (sym (roll-out-Expr e)) where
  by : (x : Expr-F Expr) → e ≡ roll-Expr x → with_name x text ≡ Name text
  by (Expr-F.Bit name place) is = absurd (no-bit name place (is ∙ rolls-Bit name place))
  by (Expr-F.Part name high low) is = absurd (no-part name high low (is ∙ rolls-Part name high low))
  by other is = refl

pub over-repeat : (count : ℕ) (old part e : Expr) → e ≡ Repeat count old → with_part (out-Expr e) part ≡ Repeat count part
over-repeat count old part e is = ap (λ (x : Expr-F Expr). with_part x part) (form (Expr-F.Repeat count old) e (is ∙ sym (rolls-Repeat count old)))

pub over-signed : (old part e : Expr) → e ≡ AsSigned old → with_part (out-Expr e) part ≡ AsSigned part
over-signed old part e is = ap (λ (x : Expr-F Expr). with_part x part) (form (Expr-F.AsSigned old) e (is ∙ sym (rolls-AsSigned old)))

pub over-unsigned : (old part e : Expr) → e ≡ AsUnsigned old → with_part (out-Expr e) part ≡ AsUnsigned part
over-unsigned old part e is = ap (λ (x : Expr-F Expr). with_part x part) (form (Expr-F.AsUnsigned old) e (is ∙ sym (rolls-AsUnsigned old)))

pub over-unary : (op : UnOp) (old part e : Expr) → e ≡ Unary op old → with_part (out-Expr e) part ≡ Unary op part
over-unary op old part e is = ap (λ (x : Expr-F Expr). with_part x part) (form (Expr-F.Unary op old) e (is ∙ sym (rolls-Unary op old)))

pub over-shift : (op : ShiftOp) (old part : Expr) (amount : Sized) (e : Expr) → e ≡ Shift op old amount → with_part (out-Expr e) part ≡ Shift op part amount
over-shift op old part amount e is = ap (λ (x : Expr-F Expr). with_part x part) (form (Expr-F.Shift op old amount) e (is ∙ sym (rolls-Shift op old amount)))

pub over-cast : (part e : Expr) → ((count : ℕ) (old : Expr) → e ≡ Repeat count old → ⊥) → ((old : Expr) → e ≡ AsSigned old → ⊥) → ((op : UnOp) (old : Expr) → e ≡ Unary op old → ⊥)
    → ((op : ShiftOp) (old : Expr) (amount : Sized) → e ≡ Shift op old amount → ⊥) → with_part (out-Expr e) part ≡ AsUnsigned part
over-cast part e no-repeat no-signed no-unary no-shift = by (out-Expr e) (sym (roll-out-Expr e)) where
  by : (x : Expr-F Expr) → e ≡ roll-Expr x → with_part x part ≡ AsUnsigned part
  by (Expr-F.Repeat count old) is = absurd (no-repeat count old (is ∙ rolls-Repeat count old))
  by (Expr-F.AsSigned old) is = absurd (no-signed old (is ∙ rolls-AsSigned old))
  by (Expr-F.Unary op old) is = absurd (no-unary op old (is ∙ rolls-Unary op old))
  by (Expr-F.Shift op old amount) is = absurd (no-shift op old amount (is ∙ rolls-Shift op old amount))
  by other is = refl

-- ---- what was made

pub made-is : {A E : Type 0} (r : Result A E) (x y : A) → r ≡ Ok x → IfOk r (λ made. made ≡ y) → x ≡ y
made-is r x y is made = subst (λ (r : Result _ _). IfOk r (λ made. made ≡ y)) is made
