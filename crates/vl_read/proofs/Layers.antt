-- Induction over expressions, a layer at a time.
use Rattle.std.proofs.Common.{ℕ, List, map, subst}
use Rattle.vl_ast.specs.declared.expressions.UnOp.{UnOp}
use Rattle.vl_ast.specs.declared.expressions.BinOp.{BinOp}
use Rattle.vl_ast.specs.declared.expressions.ShiftOp.{ShiftOp}
use Rattle.vl_ast.specs.declared.expressions.Sized.{Sized}
use Rattle.vl_ast.specs.declared.expressions.Expr.{Expr}
use Rattle.vl_ast.specs.declared.expressions.Expr.TheOpen.{Expr-F}
use Rattle.vl_ast.specs.declared.expressions.Expr.TheViews.{roll-Expr}
use Rattle.vl_ast.specs.declared.expressions.Expr.TheFolds.{ind-Expr, map-Expr}

pub by_layers : (P : Expr → Type 0) → ((y : Expr-F ((e : Expr) × P e)) → P (roll-Expr (map-Expr ((e : Expr) × P e) Expr (λ p. p.0) y))) → (d : Expr) → P d
by_layers P of_layer d = ind-Expr P (λ x y e. subst (λ x. P (roll-Expr x)) e (of_layer y)) d

-- what each form has where its parts have it, every expression has
pub by_forms : (P : Expr → Type 0) →
    ((n : List ℕ) → P (roll-Expr (Expr-F.Name n))) →
    ((n : List ℕ) (place : ℕ) → P (roll-Expr (Expr-F.Bit n place))) →
    ((n : List ℕ) (high low : ℕ) → P (roll-Expr (Expr-F.Part n high low))) →
    ((n : Sized) → P (roll-Expr (Expr-F.Literal n))) →
    ((ps : List ((e : Expr) × P e)) → P (roll-Expr (Expr-F.Concat (map (λ (p : (e : Expr) × P e). p.0) ps)))) →
    ((n : ℕ) (e : Expr) → P e → P (roll-Expr (Expr-F.Repeat n e))) →
    ((e : Expr) → P e → P (roll-Expr (Expr-F.AsSigned e))) →
    ((e : Expr) → P e → P (roll-Expr (Expr-F.AsUnsigned e))) →
    ((op : UnOp) (e : Expr) → P e → P (roll-Expr (Expr-F.Unary op e))) →
    ((op : BinOp) (l r : Expr) → P l → P r → P (roll-Expr (Expr-F.Binary op l r))) →
    ((op : ShiftOp) (e : Expr) (n : Sized) → P e → P (roll-Expr (Expr-F.Shift op e n))) →
    ((t c o : Expr) → P t → P c → P o → P (roll-Expr (Expr-F.Choose t c o))) →
    (d : Expr) → P d
by_forms P name bit part literal concat repeat signed unsigned unary binary shift choose d = by_layers P of_layer d where
  of_layer : (y : Expr-F ((e : Expr) × P e)) → P (roll-Expr (map-Expr ((e : Expr) × P e) Expr (λ p. p.0) y))
  of_layer (Expr-F.Name n) = name n
  of_layer (Expr-F.Bit n place) = bit n place
  of_layer (Expr-F.Part n high low) = part n high low
  of_layer (Expr-F.Literal n) = literal n
  of_layer (Expr-F.Concat ps) = concat ps
  of_layer (Expr-F.Repeat n p) = repeat n p.0 p.1
  of_layer (Expr-F.AsSigned p) = signed p.0 p.1
  of_layer (Expr-F.AsUnsigned p) = unsigned p.0 p.1
  of_layer (Expr-F.Unary op p) = unary op p.0 p.1
  of_layer (Expr-F.Binary op l r) = binary op l.0 r.0 l.1 r.1
  of_layer (Expr-F.Shift op p n) = shift op p.0 n p.1
  of_layer (Expr-F.Choose t c o) = choose t.0 c.0 o.0 t.1 c.1 o.1
