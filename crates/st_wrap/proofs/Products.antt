-- The wrapper has as many multiplications as the core.
use Rattle.std.proofs.Common.{◌≡◌, ℕ, ◌+◌, Bool, List, [], ◌∷◌, ◌++◌, map, flat_map, length, Option, None, Some, refl, sym, ap, subst, ◌∙◌, length-append}
use Rattle.vl_ast.specs.declared.expressions.BinOp.{BinOp}
use Rattle.vl_ast.specs.declared.expressions.BinOp.TheVariants.{Add, Subtract, Multiply, And, Or, Xor, Equal, NotEqual, Less, LessEqual, Greater, GreaterEqual, Both, Either}
use Rattle.vl_ast.specs.declared.expressions.Expr.{Expr}
use Rattle.vl_ast.specs.declared.expressions.Expr.TheOpen.{Expr-F}
use Rattle.vl_ast.specs.declared.expressions.Expr.TheViews.{roll-Expr}
use Rattle.vl_ast.specs.declared.expressions.Expr.TheFolds.{map-Expr, para-Expr, para-roll-Expr, ind-Expr}
use Rattle.vl_ast.specs.declared.modules.ModItem.{ModItem}
use Rattle.vl_ast.specs.declared.modules.ModItem.TheVariants.{Wire, Reg, Assign, Always}
use Rattle.vl_ast.specs.Context.{Net, Place, InWhole, Together, Alone, Operand, alone, operand_at, unary_place, binary_place}
use Rattle.vl_ast.specs.Multiplications.{Multiplication, condition_multiplications, item_multiplications, multiplications_in, multiplications_step, product_of}
use Rattle.st_wrap.specs.inner.CoreNames.{renamed, renamed_condition, renamed_item}
use Rattle.st_wrap.proofs.Meanings.{relabelled, renamed-rolls}

-- an operator is a multiplication or none, whatever its operands
one-product : (op : BinOp) (p q : Multiplication) → length (product_of op p) ≡ length (product_of op q)
one-product Multiply p q = refl
one-product Add p q = refl
one-product Subtract p q = refl
one-product And p q = refl
one-product Or p q = refl
one-product Xor p q = refl
one-product Equal p q = refl
one-product NotEqual p q = refl
one-product Less p q = refl
one-product LessEqual p q = refl
one-product Greater p q = refl
one-product GreaterEqual p q = refl
one-product Both p q = refl
one-product Either p q = refl

both-lengths : {A : Type 0} (a b c d : List A) → length a ≡ length c → length b ≡ length d → length (a ++ b) ≡ length (c ++ d)
both-lengths a b c d e f = length-append a b ∙ (λ i. e i + f i) ∙ sym (length-append c d)

module _ (nets other : List ℕ → Net) where
  abbrev of : (List ℕ → Net) → Expr → Operand (List Multiplication)
  of nets e = (e, para-Expr (ℕ → Bool → List Multiplication) (multiplications_step nets) e)

  roll-by : (n : List ℕ → Net) (layer : Expr-F Expr) (width : ℕ) (signed : Bool)
      → multiplications_in n width signed (roll-Expr layer) ≡ multiplications_step n (map-Expr Expr (Operand (List Multiplication)) (of n) layer) width signed
  roll-by n layer width signed = ap (λ (f : ℕ → Bool → List Multiplication). f width signed) (para-roll-Expr (ℕ → Bool → List Multiplication) (multiplications_step n) layer)

  record Alike (e : Expr) : Type 0 where
    same : (w w' : ℕ) (s s' : Bool) → length (multiplications_in nets w s (renamed e)) ≡ length (multiplications_in other w' s' e)

  abbrev Known : Type 0
  Known = (e : Expr) × Alike e

  at-place : (place : Place) (w w' : ℕ) (s s' : Bool) (a b : Known)
      → length (operand_at nets place w s (of nets (renamed a.0)) (of nets (renamed b.0))) ≡ length (operand_at other place w' s' (of other a.0) (of other b.0))
  at-place InWhole w w' s s' a b = a.1.same w w' s s'
  at-place Together w w' s s' a b = a.1.same _ _ _ _
  at-place Alone w w' s s' a b = a.1.same _ _ _ _

  each : (parts : List Known) → length (flat_map (λ part. part) (map (alone nets) (map (of nets) (map renamed (map (λ p. p.0) parts)))))
      ≡ length (flat_map (λ part. part) (map (alone other) (map (of other) (map (λ p. p.0) parts))))
  each [] = refl
  each (part ∷ parts) = both-lengths _ _ _ _ (part.1.same _ _ _ _) (each parts)

  step : (y : Expr-F Known) (w w' : ℕ) (s s' : Bool)
      → length (multiplications_step nets (map-Expr Expr (Operand (List Multiplication)) (of nets) (relabelled (map-Expr Expr Expr renamed (map-Expr Known Expr (λ p. p.0) y)))) w s)
      ≡ length (multiplications_step other (map-Expr Expr (Operand (List Multiplication)) (of other) (map-Expr Known Expr (λ p. p.0) y)) w' s')
  step (Expr-F.Name name) w w' s s' = refl
  step (Expr-F.Bit name place) w w' s s' = refl
  step (Expr-F.Part name high low) w w' s s' = refl
  step (Expr-F.Literal number) w w' s s' = refl
  step (Expr-F.Concat parts) w w' s s' = each parts
  step (Expr-F.Repeat count part) w w' s s' = part.1.same _ _ _ _
  step (Expr-F.AsSigned part) w w' s s' = part.1.same _ _ _ _
  step (Expr-F.AsUnsigned part) w w' s s' = part.1.same _ _ _ _
  step (Expr-F.Unary op part) w w' s s' = at-place (unary_place op) w w' s s' part part
  step (Expr-F.Binary op left right) w w' s s' =
      both-lengths _ _ _ _ (at-place (binary_place op) w w' s s' left right) (both-lengths _ _ _ _ (one-product op _ _) (at-place (binary_place op) w w' s s' right left))
  step (Expr-F.Shift op part amount) w w' s s' = part.1.same w w' s s'
  step (Expr-F.Choose test chosen otherwise) w w' s s' =
      both-lengths _ _ _ _ (test.1.same _ _ _ _) (both-lengths _ _ _ _ (chosen.1.same w w' s s') (otherwise.1.same w w' s s'))

  layer-alike : (y : Expr-F Known) → Alike (roll-Expr (map-Expr Known Expr (λ p. p.0) y))
  layer-alike y = record {
    same = λ w w' s s'.
        let x : Expr-F Expr = map-Expr Known Expr (λ p. p.0) y in
        ap (λ e. length (multiplications_in nets w s e)) (renamed-rolls x)
        ∙ ap length (roll-by nets (relabelled (map-Expr Expr Expr renamed x)) w s)
        ∙ step y w w' s s'
        ∙ sym (ap length (roll-by other x w' s'));
  }

  alike : (e : Expr) → Alike e
  alike = ind-Expr Alike (λ x y shown. subst (λ z. Alike (roll-Expr z)) shown (layer-alike y))

  condition-alike : (condition : Option Expr) → length (condition_multiplications nets (renamed_condition condition)) ≡ length (condition_multiplications other condition)
  condition-alike None = refl
  condition-alike (Some condition) = (alike condition).same _ _ _ _

  pub item-alike : (i : ModItem) → length (item_multiplications nets (renamed_item i)) ≡ length (item_multiplications other i)
  item-alike (Wire signed width name) = refl
  item-alike (Reg signed width name) = refl
  item-alike (Assign name value) = (alike value).same _ _ _ _
  item-alike (Always name first condition value) = both-lengths _ _ _ _ (condition-alike condition) ((alike value).same _ _ _ _)

  pub items-alike : (items : List ModItem) → length (flat_map (item_multiplications nets) (map renamed_item items)) ≡ length (flat_map (item_multiplications other) items)
  items-alike [] = refl
  items-alike (i ∷ items) = both-lengths _ _ _ _ (item-alike i) (items-alike items)
