-- The one text of an expression lays out its tokens, by induction over the expression.
use Rattle.std.proofs.Common.{◌≡◌, ℕ, true, List, [], ◌∷◌, ◌++◌, map, codes, refl, sym, subst}
use Rattle.vl_ast.specs.declared.expressions.UnOp.{UnOp}
use Rattle.vl_ast.specs.declared.expressions.UnOp.TheVariants.{Negate}
use Rattle.vl_ast.specs.declared.expressions.BinOp.{BinOp}
use Rattle.vl_ast.specs.declared.expressions.BinOp.TheVariants.{Add}
use Rattle.vl_ast.specs.declared.expressions.ShiftOp.{ShiftOp}
use Rattle.vl_ast.specs.declared.expressions.ShiftOp.TheVariants.{Left}
use Rattle.vl_ast.specs.declared.expressions.Expr.{Expr}
use Rattle.vl_ast.specs.declared.expressions.Expr.TheOpen.{Expr-F}
use Rattle.vl_ast.specs.declared.expressions.Expr.TheViews.{roll-Expr}
use Rattle.vl_ast.specs.declared.expressions.Expr.TheFolds.{map-Expr, fold-roll-Expr, ind-Expr}
use Rattle.vl_ast.specs.Grammar.{expr_tokens, tokens_step}
use Rattle.vl_ast.specs.Spelling.{expr_text, expr_step}
use Rattle.vl_ast.specs.Operators.{unary_text, binary_text, shift_text}
use Rattle.vl_ast.specs.Tokens.{Token, is_longest}
use Rattle.vl_ast.proofs.FormLayouts.{Fits, FitsEach, name_fits, bit_fits, part_fits, literal_fits, concat_fits, repeat_fits, cast_fits, unary_fits, binary_fits, shift_fits, choose_fits}

bracket_unary : (op : UnOp) (rest : List ℕ) → is_longest (codes "(") (unary_text op ++ (codes " " ++ rest)) ≡ true
bracket_unary Negate rest = refl
bracket_unary _ rest = refl

longest_unary : (op : UnOp) (rest : List ℕ) → is_longest (unary_text op) (codes " " ++ rest) ≡ true
longest_unary Negate rest = refl
longest_unary _ rest = refl

longest_binary : (op : BinOp) (rest : List ℕ) → is_longest (binary_text op) (codes " " ++ rest) ≡ true
longest_binary Add rest = refl
longest_binary _ rest = refl

longest_shift : (op : ShiftOp) (rest : List ℕ) → is_longest (shift_text op) (codes " " ++ rest) ≡ true
longest_shift Left rest = refl
longest_shift _ rest = refl

abbrev ExprFits : Expr → Type 0
ExprFits e = Fits (expr_tokens e) (expr_text e)

made : (x : Expr-F Expr) → Fits (tokens_step (map-Expr Expr (List Token) expr_tokens x)) (expr_step (map-Expr Expr (List ℕ) expr_text x)) → ExprFits (roll-Expr x)
made x f =
    let P : List Token → Type 0 = λ ts. Fits ts (expr_text (roll-Expr x)) in
    let Q : List ℕ → Type 0 = λ text. Fits (tokens_step (map-Expr Expr (List Token) expr_tokens x)) text in
    subst P (sym (fold-roll-Expr (List Token) tokens_step x)) (subst Q (sym (fold-roll-Expr (List ℕ) expr_step x)) f)

each : (parts : List ((e : Expr) × ExprFits e)) → FitsEach (map expr_tokens (map (λ e. e.0) parts)) (map expr_text (map (λ e. e.0) parts))
each [] = tt
each (part ∷ parts) = (part.1, each parts)

form : (y : Expr-F ((e : Expr) × ExprFits e)) → ExprFits (roll-Expr (map-Expr ((e : Expr) × ExprFits e) Expr (λ e. e.0) y))
form (Expr-F.Name name) = made (Expr-F.Name name) (name_fits name)
form (Expr-F.Bit name place) = made (Expr-F.Bit name place) (bit_fits name place)
form (Expr-F.Part name high low) = made (Expr-F.Part name high low) (part_fits name high low)
form (Expr-F.Literal number) = made (Expr-F.Literal number) (literal_fits number)
form (Expr-F.Concat parts) = made (Expr-F.Concat (map (λ e. e.0) parts)) (concat_fits _ _ (each parts))
form (Expr-F.Repeat count part) = made (Expr-F.Repeat count part.0) (repeat_fits count _ _ part.1)
form (Expr-F.AsSigned part) = made (Expr-F.AsSigned part.0) (cast_fits (codes "$signed") _ _ (λ rest. refl) part.1)
form (Expr-F.AsUnsigned part) = made (Expr-F.AsUnsigned part.0) (cast_fits (codes "$unsigned") _ _ (λ rest. refl) part.1)
form (Expr-F.Unary op part) = made (Expr-F.Unary op part.0) (unary_fits (unary_text op) _ _ (bracket_unary op) (longest_unary op) part.1)
form (Expr-F.Binary op left right) = made (Expr-F.Binary op left.0 right.0) (binary_fits (binary_text op) _ _ _ _ (longest_binary op) left.1 right.1)
form (Expr-F.Shift op part amount) = made (Expr-F.Shift op part.0 amount) (shift_fits (shift_text op) _ _ amount (longest_shift op) part.1)
form (Expr-F.Choose test chosen other) = made (Expr-F.Choose test.0 chosen.0 other.0) (choose_fits _ _ _ _ _ _ test.1 chosen.1 other.1)

pub expr_fits : (e : Expr) → ExprFits e
expr_fits = ind-Expr ExprFits (λ x y shown. let P : Expr-F Expr → Type 0 = λ z. ExprFits (roll-Expr z) in subst P shown (form y))
