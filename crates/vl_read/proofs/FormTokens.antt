-- The tokens of each form of an expression, with others behind them.
use Rattle.std.proofs.Common.{◌≡◌, ℕ, List, [], ◌∷◌, ◌++◌, refl, ◌∙◌, ap, codes, map, append_assoc}
use Rattle.std.specs.List.{flat_map}
use Rattle.vl_ast.specs.declared.expressions.Sized.{Sized}
use Rattle.vl_ast.specs.declared.expressions.Expr.{Expr}
use Rattle.vl_ast.specs.declared.expressions.Expr.TheOpen.{Expr-F}
use Rattle.vl_ast.specs.declared.expressions.Expr.TheViews.{roll-Expr}
use Rattle.vl_ast.specs.declared.expressions.Expr.TheFolds.{map-Expr, fold-roll-Expr}
use Rattle.vl_ast.specs.Tokens.{Token, Key, Sign, Number, Based}
use Rattle.vl_ast.specs.Grammar.{tokens_step, expr_tokens, comma}
use Rattle.vl_ast.specs.declared.expressions.UnOp.{UnOp}
use Rattle.vl_ast.specs.declared.expressions.BinOp.{BinOp}
use Rattle.vl_ast.specs.declared.expressions.ShiftOp.{ShiftOp}
use Rattle.vl_ast.specs.Operators.{unary_text, binary_text, shift_text}

-- the tokens of a layer
pub layer_tokens : (x : Expr-F Expr) (tokens : List Token) → expr_tokens (roll-Expr x) ++ tokens ≡ tokens_step (map-Expr Expr (List Token) expr_tokens x) ++ tokens
layer_tokens x tokens = ap (λ t. t ++ tokens) (fold-roll-Expr (List Token) tokens_step x)

-- the tokens of each form

pub unary_tokens : (op : UnOp) (e : Expr) (tokens : List Token)
    → tokens_step (map-Expr Expr (List Token) expr_tokens (Expr-F.Unary op e)) ++ tokens
    ≡ Sign (codes "(") ∷ Sign (unary_text op) ∷ (expr_tokens e ++ Sign (codes ")") ∷ tokens)
unary_tokens op e tokens = simp append_assoc

pub binary_tokens : (op : BinOp) (l r : Expr) (tokens : List Token)
    → tokens_step (map-Expr Expr (List Token) expr_tokens (Expr-F.Binary op l r)) ++ tokens
    ≡ Sign (codes "(") ∷ (expr_tokens l ++ Sign (binary_text op) ∷ (expr_tokens r ++ Sign (codes ")") ∷ tokens))
binary_tokens op l r tokens = simp append_assoc

pub shift_tokens : (op : ShiftOp) (e : Expr) (n : Sized) (tokens : List Token)
    → tokens_step (map-Expr Expr (List Token) expr_tokens (Expr-F.Shift op e n)) ++ tokens
    ≡ Sign (codes "(") ∷ (expr_tokens e ++ Sign (shift_text op) ∷ Based n ∷ Sign (codes ")") ∷ tokens)
shift_tokens op e n tokens = simp append_assoc

pub choose_tokens : (t c o : Expr) (tokens : List Token)
    → tokens_step (map-Expr Expr (List Token) expr_tokens (Expr-F.Choose t c o)) ++ tokens
    ≡ Sign (codes "(") ∷ (expr_tokens t ++ Sign (codes "?")
    ∷ (expr_tokens c ++ Sign (codes ":") ∷ (expr_tokens o ++ Sign (codes ")") ∷ tokens)))
choose_tokens t c o tokens = simp append_assoc

pub as_signed_tokens : (e : Expr) (tokens : List Token)
    → tokens_step (map-Expr Expr (List Token) expr_tokens (Expr-F.AsSigned e)) ++ tokens
    ≡ Key (codes "$signed") ∷ Sign (codes "(") ∷ (expr_tokens e ++ Sign (codes ")") ∷ tokens)
as_signed_tokens e tokens = simp append_assoc

pub as_unsigned_tokens : (e : Expr) (tokens : List Token)
    → tokens_step (map-Expr Expr (List Token) expr_tokens (Expr-F.AsUnsigned e)) ++ tokens
    ≡ Key (codes "$unsigned") ∷ Sign (codes "(") ∷ (expr_tokens e ++ Sign (codes ")") ∷ tokens)
as_unsigned_tokens e tokens = simp append_assoc

pub repeat_tokens : (n : ℕ) (e : Expr) (tokens : List Token)
    → tokens_step (map-Expr Expr (List Token) expr_tokens (Expr-F.Repeat n e)) ++ tokens
    ≡ Sign (codes "{") ∷ Number n ∷ Sign (codes "{")
    ∷ (expr_tokens e ++ Sign (codes "}") ∷ Sign (codes "}") ∷ tokens)
repeat_tokens n e tokens = simp append_assoc

-- the parts of a concatenation after its first, and what is behind it
abbrev pub more_tokens : List Expr → List Token → List Token
more_tokens [] tokens = Sign (codes "}") ∷ tokens
more_tokens (e ∷ es) tokens = Sign (codes ",") ∷ (expr_tokens e ++ more_tokens es tokens)

-- a part and those after it, up to the closing brace
regroup : (a b tokens : List Token) → ((a ++ b) ++ Sign (codes "}") ∷ []) ++ tokens ≡ a ++ ((b ++ Sign (codes "}") ∷ []) ++ tokens)
regroup a b tokens = simp append_assoc

concat_rest : (es : List Expr) (tokens : List Token) → (flat_map (λ more. comma ++ more) (map expr_tokens es) ++ Sign (codes "}") ∷ []) ++ tokens ≡ more_tokens es tokens
concat_rest [] tokens = refl
concat_rest (e ∷ es) tokens = ap (λ t. Sign (codes ",") ∷ t)
    (regroup (expr_tokens e) (flat_map (λ more. comma ++ more) (map expr_tokens es)) tokens
    ∙ ap (λ t. expr_tokens e ++ t) (concat_rest es tokens))

pub concat_tokens : (e : Expr) (es : List Expr) (tokens : List Token)
    → tokens_step (map-Expr Expr (List Token) expr_tokens (Expr-F.Concat (e ∷ es))) ++ tokens
    ≡ Sign (codes "{") ∷ (expr_tokens e ++ more_tokens es tokens)
concat_tokens e es tokens = ap (λ t. Sign (codes "{") ∷ t)
    (regroup (expr_tokens e) (flat_map (λ more. comma ++ more) (map expr_tokens es)) tokens
    ∙ ap (λ t. expr_tokens e ++ t) (concat_rest es tokens))
