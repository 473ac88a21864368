-- The tokens of an expression may follow each other with nothing between them.
use Rattle.std.proofs.Common.{◌≡◌, ℕ, true, List, [], ◌∷◌, ◌++◌, map, refl, ◌∙◌, ap, codes}
use Rattle.std.specs.Prelude.{◌&&◌}
use Rattle.std.proofs.lemmas.Bool.{and_parts, and_from}
use Rattle.vl_ast.specs.declared.expressions.UnOp.{UnOp}
use Rattle.vl_ast.specs.declared.expressions.UnOp.TheVariants.{Negate}
use Rattle.vl_ast.specs.declared.expressions.BinOp.{BinOp}
use Rattle.vl_ast.specs.declared.expressions.BinOp.TheVariants.{Add}
use Rattle.vl_ast.specs.declared.expressions.ShiftOp.{ShiftOp}
use Rattle.vl_ast.specs.declared.expressions.ShiftOp.TheVariants.{Left}
use Rattle.vl_ast.specs.declared.expressions.Sized.{Sized}
use Rattle.vl_ast.specs.declared.expressions.Expr.{Expr}
use Rattle.vl_ast.specs.declared.expressions.Expr.TheOpen.{Expr-F}
use Rattle.vl_ast.specs.declared.expressions.Expr.TheViews.{roll-Expr}
use Rattle.vl_ast.specs.declared.expressions.Expr.TheFolds.{map-Expr}
use Rattle.vl_ast.specs.Operators.{unary_text, binary_text, shift_text}
use Rattle.vl_ast.specs.Tokens.{Token, Key, Sign, Identifier, Number, Based}
use Rattle.vl_ast.specs.Grammar.{tokens_step, expr_tokens}
use Rattle.vl_read.specs.inner.Lexemes.{class_of, extends}
use Rattle.vl_read.proofs.Layers.{by_forms}
use Rattle.vl_read.proofs.Safe.{is_key, is_fine, follows, safe}
use Rattle.vl_read.proofs.FormTokens.{layer_tokens, unary_tokens, binary_tokens, shift_tokens, choose_tokens, as_signed_tokens, as_unsigned_tokens, repeat_tokens, more_tokens, concat_tokens}
use Rattle.vl_read.proofs.SafeMarks.{fine_first, opens, after_closing, never, after_mark, closes_identifier, closes_key, closes_number, closes_based, begun, opens_word, follows_identifier}
use Rattle.vl_read.proofs.SafeMarks.{follows_key, follows_based, opens_open, opens_brace, fine_open, fine_brace, mark_opens, round_ends, brace_ends}

-- an expression may stand after what lets it follow, and before any token that is fine
abbrev pub IsSafe : Expr → Type 0
IsSafe e = (before : Token) (tokens : List Token) → opens before ≡ true → fine_first tokens ≡ true → safe before (expr_tokens e ++ tokens) ≡ true

layer_safe_as : (x : Expr-F Expr) (tokens other : List Token) (before : Token) → tokens_step (map-Expr Expr (List Token) expr_tokens x) ++ tokens ≡ other → safe before other ≡ true →
    safe before (expr_tokens (roll-Expr x) ++ tokens) ≡ true
layer_safe_as x tokens other before same h = ap (safe before) (layer_tokens x tokens ∙ same) ∙ h

-- operators

opens_unary : (op : UnOp) → opens (Sign (unary_text op)) ≡ true
unfolding follows extends
opens_unary Negate = refl
opens_unary _ = refl

opens_binary : (op : BinOp) → (is_fine (Sign (binary_text op)) && opens (Sign (binary_text op))) ≡ true
unfolding follows extends is_fine class_of
opens_binary Add = refl
opens_binary _ = refl

fine_unary : (op : UnOp) → (follows (Sign (codes "(")) (Sign (unary_text op)) && is_fine (Sign (unary_text op))) ≡ true
unfolding follows extends is_fine class_of
fine_unary Negate = refl
fine_unary _ = refl

fine_shift : (op : ShiftOp) → is_fine (Sign (shift_text op)) ≡ true
unfolding is_fine class_of extends
fine_shift Left = refl
fine_shift _ = refl

-- each form

name_safe : (n : List ℕ) → IsSafe (roll-Expr (Expr-F.Name n))
unfolding is_fine
name_safe n before tokens opening after =
    layer_safe_as (Expr-F.Name n) tokens (Identifier n ∷ tokens) before refl
    (begun before (Identifier n) tokens (follows_identifier before n) refl (after_closing (Identifier n) tokens (closes_identifier n) after))

bit_safe : (n : List ℕ) (place : ℕ) → IsSafe (roll-Expr (Expr-F.Bit n place))
unfolding follows extends is_fine class_of
bit_safe n place before tokens opening after =
    layer_safe_as (Expr-F.Bit n place) tokens (Identifier n ∷ Sign (codes "[") ∷ Number place ∷ Sign (codes "]") ∷ tokens) before refl
    (begun before (Identifier n) (Sign (codes "[") ∷ Number place ∷ Sign (codes "]") ∷ tokens) (follows_identifier before n) refl (after_mark (codes "]") tokens never after))

part_safe : (n : List ℕ) (high low : ℕ) → IsSafe (roll-Expr (Expr-F.Part n high low))
unfolding follows extends is_fine class_of
part_safe n high low before tokens opening after =
    layer_safe_as (Expr-F.Part n high low) tokens (Identifier n ∷ Sign (codes "[") ∷ Number high ∷ Sign (codes ":") ∷ Number low ∷ Sign (codes "]") ∷ tokens) before refl
    (begun before (Identifier n) (Sign (codes "[") ∷ Number high ∷ Sign (codes ":") ∷ Number low ∷ Sign (codes "]")
    ∷ tokens) (follows_identifier before n) refl (after_mark (codes "]") tokens never after))

literal_safe : (n : Sized) → IsSafe (roll-Expr (Expr-F.Literal n))
unfolding is_fine
literal_safe n before tokens opening after =
    layer_safe_as (Expr-F.Literal n) tokens (Based n ∷ tokens) before refl
    (begun before (Based n) tokens (follows_based before n) refl (after_closing (Based n) tokens (closes_based n) after))

signed_safe : (word : List ℕ) → is_key word ≡ true → (e : Expr) → IsSafe e → (before : Token) (tokens : List Token) → fine_first tokens ≡ true →
    safe before (Key word ∷ Sign (codes "(") ∷ (expr_tokens e ++ Sign (codes ")") ∷ tokens)) ≡ true
unfolding is_fine
signed_safe word fine e is before tokens after =
    begun before (Key word) (Sign (codes "(") ∷ (expr_tokens e ++ Sign (codes ")") ∷ tokens)) (follows_key before word) fine
    (begun (Key word) (Sign (codes "(")) _ (closes_key word (Sign (codes "("))) fine_open (is (Sign (codes "(")) (Sign (codes ")") ∷ tokens) opens_open (round_ends tokens after)))

as_signed_safe : (e : Expr) → IsSafe e → IsSafe (roll-Expr (Expr-F.AsSigned e))
unfolding class_of
as_signed_safe e is before tokens opening after =
    layer_safe_as (Expr-F.AsSigned e) tokens _ before (as_signed_tokens e tokens) (signed_safe (codes "$signed") refl e is before tokens after)

as_unsigned_safe : (e : Expr) → IsSafe e → IsSafe (roll-Expr (Expr-F.AsUnsigned e))
unfolding class_of
as_unsigned_safe e is before tokens opening after =
    layer_safe_as (Expr-F.AsUnsigned e) tokens _ before (as_unsigned_tokens e tokens) (signed_safe (codes "$unsigned") refl e is before tokens after)

unary_safe : (op : UnOp) (e : Expr) → IsSafe e → IsSafe (roll-Expr (Expr-F.Unary op e))
unary_safe op e is before tokens opening after =
    let f = and_parts _ _ (fine_unary op) in
    layer_safe_as (Expr-F.Unary op e) tokens _ before (unary_tokens op e tokens)
    (begun before (Sign (codes "(")) (Sign (unary_text op) ∷ (expr_tokens e ++ Sign (codes ")") ∷ tokens)) (opens_word before opening).0 fine_open
    (begun (Sign (codes "(")) (Sign (unary_text op)) _ f.0 f.1 (is (Sign (unary_text op)) (Sign (codes ")") ∷ tokens) (opens_unary op) (round_ends tokens after))))

binary_safe : (op : BinOp) (l r : Expr) → IsSafe l → IsSafe r → IsSafe (roll-Expr (Expr-F.Binary op l r))
binary_safe op l r is_l is_r before tokens opening after =
    let f = and_parts _ _ (opens_binary op) in
    layer_safe_as (Expr-F.Binary op l r) tokens _ before (binary_tokens op l r tokens)
    (begun before (Sign (codes "(")) _ (opens_word before opening).0 fine_open
    (is_l (Sign (codes "(")) _ opens_open (and_from _ _ f.0 (is_r (Sign (binary_text op)) _ f.1 (round_ends tokens after)))))

based_ends : (n : Sized) (tokens : List Token) → fine_first tokens ≡ true → fine_first (Based n ∷ Sign (codes ")") ∷ tokens) ≡ true
unfolding is_fine class_of follows extends
based_ends n tokens after = after_mark (codes ")") tokens never after

shift_safe : (op : ShiftOp) (e : Expr) (n : Sized) → IsSafe e → IsSafe (roll-Expr (Expr-F.Shift op e n))
shift_safe op e n is before tokens opening after =
    layer_safe_as (Expr-F.Shift op e n) tokens _ before (shift_tokens op e n tokens)
    (begun before (Sign (codes "(")) _ (opens_word before opening).0 fine_open
    (is (Sign (codes "(")) _ opens_open (and_from _ _ (fine_shift op)
    (let parts = and_parts _ _ (based_ends n tokens after) in begun (Sign (shift_text op)) (Based n) (Sign (codes ")") ∷ tokens) (follows_based (Sign (shift_text op)) n) parts.0 parts.1))))

choose_safe : (t c o : Expr) → IsSafe t → IsSafe c → IsSafe o → IsSafe (roll-Expr (Expr-F.Choose t c o))
unfolding class_of extends
choose_safe t c o is_t is_c is_o before tokens opening after =
    let q = and_parts _ _ (mark_opens (codes "?") refl) in
    let n = and_parts _ _ (mark_opens (codes ":") refl) in
    layer_safe_as (Expr-F.Choose t c o) tokens _ before (choose_tokens t c o tokens)
    (begun before (Sign (codes "(")) _ (opens_word before opening).0 fine_open
    (is_t (Sign (codes "(")) _ opens_open (and_from _ _ q.0
    (is_c (Sign (codes "?")) _ q.1 (and_from _ _ n.0 (is_o (Sign (codes ":")) _ n.1 (round_ends tokens after)))))))

fine_number : (n : ℕ) → (follows (Sign (codes "{")) (Number n) && is_fine (Number n)) ≡ true
unfolding follows is_fine
fine_number n = refl

repeat_safe : (n : ℕ) (e : Expr) → IsSafe e → IsSafe (roll-Expr (Expr-F.Repeat n e))
repeat_safe n e is before tokens opening after =
    let f = and_parts _ _ (fine_number n) in
    layer_safe_as (Expr-F.Repeat n e) tokens _ before (repeat_tokens n e tokens)
    (begun before (Sign (codes "{")) (Number n ∷ Sign (codes "{") ∷ (expr_tokens e ++ Sign (codes "}") ∷ Sign (codes "}") ∷ tokens)) (opens_word before opening).1 fine_brace
    (begun (Sign (codes "{")) (Number n) (Sign (codes "{") ∷ (expr_tokens e ++ Sign (codes "}") ∷ Sign (codes "}") ∷ tokens)) f.0 f.1
    (begun (Number n) (Sign (codes "{")) _ (closes_number n (Sign (codes "{"))) fine_brace
    (is (Sign (codes "{")) (Sign (codes "}") ∷ Sign (codes "}") ∷ tokens) opens_brace (brace_ends (Sign (codes "}") ∷ tokens) (brace_ends tokens after))))))

-- concatenations

abbrev Parts : Type 0
Parts = List ((e : Expr) × IsSafe e)

abbrev exprs_of : Parts → List Expr
exprs_of ps = map (λ (p : (e : Expr) × IsSafe e). p.0) ps

more_safe : (ps : Parts) (tokens : List Token) → fine_first tokens ≡ true → fine_first (more_tokens (exprs_of ps) tokens) ≡ true
unfolding class_of extends
more_safe [] tokens after = brace_ends tokens after
more_safe (p ∷ ps) tokens after =
    let f = and_parts _ _ (mark_opens (codes ",") refl) in and_from _ _ f.0 (p.1 (Sign (codes ",")) _ f.1 (more_safe ps tokens after))

concat_safe : (ps : Parts) → IsSafe (roll-Expr (Expr-F.Concat (exprs_of ps)))
unfolding extends
concat_safe [] before tokens opening after =
    layer_safe_as (Expr-F.Concat []) tokens (Sign (codes "{") ∷ Sign (codes "}") ∷ tokens) before refl
    (begun before (Sign (codes "{")) (Sign (codes "}") ∷ tokens) (opens_word before opening).1 fine_brace (after_mark (codes "{") (Sign (codes "}") ∷ tokens) never (brace_ends tokens after)))
concat_safe (p ∷ ps) before tokens opening after =
    layer_safe_as (Expr-F.Concat (p.0 ∷ exprs_of ps)) tokens _ before (concat_tokens p.0 (exprs_of ps) tokens)
    (begun before (Sign (codes "{")) _ (opens_word before opening).1 fine_brace (p.1 (Sign (codes "{")) _ opens_brace (more_safe ps tokens after)))

-- every expression may stand there
pub expr_safe : (e : Expr) → IsSafe e
expr_safe e =
    by_forms IsSafe name_safe bit_safe part_safe literal_safe concat_safe repeat_safe as_signed_safe as_unsigned_safe unary_safe binary_safe shift_safe choose_safe e
