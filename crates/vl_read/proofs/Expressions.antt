-- Each expression is read from what is written for its tokens.
use Rattle.std.proofs.Common.{◌≡◌, ℕ, ◌+◌, ◌≤◌, Bool, true, false, cond, List, [], ◌∷◌, ◌++◌, length, Option, Some, refl, sym, ◌∙◌, ap, subst, codes, arith, length-append, bytes_eq}
use Rattle.std.proofs.lemmas.Bool.{false≢true}
use Rattle.vl_ast.specs.declared.expressions.Sized.{Sized}
use Rattle.vl_ast.specs.declared.expressions.Expr.{Expr}
use Rattle.vl_ast.specs.declared.expressions.Expr.TheOpen.{Expr-F}
use Rattle.vl_ast.specs.declared.expressions.Expr.TheViews.{out-Expr}
use Rattle.vl_ast.specs.declared.expressions.Expr.TheFolds.{map-Expr}
use Rattle.vl_ast.specs.Tokens.{Token}
use Rattle.vl_ast.specs.Grammar.{tokens_step, expr_tokens, depth, is_filled}
use Rattle.vl_read.specs.declared.scan.Kind.TheVariants.{Name, Constant}
use Rattle.vl_read.specs.declared.places.Frame.{Frame}
use Rattle.vl_read.specs.declared.places.Frame.TheVariants.{InConcat, InLeft}
use Rattle.vl_read.specs.inner.Places.{Spot, Goal, Place, Parser}
use Rattle.vl_read.specs.inner.Places.Spot.{Operand, Opened, Braced, Value}
use Rattle.vl_read.specs.inner.Places.Place.{Expression}
use Rattle.vl_read.specs.declared.places.Draft.{Draft}
use Rattle.vl_read.specs.inner.Lexemes.{kind_of, dec_of, sized_of}
use Rattle.vl_read.specs.inner.Plain.{step, innermost, innermost_of, indexed, value_step, frame_step, name_of, attr_step, declared, net_step, compound_step, operand_step, unary_or_left, opened_step}
use Rattle.vl_read.specs.inner.Plain.{braced_step, left_step, goal_step, spot_step, item_step, step_at}
use Rattle.vl_read.specs.inner.LexemeSteps.{parser_at}
use Rattle.vl_read.proofs.LexemeKinds.{name_kind, based_kind}
use Rattle.vl_read.proofs.Layers.{by_layers}
use Rattle.vl_read.proofs.FormTokens.{layer_tokens}
use Rattle.vl_read.proofs.TokenReader.{WritesEach, Writes, Reads, same_start}

abbrev pub at : Draft → Goal → List Frame → Spot → Parser
at draft goal frames spot = parser_at draft (Expression goal frames spot)

pub innermost_at : (frames : List Frame) (frame : Frame) → innermost (frames ++ frame ∷ []) ≡ Some (frames, frame)
innermost_at [] frame = refl
innermost_at (f ∷ fs) frame = ap (innermost_of f) (innermost_at fs frame)

pub no_index : (draft : Draft) (goal : Goal) (frames : List Frame) (value : Expr) (o : Option (List ℕ)) (lexeme : List ℕ) → bytes_eq lexeme (codes "[") ≡ false →
    cond (bytes_eq lexeme (codes "[")) (indexed draft goal frames o) (value_step draft goal (innermost frames) value lexeme) ≡ value_step draft goal (innermost frames) value lexeme
no_index draft goal frames value o lexeme h = ap (λ t. cond t (indexed draft goal frames o) (value_step draft goal (innermost frames) value lexeme)) h

-- what follows an operand in a frame
pub in_frame : (draft : Draft) (goal : Goal) (frames : List Frame) (frame : Frame) (value : Expr) (lexeme : List ℕ) → bytes_eq lexeme (codes "[") ≡ false →
    step (at draft goal (frames ++ frame ∷ []) (Value value)) lexeme ≡ frame_step draft goal frames frame value lexeme
unfolding step attr_step declared net_step compound_step operand_step unary_or_left opened_step braced_step left_step frame_step goal_step spot_step item_step step_at
in_frame draft goal frames frame value lexeme h =
    no_index draft goal (frames ++ frame ∷ []) value (name_of (out-Expr value)) lexeme h
    ∙ ap (λ o. value_step draft goal o value lexeme) (innermost_at frames frame)

-- the first lexeme of an operand
pub data Starts : List ℕ → Type 0 where
  as_name : (lexeme : List ℕ) → kind_of lexeme ≡ Name → Starts lexeme
  as_number : (lexeme : List ℕ) (n : Sized) → kind_of lexeme ≡ Constant n → Starts lexeme
  as_open : Starts (codes "(")
  as_brace : Starts (codes "{")
  as_signed : Starts (codes "$signed")
  as_unsigned : Starts (codes "$unsigned")

-- is read after `(` as after an operator,
starts_opened : (draft : Draft) (goal : Goal) (frames : List Frame) (lexeme : List ℕ) → Starts lexeme →
    step (at draft goal frames Opened) lexeme ≡ step (at draft goal (frames ++ InLeft ∷ []) Operand) lexeme
unfolding step attr_step declared net_step compound_step operand_step unary_or_left opened_step braced_step left_step frame_step goal_step spot_step item_step step_at kind_of dec_of sized_of
starts_opened draft goal frames lexeme (as_name _ h) = rw h refl
starts_opened draft goal frames lexeme (as_number _ n h) = rw h refl
starts_opened draft goal frames lexeme _ = refl

-- and after `{` too
starts_braced : (draft : Draft) (goal : Goal) (frames : List Frame) (lexeme : List ℕ) → Starts lexeme →
    step (at draft goal frames Braced) lexeme ≡ step (at draft goal (frames ++ InConcat [] ∷ []) Operand) lexeme
unfolding step attr_step declared net_step compound_step operand_step unary_or_left opened_step braced_step left_step frame_step goal_step spot_step item_step step_at kind_of dec_of sized_of
starts_braced draft goal frames lexeme (as_name _ h) = rw h refl
starts_braced draft goal frames lexeme (as_number _ n h) = rw h refl
starts_braced draft goal frames lexeme _ = refl

abbrev First : List (List ℕ) → Type 0
First lexemes = (lexeme : List ℕ) × (more : List (List ℕ)) × (lexemes ≡ lexeme ∷ more) × Starts lexeme

abbrev HasFirst : Expr → Type 0
HasFirst e = (tokens : List Token) (lexemes : List (List ℕ)) → Writes (expr_tokens e ++ tokens) lexemes → First lexemes

starts_at : (lexeme word : List ℕ) → lexeme ≡ word → Starts word → Starts lexeme
starts_at lexeme word e h = subst Starts (sym e) h

first_of : (y : Expr-F Expr) (tokens : List Token) (lexemes : List (List ℕ)) → WritesEach (tokens_step (map-Expr Expr (List Token) expr_tokens y) ++ tokens) lexemes → First lexemes
first_of (Expr-F.Name n) tokens lexemes w = (w.0, w.1, w.2, as_name w.0 (ap kind_of w.3.0 ∙ name_kind n w.3.1))
first_of (Expr-F.Bit n place) tokens lexemes w = (w.0, w.1, w.2, as_name w.0 (ap kind_of w.3.0 ∙ name_kind n w.3.1))
first_of (Expr-F.Part n high low) tokens lexemes w = (w.0, w.1, w.2, as_name w.0 (ap kind_of w.3.0 ∙ name_kind n w.3.1))
first_of (Expr-F.Literal n) tokens lexemes w = (w.0, w.1, w.2, as_number w.0 n (based_kind n w.0 w.3))
first_of (Expr-F.Concat parts) tokens lexemes w = (w.0, w.1, w.2, starts_at w.0 _ w.3 as_brace)
first_of (Expr-F.Repeat count part) tokens lexemes w = (w.0, w.1, w.2, starts_at w.0 _ w.3 as_brace)
first_of (Expr-F.AsSigned part) tokens lexemes w = (w.0, w.1, w.2, starts_at w.0 _ w.3 as_signed)
first_of (Expr-F.AsUnsigned part) tokens lexemes w = (w.0, w.1, w.2, starts_at w.0 _ w.3 as_unsigned)
first_of _ tokens lexemes w = (w.0, w.1, w.2, starts_at w.0 _ w.3 as_open)

pub first_lexeme : (e : Expr) → HasFirst e
first_lexeme e = by_layers HasFirst (λ y tokens lexemes w. let x : Expr-F Expr =
    map-Expr ((e : Expr) × HasFirst e) Expr (λ p. p.0) y in
    first_of x tokens lexemes (subst (λ t. Writes t lexemes) (layer_tokens x tokens) w).each) e

-- an expression is read where an operand begins
abbrev pub IsRead : Expr → Type 0
IsRead e = (draft : Draft) (goal : Goal) (frames : List Frame) (tokens : List Token) (lexemes : List (List ℕ)) → depth e + length frames ≤ 256 → is_filled e ≡ true →
    Writes (expr_tokens e ++ tokens) lexemes → Reads (at draft goal frames Operand) lexemes (at draft goal frames (Value e)) tokens

-- whether an operand was read
abbrev is_value : Spot → Bool
is_value (Value value) = true
is_value spot = false

abbrev at_value : Place → Bool
at_value (Expression goal frames spot) = is_value spot
at_value place = false

unread : {draft other : Draft} {goal goal' : Goal} {frames frames' : List Frame} {value : Expr} → at draft goal frames Operand ≡ at other goal' frames' (Value value) → ⊥
unread h = false≢true (ap (λ (p : Parser). at_value p.place) h)

-- after `(`, and after `{`
pub opened_read : (e : Expr) → IsRead e → (draft : Draft) (goal : Goal) (frames : List Frame) (tokens : List Token) (lexemes : List (List ℕ)) → depth e + 1 + length frames ≤ 256 → is_filled e ≡ true →
    Writes (expr_tokens e ++ tokens) lexemes → Reads (at draft goal frames Opened) lexemes (at draft goal (frames ++ InLeft ∷ []) (Value e)) tokens
opened_read e read draft goal frames tokens lexemes deep filled w =
    let first = first_lexeme e tokens lexemes w in
    same_start _ _ _ lexemes first.1 first.0 tokens first.2 (starts_opened draft goal frames first.0 first.3) (λ h. unread h)
    (read draft goal (frames ++ InLeft ∷ []) tokens lexemes (omega (arith, length-append frames (InLeft ∷ []))) filled w)

pub braced_read : (e : Expr) → IsRead e → (draft : Draft) (goal : Goal) (frames : List Frame) (tokens : List Token) (lexemes : List (List ℕ)) → depth e + 1 + length frames ≤ 256 → is_filled e ≡ true →
    Writes (expr_tokens e ++ tokens) lexemes → Reads (at draft goal frames Braced) lexemes (at draft goal (frames ++ InConcat [] ∷ []) (Value e)) tokens
braced_read e read draft goal frames tokens lexemes deep filled w =
    let first = first_lexeme e tokens lexemes w in
    same_start _ _ _ lexemes first.1 first.0 tokens first.2 (starts_braced draft goal frames first.0 first.3) (λ h. unread h)
    (read draft goal (frames ++ InConcat [] ∷ []) tokens lexemes (omega (arith, length-append frames (InConcat [] ∷ []))) filled w)
