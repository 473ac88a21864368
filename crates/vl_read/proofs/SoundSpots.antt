-- What each lexeme adds after an operand, and at each spot of an expression.
use Rattle.std.proofs.Common.{◌≡◌, ℕ, ◌+◌, ◌≤◌, ◌⊎◌, Bool, true, false, cond, List, [], ◌∷◌, ◌++◌, map, length, max, fold, Option, Some, None, inl, inr, refl, sym, ◌∙◌, ap, subst, codes, arith}
use Rattle.std.proofs.Common.{append_assoc, bytes_eq, option_and_then}
use Rattle.std.specs.Prelude.{◌&&◌}
use Rattle.std.specs.List.{list_all}
use Rattle.std.proofs.lemmas.Bool.{and_from}
use Rattle.std.proofs.lemmas.List.{map-append}
use Rattle.std.proofs.lemmas.List.Folds.{list_all-append}
use Rattle.std.proofs.lemmas.List.Sums.{fold-append}
use Rattle.vl_ast.specs.declared.expressions.UnOp.{UnOp}
use Rattle.vl_ast.specs.declared.expressions.BinOp.{BinOp}
use Rattle.vl_ast.specs.declared.expressions.ShiftOp.{ShiftOp}
use Rattle.vl_ast.specs.declared.expressions.Sized.{Sized}
use Rattle.vl_ast.specs.declared.expressions.Expr.{Expr}
use Rattle.vl_ast.specs.declared.expressions.Expr.TheOpen.{Expr-F}
use Rattle.vl_ast.specs.declared.expressions.Expr.TheViews.{roll-Expr, out-Expr, roll-out-Expr}
use Rattle.vl_ast.specs.declared.expressions.Expr.TheFolds.{map-Expr}
use Rattle.vl_ast.specs.Spelling.{joined}
use Rattle.vl_ast.specs.Operators.{binary_text, shift_text, infix_of, shift_of}
use Rattle.vl_ast.specs.Tokens.{Token, Sign, Identifier, Number, Based, IsDec, IsBased}
use Rattle.vl_ast.specs.Grammar.{comma, tokens_step, expr_tokens, depth, is_filled, is_filled_step, IsExpr}
use Rattle.vl_read.specs.declared.places.Bracket.TheVariants.{CloseParenthesis, CloseBrace, CloseBracket}
use Rattle.vl_read.specs.declared.scan.Kind.{Kind}
use Rattle.vl_read.specs.declared.scan.Kind.TheVariants.{Count, Constant}
use Rattle.vl_read.specs.declared.places.Frame.{Frame}
use Rattle.vl_read.specs.declared.places.Frame.TheVariants.{InConcat, InRepeat, InCast, InUnary, InLeft, InRight, InChosen, InOther}
use Rattle.vl_read.specs.inner.Places.{Spot, Goal, Parser, bracket_byte}
use Rattle.vl_read.specs.inner.Places.Spot.{Operand, Opened, Braced, Begins, Value, Ends, Amount, Index, High, Low}
use Rattle.vl_read.specs.declared.places.Draft.{Draft}
use Rattle.vl_read.specs.inner.Plain.{spot_at, innermost, innermost_of, left_by, left_step, frame_step, goal_step, value_step, name_of, indexed, spot_step}
use Rattle.vl_read.specs.inner.LexemeSteps.{count_of, constant_of}
use Rattle.vl_read.proofs.KindSound.{IsOfKind}
use Rattle.vl_read.proofs.ExpressionText.{before_next, before_push, joined_push, frame_tokens, frames_tokens, IsGood, Begun}
use Rattle.vl_read.proofs.SoundFrames.{either_word, nowhere, twice, grow, length_depth, Inside, inside, good_layer, layer_text, close, next_part, Goes, goes_to, goes_by}
use Rattle.vl_read.proofs.SoundExpressions.{infix_sound, shift_sound, ends_operand, operand_sound, opened_sound, braced_sound}

-- concatenations

-- the parts and a comma, or a brace
parts_comma : (parts : List Expr) (value : Expr) → (frame_tokens (InConcat parts) ++ expr_tokens value) ++ Sign (codes ",") ∷ [] ≡ frame_tokens (InConcat (parts ++ value ∷ []))
parts_comma parts value =
    ap (λ t. Sign (codes "{") ∷ t) (append_assoc (before_next (map expr_tokens parts)) (expr_tokens value) comma
    ∙ sym (before_push (map expr_tokens parts) (expr_tokens value)) ∙ ap before_next (sym (map-append expr_tokens parts (value ∷ []))))

parts_brace : (parts : List Expr) (value : Expr) →
    (frame_tokens (InConcat parts) ++ expr_tokens value) ++ Sign (codes "}") ∷ [] ≡ tokens_step (map-Expr Expr (List Token) expr_tokens (Expr-F.Concat (parts ++ value ∷ [])))
parts_brace parts value =
    ap (λ t. Sign (codes "{") ∷ (t ++ Sign (codes "}") ∷ [])) (joined_push (map expr_tokens parts) (expr_tokens value) ∙ ap (λ ts. joined comma ts) (sym (map-append expr_tokens parts (value ∷ []))))

parts_depth : (parts : List Expr) (value : Expr) → fold max 0 (map depth (parts ++ value ∷ [])) ≡ max (fold max 0 (map depth parts)) (depth value)
parts_depth parts value = ap (fold max 0) (map-append depth parts (value ∷ [])) ∙ fold-append max 0 (map depth parts) (depth value ∷ [])

parts_filled : (parts : List Expr) (value : Expr) → list_all (λ more. more) (map is_filled parts) ≡ true → is_filled value ≡ true → list_all (λ more. more) (map is_filled (parts ++ value ∷ [])) ≡ true
parts_filled parts value filled here =
    ap (list_all (λ more. more)) (map-append is_filled parts (value ∷ [])) ∙ list_all-append (λ more. more) (map is_filled parts) (is_filled value ∷ [])
    ∙ and_from (list_all (λ more. more) (map is_filled parts)) (is_filled value && true) filled (and_from (is_filled value) true here refl)

concat_filled : (parts : List Expr) (value : Expr)
    → list_all (λ more. more) (map is_filled (parts ++ value ∷ [])) ≡ true
    → is_filled_step (map-Expr Expr Bool is_filled (Expr-F.Concat (parts ++ value ∷ []))) ≡ true
concat_filled [] value filled = filled
concat_filled (p ∷ ps) value filled = filled

concat_sound : (draft : Draft) (goal : Goal) (outer : List Frame) (parts : List Expr) (value : Expr) (lexeme : List ℕ) (text : List Token) (q : Parser) → Inside outer (InConcat parts) value text →
    frame_step draft goal outer (InConcat parts) value lexeme ≡ Some q → Goes draft goal text lexeme q
unfolding frame_step
concat_sound draft goal outer parts value lexeme text q in_frame =
    let filled : list_all (λ more. more) (map is_filled (parts ++ value ∷ [])) ≡ true = parts_filled parts value in_frame.frame_filled in_frame.filled in
    let frame_deep : fold max 0 (map depth parts) + length outer + 1 ≤ 256 = in_frame.frame_deep in
    let deep : fold max 0 (map depth (parts ++ value ∷ [])) + length outer + 1 ≤ 256 = omega (arith, parts_depth parts value, frame_deep, in_frame.deep) in
    either_word lexeme (codes ",") _ _ q
    (λ h e. goes_to draft goal text lexeme q (outer ++ InConcat (parts ++ value ∷ []) ∷ []) Operand (Sign (codes ",")) h
    (next_part outer (InConcat parts) (InConcat (parts ++ value ∷ [])) value text (Sign (codes ",")) in_frame (parts_comma parts value) deep filled) e)
    (goes_by draft goal text lexeme (codes "}") q outer (Value (roll-Expr (Expr-F.Concat (parts ++ value ∷ []))))
    (close outer (InConcat parts) value text (Expr-F.Concat (parts ++ value ∷ [])) (Sign (codes "}")) in_frame (parts_brace parts value) (omega (arith, deep)) (concat_filled parts value filled)))

-- the other forms

repeat_sound : (draft : Draft) (goal : Goal) (outer : List Frame) (count : ℕ) (value : Expr) (lexeme : List ℕ) (text : List Token) (q : Parser) → Inside outer (InRepeat count) value text →
    frame_step draft goal outer (InRepeat count) value lexeme ≡ Some q → Goes draft goal text lexeme q
unfolding frame_step
repeat_sound draft goal outer count value lexeme text q in_frame =
    let x : Expr-F Expr = Expr-F.Repeat count value in
    goes_by draft goal text lexeme (codes "}") q outer (Ends (roll-Expr x) CloseBrace)
    (record {
      is = twice text (Sign (codes "}")) (Sign (codes "}")) ∙ ap (λ t. t ++ Sign (codes "}") ∷ Sign (codes "}") ∷ []) in_frame.is
          ∙ append_assoc (frames_tokens outer) (frame_tokens (InRepeat count) ++ expr_tokens value) (Sign (codes "}") ∷ Sign (codes "}") ∷ []) ∙ ap (λ t. frames_tokens outer ++ t) (layer_text x);
      deep = in_frame.outer_deep;
      filled = in_frame.outer_filled;
      room = good_layer x (length outer) (omega (arith, in_frame.deep)) in_frame.filled;
    })

cast_sound : (draft : Draft) (goal : Goal) (outer : List Frame) (signed : Bool) (value : Expr) (lexeme : List ℕ) (text : List Token) (q : Parser) → Inside outer (InCast signed) value text →
    frame_step draft goal outer (InCast signed) value lexeme ≡ Some q → Goes draft goal text lexeme q
unfolding frame_step
cast_sound draft goal outer true value lexeme text q in_frame =
    goes_by draft goal text lexeme (codes ")") q outer (Value (roll-Expr (Expr-F.AsSigned value)))
    (close outer (InCast true) value text (Expr-F.AsSigned value) (Sign (codes ")")) in_frame refl (omega (arith, in_frame.deep)) in_frame.filled)
cast_sound draft goal outer false value lexeme text q in_frame =
    goes_by draft goal text lexeme (codes ")") q outer (Value (roll-Expr (Expr-F.AsUnsigned value)))
    (close outer (InCast false) value text (Expr-F.AsUnsigned value) (Sign (codes ")")) in_frame refl (omega (arith, in_frame.deep)) in_frame.filled)

unary_sound : (draft : Draft) (goal : Goal) (outer : List Frame) (op : UnOp) (value : Expr) (lexeme : List ℕ) (text : List Token) (q : Parser) → Inside outer (InUnary op) value text →
    frame_step draft goal outer (InUnary op) value lexeme ≡ Some q → Goes draft goal text lexeme q
unfolding frame_step
unary_sound draft goal outer op value lexeme text q in_frame =
    goes_by draft goal text lexeme (codes ")") q outer (Value (roll-Expr (Expr-F.Unary op value)))
    (close outer (InUnary op) value text (Expr-F.Unary op value) (Sign (codes ")")) in_frame refl (omega (arith, in_frame.deep)) in_frame.filled)

-- an operator, and an operand, and a bracket
two_parts : (a b : List Token) (s t : Token) → ((a ++ s ∷ []) ++ b) ++ t ∷ [] ≡ a ++ s ∷ (b ++ t ∷ [])
two_parts a b s t = simp append_assoc

right_sound : (draft : Draft) (goal : Goal) (outer : List Frame) (op : BinOp) (left value : Expr) (lexeme : List ℕ) (text : List Token) (q : Parser) → Inside outer (InRight op left) value text →
    frame_step draft goal outer (InRight op left) value lexeme ≡ Some q → Goes draft goal text lexeme q
unfolding frame_step
right_sound draft goal outer op left value lexeme text q in_frame =
    let frame_deep : depth left + length outer + 1 ≤ 256 = in_frame.frame_deep in
    goes_by draft goal text lexeme (codes ")") q outer (Value (roll-Expr (Expr-F.Binary op left value)))
    (close outer (InRight op left) value text (Expr-F.Binary op left value) (Sign (codes ")")) in_frame
    (ap (λ t. Sign (codes "(") ∷ t) (two_parts (expr_tokens left) (expr_tokens value) (Sign (binary_text op)) (Sign (codes ")"))))
    (omega (arith, in_frame.deep, frame_deep)) (and_from (is_filled left) (is_filled value) in_frame.frame_filled in_frame.filled))

chosen_sound : (draft : Draft) (goal : Goal) (outer : List Frame) (test value : Expr) (lexeme : List ℕ) (text : List Token) (q : Parser) → Inside outer (InChosen test) value text →
    frame_step draft goal outer (InChosen test) value lexeme ≡ Some q → Goes draft goal text lexeme q
unfolding frame_step
chosen_sound draft goal outer test value lexeme text q in_frame =
    let frame_deep : depth test + length outer + 1 ≤ 256 = in_frame.frame_deep in
    goes_by draft goal text lexeme (codes ":") q (outer ++ InOther test value ∷ []) Operand
    (next_part outer (InChosen test) (InOther test value) value text (Sign (codes ":")) in_frame
    (ap (λ t. Sign (codes "(") ∷ t) (two_parts (expr_tokens test) (expr_tokens value) (Sign (codes "?")) (Sign (codes ":"))))
    (omega (arith, in_frame.deep, frame_deep)) (and_from (is_filled test) (is_filled value) in_frame.frame_filled in_frame.filled))

other_sound : (draft : Draft) (goal : Goal) (outer : List Frame) (test chosen value : Expr) (lexeme : List ℕ) (text : List Token) (q : Parser) → Inside outer (InOther test chosen) value text →
    frame_step draft goal outer (InOther test chosen) value lexeme ≡ Some q → Goes draft goal text lexeme q
unfolding frame_step
other_sound draft goal outer test chosen value lexeme text q in_frame =
    let frame_deep : max (depth test) (depth chosen) + length outer + 1 ≤ 256 = in_frame.frame_deep in
    goes_by draft goal text lexeme (codes ")") q outer (Value (roll-Expr (Expr-F.Choose test chosen value)))
    (close outer (InOther test chosen) value text (Expr-F.Choose test chosen value) (Sign (codes ")")) in_frame
    (ap (λ t. Sign (codes "(") ∷ t) (three_parts (expr_tokens test) (expr_tokens chosen) (expr_tokens value) (Sign (codes "?")) (Sign (codes ":")) (Sign (codes ")"))))
    (omega (arith, in_frame.deep, frame_deep)) (and_from (is_filled test && is_filled chosen) (is_filled value) in_frame.frame_filled in_frame.filled))
  where
    three_parts : (a b c : List Token) (s t u : Token) → ((a ++ s ∷ (b ++ t ∷ [])) ++ c) ++ u ∷ [] ≡ a ++ s ∷ (b ++ t ∷ (c ++ u ∷ []))
    three_parts a b c s t u = simp append_assoc

-- after the first operand in parentheses

left_op : (draft : Draft) (goal : Goal) (outer : List Frame) (value : Expr) (lexeme : List ℕ) (text : List Token)
    (q : Parser) (op : Option BinOp) (shift : Option ShiftOp) → Inside outer InLeft value text →
    infix_of lexeme ≡ op → shift_of lexeme ≡ shift → left_by draft goal outer value op shift ≡ Some q → Goes draft goal text lexeme q
left_op draft goal outer value lexeme text q (Some op) shift in_frame is_op is_shift e =
    goes_to draft goal text lexeme q (outer ++ InRight op value ∷ []) Operand (Sign (binary_text op)) (infix_sound lexeme op is_op)
    (next_part outer InLeft (InRight op value) value text (Sign (binary_text op)) in_frame refl in_frame.deep in_frame.filled) e
left_op draft goal outer value lexeme text q None (Some op) in_frame is_op is_shift e =
    goes_to draft goal text lexeme q outer (Amount op value) (Sign (shift_text op)) (shift_sound lexeme op is_shift)
    (record {
      is = grow (frames_tokens outer) (frame_tokens InLeft ++ expr_tokens value) _ text (Sign (shift_text op)) in_frame.is refl;
      deep = in_frame.outer_deep;
      filled = in_frame.outer_filled;
      room = (omega (arith, in_frame.deep), in_frame.filled);
    }) e
left_op draft goal outer value lexeme text q None None in_frame is_op is_shift e = nowhere q e

left_sound : (draft : Draft) (goal : Goal) (outer : List Frame) (value : Expr) (lexeme : List ℕ) (text : List Token) (q : Parser) → Inside outer InLeft value text →
    left_step draft goal outer value lexeme ≡ Some q → Goes draft goal text lexeme q
unfolding left_step
left_sound draft goal outer value lexeme text q in_frame =
    either_word lexeme (codes "?") _ _ q
    (λ h e. goes_to draft goal text lexeme q (outer ++ InChosen value ∷ []) Operand (Sign (codes "?")) h
    (next_part outer InLeft (InChosen value) value text (Sign (codes "?")) in_frame refl in_frame.deep in_frame.filled) e)
    (left_op draft goal outer value lexeme text q (infix_of lexeme) (shift_of lexeme) in_frame refl refl)

pub frame_sound : (draft : Draft) (goal : Goal) (outer : List Frame) (frame : Frame) (value : Expr) (lexeme : List ℕ) (text : List Token) (q : Parser) → Inside outer frame value text →
    frame_step draft goal outer frame value lexeme ≡ Some q → Goes draft goal text lexeme q
unfolding frame_step
frame_sound draft goal outer (InConcat parts) value lexeme text q in_frame e = concat_sound draft goal outer parts value lexeme text q in_frame e
frame_sound draft goal outer (InRepeat count) value lexeme text q in_frame e = repeat_sound draft goal outer count value lexeme text q in_frame e
frame_sound draft goal outer (InCast signed) value lexeme text q in_frame e = cast_sound draft goal outer signed value lexeme text q in_frame e
frame_sound draft goal outer (InUnary op) value lexeme text q in_frame e = unary_sound draft goal outer op value lexeme text q in_frame e
frame_sound draft goal outer InLeft value lexeme text q in_frame e = left_sound draft goal outer value lexeme text q in_frame e
frame_sound draft goal outer (InRight op left) value lexeme text q in_frame e = right_sound draft goal outer op left value lexeme text q in_frame e
frame_sound draft goal outer (InChosen test) value lexeme text q in_frame e = chosen_sound draft goal outer test value lexeme text q in_frame e
frame_sound draft goal outer (InOther test chosen) value lexeme text q in_frame e = other_sound draft goal outer test chosen value lexeme text q in_frame e

-- the innermost frame

abbrev Splits : List Frame → Option (List Frame × Frame) → Type 0
Splits frames None = frames ≡ []
Splits frames (Some parts) = frames ≡ parts.0 ++ parts.1 ∷ []

splits_more : (frame : Frame) (frames : List Frame) (o : Option (List Frame × Frame)) → Splits frames o → Splits (frame ∷ frames) (innermost_of frame o)
splits_more frame frames None is = ap (λ fs. frame ∷ fs) is
splits_more frame frames (Some parts) is = ap (λ fs. frame ∷ fs) is

splits : (frames : List Frame) → Splits frames (innermost frames)
splits [] = refl
splits (frame ∷ frames) = splits_more frame frames (innermost frames) (splits frames)

-- the expression is read, and the lexeme goes on with the item
pub record Ended (draft : Draft) (goal : Goal) (text : List Token) (lexeme : List ℕ) (q : Parser) : Type 0 where
  pub value : Expr
  pub is : text ≡ expr_tokens value
  pub good : IsExpr value
  pub goes : goal_step draft goal value lexeme ≡ Some q

ended_with : (draft : Draft) (goal : Goal) (value : Expr) (lexeme : List ℕ) (text : List Token) (q : Parser)
    → Begun [] (Value value) text → goal_step draft goal value lexeme ≡ Some q → Ended draft goal text lexeme q
ended_with draft goal value lexeme text q begun e =
    let good : IsGood 0 value = begun.room in
    record { value = value; is = begun.is; good = (omega (arith, good.0), good.1); goes = e }

value_sound : (draft : Draft) (goal : Goal) (frames : List Frame) (o : Option (List Frame × Frame)) (value : Expr)
    (lexeme : List ℕ) (text : List Token) (q : Parser) → Begun frames (Value value) text → Splits frames o →
    value_step draft goal o value lexeme ≡ Some q → Goes draft goal text lexeme q ⊎ Ended draft goal text lexeme q
value_sound draft goal frames None value lexeme text q begun is e =
    inr (ended_with draft goal value lexeme text q (subst (λ fs. Begun fs (Value value) text) is begun) e)
value_sound draft goal frames (Some parts) value lexeme text q begun is e =
    inl (frame_sound draft goal parts.0 parts.1 value lexeme text q (inside parts.0 parts.1 value text (subst (λ fs. Begun fs (Value value) text) is begun)) e)

-- `[` after a name

named : (x : Expr-F Expr) (name : List ℕ) → name_of x ≡ Some name → expr_tokens (roll-Expr x) ≡ Identifier name ∷ []
named (Expr-F.Name n) name e = let same : n ≡ name = cc in sym (layer_text (Expr-F.Name n)) ∙ ap (λ x. Identifier x ∷ []) same
named x name e = let no : ⊥ = cc in absurd no

named_tokens : (value : Expr) (name : List ℕ) → name_of (out-Expr value) ≡ Some name → expr_tokens value ≡ Identifier name ∷ []
named_tokens value name e = ap expr_tokens (sym (roll-out-Expr value)) ∙ named (out-Expr value) name e

index_sound : (draft : Draft) (goal : Goal) (frames : List Frame) (value : Expr) (o : Option (List ℕ))
    (lexeme : List ℕ) (text : List Token) (q : Parser) → Begun frames (Value value) text
    → name_of (out-Expr value) ≡ o →
    lexeme ≡ codes "[" → indexed draft goal frames o ≡ Some q → Goes draft goal text lexeme q
index_sound draft goal frames value None lexeme text q begun is h e = nowhere q e
index_sound draft goal frames value (Some name) lexeme text q begun is h e =
    goes_to draft goal text lexeme q frames (Index name) (Sign (codes "[")) h
    (record {
      is = grow (frames_tokens frames) (Identifier name ∷ []) _ text (Sign (codes "[")) (begun.is ∙ ap (λ t. frames_tokens frames ++ t) (named_tokens value name is)) refl;
      deep = begun.deep;
      filled = begun.filled;
      room = tt;
    }) e

-- the amount of a shift, and the numbers of a bit and a part

amount_sound : (draft : Draft) (goal : Goal) (frames : List Frame) (op : ShiftOp) (value : Expr) (amount : Sized) (text : List Token) → Begun frames (Amount op value) text →
    Begun frames (Ends (roll-Expr (Expr-F.Shift op value amount)) CloseParenthesis) (text ++ Based amount ∷ [])
amount_sound draft goal frames op value amount text begun =
    let good : IsGood (length frames + 1) value = begun.room in
    let x : Expr-F Expr = Expr-F.Shift op value amount in
    record {
      is = ap (λ t. (t ++ Based amount ∷ []) ++ Sign (codes ")") ∷ []) begun.is
          ∙ regroup (frames_tokens frames) (expr_tokens value) (Sign (codes "(")) (Sign (shift_text op))
          (Based amount) (Sign (codes ")"))
          ∙ ap (λ t. frames_tokens frames ++ t) (layer_text x);
      deep = begun.deep;
      filled = begun.filled;
      room = good_layer x (length frames) (omega (arith, good.0)) good.1;
    }
  where
    regroup : (f a : List Token) (s t u v : Token) → ((f ++ (s ∷ (a ++ t ∷ []))) ++ u ∷ []) ++ v ∷ [] ≡ f ++ (s ∷ (a ++ t ∷ u ∷ v ∷ []))
    regroup f a s t u v = simp append_assoc

low_sound : (frames : List Frame) (name : List ℕ) (high low : ℕ) (text : List Token)
    → Begun frames (Low name high) text
    → Begun frames (Ends (roll-Expr (Expr-F.Part name high low)) CloseBracket) (text ++ Number low ∷ [])
low_sound frames name high low text begun =
    let x : Expr-F Expr = Expr-F.Part name high low in
    record {
      is = ap (λ t. (t ++ Number low ∷ []) ++ Sign (codes "]") ∷ []) begun.is
          ∙ regroup (frames_tokens frames) (Identifier name ∷ Sign (codes "[") ∷ Number high ∷ Sign (codes ":")
          ∷ []) (Number low) (Sign (codes "]")) ∙ ap (λ t. frames_tokens frames ++ t) (layer_text x);
      deep = begun.deep;
      filled = begun.filled;
      room = good_layer x (length frames) (omega (arith, length_depth frames, begun.deep)) refl;
    }
  where
    regroup : (f a : List Token) (s t : Token) → ((f ++ a) ++ s ∷ []) ++ t ∷ [] ≡ f ++ (a ++ s ∷ t ∷ [])
    regroup f a s t = simp append_assoc

high_sound : (draft : Draft) (goal : Goal) (frames : List Frame) (name : List ℕ) (place : ℕ) (lexeme : List ℕ) (text : List Token) (q : Parser) → Begun frames (High name place) text →
    cond (bytes_eq lexeme (codes "]")) (spot_at draft goal frames (Value (roll-Expr (Expr-F.Bit name place))))
    (cond (bytes_eq lexeme (codes ":")) (spot_at draft goal frames (Low name place)) None) ≡ Some q →
    Goes draft goal text lexeme q
high_sound draft goal frames name place lexeme text q begun =
    let x : Expr-F Expr = Expr-F.Bit name place in
    either_word lexeme (codes "]") _ _ q
    (λ h e. goes_to draft goal text lexeme q frames (Value (roll-Expr x)) (Sign (codes "]")) h
    (ends_operand frames x _ text (Sign (codes "]")) begun.deep begun.filled begun.is refl (good_layer x (length frames) (omega (arith, length_depth frames, begun.deep)) refl)) e)
    (goes_by draft goal text lexeme (codes ":") q frames (Low name place)
    (record { is = grow (frames_tokens frames) _ _ text (Sign (codes ":")) begun.is refl; deep = begun.deep; filled = begun.filled; room = tt }))

index_number : (frames : List Frame) (name : List ℕ) (place : ℕ) (text : List Token) → Begun frames (Index name) text → Begun frames (High name place) (text ++ Number place ∷ [])
index_number frames name place text begun =
    record { is = grow (frames_tokens frames) _ _ text (Number place) begun.is refl; deep = begun.deep; filled = begun.filled; room = tt }

-- a number that is wanted is there
pub on_count : {R : Type 0} (kind : Kind) (lexeme : List ℕ) (f : ℕ → Option Parser) (q : Parser)
    → IsOfKind kind lexeme → ((n : ℕ) → IsDec n lexeme → f n ≡ Some q → R)
    → option_and_then f (count_of kind) ≡ Some q → R
on_count (Count n) lexeme f q is more e = more n is e
on_count _ lexeme f q is more e = nowhere q e

pub on_constant : {R : Type 0} (kind : Kind) (lexeme : List ℕ) (f : Sized → Option Parser) (q : Parser)
    → IsOfKind kind lexeme → ((n : Sized) → IsBased n lexeme → f n ≡ Some q → R)
    → option_and_then f (constant_of kind) ≡ Some q → R
on_constant (Constant n) lexeme f q is more e = more n is e
on_constant _ lexeme f q is more e = nowhere q e

pub spot_sound : (draft : Draft) (goal : Goal) (frames : List Frame) (spot : Spot) (kind : Kind) (lexeme : List ℕ) (text : List Token) (q : Parser) → Begun frames spot text → IsOfKind kind lexeme →
    spot_step draft goal frames spot kind lexeme ≡ Some q → Goes draft goal text lexeme q ⊎ Ended draft goal text lexeme q
unfolding spot_step
spot_sound draft goal frames Operand kind lexeme text q begun is e = inl (operand_sound draft goal frames kind lexeme text q begun is e)
spot_sound draft goal frames Opened kind lexeme text q begun is e = inl (opened_sound draft goal frames kind lexeme text q begun is e)
spot_sound draft goal frames Braced kind lexeme text q begun is e = inl (braced_sound draft goal frames kind lexeme text q begun is e)
spot_sound draft goal frames (Begins mark) kind lexeme text q begun is e =
    inl (goes_by draft goal text lexeme (bracket_byte mark ∷ []) q frames Operand (record { is = begun.is; deep = begun.deep; filled = begun.filled; room = tt }) e)
spot_sound draft goal frames (Value value) kind lexeme text q begun is e =
    either_word lexeme (codes "[") _ _ q
    (λ h e. inl (index_sound draft goal frames value (name_of (out-Expr value)) lexeme text q begun refl h e))
    (λ e. value_sound draft goal frames (innermost frames) value lexeme text q begun (splits frames) e) e
spot_sound draft goal frames (Ends value mark) kind lexeme text q begun is e =
    inl (goes_by draft goal text lexeme (bracket_byte mark ∷ []) q frames (Value value) (record { is = begun.is; deep = begun.deep; filled = begun.filled; room = begun.room }) e)
spot_sound draft goal frames (Amount op value) kind lexeme text q begun is e =
    on_constant kind lexeme _ q is
    (λ n written e. inl (goes_to draft goal text lexeme q frames
    (Ends (roll-Expr (Expr-F.Shift op value n)) CloseParenthesis) (Based n) written
    (amount_sound draft goal frames op value n text begun) e)) e
spot_sound draft goal frames (Index name) kind lexeme text q begun is e =
    on_count kind lexeme _ q is (λ n written e. inl (goes_to draft goal text lexeme q frames (High name n) (Number n) written (index_number frames name n text begun) e)) e
spot_sound draft goal frames (High name place) kind lexeme text q begun is e = inl (high_sound draft goal frames name place lexeme text q begun e)
spot_sound draft goal frames (Low name high) kind lexeme text q begun is e =
    on_count kind lexeme _ q is
    (λ n written e. inl (goes_to draft goal text lexeme q frames (Ends (roll-Expr (Expr-F.Part name high n)) CloseBracket) (Number n) written (low_sound frames name high n text begun) e)) e
