-- What each lexeme adds to an expression that is begun.
use Rattle.std.proofs.Common.{◌≡◌, ℕ, ◌<◌, ◌≤◌, Bool, true, false, cond, List, [], ◌∷◌, ◌++◌, length, Option, Some, None, refl, sym, ◌∙◌, ap, codes, arith, append_assoc, append-nil, bytes_eq}
use Rattle.std.specs.List.{list_all}
use Rattle.std.proofs.lemmas.Bool.{ltb-true}
use Rattle.vl_ast.specs.declared.expressions.UnOp.{UnOp}
use Rattle.vl_ast.specs.declared.expressions.UnOp.TheVariants.{Negate, Invert, IsZero}
use Rattle.vl_ast.specs.declared.expressions.BinOp.{BinOp}
use Rattle.vl_ast.specs.declared.expressions.BinOp.TheVariants.{Add, Subtract, Multiply, And, Or, Xor, Equal, NotEqual, Less, LessEqual, Greater, GreaterEqual, Both, Either}
use Rattle.vl_ast.specs.declared.expressions.ShiftOp.{ShiftOp}
use Rattle.vl_ast.specs.declared.expressions.ShiftOp.TheVariants.{Left, Right, RightSigned}
use Rattle.vl_ast.specs.declared.expressions.Sized.{Sized}
use Rattle.vl_ast.specs.declared.expressions.Expr.{Expr}
use Rattle.vl_ast.specs.declared.expressions.Expr.TheOpen.{Expr-F}
use Rattle.vl_ast.specs.declared.expressions.Expr.TheViews.{roll-Expr}
use Rattle.vl_ast.specs.declared.expressions.Expr.TheFolds.{map-Expr}
use Rattle.vl_ast.specs.Operators.{unary_text, binary_text, shift_text, unary_of, infix_of, shift_of}
use Rattle.vl_ast.specs.Tokens.{Token, Key, Sign, Identifier, Number, Based}
use Rattle.vl_ast.specs.Grammar.{tokens_step, expr_tokens}
use Rattle.vl_read.specs.declared.places.Bracket.TheVariants.{OpenParenthesis, OpenBrace}
use Rattle.vl_read.specs.declared.scan.Kind.{Kind}
use Rattle.vl_read.specs.declared.scan.Kind.TheVariants.{Name, Count, Constant, Fixed}
use Rattle.vl_read.specs.declared.places.Frame.{Frame}
use Rattle.vl_read.specs.declared.places.Frame.TheVariants.{InConcat, InRepeat, InCast, InUnary, InLeft}
use Rattle.vl_read.specs.inner.Places.Spot.{Operand, Opened, Braced, Begins, Value}
use Rattle.vl_read.specs.inner.Places.{Goal, Parser}
use Rattle.vl_read.specs.declared.places.Draft.{Draft}
use Rattle.vl_read.specs.inner.Plain.{has_room, compound_step, operand_step, unary_or_left, opened_step, braced_step}
use Rattle.vl_read.proofs.KindSound.{IsOfKind}
use Rattle.vl_read.proofs.ExpressionText.{cast_word, frame_tokens, frames_tokens, frames_push, frames_depth, is_frame_filled, IsGood, Begun}
use Rattle.vl_read.proofs.SoundFrames.{same_word, either_way, either_word, nowhere, twice, grow, grow_frame, deep_push, filled_push, begin_operand, length_depth, good_layer, layer_text, Goes, goes_to}
use Rattle.std.proofs.lemmas.Option.{same_Some}

-- operators

found : {Op : Type 0} (text : Op → List ℕ) (lexeme : List ℕ) (op first : Op) (rest : Option Op) → (rest ≡ Some op → lexeme ≡ text op) →
    cond (bytes_eq lexeme (text first)) (Some first) rest ≡ Some op → lexeme ≡ text op
found text lexeme op first rest more e = by_test (bytes_eq lexeme (text first)) refl e
  where
    by_test : (t : Bool) → bytes_eq lexeme (text first) ≡ t → cond t (Some first) rest ≡ Some op → lexeme ≡ text op
    by_test true t e = same_word lexeme (text first) t ∙ ap text (same_Some first op e)
    by_test false t e = more e

none_found : {Op : Type 0} (text : Op → List ℕ) (lexeme : List ℕ) (op : Op) → None ≡ Some op → lexeme ≡ text op
none_found text lexeme op e = let no : ⊥ = cc in absurd no

unary_sound : (lexeme : List ℕ) (op : UnOp) → unary_of lexeme ≡ Some op → lexeme ≡ unary_text op
unary_sound lexeme op = found unary_text lexeme op Negate _ (found unary_text lexeme op Invert _ (found unary_text lexeme op IsZero _ (none_found unary_text lexeme op)))

pub shift_sound : (lexeme : List ℕ) (op : ShiftOp) → shift_of lexeme ≡ Some op → lexeme ≡ shift_text op
shift_sound lexeme op = found shift_text lexeme op Left _ (found shift_text lexeme op Right _ (found shift_text lexeme op RightSigned _ (none_found shift_text lexeme op)))

pub infix_sound : (lexeme : List ℕ) (op : BinOp) → infix_of lexeme ≡ Some op → lexeme ≡ binary_text op
unfolding infix_of
infix_sound lexeme op =
    found binary_text lexeme op Add _ (found binary_text lexeme op Subtract _ (found binary_text lexeme op Multiply _
    (found binary_text lexeme op And _ (found binary_text lexeme op Or _ (found binary_text lexeme op Xor _
    (found binary_text lexeme op Equal _ (found binary_text lexeme op NotEqual _ (found binary_text lexeme op Less _
    (found binary_text lexeme op LessEqual _ (found binary_text lexeme op Greater _ (found binary_text lexeme op GreaterEqual _
    (found binary_text lexeme op Both _ (found binary_text lexeme op Either _ (none_found binary_text lexeme op))))))))))))))

-- where an operand begins

good_name : (name : List ℕ) (frames : List Frame) → frames_depth frames ≤ 256 → IsGood (length frames) (roll-Expr (Expr-F.Name name))
good_name name frames deep = good_layer (Expr-F.Name name) (length frames) (omega (arith, length_depth frames)) refl

good_literal : (number : Sized) (frames : List Frame) → frames_depth frames ≤ 256 → IsGood (length frames) (roll-Expr (Expr-F.Literal number))
good_literal number frames deep = good_layer (Expr-F.Literal number) (length frames) (omega (arith, length_depth frames)) refl

-- a token ends an operand
pub ends_operand : (frames : List Frame) (x : Expr-F Expr) (own text : List Token) (token : Token)
    → frames_depth frames ≤ 256 → list_all is_frame_filled frames ≡ true → text ≡ frames_tokens frames ++ own →
    own ++ token ∷ [] ≡ tokens_step (map-Expr Expr (List Token) expr_tokens x) → IsGood (length frames) (roll-Expr x) → Begun frames (Value (roll-Expr x)) (text ++ token ∷ [])
ends_operand frames x own text token deep filled is same good =
    record { is = grow (frames_tokens frames) own (expr_tokens (roll-Expr x)) text token is (same ∙ layer_text x); deep = deep; filled = filled; room = good }

begin_cast : (frames : List Frame) (signed : Bool) (text : List Token) → Begun frames Operand text
    → length frames < 256
    → Begun (frames ++ InCast signed ∷ []) (Begins OpenParenthesis) (text ++ Key (cast_word signed) ∷ [])
begin_cast frames signed text begun room =
    record {
      is = twice text (Key (cast_word signed)) (Sign (codes "(")) ∙ ap (λ t. t ++ frame_tokens (InCast signed)) begun.is ∙ sym (frames_push frames (InCast signed));
      deep = deep_push frames (InCast signed) begun.deep (omega arith);
      filled = filled_push frames (InCast signed) begun.filled refl;
      room = tt;
    }

mark_opens : (frames : List Frame) (mark : List ℕ) (text : List Token) → text ≡ frames_tokens frames → text ++ Sign mark ∷ [] ≡ frames_tokens frames ++ Sign mark ∷ []
mark_opens frames mark text is = ap (λ t. t ++ Sign mark ∷ []) is

compound_sound : (draft : Draft) (goal : Goal) (frames : List Frame) (lexeme : List ℕ) (text : List Token)
    (q : Parser) → Begun frames Operand text → compound_step draft goal frames lexeme ≡ Some q
    → Goes draft goal text lexeme q
unfolding compound_step
compound_sound draft goal frames lexeme text q begun =
    either_way (has_room frames) _ None q
    (λ t. let room : length frames < 256 = ltb-true (length frames) 256 t in
    either_word lexeme (codes "(") _ _ q
    (λ h e. goes_to draft goal text lexeme q frames Opened (Sign (codes "(")) h (record { is = mark_opens frames (codes "(") text begun.is; deep = begun.deep; filled = begun.filled; room = room }) e)
    (either_word lexeme (codes "{") _ _ q
    (λ h e. goes_to draft goal text lexeme q frames Braced (Sign (codes "{")) h (record { is = mark_opens frames (codes "{") text begun.is; deep = begun.deep; filled = begun.filled; room = room }) e)
    (either_word lexeme (codes "$signed") _ _ q
    (λ h e. goes_to draft goal text lexeme q (frames ++ InCast true ∷ []) (Begins OpenParenthesis) (Key (codes "$signed")) h (begin_cast frames true text begun room) e)
    (either_word lexeme (codes "$unsigned") _ _ q
    (λ h e. goes_to draft goal text lexeme q (frames ++ InCast false ∷ []) (Begins OpenParenthesis) (Key (codes "$unsigned")) h (begin_cast frames false text begun room) e)
    (nowhere q)))))
    (nowhere q)

pub operand_sound : (draft : Draft) (goal : Goal) (frames : List Frame) (kind : Kind) (lexeme : List ℕ) (text : List Token) (q : Parser) → Begun frames Operand text → IsOfKind kind lexeme →
    operand_step draft goal frames kind lexeme ≡ Some q → Goes draft goal text lexeme q
unfolding operand_step
operand_sound draft goal frames Name lexeme text q begun is e =
    goes_to draft goal text lexeme q frames (Value (roll-Expr (Expr-F.Name lexeme))) (Identifier lexeme) (refl, is)
    (ends_operand frames (Expr-F.Name lexeme) [] text (Identifier lexeme) begun.deep begun.filled (begun.is ∙ sym (append-nil (frames_tokens frames))) refl (good_name lexeme frames begun.deep)) e
operand_sound draft goal frames (Count n) lexeme text q begun is e = nowhere q e
operand_sound draft goal frames (Constant n) lexeme text q begun is e =
    goes_to draft goal text lexeme q frames (Value (roll-Expr (Expr-F.Literal n))) (Based n) is
    (ends_operand frames (Expr-F.Literal n) [] text (Based n) begun.deep begun.filled (begun.is ∙ sym (append-nil (frames_tokens frames))) refl (good_literal n frames begun.deep)) e
operand_sound draft goal frames Fixed lexeme text q begun is e = compound_sound draft goal frames lexeme text q begun e

-- after `(`

left_begun : (frames : List Frame) (text : List Token) → Begun frames Opened text → Begun (frames ++ InLeft ∷ []) Operand text
left_begun frames text begun =
    let room : length frames < 256 = begun.room in
    begin_operand frames InLeft text (begun.is ∙ sym (frames_push frames InLeft)) begun.deep (omega arith) begun.filled refl

unary_begun : (frames : List Frame) (op : UnOp) (text : List Token) → Begun frames Opened text → Begun (frames ++ InUnary op ∷ []) Operand (text ++ Sign (unary_text op) ∷ [])
unary_begun frames op text begun =
    let room : length frames < 256 = begun.room in
    begin_operand frames (InUnary op) (text ++ Sign (unary_text op) ∷ []) (grow_frame frames (InUnary op) (Sign (codes "(") ∷ []) text (Sign (unary_text op)) begun.is refl)
    begun.deep (omega arith) begun.filled refl

unary_or_left_sound : (draft : Draft) (goal : Goal) (frames : List Frame) (o : Option UnOp) (lexeme : List ℕ) (text : List Token) (q : Parser) → Begun frames Opened text → unary_of lexeme ≡ o →
    unary_or_left draft goal frames o lexeme ≡ Some q → Goes draft goal text lexeme q
unfolding unary_or_left
unary_or_left_sound draft goal frames (Some op) lexeme text q begun is e =
    goes_to draft goal text lexeme q (frames ++ InUnary op ∷ []) Operand (Sign (unary_text op)) (unary_sound lexeme op is) (unary_begun frames op text begun) e
unary_or_left_sound draft goal frames None lexeme text q begun is e = compound_sound draft goal (frames ++ InLeft ∷ []) lexeme text q (left_begun frames text begun) e

pub opened_sound : (draft : Draft) (goal : Goal) (frames : List Frame) (kind : Kind) (lexeme : List ℕ) (text : List Token) (q : Parser) → Begun frames Opened text → IsOfKind kind lexeme →
    opened_step draft goal frames kind lexeme ≡ Some q → Goes draft goal text lexeme q
unfolding opened_step
opened_sound draft goal frames Name lexeme text q begun is e = operand_sound draft goal (frames ++ InLeft ∷ []) Name lexeme text q (left_begun frames text begun) is e
opened_sound draft goal frames (Count n) lexeme text q begun is e = nowhere q e
opened_sound draft goal frames (Constant n) lexeme text q begun is e = operand_sound draft goal (frames ++ InLeft ∷ []) (Constant n) lexeme text q (left_begun frames text begun) is e
opened_sound draft goal frames Fixed lexeme text q begun is e = unary_or_left_sound draft goal frames (unary_of lexeme) lexeme text q begun refl e

-- after `{`

concat_begun : (frames : List Frame) (text : List Token) → Begun frames Braced text → Begun (frames ++ InConcat [] ∷ []) Operand text
concat_begun frames text begun =
    let room : length frames < 256 = begun.room in
    begin_operand frames (InConcat []) text (begun.is ∙ sym (frames_push frames (InConcat []))) begun.deep (omega arith) begun.filled refl

repeat_begun : (frames : List Frame) (n : ℕ) (text : List Token) → Begun frames Braced text → Begun (frames ++ InRepeat n ∷ []) (Begins OpenBrace) (text ++ Number n ∷ [])
repeat_begun frames n text begun =
    let room : length frames < 256 = begun.room in
    record {
      is = ap (λ t. t ++ Sign (codes "{") ∷ []) (grow (frames_tokens frames) (Sign (codes "{") ∷ []) (Sign (codes "{") ∷ Number n ∷ []) text (Number n) begun.is refl)
          ∙ append_assoc (frames_tokens frames) (Sign (codes "{") ∷ Number n ∷ []) (Sign (codes "{") ∷ []) ∙ sym (frames_push frames (InRepeat n));
      deep = deep_push frames (InRepeat n) begun.deep (omega arith);
      filled = filled_push frames (InRepeat n) begun.filled refl;
      room = tt;
    }

pub braced_sound : (draft : Draft) (goal : Goal) (frames : List Frame) (kind : Kind) (lexeme : List ℕ) (text : List Token) (q : Parser) → Begun frames Braced text → IsOfKind kind lexeme →
    braced_step draft goal frames kind lexeme ≡ Some q → Goes draft goal text lexeme q
unfolding braced_step
braced_sound draft goal frames Name lexeme text q begun is e = operand_sound draft goal (frames ++ InConcat [] ∷ []) Name lexeme text q (concat_begun frames text begun) is e
braced_sound draft goal frames (Count n) lexeme text q begun is e =
    goes_to draft goal text lexeme q (frames ++ InRepeat n ∷ []) (Begins OpenBrace) (Number n) is (repeat_begun frames n text begun) e
braced_sound draft goal frames (Constant n) lexeme text q begun is e = operand_sound draft goal (frames ++ InConcat [] ∷ []) (Constant n) lexeme text q (concat_begun frames text begun) is e
braced_sound draft goal frames Fixed lexeme text q begun is e = compound_sound draft goal (frames ++ InConcat [] ∷ []) lexeme text q (concat_begun frames text begun) e
