-- How the parts of an expression are stepped over, lexeme by lexeme.
use Rattle.std.proofs.Common.{◌≡◌, ℕ, ◌<◌, true, false, cond, List, [], ◌∷◌, ◌++◌, length, Some, None, refl, ◌∙◌, ap, codes, bytes_eq}
use Rattle.std.proofs.lemmas.Bool.{lt-ltb}
use Rattle.vl_ast.specs.declared.expressions.UnOp.{UnOp}
use Rattle.vl_ast.specs.declared.expressions.UnOp.TheVariants.{Negate}
use Rattle.vl_ast.specs.declared.expressions.BinOp.{BinOp}
use Rattle.vl_ast.specs.declared.expressions.BinOp.TheVariants.{Add}
use Rattle.vl_ast.specs.declared.expressions.ShiftOp.{ShiftOp}
use Rattle.vl_ast.specs.declared.expressions.ShiftOp.TheVariants.{Left}
use Rattle.vl_ast.specs.declared.expressions.Sized.{Sized}
use Rattle.vl_ast.specs.declared.expressions.Expr.{Expr}
use Rattle.vl_ast.specs.declared.expressions.Expr.TheOpen.{Expr-F}
use Rattle.vl_ast.specs.declared.expressions.Expr.TheViews.{roll-Expr, out-roll-Expr}
use Rattle.vl_ast.specs.Operators.{unary_text, binary_text, shift_text, infix_of, shift_of}
use Rattle.vl_read.specs.declared.places.Bracket.{Bracket}
use Rattle.vl_read.specs.declared.places.Bracket.TheVariants.{OpenParenthesis, OpenBrace, CloseParenthesis, CloseBracket}
use Rattle.vl_read.specs.declared.scan.Kind.TheVariants.{Name, Count, Constant}
use Rattle.vl_read.specs.declared.places.Frame.{Frame}
use Rattle.vl_read.specs.declared.places.Frame.TheVariants.{InRepeat, InCast, InUnary, InLeft, InRight, InChosen}
use Rattle.vl_read.specs.inner.Places.Spot.{Operand, Opened, Braced, Begins, Value, Ends, Amount, Index, High, Low}
use Rattle.vl_read.specs.inner.Places.{Goal, bracket_byte}
use Rattle.vl_read.specs.declared.places.Draft.{Draft}
use Rattle.vl_read.specs.inner.Lexemes.{kind_of, dec_of, sized_of}
use Rattle.vl_read.specs.inner.Plain.{spot_at, step, indexed, name_of, left_by, attr_step, declared, net_step, compound_step, operand_step, unary_or_left, opened_step, braced_step, left_step}
use Rattle.vl_read.specs.inner.Plain.{frame_step, goal_step, spot_step, item_step, step_at}
use Rattle.math_list.proofs.Tests.{same_bytes}
use Rattle.vl_read.proofs.Expressions.{at, in_frame}

-- names, bits and parts

-- `[` after a name
pub index_step : (draft : Draft) (goal : Goal) (frames : List Frame) (n : List ℕ) → step (at draft goal frames (Value (roll-Expr (Expr-F.Name n)))) (codes "[") ≡ Some (at draft goal frames (Index n))
unfolding step attr_step declared net_step compound_step operand_step unary_or_left opened_step braced_step left_step frame_step goal_step spot_step item_step step_at
index_step draft goal frames n = ap (λ o. indexed draft goal frames (name_of o)) (out-roll-Expr (Expr-F.Name n))

pub high_step : (draft : Draft) (goal : Goal) (frames : List Frame) (n : List ℕ) (place : ℕ) (lexeme : List ℕ)
    → kind_of lexeme ≡ Count place → step (at draft goal frames (Index n)) lexeme
    ≡ Some (at draft goal frames (High n place))
unfolding step attr_step declared net_step compound_step operand_step unary_or_left opened_step braced_step left_step frame_step goal_step spot_step item_step step_at
high_step draft goal frames n place lexeme h = rw h

pub bit_step : (draft : Draft) (goal : Goal) (frames : List Frame) (n : List ℕ) (place : ℕ)
    → step (at draft goal frames (High n place)) (codes "]")
    ≡ Some (at draft goal frames (Value (roll-Expr (Expr-F.Bit n place))))
unfolding step attr_step declared net_step compound_step operand_step unary_or_left opened_step braced_step left_step frame_step goal_step spot_step item_step step_at
bit_step draft goal frames n place = refl

pub colon_step : (draft : Draft) (goal : Goal) (frames : List Frame) (n : List ℕ) (place : ℕ) → step (at draft goal frames (High n place)) (codes ":") ≡ Some (at draft goal frames (Low n place))
unfolding step attr_step declared net_step compound_step operand_step unary_or_left opened_step braced_step left_step frame_step goal_step spot_step item_step step_at
colon_step draft goal frames n place = refl

pub low_step : (draft : Draft) (goal : Goal) (frames : List Frame) (n : List ℕ) (high low : ℕ) (lexeme : List ℕ)
    → kind_of lexeme ≡ Count low → step (at draft goal frames (Low n high)) lexeme
    ≡ Some (at draft goal frames (Ends (roll-Expr (Expr-F.Part n high low)) CloseBracket))
unfolding step attr_step declared net_step compound_step operand_step unary_or_left opened_step braced_step left_step frame_step goal_step spot_step item_step step_at
low_step draft goal frames n high low lexeme h = rw h

pub ends_step : (draft : Draft) (goal : Goal) (frames : List Frame) (e : Expr) (mark : Bracket)
    → step (at draft goal frames (Ends e mark)) (bracket_byte mark ∷ []) ≡ Some (at draft goal frames (Value e))
unfolding step spot_step step_at
ends_step draft goal frames e mark = ap (λ t. cond t (spot_at draft goal frames (Value e)) None) (same_bytes (bracket_byte mark ∷ []))

pub operand_name : (draft : Draft) (goal : Goal) (frames : List Frame) (n : List ℕ) → kind_of n ≡ Name
    → step (at draft goal frames Operand) n ≡ Some (at draft goal frames (Value (roll-Expr (Expr-F.Name n))))
unfolding step attr_step declared net_step compound_step operand_step unary_or_left opened_step braced_step left_step frame_step goal_step spot_step item_step step_at
operand_name draft goal frames n h = rw h

-- what begins with a bracket

pub open_step : (draft : Draft) (goal : Goal) (frames : List Frame) → length frames < 256 → step (at draft goal frames Operand) (codes "(") ≡ Some (at draft goal frames Opened)
unfolding step attr_step declared net_step compound_step operand_step unary_or_left opened_step braced_step left_step frame_step goal_step spot_step item_step step_at kind_of dec_of sized_of
open_step draft goal frames room = ap (λ t. cond t (spot_at draft goal frames Opened) None) (lt-ltb (length frames) 256 room)

pub brace_step : (draft : Draft) (goal : Goal) (frames : List Frame) → length frames < 256 → step (at draft goal frames Operand) (codes "{") ≡ Some (at draft goal frames Braced)
unfolding step attr_step declared net_step compound_step operand_step unary_or_left opened_step braced_step left_step frame_step goal_step spot_step item_step step_at kind_of dec_of sized_of
brace_step draft goal frames room = ap (λ t. cond t (spot_at draft goal frames Braced) None) (lt-ltb (length frames) 256 room)

pub signed_step : (draft : Draft) (goal : Goal) (frames : List Frame) → length frames < 256
    → step (at draft goal frames Operand) (codes "$signed")
    ≡ Some (at draft goal (frames ++ InCast true ∷ []) (Begins OpenParenthesis))
unfolding step attr_step declared net_step compound_step operand_step unary_or_left opened_step braced_step left_step frame_step goal_step spot_step item_step step_at kind_of dec_of sized_of
signed_step draft goal frames room = ap (λ t. cond t (spot_at draft goal (frames ++ InCast true ∷ []) (Begins OpenParenthesis)) None) (lt-ltb (length frames) 256 room)

pub unsigned_step : (draft : Draft) (goal : Goal) (frames : List Frame) → length frames < 256
    → step (at draft goal frames Operand) (codes "$unsigned")
    ≡ Some (at draft goal (frames ++ InCast false ∷ []) (Begins OpenParenthesis))
unfolding step attr_step declared net_step compound_step operand_step unary_or_left opened_step braced_step left_step frame_step goal_step spot_step item_step step_at kind_of dec_of sized_of
unsigned_step draft goal frames room = ap (λ t. cond t (spot_at draft goal (frames ++ InCast false ∷ []) (Begins OpenParenthesis)) None) (lt-ltb (length frames) 256 room)

pub begins_step : (draft : Draft) (goal : Goal) (frames : List Frame) (mark : Bracket) → step (at draft goal frames (Begins mark)) (bracket_byte mark ∷ []) ≡ Some (at draft goal frames Operand)
unfolding step spot_step step_at
begins_step draft goal frames mark = ap (λ t. cond t (spot_at draft goal frames Operand) None) (same_bytes (bracket_byte mark ∷ []))

pub count_step : (draft : Draft) (goal : Goal) (frames : List Frame) (n : ℕ) (lexeme : List ℕ)
    → kind_of lexeme ≡ Count n → step (at draft goal frames Braced) lexeme
    ≡ Some (at draft goal (frames ++ InRepeat n ∷ []) (Begins OpenBrace))
unfolding step attr_step declared net_step compound_step operand_step unary_or_left opened_step braced_step left_step frame_step goal_step spot_step item_step step_at
count_step draft goal frames n lexeme h = rw h

pub unary_step : (draft : Draft) (goal : Goal) (frames : List Frame) (op : UnOp) → step (at draft goal frames Opened) (unary_text op) ≡ Some (at draft goal (frames ++ InUnary op ∷ []) Operand)
unfolding step attr_step declared net_step compound_step operand_step unary_or_left opened_step braced_step left_step frame_step goal_step spot_step item_step step_at kind_of dec_of sized_of
unary_step draft goal frames Negate = refl
unary_step draft goal frames _ = refl

-- the words of operators

infix_binary : (op : BinOp) → infix_of (binary_text op) ≡ Some op
unfolding infix_of
infix_binary Add = refl
infix_binary _ = refl

no_question : (op : BinOp) → bytes_eq (binary_text op) (codes "?") ≡ false
no_question Add = refl
no_question _ = refl

infix_shift : (op : ShiftOp) → infix_of (shift_text op) ≡ None
unfolding infix_of
infix_shift Left = refl
infix_shift _ = refl

shift_shift : (op : ShiftOp) → shift_of (shift_text op) ≡ Some op
shift_shift Left = refl
shift_shift _ = refl

shift_no_question : (op : ShiftOp) → bytes_eq (shift_text op) (codes "?") ≡ false
shift_no_question Left = refl
shift_no_question _ = refl

binary_no_index : (op : BinOp) → bytes_eq (binary_text op) (codes "[") ≡ false
binary_no_index Add = refl
binary_no_index _ = refl

shift_no_index : (op : ShiftOp) → bytes_eq (shift_text op) (codes "[") ≡ false
shift_no_index Left = refl
shift_no_index _ = refl

-- what follows the first operand

pub binary_step : (draft : Draft) (goal : Goal) (frames : List Frame) (op : BinOp) (value : Expr) →
    step (at draft goal (frames ++ InLeft ∷ []) (Value value)) (binary_text op) ≡ Some (at draft goal (frames ++ InRight op value ∷ []) Operand)
unfolding frame_step left_step
binary_step draft goal frames op value =
    in_frame draft goal frames InLeft value (binary_text op) (binary_no_index op)
    ∙ ap (λ t. cond t (spot_at draft goal (frames ++ InChosen value ∷ []) Operand) (left_by draft goal frames value (infix_of (binary_text op)) (shift_of (binary_text op)))) (no_question op)
    ∙ ap (λ o. left_by draft goal frames value o (shift_of (binary_text op))) (infix_binary op)

pub shift_step : (draft : Draft) (goal : Goal) (frames : List Frame) (op : ShiftOp) (value : Expr) →
    step (at draft goal (frames ++ InLeft ∷ []) (Value value)) (shift_text op) ≡ Some (at draft goal frames (Amount op value))
unfolding frame_step left_step
shift_step draft goal frames op value =
    in_frame draft goal frames InLeft value (shift_text op) (shift_no_index op)
    ∙ ap (λ t. cond t (spot_at draft goal (frames ++ InChosen value ∷ []) Operand) (left_by draft goal frames value (infix_of (shift_text op)) (shift_of (shift_text op)))) (shift_no_question op)
    ∙ ap (λ o. left_by draft goal frames value o (shift_of (shift_text op))) (infix_shift op)
    ∙ ap (left_by draft goal frames value None) (shift_shift op)

pub question_step : (draft : Draft) (goal : Goal) (frames : List Frame) (value : Expr) →
    step (at draft goal (frames ++ InLeft ∷ []) (Value value)) (codes "?") ≡ Some (at draft goal (frames ++ InChosen value ∷ []) Operand)
unfolding frame_step left_step
question_step draft goal frames value =
    in_frame draft goal frames InLeft value (codes "?") refl

pub amount_step : (draft : Draft) (goal : Goal) (frames : List Frame) (op : ShiftOp) (value : Expr) (n : Sized) (lexeme : List ℕ) → kind_of lexeme ≡ Constant n →
    step (at draft goal frames (Amount op value)) lexeme ≡ Some (at draft goal frames (Ends (roll-Expr (Expr-F.Shift op value n)) CloseParenthesis))
unfolding step attr_step declared net_step compound_step operand_step unary_or_left opened_step braced_step left_step frame_step goal_step spot_step item_step step_at
amount_step draft goal frames op value n lexeme h = rw h
