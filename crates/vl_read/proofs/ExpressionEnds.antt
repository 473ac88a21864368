-- The lexemes that end an expression, and the item that it stands in.
use Rattle.std.proofs.Common.{◌≡◌, ℕ, Bool, false, List, [], ◌∷◌, ◌++◌, Some, refl, sym, ◌∙◌, ap, subst, codes, append_assoc, append-nil, option_and_then}
use Rattle.vl_ast.specs.declared.expressions.UnOp.{UnOp}
use Rattle.vl_ast.specs.declared.expressions.BinOp.{BinOp}
use Rattle.vl_ast.specs.declared.expressions.BinOp.TheVariants.{Add}
use Rattle.vl_ast.specs.declared.expressions.ShiftOp.{ShiftOp}
use Rattle.vl_ast.specs.declared.expressions.Sized.{Sized}
use Rattle.vl_ast.specs.declared.expressions.Expr.{Expr}
use Rattle.vl_ast.specs.declared.expressions.Expr.TheOpen.{Expr-F}
use Rattle.vl_ast.specs.declared.expressions.Expr.TheViews.{roll-Expr}
use Rattle.vl_ast.specs.declared.modules.Module.{Module}
use Rattle.vl_read.specs.declared.places.Bracket.{Bracket}
use Rattle.vl_read.specs.declared.places.Bracket.TheVariants.{OpenParenthesis, CloseParenthesis, CloseBrace, CloseBracket}
use Rattle.vl_read.specs.declared.places.Frame.{Frame}
use Rattle.vl_read.specs.declared.places.Frame.TheVariants.{InConcat, InRepeat, InCast, InUnary, InLeft, InRight, InChosen, InOther}
use Rattle.vl_read.specs.inner.Places.{Spot, Goal, Parser, bracket_byte}
use Rattle.vl_read.specs.inner.Places.Spot.{Operand, Opened, Braced, Begins, Value, Ends, Amount, Index, High, Low}
use Rattle.vl_read.specs.declared.places.Draft.{Draft}
use Rattle.vl_read.specs.inner.Lexemes.{class_of, extends, kind_of, dec_of, sized_of}
use Rattle.vl_read.specs.inner.Plain.{parse, step, operand_step, opened_step, braced_step, left_step, frame_step, spot_step, step_at}
use Rattle.vl_ast.specs.Operators.{infix_of}
use Rattle.vl_read.proofs.Expressions.{at, in_frame}
use Rattle.vl_read.proofs.FormSteps.{begins_step, ends_step}
use Rattle.vl_read.proofs.Live.{IsLiveSpot}
use Rattle.vl_read.proofs.Division.{IsLexeme, a_key, a_mark, AllLexemes}

-- lexemes that make a module of what was read
pub record CanEnd (parser : Parser) : Type 0 where
  pub more : List (List ℕ)
  pub whole : Module
  pub lexemes : AllLexemes more
  pub same : parse parser more ≡ Some whole

-- one lexeme more
pub by_lexeme : (from to : Parser) (lexeme : List ℕ) → IsLexeme lexeme → step from lexeme ≡ Some to → CanEnd to → CanEnd from
by_lexeme from to lexeme is goes end = record {
  more = lexeme ∷ end.more;
  whole = end.whole;
  lexemes = (is, end.lexemes);
  same = ap (λ o. option_and_then (λ next. parse next end.more) o) goes ∙ end.same;
}

-- the expression can be ended behind each operand
abbrev pub Closes : Draft → Goal → List Frame → Type 0
Closes draft goal frames = (value : Expr) → CanEnd (at draft goal frames (Value value))

pub operand_ends : (draft : Draft) (goal : Goal) (frames : List Frame) → Closes draft goal frames → CanEnd (at draft goal frames Operand)
unfolding step step_at spot_step operand_step kind_of class_of
operand_ends draft goal frames outer = by_lexeme _ _ (codes "a") (a_key _ refl) refl (outer (roll-Expr (Expr-F.Name (codes "a"))))

bracket_is : (mark : Bracket) → IsLexeme (bracket_byte mark ∷ [])
unfolding class_of extends
bracket_is OpenParenthesis = a_mark _ refl
bracket_is _ = a_mark _ refl

ends_end : (draft : Draft) (goal : Goal) (frames : List Frame) (value : Expr) (mark : Bracket) → Closes draft goal frames → CanEnd (at draft goal frames (Ends value mark))
ends_end draft goal frames value mark outer = by_lexeme _ _ _ (bracket_is mark) (ends_step draft goal frames value mark) (outer value)

-- an expression that is begun is ended, where the one around it is

abbrev Inside : Draft → Goal → List Frame → Frame → Type 0
Inside draft goal outer frame = Closes draft goal outer → Closes draft goal (outer ++ frame ∷ [])

concat_ends : (draft : Draft) (goal : Goal) (outer : List Frame) (parts : List Expr) → Inside draft goal outer (InConcat parts)
unfolding frame_step class_of extends
concat_ends draft goal outer parts close value =
    by_lexeme _ _ (codes "}") (a_mark _ refl) (in_frame draft goal outer (InConcat parts) value (codes "}") refl) (close (roll-Expr (Expr-F.Concat (parts ++ value ∷ []))))

repeat_ends : (draft : Draft) (goal : Goal) (outer : List Frame) (count : ℕ) → Inside draft goal outer (InRepeat count)
unfolding frame_step class_of extends
repeat_ends draft goal outer count close value =
    by_lexeme _ _ (codes "}") (a_mark _ refl) (in_frame draft goal outer (InRepeat count) value (codes "}") refl) (ends_end draft goal outer (roll-Expr (Expr-F.Repeat count value)) CloseBrace close)

cast_ends : (draft : Draft) (goal : Goal) (outer : List Frame) (signed : Bool) → Inside draft goal outer (InCast signed)
unfolding frame_step class_of extends
cast_ends draft goal outer signed close value =
    by_lexeme _ _ (codes ")") (a_mark _ refl) (in_frame draft goal outer (InCast signed) value (codes ")") refl) (close _)

unary_ends : (draft : Draft) (goal : Goal) (outer : List Frame) (op : UnOp) → Inside draft goal outer (InUnary op)
unfolding frame_step class_of extends
unary_ends draft goal outer op close value =
    by_lexeme _ _ (codes ")") (a_mark _ refl) (in_frame draft goal outer (InUnary op) value (codes ")") refl) (close (roll-Expr (Expr-F.Unary op value)))

right_ends : (draft : Draft) (goal : Goal) (outer : List Frame) (op : BinOp) (left : Expr) → Inside draft goal outer (InRight op left)
unfolding frame_step class_of extends
right_ends draft goal outer op left close value =
    by_lexeme _ _ (codes ")") (a_mark _ refl) (in_frame draft goal outer (InRight op left) value (codes ")") refl) (close (roll-Expr (Expr-F.Binary op left value)))

left_ends : (draft : Draft) (goal : Goal) (outer : List Frame) → Inside draft goal outer InLeft
unfolding frame_step left_step infix_of class_of extends
left_ends draft goal outer close value =
    by_lexeme _ _ (codes "+") (a_mark _ refl) (in_frame draft goal outer InLeft value (codes "+") refl)
    (operand_ends draft goal (outer ++ InRight Add value ∷ []) (right_ends draft goal outer Add value close))

other_ends : (draft : Draft) (goal : Goal) (outer : List Frame) (test chosen : Expr) → Inside draft goal outer (InOther test chosen)
unfolding frame_step class_of extends
other_ends draft goal outer test chosen close value =
    by_lexeme _ _ (codes ")") (a_mark _ refl) (in_frame draft goal outer (InOther test chosen) value (codes ")") refl) (close (roll-Expr (Expr-F.Choose test chosen value)))

chosen_ends : (draft : Draft) (goal : Goal) (outer : List Frame) (test : Expr) → Inside draft goal outer (InChosen test)
unfolding frame_step class_of extends
chosen_ends draft goal outer test close value =
    by_lexeme _ _ (codes ":") (a_mark _ refl) (in_frame draft goal outer (InChosen test) value (codes ":") refl)
    (operand_ends draft goal (outer ++ InOther test value ∷ []) (other_ends draft goal outer test value close))

frame_ends : (draft : Draft) (goal : Goal) (outer : List Frame) (frame : Frame) → Inside draft goal outer frame
frame_ends draft goal outer (InConcat parts) = concat_ends draft goal outer parts
frame_ends draft goal outer (InRepeat count) = repeat_ends draft goal outer count
frame_ends draft goal outer (InCast signed) = cast_ends draft goal outer signed
frame_ends draft goal outer (InUnary op) = unary_ends draft goal outer op
frame_ends draft goal outer InLeft = left_ends draft goal outer
frame_ends draft goal outer (InRight op left) = right_ends draft goal outer op left
frame_ends draft goal outer (InChosen test) = chosen_ends draft goal outer test
frame_ends draft goal outer (InOther test chosen) = other_ends draft goal outer test chosen

-- and so are all that are begun
inner_end : (draft : Draft) (goal : Goal) (outer inner : List Frame) → Closes draft goal outer → Closes draft goal (outer ++ inner)
inner_end draft goal outer [] close = subst (Closes draft goal) (sym (append-nil outer)) close
inner_end draft goal outer (frame ∷ inner) close =
    subst (Closes draft goal) (append_assoc outer (frame ∷ []) inner)
    (inner_end draft goal (outer ++ frame ∷ []) inner (frame_ends draft goal outer frame close))

pub frames_end : (draft : Draft) (goal : Goal) (frames : List Frame) → Closes draft goal [] → Closes draft goal frames
frames_end draft goal frames close = inner_end draft goal [] frames close

-- wherever in an expression the reading is

opened_ends : (draft : Draft) (goal : Goal) (frames : List Frame) → Closes draft goal frames → CanEnd (at draft goal frames Opened)
unfolding step step_at spot_step opened_step operand_step kind_of class_of
opened_ends draft goal frames close = by_lexeme _ _ (codes "a") (a_key _ refl) refl (left_ends draft goal frames close (roll-Expr (Expr-F.Name (codes "a"))))

braced_ends : (draft : Draft) (goal : Goal) (frames : List Frame) → Closes draft goal frames → CanEnd (at draft goal frames Braced)
unfolding step step_at spot_step braced_step operand_step kind_of class_of
braced_ends draft goal frames close = by_lexeme _ _ (codes "a") (a_key _ refl) refl (concat_ends draft goal frames [] close (roll-Expr (Expr-F.Name (codes "a"))))

begins_end : (draft : Draft) (goal : Goal) (frames : List Frame) (mark : Bracket) → Closes draft goal frames → CanEnd (at draft goal frames (Begins mark))
begins_end draft goal frames mark close = by_lexeme _ _ _ (bracket_is mark) (begins_step draft goal frames mark) (operand_ends draft goal frames close)

amount_ends : (draft : Draft) (goal : Goal) (frames : List Frame) (op : ShiftOp) (value : Expr) → Closes draft goal frames → CanEnd (at draft goal frames (Amount op value))
unfolding step step_at spot_step kind_of dec_of sized_of class_of
amount_ends draft goal frames op value close =
    let one : Sized = record { width = 1; signed = false; bits = 0 } in
    by_lexeme _ _ (codes "1'b0") (a_key _ refl) refl (ends_end draft goal frames (roll-Expr (Expr-F.Shift op value one)) CloseParenthesis close)

high_ends : (draft : Draft) (goal : Goal) (frames : List Frame) (name : List ℕ) (place : ℕ) → Closes draft goal frames → CanEnd (at draft goal frames (High name place))
unfolding step step_at spot_step class_of extends
high_ends draft goal frames name place close = by_lexeme _ _ (codes "]") (a_mark _ refl) refl (close (roll-Expr (Expr-F.Bit name place)))

index_ends : (draft : Draft) (goal : Goal) (frames : List Frame) (name : List ℕ) → Closes draft goal frames → CanEnd (at draft goal frames (Index name))
unfolding step step_at spot_step kind_of dec_of class_of
index_ends draft goal frames name close = by_lexeme _ _ (codes "0") (a_key _ refl) refl (high_ends draft goal frames name 0 close)

low_ends : (draft : Draft) (goal : Goal) (frames : List Frame) (name : List ℕ) (high : ℕ) → Closes draft goal frames → CanEnd (at draft goal frames (Low name high))
unfolding step step_at spot_step kind_of dec_of class_of
low_ends draft goal frames name high close = by_lexeme _ _ (codes "0") (a_key _ refl) refl (ends_end draft goal frames (roll-Expr (Expr-F.Part name high 0)) CloseBracket close)

pub spot_ends : (draft : Draft) (goal : Goal) (frames : List Frame) (spot : Spot) → IsLiveSpot spot → Closes draft goal frames → CanEnd (at draft goal frames spot)
spot_ends draft goal frames Operand h close = operand_ends draft goal frames close
spot_ends draft goal frames Opened h close = opened_ends draft goal frames close
spot_ends draft goal frames Braced h close = braced_ends draft goal frames close
spot_ends draft goal frames (Begins mark) h close = begins_end draft goal frames mark close
spot_ends draft goal frames (Value value) h close = close value
spot_ends draft goal frames (Ends value mark) h close = ends_end draft goal frames value mark close
spot_ends draft goal frames (Amount op value) h close = amount_ends draft goal frames op value close
spot_ends draft goal frames (Index name) h close = index_ends draft goal frames name close
spot_ends draft goal frames (High name place) h close = high_ends draft goal frames name place close
spot_ends draft goal frames (Low name high) h close = low_ends draft goal frames name high close
