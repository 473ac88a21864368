-- How what is begun of an expression grows by a token.
use Rattle.std.proofs.Common.{◌≡◌, ℕ, ◌+◌, ◌≤◌, Bool, true, false, cond, List, [], ◌∷◌, ◌++◌, length, Option, Some, None, refl, sym, ◌∙◌, ap, subst, arith, append_assoc, length-append, bytes_eq}
use Rattle.std.specs.Prelude.{◌&&◌}
use Rattle.std.specs.List.{list_all}
use Rattle.std.proofs.lemmas.Bool.{and_from, and_parts}
use Rattle.std.proofs.lemmas.List.Folds.{list_all-append}
use Rattle.std.proofs.lemmas.Slice.Eq.{bytes_eq-Decides}
use Rattle.vl_ast.specs.declared.expressions.Expr.{Expr}
use Rattle.vl_ast.specs.declared.expressions.Expr.TheOpen.{Expr-F}
use Rattle.vl_ast.specs.declared.expressions.Expr.TheViews.{roll-Expr}
use Rattle.vl_ast.specs.declared.expressions.Expr.TheFolds.{map-Expr, fold-roll-Expr}
use Rattle.vl_ast.specs.Tokens.{Token, Sign, IsWritten}
use Rattle.vl_ast.specs.Grammar.{tokens_step, expr_tokens, depth_step, depth, is_filled_step, is_filled}
use Rattle.vl_read.specs.declared.places.Frame.{Frame}
use Rattle.vl_read.specs.inner.Places.{Spot, Goal, Parser}
use Rattle.vl_read.specs.inner.Places.Spot.{Operand, Value}
use Rattle.vl_read.specs.inner.Places.Place.{Expression}
use Rattle.vl_read.specs.declared.places.Draft.{Draft}
use Rattle.vl_read.specs.inner.Plain.{spot_at}
use Rattle.vl_read.specs.inner.LexemeSteps.{parser_at}
use Rattle.math_list.proofs.Tests.{cond_some}
use Rattle.vl_read.proofs.ExpressionText.{frame_tokens, frames_tokens, frames_push, frame_depth, frames_depth, depth_push, is_frame_filled, IsGood, Begun}

-- tests of a word

pub same_word : (lexeme word : List ℕ) → bytes_eq lexeme word ≡ true → lexeme ≡ word
same_word lexeme word t = (bytes_eq-Decides lexeme word).0 t

pub expected : {A : Type 0} (lexeme word : List ℕ) (x : Option A) (q : A) → cond (bytes_eq lexeme word) x None ≡ Some q → (lexeme ≡ word) × (x ≡ Some q)
expected lexeme word x q e = let r = cond_some (bytes_eq lexeme word) x q e in (same_word lexeme word r.0, r.1)

pub either_way : {R A : Type 0} (t : Bool) (x y : Option A) (q : A) → (t ≡ true → x ≡ Some q → R) → (y ≡ Some q → R) → cond t x y ≡ Some q → R
either_way true x y q first second e = first refl e
either_way false x y q first second e = second e

pub either_word : {R A : Type 0} (lexeme word : List ℕ) (x y : Option A) (q : A) → (lexeme ≡ word → x ≡ Some q → R) → (y ≡ Some q → R) → cond (bytes_eq lexeme word) x y ≡ Some q → R
either_word lexeme word x y q first second e = either_way (bytes_eq lexeme word) x y q (λ t. first (same_word lexeme word t)) second e

pub nowhere : {R A : Type 0} (q : A) → None ≡ Some q → R
nowhere q e = let no : ⊥ = cc in absurd no

-- texts

pub twice : (a : List Token) (s t : Token) → (a ++ s ∷ []) ++ t ∷ [] ≡ a ++ s ∷ t ∷ []
twice a s t = simp append_assoc

pub grow : (before own after text : List Token) (token : Token) → text ≡ before ++ own → own ++ token ∷ [] ≡ after → text ++ token ∷ [] ≡ before ++ after
grow before own after text token is same = ap (λ t. t ++ token ∷ []) is ∙ append_assoc before own (token ∷ []) ∙ ap (λ t. before ++ t) same

pub grow_frame : (frames : List Frame) (frame : Frame) (own text : List Token) (token : Token) → text ≡ frames_tokens frames ++ own → own ++ token ∷ [] ≡ frame_tokens frame →
    text ++ token ∷ [] ≡ frames_tokens (frames ++ frame ∷ [])
grow_frame frames frame own text token is same = grow (frames_tokens frames) own (frame_tokens frame) text token is same ∙ sym (frames_push frames frame)

-- one more frame

pub deep_push : (frames : List Frame) (frame : Frame) → frames_depth frames ≤ 256 → frame_depth frame + length frames + 1 ≤ 256 → frames_depth (frames ++ frame ∷ []) ≤ 256
deep_push frames frame deep here = omega (arith, depth_push frames frame)

pub filled_push : (frames : List Frame) (frame : Frame) → list_all is_frame_filled frames ≡ true → is_frame_filled frame ≡ true → list_all is_frame_filled (frames ++ frame ∷ []) ≡ true
filled_push frames frame filled here =
    list_all-append is_frame_filled frames (frame ∷ []) ∙ and_from (list_all is_frame_filled frames) (is_frame_filled frame && true) filled (and_from (is_frame_filled frame) true here refl)

pub begin_operand : (frames : List Frame) (frame : Frame) (text : List Token) → text ≡ frames_tokens (frames ++ frame ∷ []) → frames_depth frames ≤ 256 → frame_depth frame + length frames + 1 ≤ 256 →
    list_all is_frame_filled frames ≡ true → is_frame_filled frame ≡ true → Begun (frames ++ frame ∷ []) Operand text
begin_operand frames frame text is deep here filled own =
    record { is = is; deep = deep_push frames frame deep here; filled = filled_push frames frame filled own; room = tt }

pub length_depth : (frames : List Frame) → length frames ≤ frames_depth frames
length_depth [] = omega arith
length_depth (f ∷ fs) = omega (arith, length_depth fs)

-- an operand in its frame

pub record Inside (outer : List Frame) (frame : Frame) (value : Expr) (text : List Token) : Type 0 where
  pub is : text ≡ frames_tokens outer ++ (frame_tokens frame ++ expr_tokens value)
  pub outer_deep : frames_depth outer ≤ 256
  pub outer_filled : list_all is_frame_filled outer ≡ true
  pub frame_deep : frame_depth frame + length outer + 1 ≤ 256
  pub frame_filled : is_frame_filled frame ≡ true
  pub deep : depth value + length outer + 1 ≤ 256
  pub filled : is_filled value ≡ true

pub inside : (outer : List Frame) (frame : Frame) (value : Expr) (text : List Token) → Begun (outer ++ frame ∷ []) (Value value) text → Inside outer frame value text
inside outer frame value text begun =
    let filled = and_parts (list_all is_frame_filled outer) (is_frame_filled frame && true) (sym (list_all-append is_frame_filled outer (frame ∷ [])) ∙ begun.filled) in
    let good : IsGood (length (outer ++ frame ∷ [])) value = begun.room in
    let longer : length (outer ++ frame ∷ []) ≡ length outer + 1 = length-append outer (frame ∷ []) in
    record {
      is = begun.is ∙ ap (λ t. t ++ expr_tokens value) (frames_push outer frame) ∙ append_assoc (frames_tokens outer) (frame_tokens frame) (expr_tokens value);
      outer_deep = omega (arith, depth_push outer frame, begun.deep);
      outer_filled = filled.0;
      frame_deep = omega (arith, depth_push outer frame, begun.deep);
      frame_filled = (and_parts (is_frame_filled frame) true filled.1).0;
      deep = omega (arith, longer, good.0);
      filled = good.1;
    }

pub good_layer : (x : Expr-F Expr) (around : ℕ) → depth_step (map-Expr Expr ℕ depth x) + around ≤ 256 → is_filled_step (map-Expr Expr Bool is_filled x) ≡ true → IsGood around (roll-Expr x)
good_layer x around deep filled =
    (subst (λ d. d + around ≤ 256) (sym (fold-roll-Expr ℕ depth_step x)) deep, fold-roll-Expr Bool is_filled_step x ∙ filled)

pub layer_text : (x : Expr-F Expr) → tokens_step (map-Expr Expr (List Token) expr_tokens x) ≡ expr_tokens (roll-Expr x)
layer_text x = sym (fold-roll-Expr (List Token) tokens_step x)

-- the whole is read with the token
pub close : (outer : List Frame) (frame : Frame) (value : Expr) (text : List Token) (x : Expr-F Expr) (token : Token) → Inside outer frame value text →
    (frame_tokens frame ++ expr_tokens value) ++ token ∷ [] ≡ tokens_step (map-Expr Expr (List Token) expr_tokens x) →
    depth_step (map-Expr Expr ℕ depth x) + length outer ≤ 256 → is_filled_step (map-Expr Expr Bool is_filled x) ≡ true → Begun outer (Value (roll-Expr x)) (text ++ token ∷ [])
close outer frame value text x token in_frame same deep filled =
    record {
      is = grow (frames_tokens outer) (frame_tokens frame ++ expr_tokens value) (expr_tokens (roll-Expr x)) text token in_frame.is (same ∙ layer_text x);
      deep = in_frame.outer_deep;
      filled = in_frame.outer_filled;
      room = good_layer x (length outer) deep filled;
    }

-- the next part begins after the token
pub next_part : (outer : List Frame) (frame other : Frame) (value : Expr) (text : List Token) (token : Token) → Inside outer frame value text →
    (frame_tokens frame ++ expr_tokens value) ++ token ∷ [] ≡ frame_tokens other → frame_depth other + length outer + 1 ≤ 256 → is_frame_filled other ≡ true →
    Begun (outer ++ other ∷ []) Operand (text ++ token ∷ [])
next_part outer frame other value text token in_frame same deep filled =
    begin_operand outer other (text ++ token ∷ []) (grow_frame outer other (frame_tokens frame ++ expr_tokens value) text token in_frame.is same)
    in_frame.outer_deep deep in_frame.outer_filled filled

-- the reading goes on in the expression

pub record Goes (draft : Draft) (goal : Goal) (text : List Token) (lexeme : List ℕ) (q : Parser) : Type 0 where
  pub frames : List Frame
  pub spot : Spot
  pub token : Token
  pub written : IsWritten token lexeme
  pub same : parser_at draft (Expression goal frames spot) ≡ q
  pub begun : Begun frames spot (text ++ token ∷ [])

pub goes_to : (draft : Draft) (goal : Goal) (text : List Token) (lexeme : List ℕ) (q : Parser) (frames : List Frame) (spot : Spot) (token : Token) → IsWritten token lexeme →
    Begun frames spot (text ++ token ∷ []) → spot_at draft goal frames spot ≡ Some q → Goes draft goal text lexeme q
goes_to draft goal text lexeme q frames spot token written begun e =
    record { frames = frames; spot = spot; token = token; written = written; same = cc; begun = begun }

-- by a mark
pub goes_by : (draft : Draft) (goal : Goal) (text : List Token) (lexeme mark : List ℕ) (q : Parser) (frames : List Frame) (spot : Spot) →
    Begun frames spot (text ++ Sign mark ∷ []) → cond (bytes_eq lexeme mark) (spot_at draft goal frames spot) None ≡ Some q → Goes draft goal text lexeme q
goes_by draft goal text lexeme mark q frames spot begun e =
    let r = expected lexeme mark (spot_at draft goal frames spot) q e in
    goes_to draft goal text lexeme q frames spot (Sign mark) r.0 begun r.1
