-- What was read of an expression, where its reading stands.
use Rattle.std.proofs.Common.{◌≡◌, ℕ, ◌+◌, ◌<◌, ◌≤◌, Bool, true, List, [], ◌∷◌, ◌++◌, map, length, max, fold, codes, refl, sym, ◌∙◌, ap, append_assoc, append-nil, arith}
use Rattle.std.specs.Prelude.{◌&&◌, if◌then◌else◌}
use Rattle.std.specs.List.{list_all, flat_map}
use Rattle.vl_ast.specs.declared.expressions.Expr.{Expr}
use Rattle.vl_ast.specs.Spelling.{joined}
use Rattle.vl_ast.specs.Operators.{unary_text, binary_text, shift_text}
use Rattle.vl_ast.specs.Tokens.{Token, Key, Sign, Identifier, Number}
use Rattle.vl_ast.specs.Grammar.{comma, expr_tokens, depth, is_filled}
use Rattle.vl_read.specs.declared.places.Frame.{Frame}
use Rattle.vl_read.specs.declared.places.Frame.TheVariants.{InConcat, InRepeat, InCast, InUnary, InLeft, InRight, InChosen, InOther}
use Rattle.vl_read.specs.inner.Places.{Spot, bracket_byte}
use Rattle.vl_read.specs.inner.Places.Spot.{Operand, Opened, Braced, Begins, Value, Ends, Amount, Index, High, Low}

-- the parts, each with a comma after it
abbrev pub before_next : List (List Token) → List Token
before_next [] = []
before_next (part ∷ parts) = part ++ Sign (codes ",") ∷ before_next parts

pub before_push : (parts : List (List Token)) (part : List Token) → before_next (parts ++ part ∷ []) ≡ before_next parts ++ (part ++ comma)
before_push [] part = refl
before_push (p ∷ ps) part = ap (λ t. p ++ Sign (codes ",") ∷ t) (before_push ps part) ∙ sym (append_assoc p (Sign (codes ",") ∷ before_next ps) (part ++ comma))

-- the last part has none
pub joined_push : (parts : List (List Token)) (part : List Token) → before_next parts ++ part ≡ joined comma (parts ++ part ∷ [])
joined_push [] part = sym (append-nil part)
joined_push (p ∷ ps) part = append_assoc p (Sign (codes ",") ∷ before_next ps) part ∙ ap (λ t. p ++ t) (rest ps)
  where
    rest : (ps : List (List Token)) → Sign (codes ",") ∷ (before_next ps ++ part) ≡ flat_map (λ more. comma ++ more) (ps ++ part ∷ [])
    rest [] = ap (λ t. Sign (codes ",") ∷ t) (sym (append-nil part))
    rest (q ∷ qs) = ap (λ t. Sign (codes ",") ∷ t) (append_assoc q (Sign (codes ",") ∷ before_next qs) part ∙ ap (λ t. q ++ t) (rest qs))

-- the word of a cast
abbrev pub cast_word : Bool → List ℕ
cast_word signed = if signed then codes "$signed" else codes "$unsigned"

-- the tokens of an expression that is begun
abbrev pub frame_tokens : Frame → List Token
frame_tokens (InConcat parts) = Sign (codes "{") ∷ before_next (map expr_tokens parts)
frame_tokens (InRepeat count) = Sign (codes "{") ∷ Number count ∷ Sign (codes "{") ∷ []
frame_tokens (InCast signed) = Key (cast_word signed) ∷ Sign (codes "(") ∷ []
frame_tokens (InUnary op) = Sign (codes "(") ∷ Sign (unary_text op) ∷ []
frame_tokens InLeft = Sign (codes "(") ∷ []
frame_tokens (InRight op left) = Sign (codes "(") ∷ (expr_tokens left ++ Sign (binary_text op) ∷ [])
frame_tokens (InChosen test) = Sign (codes "(") ∷ (expr_tokens test ++ Sign (codes "?") ∷ [])
frame_tokens (InOther test chosen) = Sign (codes "(") ∷ (expr_tokens test ++ Sign (codes "?") ∷ (expr_tokens chosen ++ Sign (codes ":") ∷ []))

-- and of all that are, the innermost last
abbrev pub frames_tokens : List Frame → List Token
frames_tokens [] = []
frames_tokens (frame ∷ frames) = frame_tokens frame ++ frames_tokens frames

pub frames_push : (frames : List Frame) (frame : Frame) → frames_tokens (frames ++ frame ∷ []) ≡ frames_tokens frames ++ frame_tokens frame
frames_push [] frame = append-nil (frame_tokens frame)
frames_push (f ∷ fs) frame = ap (λ t. frame_tokens f ++ t) (frames_push fs frame) ∙ sym (append_assoc (frame_tokens f) (frames_tokens fs) (frame_tokens frame))

-- the text before a spot. A mark that is next counts as read
abbrev pub IsText : List Frame → Spot → List Token → Type 0
IsText frames Operand text = text ≡ frames_tokens frames
IsText frames Opened text = text ≡ frames_tokens frames ++ Sign (codes "(") ∷ []
IsText frames Braced text = text ≡ frames_tokens frames ++ Sign (codes "{") ∷ []
IsText frames (Begins mark) text = text ++ Sign (bracket_byte mark ∷ []) ∷ [] ≡ frames_tokens frames
IsText frames (Value value) text = text ≡ frames_tokens frames ++ expr_tokens value
IsText frames (Ends value mark) text = text ++ Sign (bracket_byte mark ∷ []) ∷ [] ≡ frames_tokens frames ++ expr_tokens value
IsText frames (Amount op value) text = text ≡ frames_tokens frames ++ (Sign (codes "(") ∷ (expr_tokens value ++ Sign (shift_text op) ∷ []))
IsText frames (Index name) text = text ≡ frames_tokens frames ++ (Identifier name ∷ Sign (codes "[") ∷ [])
IsText frames (High name place) text = text ≡ frames_tokens frames ++ (Identifier name ∷ Sign (codes "[") ∷ Number place ∷ [])
IsText frames (Low name high) text = text ≡ frames_tokens frames ++ (Identifier name ∷ Sign (codes "[") ∷ Number high ∷ Sign (codes ":") ∷ [])

-- how deep the parts of what is begun nest
abbrev pub frame_depth : Frame → ℕ
frame_depth (InConcat parts) = fold max 0 (map depth parts)
frame_depth (InRight op left) = depth left
frame_depth (InChosen test) = depth test
frame_depth (InOther test chosen) = max (depth test) (depth chosen)
frame_depth _ = 0

-- how deep all that is begun nests
abbrev pub frames_depth : List Frame → ℕ
frames_depth [] = 0
frames_depth (frame ∷ frames) = max (frame_depth frame) (frames_depth frames) + 1

pub depth_push : (frames : List Frame) (frame : Frame) → frames_depth (frames ++ frame ∷ []) ≡ max (frames_depth frames) (frame_depth frame + length frames + 1)
depth_push [] frame = omega arith
depth_push (f ∷ fs) frame = omega (arith, depth_push fs frame)

-- whether no concatenation in it is empty
abbrev pub is_frame_filled : Frame → Bool
is_frame_filled (InConcat parts) = list_all (λ more. more) (map is_filled parts)
is_frame_filled (InRight op left) = is_filled left
is_frame_filled (InChosen test) = is_filled test
is_frame_filled (InOther test chosen) = is_filled test && is_filled chosen
is_frame_filled _ = true

-- an operand of the grammar, inside of so many frames
abbrev pub IsGood : ℕ → Expr → Type 0
IsGood around value = (depth value + around ≤ 256) × (is_filled value ≡ true)

-- what the spot has fits into this many frames
abbrev pub HasRoom : ℕ → Spot → Type 0
HasRoom around Opened = around < 256
HasRoom around Braced = around < 256
HasRoom around (Value value) = IsGood around value
HasRoom around (Ends value mark) = IsGood around value
HasRoom around (Amount op value) = IsGood (around + 1) value
HasRoom around _ = Unit {0}

-- an expression is begun by the text
pub record Begun (frames : List Frame) (spot : Spot) (text : List Token) : Type 0 where
  pub is : IsText frames spot text
  pub deep : frames_depth frames ≤ 256
  pub filled : list_all is_frame_filled frames ≡ true
  pub room : HasRoom (length frames) spot
