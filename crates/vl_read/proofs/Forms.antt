-- Each form of an expression is read, where its parts are.
use Rattle.std.proofs.Common.{◌≡◌, ℕ, ◌+◌, ◌<◌, ◌≤◌, Bool, true, false, cond, List, [], ◌∷◌, ◌++◌, map, length, Some, refl, sym, ◌∙◌, subst, codes, arith, append_assoc, length-append, max, fold}
use Rattle.std.specs.Prelude.{◌&&◌}
use Rattle.std.specs.List.{list_all}
use Rattle.std.proofs.lemmas.Bool.{and_parts}
use Rattle.vl_ast.specs.declared.expressions.UnOp.{UnOp}
use Rattle.vl_ast.specs.declared.expressions.BinOp.{BinOp}
use Rattle.vl_ast.specs.declared.expressions.ShiftOp.{ShiftOp}
use Rattle.vl_ast.specs.declared.expressions.Sized.{Sized}
use Rattle.vl_ast.specs.declared.expressions.Expr.{Expr}
use Rattle.vl_ast.specs.declared.expressions.Expr.TheOpen.{Expr-F}
use Rattle.vl_ast.specs.declared.expressions.Expr.TheViews.{roll-Expr}
use Rattle.vl_ast.specs.declared.expressions.Expr.TheFolds.{map-Expr, fold-roll-Expr}
use Rattle.vl_ast.specs.Operators.{unary_text, binary_text, shift_text}
use Rattle.vl_ast.specs.Tokens.{Token, Key, Sign, Identifier, Number, Based}
use Rattle.vl_ast.specs.Grammar.{tokens_step, expr_tokens, depth_step, depth, is_filled_step, is_filled}
use Rattle.vl_read.specs.declared.places.Bracket.TheVariants.{OpenParenthesis, OpenBrace, CloseParenthesis, CloseBrace, CloseBracket}
use Rattle.vl_read.specs.declared.places.Frame.{Frame}
use Rattle.vl_read.specs.declared.places.Frame.TheVariants.{InConcat, InRepeat, InCast, InUnary, InLeft, InRight, InChosen, InOther}
use Rattle.vl_read.specs.inner.Places.Spot.{Operand, Opened, Braced, Begins, Value, Ends, Amount, Index, High, Low}
use Rattle.vl_read.specs.inner.Places.{Goal}
use Rattle.vl_read.specs.declared.places.Draft.{Draft}
use Rattle.vl_read.specs.inner.Plain.{step, attr_step, declared, net_step, compound_step, operand_step, unary_or_left, opened_step, braced_step, left_step, frame_step, goal_step, spot_step, item_step}
use Rattle.vl_read.specs.inner.Plain.{step_at}
use Rattle.vl_read.proofs.Layers.{by_forms}
use Rattle.vl_read.proofs.Expressions.{at, in_frame, IsRead, opened_read, braced_read}
use Rattle.vl_read.proofs.TokenReader.{Writes, Reads, writes_as, next, sign, key, name, number, based}
use Rattle.vl_read.proofs.FormTokens.{layer_tokens, unary_tokens, binary_tokens, shift_tokens, choose_tokens, as_signed_tokens, as_unsigned_tokens, repeat_tokens, more_tokens, concat_tokens}
use Rattle.vl_read.proofs.FormSteps.{index_step, high_step, bit_step, colon_step, low_step, ends_step, operand_name, open_step, brace_step, signed_step, unsigned_step, begins_step, count_step}
use Rattle.vl_read.proofs.FormSteps.{unary_step, binary_step, shift_step, question_step, amount_step}
use Rattle.math_list.proofs.Places.{fold-start}

-- the depth, the filling and the tokens of a layer
layer_depth : (x : Expr-F Expr) (n : ℕ) → depth (roll-Expr x) + n ≤ 256 → depth_step (map-Expr Expr ℕ depth x) + n ≤ 256
layer_depth x n h = subst (λ d. d + n ≤ 256) (fold-roll-Expr ℕ depth_step x) h

layer_filled : (x : Expr-F Expr) → is_filled (roll-Expr x) ≡ true → is_filled_step (map-Expr Expr Bool is_filled x) ≡ true
layer_filled x h = sym (fold-roll-Expr Bool is_filled_step x) ∙ h

layer_writes : (x : Expr-F Expr) (tokens other : List Token) (lexemes : List (List ℕ)) → tokens_step (map-Expr Expr (List Token) expr_tokens x) ++ tokens ≡ other →
    Writes (expr_tokens (roll-Expr x) ++ tokens) lexemes → Writes other lexemes
layer_writes x tokens other lexemes same w = writes_as _ other lexemes (layer_tokens x tokens ∙ same) w

-- names, bits, parts and literals

name_read : (n : List ℕ) → IsRead (roll-Expr (Expr-F.Name n))
unfolding step attr_step declared net_step compound_step operand_step unary_or_left opened_step braced_step left_step frame_step goal_step spot_step item_step step_at
name_read n draft goal frames tokens lexemes deep filled w =
    name _ _ lexemes n tokens (λ h. rw h) (layer_writes (Expr-F.Name n) tokens (Identifier n ∷ tokens) lexemes refl w)

literal_read : (n : Sized) → IsRead (roll-Expr (Expr-F.Literal n))
unfolding step attr_step declared net_step compound_step operand_step unary_or_left opened_step braced_step left_step frame_step goal_step spot_step item_step step_at
literal_read n draft goal frames tokens lexemes deep filled w =
    based _ _ lexemes n tokens (λ lexeme h. rw h) (layer_writes (Expr-F.Literal n) tokens (Based n ∷ tokens) lexemes refl w)

bit_read : (n : List ℕ) (place : ℕ) → IsRead (roll-Expr (Expr-F.Bit n place))
bit_read n place draft goal frames tokens lexemes deep filled w =
    let value : Expr = roll-Expr (Expr-F.Name n) in
    next _ (at draft goal frames (Value value)) _ lexemes _ tokens
    (name _ _ lexemes n _ (operand_name draft goal frames n) (layer_writes (Expr-F.Bit n place) tokens (Identifier n ∷ Sign (codes "[") ∷ Number place ∷ Sign (codes "]") ∷ tokens) lexemes refl w))
    (λ l1 w1. next _ (at draft goal frames (Index n)) _ l1 _ tokens (sign _ _ l1 _ _ (index_step draft goal frames n) w1)
    (λ l2 w2. next _ (at draft goal frames (High n place)) _ l2 _ tokens (number _ _ l2 place _ (high_step draft goal frames n place) w2)
    (λ l3 w3. sign _ _ l3 _ tokens (bit_step draft goal frames n place) w3)))

part_read : (n : List ℕ) (high low : ℕ) → IsRead (roll-Expr (Expr-F.Part n high low))
part_read n high low draft goal frames tokens lexemes deep filled w =
    let value : Expr = roll-Expr (Expr-F.Name n) in
    let part : Expr = roll-Expr (Expr-F.Part n high low) in
    next _ (at draft goal frames (Value value)) _ lexemes _ tokens
    (name _ _ lexemes n _ (operand_name draft goal frames n)
    (layer_writes (Expr-F.Part n high low) tokens (Identifier n ∷ Sign (codes "[") ∷ Number high ∷ Sign (codes ":") ∷ Number low ∷ Sign (codes "]") ∷ tokens) lexemes refl w))
    (λ l1 w1. next _ (at draft goal frames (Index n)) _ l1 _ tokens (sign _ _ l1 _ _ (index_step draft goal frames n) w1)
    (λ l2 w2. next _ (at draft goal frames (High n high)) _ l2 _ tokens (number _ _ l2 high _ (high_step draft goal frames n high) w2)
    (λ l3 w3. next _ (at draft goal frames (Low n high)) _ l3 _ tokens (sign _ _ l3 _ _ (colon_step draft goal frames n high) w3)
    (λ l4 w4. next _ (at draft goal frames (Ends part CloseBracket)) _ l4 _ tokens (number _ _ l4 low _ (low_step draft goal frames n high low) w4)
    (λ l5 w5. sign _ _ l5 _ tokens (ends_step draft goal frames part CloseBracket) w5)))))

-- operators

deeper : (d n : ℕ) (frames : List Frame) (frame : Frame) → n + 1 + length frames ≤ 256 → d ≤ n → d + length (frames ++ frame ∷ []) ≤ 256
deeper d n frames frame h below = omega (arith, length-append frames (frame ∷ []))

unary_read : (op : UnOp) (e : Expr) → IsRead e → IsRead (roll-Expr (Expr-F.Unary op e))
unfolding frame_step
unary_read op e read draft goal frames tokens lexemes deep filled w =
    let d : depth e + 1 + length frames ≤ 256 = layer_depth (Expr-F.Unary op e) (length frames) deep in
    next _ (at draft goal frames Opened) _ lexemes _ tokens
    (sign _ _ lexemes (codes "(") _ (open_step draft goal frames (omega arith)) (layer_writes (Expr-F.Unary op e) tokens _ lexemes (unary_tokens op e tokens) w))
    (λ l1 w1. next _ (at draft goal (frames ++ InUnary op ∷ []) Operand) _ l1 _ tokens (sign _ _ l1 (unary_text op) _ (unary_step draft goal frames op) w1)
    (λ l2 w2. next _ (at draft goal (frames ++ InUnary op ∷ []) (Value e)) _ l2 _ tokens
    (read draft goal (frames ++ InUnary op ∷ []) _ l2 (deeper (depth e) (depth e) frames (InUnary op) d (omega arith)) (layer_filled (Expr-F.Unary op e) filled) w2)
    (λ l3 w3. sign _ _ l3 (codes ")") tokens (in_frame draft goal frames (InUnary op) e (codes ")") refl) w3)))

binary_read : (op : BinOp) (l r : Expr) → IsRead l → IsRead r → IsRead (roll-Expr (Expr-F.Binary op l r))
unfolding frame_step
binary_read op l r read_l read_r draft goal frames tokens lexemes deep filled w =
    let d : max (depth l) (depth r) + 1 + length frames ≤ 256 = layer_depth (Expr-F.Binary op l r) (length frames) deep in
    let f = and_parts (is_filled l) (is_filled r) (layer_filled (Expr-F.Binary op l r) filled) in
    let outer : List Frame = frames ++ InRight op l ∷ [] in
    next _ (at draft goal frames Opened) _ lexemes _ tokens
    (sign _ _ lexemes (codes "(") _ (open_step draft goal frames (omega arith)) (layer_writes (Expr-F.Binary op l r) tokens _ lexemes (binary_tokens op l r tokens) w))
    (λ l1 w1. next _ (at draft goal (frames ++ InLeft ∷ []) (Value l)) _ l1 _ tokens (opened_read l read_l draft goal frames _ l1 (omega arith) f.0 w1)
    (λ l2 w2. next _ (at draft goal outer Operand) _ l2 _ tokens (sign _ _ l2 (binary_text op) _ (binary_step draft goal frames op l) w2)
    (λ l3 w3. next _ (at draft goal outer (Value r)) _ l3 _ tokens
    (read_r draft goal outer _ l3 (deeper (depth r) (max (depth l) (depth r)) frames (InRight op l) d (omega arith)) f.1 w3)
    (λ l4 w4. sign _ _ l4 (codes ")") tokens (in_frame draft goal frames (InRight op l) r (codes ")") refl) w4))))

shift_read : (op : ShiftOp) (e : Expr) (n : Sized) → IsRead e → IsRead (roll-Expr (Expr-F.Shift op e n))
shift_read op e n read draft goal frames tokens lexemes deep filled w =
    let d : depth e + 1 + length frames ≤ 256 = layer_depth (Expr-F.Shift op e n) (length frames) deep in
    let shifted : Expr = roll-Expr (Expr-F.Shift op e n) in
    next _ (at draft goal frames Opened) _ lexemes _ tokens
    (sign _ _ lexemes (codes "(") _ (open_step draft goal frames (omega arith)) (layer_writes (Expr-F.Shift op e n) tokens _ lexemes (shift_tokens op e n tokens) w))
    (λ l1 w1. next _ (at draft goal (frames ++ InLeft ∷ []) (Value e)) _ l1 _ tokens (opened_read e read draft goal frames _ l1 d (layer_filled (Expr-F.Shift op e n) filled) w1)
    (λ l2 w2. next _ (at draft goal frames (Amount op e)) _ l2 _ tokens (sign _ _ l2 (shift_text op) _ (shift_step draft goal frames op e) w2)
    (λ l3 w3. next _ (at draft goal frames (Ends shifted CloseParenthesis)) _ l3 _ tokens (based _ _ l3 n _ (amount_step draft goal frames op e n) w3)
    (λ l4 w4. sign _ _ l4 (codes ")") tokens (ends_step draft goal frames shifted CloseParenthesis) w4))))

choose_read : (t c o : Expr) → IsRead t → IsRead c → IsRead o → IsRead (roll-Expr (Expr-F.Choose t c o))
unfolding frame_step
choose_read t c o read_t read_c read_o draft goal frames tokens lexemes deep filled w =
    let d : max (depth t) (max (depth c) (depth o)) + 1 + length frames ≤ 256 = layer_depth (Expr-F.Choose t c o) (length frames) deep in
    let f = and_parts (is_filled t && is_filled c) (is_filled o) (layer_filled (Expr-F.Choose t c o) filled) in
    let f' = and_parts (is_filled t) (is_filled c) f.0 in
    let chosen : List Frame = frames ++ InChosen t ∷ [] in
    let other : List Frame = frames ++ InOther t c ∷ [] in
    next _ (at draft goal frames Opened) _ lexemes _ tokens
    (sign _ _ lexemes (codes "(") _ (open_step draft goal frames (omega arith)) (layer_writes (Expr-F.Choose t c o) tokens _ lexemes (choose_tokens t c o tokens) w))
    (λ l1 w1. next _ (at draft goal (frames ++ InLeft ∷ []) (Value t)) _ l1 _ tokens (opened_read t read_t draft goal frames _ l1 (omega arith) f'.0 w1)
    (λ l2 w2. next _ (at draft goal chosen Operand) _ l2 _ tokens (sign _ _ l2 (codes "?") _ (question_step draft goal frames t) w2)
    (λ l3 w3. next _ (at draft goal chosen (Value c)) _ l3 _ tokens
    (read_c draft goal chosen _ l3 (deeper (depth c) (max (depth t) (max (depth c) (depth o))) frames (InChosen t) d (omega arith)) f'.1 w3)
    (λ l4 w4. next _ (at draft goal other Operand) _ l4 _ tokens (sign _ _ l4 (codes ":") _ (in_frame draft goal frames (InChosen t) c (codes ":") refl) w4)
    (λ l5 w5. next _ (at draft goal other (Value o)) _ l5 _ tokens
    (read_o draft goal other _ l5 (deeper (depth o) (max (depth t) (max (depth c) (depth o))) frames (InOther t c) d (omega arith)) f.1 w5)
    (λ l6 w6. sign _ _ l6 (codes ")") tokens (in_frame draft goal frames (InOther t c) o (codes ")") refl) w6))))))

-- casts and repetitions

cast_read : (signed : Bool) (word : List ℕ) (e : Expr) → IsRead e → (draft : Draft) (goal : Goal) (frames : List Frame) (tokens : List Token) (lexemes : List (List ℕ)) →
    (length frames < 256 → step (at draft goal frames Operand) word ≡ Some (at draft goal (frames ++ InCast signed ∷ []) (Begins OpenParenthesis))) →
    depth e + 1 + length frames ≤ 256 → is_filled e ≡ true → Writes (Key word ∷ Sign (codes "(") ∷ (expr_tokens e ++ Sign (codes ")") ∷ tokens)) lexemes →
    Reads (at draft goal frames Operand) lexemes (at draft goal frames (Value (cond signed (roll-Expr (Expr-F.AsSigned e)) (roll-Expr (Expr-F.AsUnsigned e))))) tokens
unfolding frame_step
cast_read signed word e read draft goal frames tokens lexemes goes d filled w =
    let inner : List Frame = frames ++ InCast signed ∷ [] in
    next _ (at draft goal inner (Begins OpenParenthesis)) _ lexemes _ tokens (key _ _ lexemes word _ (goes (omega arith)) w)
    (λ l1 w1. next _ (at draft goal inner Operand) _ l1 _ tokens (sign _ _ l1 (codes "(") _ (begins_step draft goal inner OpenParenthesis) w1)
    (λ l2 w2. next _ (at draft goal inner (Value e)) _ l2 _ tokens (read draft goal inner _ l2 (deeper (depth e) (depth e) frames (InCast signed) d (omega arith)) filled w2)
    (λ l3 w3. sign _ _ l3 (codes ")") tokens (in_frame draft goal frames (InCast signed) e (codes ")") refl) w3)))

signed_read : (e : Expr) → IsRead e → IsRead (roll-Expr (Expr-F.AsSigned e))
signed_read e read draft goal frames tokens lexemes deep filled w =
    cast_read true (codes "$signed") e read draft goal frames tokens lexemes (signed_step draft goal frames) (layer_depth (Expr-F.AsSigned e) (length frames) deep)
    (layer_filled (Expr-F.AsSigned e) filled) (layer_writes (Expr-F.AsSigned e) tokens _ lexemes (as_signed_tokens e tokens) w)

unsigned_read : (e : Expr) → IsRead e → IsRead (roll-Expr (Expr-F.AsUnsigned e))
unsigned_read e read draft goal frames tokens lexemes deep filled w =
    cast_read false (codes "$unsigned") e read draft goal frames tokens lexemes (unsigned_step draft goal frames) (layer_depth (Expr-F.AsUnsigned e) (length frames) deep)
    (layer_filled (Expr-F.AsUnsigned e) filled) (layer_writes (Expr-F.AsUnsigned e) tokens _ lexemes (as_unsigned_tokens e tokens) w)

repeat_read : (n : ℕ) (e : Expr) → IsRead e → IsRead (roll-Expr (Expr-F.Repeat n e))
unfolding frame_step
repeat_read n e read draft goal frames tokens lexemes deep filled w =
    let d : depth e + 1 + length frames ≤ 256 = layer_depth (Expr-F.Repeat n e) (length frames) deep in
    let inner : List Frame = frames ++ InRepeat n ∷ [] in
    let repeated : Expr = roll-Expr (Expr-F.Repeat n e) in
    next _ (at draft goal frames Braced) _ lexemes _ tokens
    (sign _ _ lexemes (codes "{") _ (brace_step draft goal frames (omega arith)) (layer_writes (Expr-F.Repeat n e) tokens _ lexemes (repeat_tokens n e tokens) w))
    (λ l1 w1. next _ (at draft goal inner (Begins OpenBrace)) _ l1 _ tokens (number _ _ l1 n _ (count_step draft goal frames n) w1)
    (λ l2 w2. next _ (at draft goal inner Operand) _ l2 _ tokens (sign _ _ l2 (codes "{") _ (begins_step draft goal inner OpenBrace) w2)
    (λ l3 w3. next _ (at draft goal inner (Value e)) _ l3 _ tokens
    (read draft goal inner _ l3 (deeper (depth e) (depth e) frames (InRepeat n) d (omega arith)) (layer_filled (Expr-F.Repeat n e) filled) w3)
    (λ l4 w4. next _ (at draft goal frames (Ends repeated CloseBrace)) _ l4 _ tokens (sign _ _ l4 (codes "}") _ (in_frame draft goal frames (InRepeat n) e (codes "}") refl) w4)
    (λ l5 w5. sign _ _ l5 (codes "}") tokens (ends_step draft goal frames repeated CloseBrace) w5)))))

-- concatenations

record IsPart (e : Expr) (frames : List Frame) : Type 0 where
  deep : depth e + 1 + length frames ≤ 256
  filled : is_filled e ≡ true

abbrev Parts : Type 0
Parts = List ((e : Expr) × IsRead e)

abbrev exprs_of : Parts → List Expr
exprs_of ps = map (λ (p : (e : Expr) × IsRead e). p.0) ps

abbrev ArePart : Parts → List Frame → Type 0
ArePart [] frames = Unit {0}
ArePart (p ∷ ps) frames = IsPart p.0 frames × ArePart ps frames

parts_read : (ps : Parts) (draft : Draft) (goal : Goal) (frames : List Frame) (done : List Expr) (e : Expr) (tokens : List Token) (lexemes : List (List ℕ)) → ArePart ps frames →
    Writes (more_tokens (exprs_of ps) tokens) lexemes →
    Reads (at draft goal (frames ++ InConcat done ∷ []) (Value e)) lexemes (at draft goal frames (Value (roll-Expr (Expr-F.Concat (done ++ e ∷ exprs_of ps))))) tokens
unfolding frame_step
parts_read [] draft goal frames done e tokens lexemes parts w =
    sign _ _ lexemes (codes "}") tokens (in_frame draft goal frames (InConcat done) e (codes "}") refl) w
parts_read (p ∷ ps) draft goal frames done e tokens lexemes parts w =
    let inner : List Frame = frames ++ InConcat (done ++ e ∷ []) ∷ [] in
    next _ (at draft goal inner Operand) _ lexemes _ tokens (sign _ _ lexemes (codes ",") _ (in_frame draft goal frames (InConcat done) e (codes ",") refl) w)
    (λ l1 w1. next _ (at draft goal inner (Value p.0)) _ l1 _ tokens
    (p.1 draft goal inner _ l1 (deeper (depth p.0) (depth p.0) frames (InConcat (done ++ e ∷ [])) parts.0.deep (omega arith)) parts.0.filled w1)
    (λ l2 w2. let after = parts_read ps draft goal frames (done ++ e ∷ []) p.0 tokens l2 parts.1 w2 in
    subst (λ es. Reads (at draft goal inner (Value p.0)) l2 (at draft goal frames (Value (roll-Expr (Expr-F.Concat es)))) tokens) (append_assoc done (e ∷ []) (p.0 ∷ exprs_of ps)) after))

all_parts : (ps : Parts) (frames : List Frame) (a : ℕ)
    → fold max a (map depth (exprs_of ps)) + 1 + length frames ≤ 256
    → list_all (λ more. more) (map is_filled (exprs_of ps)) ≡ true → ArePart ps frames
all_parts [] frames a deep filled = tt
all_parts (p ∷ ps) frames a deep filled =
    let f = and_parts (is_filled p.0) (list_all (λ more. more) (map is_filled (exprs_of ps))) filled in
    (record { deep = omega (arith, fold-start (map depth (exprs_of ps)) (max a (depth p.0))); filled = f.0 }, all_parts ps frames (max a (depth p.0)) deep f.1)

concat_read : (ps : Parts) → IsRead (roll-Expr (Expr-F.Concat (exprs_of ps)))
concat_read [] draft goal frames tokens lexemes deep filled w =
    let f : false ≡ true = layer_filled (Expr-F.Concat []) filled in cc
concat_read (p ∷ ps) draft goal frames tokens lexemes deep filled w =
    let x : Expr-F Expr = Expr-F.Concat (p.0 ∷ exprs_of ps) in
    let d : fold max (max 0 (depth p.0)) (map depth (exprs_of ps)) + 1 + length frames ≤ 256 = layer_depth x (length frames) deep in
    let f = and_parts (is_filled p.0) (list_all (λ more. more) (map is_filled (exprs_of ps))) (layer_filled x filled) in
    let here : depth p.0 + 1 + length frames ≤ 256 = omega (arith, fold-start (map depth (exprs_of ps)) (max 0 (depth p.0))) in
    next _ (at draft goal frames Braced) _ lexemes _ tokens
    (sign _ _ lexemes (codes "{") _ (brace_step draft goal frames (omega arith)) (layer_writes x tokens _ lexemes (concat_tokens p.0 (exprs_of ps) tokens) w))
    (λ l1 w1. next _ (at draft goal (frames ++ InConcat [] ∷ []) (Value p.0)) _ l1 _ tokens (braced_read p.0 p.1 draft goal frames _ l1 here f.0 w1)
    (λ l2 w2. parts_read ps draft goal frames [] p.0 tokens l2 (all_parts ps frames (max 0 (depth p.0)) d f.1) w2))

-- every expression is read from what is written for its tokens
pub expression_read : (e : Expr) → IsRead e
expression_read e =
    by_forms IsRead name_read bit_read part_read literal_read concat_read repeat_read signed_read unsigned_read unary_read binary_read shift_read choose_read e
