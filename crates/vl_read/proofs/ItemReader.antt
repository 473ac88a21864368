-- Items are read from what is written for their tokens.
use Rattle.std.proofs.Common.{◌≡◌, ℕ, ◌+◌, ◌<◌, ◌≤◌, Bool, true, false, cond, List, [], ◌∷◌, ◌++◌, length, Option, Some, None, refl, sym, ◌∙◌, ap, subst, codes, arith, append_assoc, append-nil}
use Rattle.std.proofs.Common.{length-append, bytes_eq}
use Rattle.std.specs.List.{AllZip, flat_map}
use Rattle.std.proofs.lemmas.Bool.{lt-ltb}
use Rattle.vl_ast.specs.declared.expressions.Sized.{Sized}
use Rattle.vl_ast.specs.declared.expressions.Expr.{Expr}
use Rattle.vl_ast.specs.declared.expressions.Expr.TheViews.{out-Expr}
use Rattle.vl_ast.specs.declared.modules.ModItem.{ModItem}
use Rattle.vl_ast.specs.declared.modules.ModItem.TheVariants.{Wire, Reg, Assign, Always}
use Rattle.vl_ast.specs.Tokens.{Token, Key, Sign, Identifier, Based}
use Rattle.vl_ast.specs.Grammar.{expr_tokens, IsExpr, IsRange, declaration_tokens, condition_tokens, IsCondition, IsItemText}
use Rattle.vl_read.specs.declared.scan.Kind.TheVariants.{Name, Constant}
use Rattle.vl_read.specs.inner.Places.Spot.{Operand, Value}
use Rattle.vl_read.specs.inner.Places.{Clocked, Goal}
use Rattle.vl_read.specs.inner.Places.Goal.{Assigned, Condition, Next}
use Rattle.vl_read.specs.inner.Places.NetKind.{OfItem}
use Rattle.vl_read.specs.declared.places.NetSpot.TheVariants.{Signed}
use Rattle.vl_read.specs.inner.Places.Place.{Net, Items, AssignName, AssignSign, Head, ClockedName, ClockedSign, First, AfterFirst, Else, Branch, If, Again, NextSign, Semicolon, End}
use Rattle.vl_read.specs.declared.places.Draft.{Draft}
use Rattle.vl_read.specs.declared.places.HeadSpot.{HeadSpot}
use Rattle.vl_read.specs.declared.places.HeadSpot.TheVariants.{Event, OpenEvent, Posedge, Clock, CloseEvent, Begin, Test, OpenTest, Reset, CloseTest}
use Rattle.vl_read.specs.inner.Lexemes.{kind_of, dec_of, sized_of}
use Rattle.vl_read.specs.inner.Plain.{head_word, after_head, step, name_of, goal_step, net_item, declared, item_step, attr_step, net_step, compound_step, operand_step, unary_or_left, opened_step}
use Rattle.vl_read.specs.inner.Plain.{braced_step, left_step, frame_step, spot_step, step_at}
use Rattle.vl_read.specs.inner.LexemeSteps.{parser_at, goes}
use Rattle.vl_read.proofs.Expressions.{at, no_index}
use Rattle.vl_read.proofs.Forms.{expression_read}
use Rattle.math_list.proofs.Tests.{same_bytes}
use Rattle.vl_read.proofs.TokenReader.{Writes, Reads, writes_as, next, sign, key, name, based}
use Rattle.vl_read.proofs.ModuleTokens.{item_word, declaration_is, assign_is, always_tail, always_is, condition_is}
use Rattle.vl_read.proofs.PortReader.{net_read}

abbrev pub with_item : Draft → ModItem → Draft
with_item draft item = record draft { items = draft.items ++ item ∷ [] }

item_net : (draft : Draft) (is_reg : Bool) → length draft.items < draft.most → step (parser_at draft Items) (item_word is_reg) ≡ Some (parser_at draft (Net (OfItem is_reg) Signed))
unfolding step item_step step_at
item_net draft true room = ap (λ t. cond t (item_step draft (codes "reg")) None) (lt-ltb (length draft.items) draft.most room)
item_net draft false room = ap (λ t. cond t (item_step draft (codes "wire")) None) (lt-ltb (length draft.items) draft.most room)

item_assign : (draft : Draft) → length draft.items < draft.most → step (parser_at draft Items) (codes "assign") ≡ Some (parser_at draft (AssignName))
unfolding step attr_step declared net_step compound_step operand_step unary_or_left opened_step braced_step left_step frame_step goal_step spot_step item_step step_at
item_assign draft room = ap (λ t. cond t (item_step draft (codes "assign")) None) (lt-ltb (length draft.items) draft.most room)

item_always : (draft : Draft) → length draft.items < draft.most → step (parser_at draft Items) (codes "always") ≡ Some (parser_at draft (Head Event))
unfolding step attr_step declared net_step compound_step operand_step unary_or_left opened_step braced_step left_step frame_step goal_step spot_step item_step step_at
item_always draft room = ap (λ t. cond t (item_step draft (codes "always")) None) (lt-ltb (length draft.items) draft.most room)

semicolon_step : (draft : Draft) (item : ModItem) → step (parser_at draft (Semicolon item)) (codes ";") ≡ Some (parser_at (with_item draft item) Items)
unfolding step attr_step declared net_step compound_step operand_step unary_or_left opened_step braced_step left_step frame_step goal_step spot_step item_step step_at
semicolon_step draft item = refl

end_step : (draft : Draft) (item : ModItem) → step (parser_at draft (End item)) (codes "end") ≡ Some (parser_at (with_item draft item) Items)
unfolding step attr_step declared net_step compound_step operand_step unary_or_left opened_step braced_step left_step frame_step goal_step spot_step item_step step_at
end_step draft item = refl

assign_name : (draft : Draft) (n : List ℕ) → kind_of n ≡ Name → step (parser_at draft AssignName) n ≡ Some (parser_at draft (AssignSign n))
unfolding step attr_step declared net_step compound_step operand_step unary_or_left opened_step braced_step left_step frame_step goal_step spot_step item_step step_at
assign_name draft n h = rw h

assign_sign : (draft : Draft) (n : List ℕ) → step (parser_at draft (AssignSign n)) (codes "=") ≡ Some (at draft (Assigned n) [] Operand)
unfolding step attr_step declared net_step compound_step operand_step unary_or_left opened_step braced_step left_step frame_step goal_step spot_step item_step step_at
assign_sign draft n = refl

goal_read : (draft : Draft) (goal : Goal) (e : Expr) (lexeme : List ℕ) → bytes_eq lexeme (codes "[") ≡ false → step (at draft goal [] (Value e)) lexeme ≡ goal_step draft goal e lexeme
unfolding step attr_step declared net_step compound_step operand_step unary_or_left opened_step braced_step left_step frame_step goal_step spot_step item_step step_at
goal_read draft goal e lexeme h = no_index draft goal [] e (name_of (out-Expr e)) lexeme h

whole_read : (draft : Draft) (goal : Goal) (e : Expr) (tokens : List Token) (lexemes : List (List ℕ)) → IsExpr e → Writes (expr_tokens e ++ tokens) lexemes →
    Reads (at draft goal [] Operand) lexemes (at draft goal [] (Value e)) tokens
whole_read draft goal e tokens lexemes is w = expression_read e draft goal [] tokens lexemes (omega (arith, is.0)) is.1 w

abbrev pub IsItemRead : ModItem → List Token → Type 0
IsItemRead item written = (draft : Draft) (tokens : List Token) (lexemes : List (List ℕ)) → length draft.items < draft.most → Writes (written ++ tokens) lexemes →
    Reads (parser_at draft Items) lexemes (parser_at (with_item draft item) Items) tokens

net_item_read : (is_reg signed : Bool) (width : ℕ) (n : List ℕ) (range written : List Token) → IsRange width range →
    written ≡ declaration_tokens (Key (item_word is_reg) ∷ []) signed range n ++ Sign (codes ";") ∷ [] → IsItemRead (net_item is_reg signed width n) written
net_item_read is_reg signed width n range written ranged is draft tokens lexemes room w =
    next _ (parser_at draft (Net (OfItem is_reg) Signed)) _ lexemes _ tokens
    (key _ _ lexemes (item_word is_reg) _ (item_net draft is_reg room) (writes_as _ _ lexemes (ap (λ t. t ++ tokens) is ∙ declaration_is (item_word is_reg) signed range n tokens) w))
    (λ l1 w1. next _ (parser_at draft (Semicolon (net_item is_reg signed width n))) _ l1 _ tokens (net_read draft (OfItem is_reg) signed width range n _ l1 ranged w1)
    (λ l2 w2. sign _ _ l2 (codes ";") tokens (semicolon_step draft (net_item is_reg signed width n)) w2))

assign_read : (n : List ℕ) (e : Expr) (written : List Token) → IsItemText (Assign n e) written → IsItemRead (Assign n e) written
unfolding goal_step
assign_read n e written is draft tokens lexemes room w =
    let text : written ++ tokens ≡ Key (codes "assign") ∷ Identifier n ∷ Sign (codes "=") ∷ (expr_tokens e ++ Sign (codes ";") ∷ tokens) =
    ap (λ t. t ++ tokens) is.1 ∙ assign_is n e tokens in
    next _ (parser_at draft AssignName) _ lexemes _ tokens (key _ _ lexemes (codes "assign") _ (item_assign draft room) (writes_as _ _ lexemes text w))
    (λ l1 w1. next _ (parser_at draft (AssignSign n)) _ l1 _ tokens (name _ _ l1 n _ (assign_name draft n) w1)
    (λ l2 w2. next _ (at draft (Assigned n) [] Operand) _ l2 _ tokens (sign _ _ l2 (codes "=") _ (assign_sign draft n) w2)
    (λ l3 w3. next _ (at draft (Assigned n) [] (Value e)) _ l3 _ tokens (whole_read draft (Assigned n) e _ l3 is.0 w3)
    (λ l4 w4. sign _ _ l4 (codes ";") tokens (goal_read draft (Assigned n) e (codes ";") refl) w4))))

-- the words after `always`
pub head_step : (draft : Draft) (at : HeadSpot) → step (parser_at draft (Head at)) (head_word at) ≡ Some (parser_at draft (after_head at))
unfolding step step_at
head_step draft at = ap (λ t. cond t (goes draft (after_head at)) None) (same_bytes (head_word at))

abbrev after_always : List Token → List Token
after_always tokens = Sign (codes "@") ∷ Sign (codes "(") ∷ Key (codes "posedge") ∷ Key (codes "clk")
    ∷ Sign (codes ")") ∷ Key (codes "begin") ∷ Key (codes "if") ∷ Sign (codes "(") ∷ Key (codes "reset")
    ∷ Sign (codes ")") ∷ tokens

head_read : (draft : Draft) (tokens : List Token) (lexemes : List (List ℕ)) → Writes (after_always tokens) lexemes → Reads (parser_at draft (Head Event)) lexemes (parser_at draft ClockedName) tokens
head_read draft tokens l0 w0 =
    next _ (parser_at draft (Head OpenEvent)) _ l0 _ tokens (sign _ _ l0 (codes "@") _ (head_step draft Event) w0)
    (λ l1 w1. next _ (parser_at draft (Head Posedge)) _ l1 _ tokens (sign _ _ l1 (codes "(") _ (head_step draft OpenEvent) w1)
    (λ l2 w2. next _ (parser_at draft (Head Clock)) _ l2 _ tokens (key _ _ l2 (codes "posedge") _ (head_step draft Posedge) w2)
    (λ l3 w3. next _ (parser_at draft (Head CloseEvent)) _ l3 _ tokens (key _ _ l3 (codes "clk") _ (head_step draft Clock) w3)
    (λ l4 w4. next _ (parser_at draft (Head Begin)) _ l4 _ tokens (sign _ _ l4 (codes ")") _ (head_step draft CloseEvent) w4)
    (λ l5 w5. next _ (parser_at draft (Head Test)) _ l5 _ tokens (key _ _ l5 (codes "begin") _ (head_step draft Begin) w5)
    (λ l6 w6. next _ (parser_at draft (Head OpenTest)) _ l6 _ tokens (key _ _ l6 (codes "if") _ (head_step draft Test) w6)
    (λ l7 w7. next _ (parser_at draft (Head Reset)) _ l7 _ tokens (sign _ _ l7 (codes "(") _ (head_step draft OpenTest) w7)
    (λ l8 w8. next _ (parser_at draft (Head CloseTest)) _ l8 _ tokens (key _ _ l8 (codes "reset") _ (head_step draft Reset) w8)
    (λ l9 w9. sign _ _ l9 (codes ")") tokens (head_step draft CloseTest) w9)))))))))

clocked_name : (draft : Draft) (n : List ℕ) → kind_of n ≡ Name → step (parser_at draft ClockedName) n ≡ Some (parser_at draft (ClockedSign n))
unfolding step attr_step declared net_step compound_step operand_step unary_or_left opened_step braced_step left_step frame_step goal_step spot_step item_step step_at
clocked_name draft n h = rw h

clocked_sign : (draft : Draft) (n : List ℕ) → step (parser_at draft (ClockedSign n)) (codes "<=") ≡ Some (parser_at draft (First n))
unfolding step attr_step declared net_step compound_step operand_step unary_or_left opened_step braced_step left_step frame_step goal_step spot_step item_step step_at
clocked_sign draft n = refl

first_step : (draft : Draft) (n : List ℕ) (first : Sized) (lexeme : List ℕ) → kind_of lexeme ≡ Constant first → step (parser_at draft (First n)) lexeme ≡ Some (parser_at draft (AfterFirst n first))
unfolding step attr_step declared net_step compound_step operand_step unary_or_left opened_step braced_step left_step frame_step goal_step spot_step item_step step_at
first_step draft n first lexeme h = rw h

after_first : (draft : Draft) (n : List ℕ) (first : Sized) → step (parser_at draft (AfterFirst n first)) (codes ";") ≡ Some (parser_at draft (Else n first))
unfolding step attr_step declared net_step compound_step operand_step unary_or_left opened_step braced_step left_step frame_step goal_step spot_step item_step step_at
after_first draft n first = refl

else_step : (draft : Draft) (n : List ℕ) (first : Sized) → step (parser_at draft (Else n first)) (codes "else") ≡ Some (parser_at draft (Branch n first))
unfolding step attr_step declared net_step compound_step operand_step unary_or_left opened_step braced_step left_step frame_step goal_step spot_step item_step step_at
else_step draft n first = refl

abbrev clocked : List ℕ → Sized → Option Expr → Clocked
clocked n first condition = record { name = n; first = first; condition = condition }

branch_name : (draft : Draft) (n : List ℕ) (first : Sized) → kind_of n ≡ Name → step (parser_at draft (Branch n first)) n ≡ Some (parser_at draft (NextSign (clocked n first None)))
unfolding step attr_step declared net_step compound_step operand_step unary_or_left opened_step braced_step left_step frame_step goal_step spot_step item_step step_at
branch_name draft n first h = rw h (ap (λ t. cond t (goes draft (NextSign (clocked n first None))) None) (same_bytes n))

branch_if : (draft : Draft) (n : List ℕ) (first : Sized) → step (parser_at draft (Branch n first)) (codes "if") ≡ Some (parser_at draft (If n first))
unfolding step attr_step declared net_step compound_step operand_step unary_or_left opened_step braced_step left_step frame_step goal_step spot_step item_step step_at kind_of dec_of sized_of
branch_if draft n first = refl

if_step : (draft : Draft) (n : List ℕ) (first : Sized) → step (parser_at draft (If n first)) (codes "(") ≡ Some (at draft (Condition n first) [] Operand)
unfolding step attr_step declared net_step compound_step operand_step unary_or_left opened_step braced_step left_step frame_step goal_step spot_step item_step step_at
if_step draft n first = refl

again_name : (draft : Draft) (n : List ℕ) (first : Sized) (condition : Option Expr) → kind_of n ≡ Name
    → step (parser_at draft (Again (clocked n first condition))) n
    ≡ Some (parser_at draft (NextSign (clocked n first condition)))
unfolding step attr_step declared net_step compound_step operand_step unary_or_left opened_step braced_step left_step frame_step goal_step spot_step item_step step_at
again_name draft n first condition h = rw h (ap (λ t. cond t (goes draft (NextSign (clocked n first condition))) None) (same_bytes n))

next_sign : (draft : Draft) (c : Clocked) → step (parser_at draft (NextSign c)) (codes "<=") ≡ Some (at draft (Next c) [] Operand)
unfolding step attr_step declared net_step compound_step operand_step unary_or_left opened_step braced_step left_step frame_step goal_step spot_step item_step step_at
next_sign draft c = refl

-- what follows the value at a reset
condition_read : (condition : Option Expr) (n : List ℕ) (first : Sized) (draft : Draft) (tokens : List Token) (lexemes : List (List ℕ)) → IsCondition condition →
    Writes (condition_tokens condition ++ Identifier n ∷ tokens) lexemes → Reads (parser_at draft (Branch n first)) lexemes (parser_at draft (NextSign (clocked n first condition))) tokens
unfolding goal_step
condition_read None n first draft tokens lexemes is w = name _ _ lexemes n tokens (branch_name draft n first) w
condition_read (Some e) n first draft tokens lexemes is w =
    next _ (parser_at draft (If n first)) _ lexemes _ tokens (key _ _ lexemes (codes "if") _ (branch_if draft n first) (writes_as _ _ lexemes (condition_is e (Identifier n ∷ tokens)) w))
    (λ l1 w1. next _ (at draft (Condition n first) [] Operand) _ l1 _ tokens (sign _ _ l1 (codes "(") _ (if_step draft n first) w1)
    (λ l2 w2. next _ (at draft (Condition n first) [] (Value e)) _ l2 _ tokens (whole_read draft (Condition n first) e _ l2 is w2)
    (λ l3 w3. next _ (parser_at draft (Again (clocked n first (Some e)))) _ l3 _ tokens (sign _ _ l3 (codes ")") _ (goal_read draft (Condition n first) e (codes ")") refl) w3)
    (λ l4 w4. name _ _ l4 n tokens (again_name draft n first (Some e)) w4))))

always_read : (n : List ℕ) (first : Sized) (condition : Option Expr) (e : Expr) (written : List Token)
    → IsItemText (Always n first condition e) written → IsItemRead (Always n first condition e) written
unfolding goal_step
always_read n first condition e written is draft tokens lexemes room w =
    let item : ModItem = Always n first condition e in
    let c : Clocked = clocked n first condition in
    let tail : List Token = always_tail condition n e tokens in
    let middle : List Token → List Token = λ t. Identifier n ∷ Sign (codes "<=") ∷ Based first ∷ Sign (codes ";") ∷ Key (codes "else") ∷ t in
    let text : written ++ tokens ≡ Key (codes "always") ∷ after_always (middle tail) = ap (λ t. t ++ tokens) is.2 ∙ always_is n first condition e tokens in
    next _ (parser_at draft (Head Event)) _ lexemes _ tokens (key _ _ lexemes (codes "always") _ (item_always draft room) (writes_as _ _ lexemes text w))
    (λ l1 w1. next _ (parser_at draft ClockedName) _ l1 _ tokens (head_read draft (middle tail) l1 w1)
    (λ l2 w2. next _ (parser_at draft (ClockedSign n)) _ l2 _ tokens (name _ _ l2 n _ (clocked_name draft n) w2)
    (λ l3 w3. next _ (parser_at draft (First n)) _ l3 _ tokens (sign _ _ l3 (codes "<=") _ (clocked_sign draft n) w3)
    (λ l4 w4. next _ (parser_at draft (AfterFirst n first)) _ l4 _ tokens (based _ _ l4 first _ (first_step draft n first) w4)
    (λ l5 w5. next _ (parser_at draft (Else n first)) _ l5 _ tokens (sign _ _ l5 (codes ";") _ (after_first draft n first) w5)
    (λ l6 w6. next _ (parser_at draft (Branch n first)) _ l6 _ tokens (key _ _ l6 (codes "else") _ (else_step draft n first) w6)
    (λ l7 w7. next _ (parser_at draft (NextSign c)) _ l7 _ tokens (condition_read condition n first draft _ l7 is.0 w7)
    (λ l8 w8. next _ (at draft (Next c) [] Operand) _ l8 _ tokens (sign _ _ l8 (codes "<=") _ (next_sign draft c) w8)
    (λ l9 w9. next _ (at draft (Next c) [] (Value e)) _ l9 _ tokens (whole_read draft (Next c) e _ l9 is.1 w9)
    (λ l10 w10. next _ (parser_at draft (End item)) _ l10 _ tokens (sign _ _ l10 (codes ";") _ (goal_read draft (Next c) e (codes ";") refl) w10)
    (λ l11 w11. key _ _ l11 (codes "end") tokens (end_step draft item) w11)))))))))))

pub item_read : (item : ModItem) (written : List Token) → IsItemText item written → IsItemRead item written
item_read (Wire signed width n) written is = net_item_read false signed width n is.0 written is.1 is.2
item_read (Reg signed width n) written is = net_item_read true signed width n is.0 written is.1 is.2
item_read (Assign n e) written is = assign_read n e written is
item_read (Always n first condition e) written is = always_read n first condition e written is

abbrev pub with_items : Draft → List ModItem → Draft
with_items draft items = record draft { items = draft.items ++ items }

pub items_read : (items : List ModItem) (written : List (List Token)) → AllZip IsItemText items written → (draft : Draft) (tokens : List Token) (lexemes : List (List ℕ)) →
    length draft.items + length items ≤ draft.most →
    Writes (flat_map (λ item. item) written ++ tokens) lexemes → Reads (parser_at draft Items) lexemes (parser_at (with_items draft items) Items) tokens
items_read [] [] all draft tokens lexemes room w =
    record { taken = []; more = lexemes; writes = w; whole = refl; fed = ap (λ p. Some (parser_at (record draft { items = p }) Items)) (sym (append-nil draft.items)) }
items_read [] (text ∷ written) all draft tokens lexemes room w = absurd all
items_read (item ∷ items) [] all draft tokens lexemes room w = absurd all
items_read (item ∷ items) (text ∷ written) all draft tokens lexemes room w =
    next _ (parser_at (with_item draft item) Items) _ lexemes _ tokens
    (item_read item text all.0 draft _ lexemes (omega arith) (writes_as _ _ lexemes (append_assoc text (flat_map (λ item. item) written) tokens) w))
    (λ l1 w1. subst (λ p. Reads (parser_at (with_item draft item) Items) l1 (parser_at (record draft { items = p }) Items) tokens) (append_assoc draft.items (item ∷ []) items)
    (items_read items written all.1 (with_item draft item) tokens l1 (omega (arith, length-append draft.items (item ∷ []))) w1))
