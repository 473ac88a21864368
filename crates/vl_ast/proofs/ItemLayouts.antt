-- The one text of items and ports lays out their tokens.
use Rattle.std.proofs.Common.{◌≡◌, ℕ, Bool, false, List, [], ◌∷◌, ◌++◌, codes, refl, ap, append_assoc, Option, Some, None}
use Rattle.vl_ast.specs.declared.expressions.Sized.{Sized}
use Rattle.vl_ast.specs.declared.expressions.Expr.{Expr}
use Rattle.vl_ast.specs.declared.modules.ModItem.TheVariants.{Assign, Always}
use Rattle.vl_ast.specs.Grammar.{signed_tokens, expr_tokens, condition_tokens, declaration_tokens}
use Rattle.vl_ast.specs.Spelling.{signed_text, range_text, expr_text, condition_text, sized_text, item_text}
use Rattle.vl_ast.specs.Tokens.{Token, Key, Sign, Identifier, Based, IsGap, Lays, AreWritable}
use Rattle.vl_ast.proofs.Layouts.{laid_same, no_gap, blank_gap, line_gap, space_gap, AllWritable-front, AllWritable-back}
use Rattle.vl_ast.proofs.FormLayouts.{Fits, after_sign, not_empty, sign_lays, word_lays}
use Rattle.vl_ast.proofs.ExprLayouts.{expr_fits}
use Rattle.vl_ast.proofs.NetLayouts.{range_tokens, net_lays}

pub indent_gap : IsGap (codes "  ")
indent_gap = blank_gap 32 refl (codes " ") space_gap

-- a semicolon, before what stands on the next line
end_lays : (tail : List Token) (rest : List ℕ) → ((b : Bool) → Lays b tail rest) → (b : Bool) → Lays b (Sign (codes ";") ∷ tail) (codes ";" ++ rest)
end_lays tail rest next b = sign_lays (codes ";") [] tail rest (codes ";" ++ rest) no_gap refl (next false) refl b

-- a declaration with its semicolon
abbrev pub net_item : List ℕ → Bool → ℕ → List ℕ → List Token
net_item word signed width name = declaration_tokens (Key word ∷ []) signed (range_tokens width) name ++ Sign (codes ";") ∷ []

net_shape : (word signed range name rest : List ℕ) →
    codes "\n" ++ ((word ++ codes " " ++ signed ++ range ++ name ++ codes ";\n") ++ rest)
    ≡ codes "\n" ++ (word ++ (codes " " ++ ((signed ++ range ++ name) ++ (codes ";" ++ (codes "\n" ++ rest)))))
net_shape word signed range name rest = simp append_assoc

pub net_item_lays : (word : List ℕ) (signed : Bool) (width : ℕ) (name : List ℕ) → AreWritable (net_item word signed width name) →
    (tail : List Token) (rest : List ℕ) → ((b : Bool) → Lays b tail (codes "\n" ++ rest)) → (after : Bool) →
    Lays after (net_item word signed width name ++ tail) (codes "\n" ++ ((word ++ codes " " ++ signed_text signed ++ range_text width ++ name ++ codes ";\n") ++ rest))
net_item_lays word signed width name w tail rest next after =
    let net : List Token = signed_tokens signed ++ (range_tokens width ++ Identifier name ∷ []) in
    let end : List Token = Sign (codes ";") ∷ [] in
    let ended : List ℕ = codes ";" ++ (codes "\n" ++ rest) in
    let middle : List ℕ = codes " " ++ ((signed_text signed ++ range_text width ++ name) ++ ended) in
    word_lays (Key word) after (codes "\n") ((net ++ end) ++ tail) middle _ w.0 tt line_gap (not_empty 10 [] after)
    (λ b. laid_same b _ (net ++ (Sign (codes ";") ∷ tail)) middle (append_assoc net end tail)
    (net_lays signed width name (AllWritable-front net end w.1) (Sign (codes ";") ∷ tail) ended (end_lays tail (codes "\n" ++ rest) next) b))
    (net_shape word (signed_text signed) (range_text width) name rest)

abbrev pub assign_item : List ℕ → Expr → List Token
assign_item name value = Key (codes "assign") ∷ Identifier name ∷ Sign (codes "=") ∷ (expr_tokens value ++ Sign (codes ";") ∷ [])

assign_shape : (name value rest : List ℕ) →
    codes "\n" ++ ((codes "assign " ++ name ++ codes " = " ++ value ++ codes ";\n") ++ rest)
    ≡ codes "\n" ++ (codes "assign" ++ (codes " " ++ (name ++ (codes " " ++ (codes "=" ++ (codes " " ++ (value ++ (codes ";" ++ (codes "\n" ++ rest)))))))))
assign_shape name value rest = simp append_assoc

pub assign_lays : (name : List ℕ) (value : Expr) → AreWritable (assign_item name value) →
    (tail : List Token) (rest : List ℕ) → ((b : Bool) → Lays b tail (codes "\n" ++ rest)) → (after : Bool) →
    Lays after (assign_item name value ++ tail) (codes "\n" ++ (item_text (Assign name value) ++ rest))
assign_lays name value w tail rest next after =
    let end : List Token = Sign (codes ";") ∷ [] in
    let valued : List Token = (expr_tokens value ++ end) ++ tail in
    let ended : List ℕ = codes ";" ++ (codes "\n" ++ rest) in
    let second : List ℕ = codes " " ++ (expr_text value ++ ended) in
    let first : List ℕ = codes " " ++ (codes "=" ++ second) in
    let start : List ℕ = codes " " ++ (name ++ first) in
    word_lays (Key (codes "assign")) after (codes "\n") (Identifier name ∷ Sign (codes "=") ∷ valued) start _ w.0 tt line_gap (not_empty 10 [] after)
    (λ b. word_lays (Identifier name) b (codes " ") (Sign (codes "=") ∷ valued) first start w.1.0 tt space_gap (not_empty 32 [] b)
    (λ d. sign_lays (codes "=") (codes " ") valued second first space_gap refl
    (laid_same false valued (expr_tokens value ++ (Sign (codes ";") ∷ tail)) second (append_assoc (expr_tokens value) end tail)
    ((expr_fits value).lays (AllWritable-front (expr_tokens value) end w.1.1.1) false
    (codes " ") (Sign (codes ";") ∷ tail) ended second space_gap
    (after_sign (codes " ")) (end_lays tail (codes "\n" ++ rest) next) refl)) refl d) refl)
    (assign_shape name (expr_text value) rest)

condition_shape : (condition rest : List ℕ) →
    codes " " ++ ((codes "if (" ++ condition ++ codes ") ") ++ rest) ≡ codes " " ++ (codes "if" ++ (codes " " ++ (codes "(" ++ (condition ++ (codes ")" ++ (codes " " ++ rest))))))
condition_shape condition rest = simp append_assoc

condition_lays : (condition : Option Expr) → AreWritable (condition_tokens condition) → (tail : List Token) (rest : List ℕ) → ((b : Bool) → Lays b tail (codes " " ++ rest)) →
    (b : Bool) → Lays b (condition_tokens condition ++ tail) (codes " " ++ (condition_text condition ++ rest))
condition_lays None w tail rest next b = next b
condition_lays (Some condition) w tail rest next b =
    let bracket : List Token = Sign (codes ")") ∷ [] in
    let ended : List ℕ = codes ")" ++ (codes " " ++ rest) in
    let second : List ℕ = expr_text condition ++ ended in
    let first : List ℕ = codes " " ++ (codes "(" ++ second) in
    let fit : Fits (expr_tokens condition) (expr_text condition) = expr_fits condition in
    let own : AreWritable (expr_tokens condition) = AllWritable-front (expr_tokens condition) bracket w.1.1 in
    word_lays (Key (codes "if")) b (codes " ") (Sign (codes "(") ∷ ((expr_tokens condition ++ bracket) ++ tail)) first _ w.0 tt space_gap (not_empty 32 [] b)
    (λ d. sign_lays (codes "(") (codes " ") ((expr_tokens condition ++ bracket) ++ tail) second first space_gap (fit.opens own ended)
    (laid_same false _ (expr_tokens condition ++ (Sign (codes ")") ∷ tail)) second (append_assoc (expr_tokens condition) bracket tail)
    (fit.lays own false [] (Sign (codes ")") ∷ tail) ended second no_gap (after_sign [])
    (λ h. sign_lays (codes ")") [] tail (codes " " ++ rest) ended no_gap refl (next false) refl h) refl)) refl d)
    (condition_shape (expr_text condition) rest)

abbrev pub next_item : List ℕ → Expr → List Token
next_item name value = Identifier name ∷ Sign (codes "<=") ∷ (expr_tokens value ++ Sign (codes ";") ∷ Key (codes "end") ∷ [])

-- what a register takes, up to the end of the item
next_lays : (name : List ℕ) (value : Expr) → AreWritable (next_item name value) → (tail : List Token) (rest : List ℕ) → ((b : Bool) → Lays b tail (codes "\n" ++ rest)) →
    (b : Bool) → Lays b (next_item name value ++ tail)
    (codes " " ++ (name ++ (codes " " ++ (codes "<=" ++ (codes " " ++ (expr_text value ++ (codes ";" ++ (codes " " ++ (codes "end" ++ (codes "\n" ++ rest))))))))))
next_lays name value w tail rest next b =
    let end : List Token = Sign (codes ";") ∷ Key (codes "end") ∷ [] in
    let last : List ℕ = codes " " ++ (codes "end" ++ (codes "\n" ++ rest)) in
    let ended : List ℕ = codes ";" ++ last in
    let second : List ℕ = codes " " ++ (expr_text value ++ ended) in
    let first : List ℕ = codes " " ++ (codes "<=" ++ second) in
    let over : AreWritable end = AllWritable-back (expr_tokens value) end w.1.1 in
    word_lays (Identifier name) b (codes " ") (Sign (codes "<=") ∷ ((expr_tokens value ++ end) ++ tail)) first _ w.0 tt space_gap (not_empty 32 [] b)
    (λ d. sign_lays (codes "<=") (codes " ") ((expr_tokens value ++ end) ++ tail) second first space_gap refl
    (laid_same false _ (expr_tokens value ++ (Sign (codes ";") ∷ Key (codes "end") ∷ tail)) second (append_assoc (expr_tokens value) end tail)
    ((expr_fits value).lays (AllWritable-front (expr_tokens value) end w.1.1) false (codes " ") (Sign (codes ";") ∷ Key (codes "end") ∷ tail) ended second space_gap (after_sign (codes " "))
    (λ h. sign_lays (codes ";") [] (Key (codes "end") ∷ tail) last ended no_gap refl
    (word_lays (Key (codes "end")) false (codes " ") tail (codes "\n" ++ rest) last over.1.0 tt space_gap (after_sign (codes " ")) next refl) refl h) refl)) refl d)
    refl

abbrev pub always_item : List ℕ → Sized → Option Expr → Expr → List Token
always_item name first condition value =
    Key (codes "always") ∷ Sign (codes "@") ∷ Sign (codes "(") ∷ Key (codes "posedge") ∷ Key (codes "clk")
    ∷ Sign (codes ")") ∷ Key (codes "begin") ∷ Key (codes "if") ∷ Sign (codes "(") ∷ Key (codes "reset") ∷ Sign (codes ")")
    ∷ Identifier name ∷ Sign (codes "<=") ∷ Based first ∷ Sign (codes ";") ∷ Key (codes "else")
    ∷ (condition_tokens condition ++ next_item name value)

always_shape : (name first condition value rest : List ℕ) →
    (codes "always @ (posedge clk) begin if (reset) " ++ name ++ codes " <= " ++ first ++ codes "; else " ++ condition ++ name ++ codes " <= " ++ value ++ codes "; end\n") ++ rest
    ≡ codes "always @ (posedge clk) begin if (reset) " ++ (name ++ (codes " <= " ++ (first ++ (codes "; else " ++ (condition ++ (name ++ (codes " <= " ++ (value ++ (codes "; end\n" ++ rest)))))))))
always_shape name first condition value rest = simp append_assoc

pub always_lays : (name : List ℕ) (first : Sized) (condition : Option Expr) (value : Expr) → AreWritable (always_item name first condition value) →
    (tail : List Token) (rest : List ℕ) → ((b : Bool) → Lays b tail (codes "\n" ++ rest)) → (after : Bool) →
    Lays after (always_item name first condition value ++ tail) (codes "\n" ++ (item_text (Always name first condition value) ++ rest))
always_lays name first condition value w tail rest next after =
    let taken : List ℕ = name ++ (codes " <= " ++ (expr_text value ++ (codes "; end\n" ++ rest))) in
    let inner : AreWritable (condition_tokens condition ++ next_item name value) = w.1.1.1.1.1.1.1.1.1.1.1.1.1.1.1.1 in
    let chosen : List Token = (condition_tokens condition ++ next_item name value) ++ tail in
    let t16 : List ℕ = codes " " ++ (condition_text condition ++ taken) in
    let t15 : List ℕ = codes " " ++ (codes "else" ++ t16) in
    let t14 : List ℕ = codes ";" ++ t15 in
    let t13 : List ℕ = codes " " ++ (sized_text first ++ t14) in
    let t12 : List ℕ = codes " " ++ (codes "<=" ++ t13) in
    let t11 : List ℕ = codes " " ++ (name ++ t12) in
    let t10 : List ℕ = codes ")" ++ t11 in
    let t9 : List ℕ = codes "reset" ++ t10 in
    let t8 : List ℕ = codes " " ++ (codes "(" ++ t9) in
    let t7 : List ℕ = codes " " ++ (codes "if" ++ t8) in
    let t6 : List ℕ = codes " " ++ (codes "begin" ++ t7) in
    let t5 : List ℕ = codes ")" ++ t6 in
    let t4 : List ℕ = codes " " ++ (codes "clk" ++ t5) in
    let t3 : List ℕ = codes "posedge" ++ t4 in
    let t2 : List ℕ = codes " " ++ (codes "(" ++ t3) in
    let t1 : List ℕ = codes " " ++ (codes "@" ++ t2) in
    let k16 : List Token = Key (codes "else") ∷ chosen in
    let k15 : List Token = Sign (codes ";") ∷ k16 in
    let k14 : List Token = Based first ∷ k15 in
    let k13 : List Token = Sign (codes "<=") ∷ k14 in
    let k12 : List Token = Identifier name ∷ k13 in
    let k11 : List Token = Sign (codes ")") ∷ k12 in
    let k10 : List Token = Key (codes "reset") ∷ k11 in
    let k9 : List Token = Sign (codes "(") ∷ k10 in
    let k8 : List Token = Key (codes "if") ∷ k9 in
    let k7 : List Token = Key (codes "begin") ∷ k8 in
    let k6 : List Token = Sign (codes ")") ∷ k7 in
    let k5 : List Token = Key (codes "clk") ∷ k6 in
    let k4 : List Token = Key (codes "posedge") ∷ k5 in
    let k3 : List Token = Sign (codes "(") ∷ k4 in
    let k2 : List Token = Sign (codes "@") ∷ k3 in
    let u : AreWritable (Identifier name ∷ Sign (codes "<=") ∷ Based first ∷ Sign (codes ";") ∷ Key (codes "else") ∷ (condition_tokens condition ++ next_item name value)) = w.1.1.1.1.1.1.1.1.1.1.1 in
    let l16 : (b : Bool) → Lays b chosen t16 =
    λ b. laid_same b chosen (condition_tokens condition ++ (next_item name value ++ tail)) t16
    (append_assoc (condition_tokens condition) (next_item name value) tail)
    (condition_lays condition (AllWritable-front (condition_tokens condition) (next_item name value) inner) (next_item name value ++ tail) taken
    (next_lays name value (AllWritable-back (condition_tokens condition) (next_item name value) inner) tail rest next) b) in
    let l15 : (b : Bool) → Lays b k16 t15 = λ b. word_lays (Key (codes "else")) b (codes " ") chosen t16 t15 u.1.1.1.1.0 tt space_gap (not_empty 32 [] b) l16 refl in
    let l14 : (b : Bool) → Lays b k15 t14 = λ b. sign_lays (codes ";") [] k16 t15 t14 no_gap refl (l15 false) refl b in
    let l13 : (b : Bool) → Lays b k14 t13 = λ b. word_lays (Based first) b (codes " ") k15 t14 t13 u.1.1.0 tt space_gap (not_empty 32 [] b) l14 refl in
    let l12 : (b : Bool) → Lays b k13 t12 = λ b. sign_lays (codes "<=") (codes " ") k14 t13 t12 space_gap refl (l13 false) refl b in
    let l11 : (b : Bool) → Lays b k12 t11 = λ b. word_lays (Identifier name) b (codes " ") k13 t12 t11 u.0 tt space_gap (not_empty 32 [] b) l12 refl in
    let l10 : (b : Bool) → Lays b k11 t10 = λ b. sign_lays (codes ")") [] k12 t11 t10 no_gap refl (l11 false) refl b in
    let l9 : Lays false k10 t9 = word_lays (Key (codes "reset")) false [] k11 t10 t9 (codes "reset", refl) tt no_gap (after_sign []) l10 refl in
    let l8 : (b : Bool) → Lays b k9 t8 = λ b. sign_lays (codes "(") (codes " ") k10 t9 t8 space_gap refl l9 refl b in
    let l7 : (b : Bool) → Lays b k8 t7 = λ b. word_lays (Key (codes "if")) b (codes " ") k9 t8 t7 (codes "if", refl) tt space_gap (not_empty 32 [] b) l8 refl in
    let l6 : (b : Bool) → Lays b k7 t6 = λ b. word_lays (Key (codes "begin")) b (codes " ") k8 t7 t6 (codes "begin", refl) tt space_gap (not_empty 32 [] b) l7 refl in
    let l5 : (b : Bool) → Lays b k6 t5 = λ b. sign_lays (codes ")") [] k7 t6 t5 no_gap refl (l6 false) refl b in
    let l4 : (b : Bool) → Lays b k5 t4 = λ b. word_lays (Key (codes "clk")) b (codes " ") k6 t5 t4 (codes "clk", refl) tt space_gap (not_empty 32 [] b) l5 refl in
    let l3 : Lays false k4 t3 = word_lays (Key (codes "posedge")) false [] k5 t4 t3 (codes "posedge", refl) tt no_gap (after_sign []) l4 refl in
    let l2 : (b : Bool) → Lays b k3 t2 = λ b. sign_lays (codes "(") (codes " ") k4 t3 t2 space_gap refl l3 refl b in
    let l1 : (b : Bool) → Lays b k2 t1 = λ b. sign_lays (codes "@") (codes " ") k3 t2 t1 space_gap refl (l2 false) refl b in
    word_lays (Key (codes "always")) after (codes "\n") k2 t1 _ (codes "always", refl) tt line_gap (not_empty 10 [] after) l1
    (ap (λ t. codes "\n" ++ t) (always_shape name (sized_text first) (condition_text condition) (expr_text value) rest))
