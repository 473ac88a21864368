-- The tokens of the parts of a module, with others behind them.
use Rattle.std.proofs.Common.{◌≡◌, ℕ, Bool, cond, List, [], ◌∷◌, ◌++◌, map, Option, Some, refl, ◌∙◌, ap, codes, append_assoc}
use Rattle.std.specs.List.{flat_map}
use Rattle.vl_ast.specs.declared.expressions.Sized.{Sized}
use Rattle.vl_ast.specs.declared.expressions.Expr.{Expr}
use Rattle.vl_ast.specs.declared.modules.Attr.{Attr}
use Rattle.vl_ast.specs.declared.modules.Port.{Port}
use Rattle.vl_ast.specs.Tokens.{Token, Key, Sign, Identifier, Number, Based}
use Rattle.vl_ast.specs.Grammar.{comma, expr_tokens, attr_tokens, signed_tokens, declaration_tokens, condition_tokens}

-- three lists with another behind them
pub three_before : (a b c after : List Token) → (a ++ (b ++ c)) ++ after ≡ a ++ (b ++ (c ++ after))
three_before a b c after = simp append_assoc

-- the attributes after the first, and what is behind them
abbrev pub more_attrs : List Attr → List Token → List Token
more_attrs [] tokens = Sign (codes "*)") ∷ tokens
more_attrs (attr ∷ attrs) tokens = Sign (codes ",") ∷ Identifier attr.name ∷ Sign (codes "=") ∷ Number attr.value ∷ more_attrs attrs tokens

pub attrs_rest : (attrs : List Attr) (tokens : List Token) → (flat_map (λ more. comma ++ more) (map attr_tokens attrs) ++ Sign (codes "*)") ∷ []) ++ tokens ≡ more_attrs attrs tokens
attrs_rest [] tokens = refl
attrs_rest (attr ∷ attrs) tokens = ap (λ t. Sign (codes ",") ∷ Identifier attr.name ∷ Sign (codes "=") ∷ Number attr.value ∷ t) (attrs_rest attrs tokens)

-- ports

abbrev pub direction : Bool → List ℕ
direction input = cond input (codes "input") (codes "output")

-- a port after its attributes
abbrev pub port_text : Port → List Token → List Token
port_text port range = declaration_tokens (Key (direction port.input) ∷ Key (codes "wire") ∷ []) port.signed range port.name

-- the same with what is behind it
abbrev pub port_words : Port → List Token → List Token → List Token
port_words port range tokens = Key (direction port.input) ∷ Key (codes "wire") ∷ (signed_tokens port.signed ++ (range ++ Identifier port.name ∷ tokens))

pub port_is : (port : Port) (range tokens : List Token) → port_text port range ++ tokens ≡ port_words port range tokens
port_is port range tokens = ap (λ t. Key (direction port.input) ∷ Key (codes "wire") ∷ t) (three_before (signed_tokens port.signed) range (Identifier port.name ∷ []) tokens)

-- wires and registers

abbrev pub item_word : Bool → List ℕ
item_word is_reg = cond is_reg (codes "reg") (codes "wire")

abbrev pub after_declaration : Bool → List Token → List ℕ → List Token → List Token
after_declaration signed range n tokens = signed_tokens signed ++ (range ++ Identifier n ∷ Sign (codes ";") ∷ tokens)

pub declaration_is : (word : List ℕ) (signed : Bool) (range : List Token) (n : List ℕ) (tokens : List Token) →
    (declaration_tokens (Key word ∷ []) signed range n ++ Sign (codes ";") ∷ []) ++ tokens ≡ Key word ∷ after_declaration signed range n tokens
declaration_is word signed range n tokens = ap (λ t. Key word ∷ t) (regroup (signed_tokens signed) range (Identifier n ∷ []) (Sign (codes ";") ∷ []))
  where
    regroup : (a b c d : List Token) → ((a ++ (b ++ c)) ++ d) ++ tokens ≡ a ++ (b ++ (c ++ (d ++ tokens)))
    regroup a b c d = simp append_assoc

-- assignments

pub assign_is : (n : List ℕ) (e : Expr) (tokens : List Token) →
    (Key (codes "assign") ∷ Identifier n ∷ Sign (codes "=") ∷ (expr_tokens e ++ Sign (codes ";") ∷ [])) ++ tokens
    ≡ Key (codes "assign") ∷ Identifier n ∷ Sign (codes "=") ∷ (expr_tokens e ++ Sign (codes ";") ∷ tokens)
assign_is n e tokens = ap (λ t. Key (codes "assign") ∷ Identifier n ∷ Sign (codes "=") ∷ t) (append_assoc (expr_tokens e) (Sign (codes ";") ∷ []) tokens)

-- items with a clock

-- up to the name, and what is behind it
abbrev pub named_tokens : List ℕ → List Token → List Token
named_tokens name after =
    Key (codes "always") ∷ Sign (codes "@") ∷ Sign (codes "(") ∷ Key (codes "posedge") ∷ Key (codes "clk") ∷ Sign (codes ")") ∷ Key (codes "begin") ∷ Key (codes "if") ∷ Sign (codes "(")
    ∷ Key (codes "reset") ∷ Sign (codes ")") ∷ Identifier name ∷ after

-- the same up to `else`
abbrev pub always_tokens : List ℕ → Sized → List Token → List Token
always_tokens name first after = named_tokens name (Sign (codes "<=") ∷ Based first ∷ Sign (codes ";") ∷ Key (codes "else") ∷ after)

-- and what follows `else`
abbrev pub always_tail : Option Expr → List ℕ → Expr → List Token → List Token
always_tail condition n e tokens = condition_tokens condition ++ Identifier n ∷ Sign (codes "<=") ∷ (expr_tokens e ++ Sign (codes ";") ∷ Key (codes "end") ∷ tokens)

pub always_is : (n : List ℕ) (first : Sized) (condition : Option Expr) (e : Expr) (tokens : List Token) →
    always_tokens n first (always_tail condition n e []) ++ tokens ≡ always_tokens n first (always_tail condition n e tokens)
always_is n first condition e tokens =
    ap (always_tokens n first) (append_assoc (condition_tokens condition)
    (Identifier n ∷ Sign (codes "<=") ∷ (expr_tokens e ++ Sign (codes ";") ∷ Key (codes "end") ∷ [])) tokens
    ∙ ap (λ t. condition_tokens condition ++ Identifier n ∷ Sign (codes "<=") ∷ t) (append_assoc (expr_tokens e) (Sign (codes ";") ∷ Key (codes "end") ∷ []) tokens))

pub condition_is : (e : Expr) (tokens : List Token) → condition_tokens (Some e) ++ tokens ≡ Key (codes "if") ∷ Sign (codes "(") ∷ (expr_tokens e ++ Sign (codes ")") ∷ tokens)
condition_is e tokens = ap (λ t. Key (codes "if") ∷ Sign (codes "(") ∷ t) (append_assoc (expr_tokens e) (Sign (codes ")") ∷ []) tokens)
