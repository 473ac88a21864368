-- The tokens of a module may follow each other with nothing between them.
use Rattle.std.proofs.Common.{◌≡◌, ◌≢◌, inl, inr, ℕ, Bool, true, false, List, [], ◌∷◌, ◌++◌, map, Option, Some, None, refl, sym, ◌∙◌, ap, codes, append_assoc, append-nil}
use Rattle.std.specs.List.{AllZip, flat_map}
use Rattle.std.proofs.lemmas.Bool.{and_parts, and_from}
use Rattle.vl_ast.specs.declared.expressions.Sized.{Sized}
use Rattle.vl_ast.specs.declared.expressions.Expr.{Expr}
use Rattle.vl_ast.specs.declared.modules.Attr.{Attr}
use Rattle.vl_ast.specs.declared.modules.Port.{Port}
use Rattle.vl_ast.specs.declared.modules.ModItem.{ModItem}
use Rattle.vl_ast.specs.declared.modules.ModItem.TheVariants.{Wire, Reg, Assign, Always}
use Rattle.vl_ast.specs.declared.modules.Module.{Module}
use Rattle.vl_ast.specs.Spelling.{joined}
use Rattle.vl_ast.specs.Tokens.{Token, Key, Sign, Identifier, Number}
use Rattle.vl_ast.specs.Grammar.{comma, expr_tokens, attr_tokens, attrs_tokens, signed_tokens, IsRange, declaration_tokens, IsPortText, condition_tokens, IsItemText, IsModuleText}
use Rattle.vl_read.specs.inner.Lexemes.{class_of, extends}
use Rattle.vl_read.proofs.Safe.{is_key, is_fine, follows, safe}
use Rattle.vl_read.proofs.Modules.{behind, header}
use Rattle.vl_read.proofs.ModuleTokens.{more_attrs, attrs_rest, direction, port_text, port_words, port_is, declaration_is, assign_is, always_tokens, always_is, condition_is}
use Rattle.vl_read.proofs.SafeMarks.{fine_first, after_closing, never, after_mark, closes_identifier, closes_key, closes_number, begun, follows_key, opens_open, fine_open, mark_opens, round_ends}
use Rattle.vl_read.proofs.SafeExpressions.{expr_safe}

-- attributes

more_attrs_fine : (attrs : List Attr) (tokens : List Token) → fine_first tokens ≡ true → fine_first (more_attrs attrs tokens) ≡ true
unfolding follows extends is_fine class_of
more_attrs_fine [] tokens h = after_mark (codes "*)") tokens never h
more_attrs_fine (attr ∷ attrs) tokens h = after_closing (Number attr.value) (more_attrs attrs tokens) (closes_number attr.value) (more_attrs_fine attrs tokens h)

pub attrs_fine : (attrs : List Attr) (tokens : List Token) → fine_first tokens ≡ true → fine_first (attrs_tokens attrs ++ tokens) ≡ true
unfolding follows extends is_fine class_of
attrs_fine [] tokens h = h
attrs_fine (attr ∷ attrs) tokens h =
    ap (λ t. fine_first (Sign (codes "(*") ∷ Identifier attr.name ∷ Sign (codes "=") ∷ Number attr.value ∷ t)) (attrs_rest attrs tokens)
    ∙ after_closing (Number attr.value) (more_attrs attrs tokens) (closes_number attr.value) (more_attrs_fine attrs tokens h)

-- declarations

pub name_fine : (n : List ℕ) (tokens : List Token) → fine_first tokens ≡ true → fine_first (Identifier n ∷ tokens) ≡ true
unfolding is_fine
name_fine n tokens h = after_closing (Identifier n) tokens (closes_identifier n) h

pub key_fine : (word : List ℕ) (tokens : List Token) → is_key word ≡ true → fine_first tokens ≡ true → fine_first (Key word ∷ tokens) ≡ true
unfolding is_fine
key_fine word tokens fine h = and_from (is_key word) (safe (Key word) tokens) fine (after_closing (Key word) tokens (closes_key word) h)

range_fine : (width : ℕ) (range tokens : List Token) → IsRange width range → fine_first tokens ≡ true → fine_first (range ++ tokens) ≡ true
unfolding follows extends is_fine class_of
range_fine width range tokens (inl e) h = ap (λ r. fine_first (r ++ tokens)) e.1 ∙ h
range_fine width range tokens (inr e) h = ap (λ r. fine_first (r ++ tokens)) e.1 ∙ after_mark (codes "]") tokens never h

signed_fine : (signed : Bool) (tokens : List Token) → fine_first tokens ≡ true → fine_first (signed_tokens signed ++ tokens) ≡ true
unfolding class_of
signed_fine true tokens h = key_fine (codes "signed") tokens refl h
signed_fine false tokens h = h

net_fine : (signed : Bool) (width : ℕ) (range : List Token) (n : List ℕ) (tokens : List Token) → IsRange width range → fine_first tokens ≡ true →
    fine_first (signed_tokens signed ++ (range ++ Identifier n ∷ tokens)) ≡ true
net_fine signed width range n tokens is h = signed_fine signed _ (range_fine width range _ is (name_fine n tokens h))

fine_direction : (input : Bool) → is_key (direction input) ≡ true
unfolding class_of
fine_direction true = refl
fine_direction false = refl

-- ports

abbrev attributed : Port → List Token → List Token → List Token
attributed port range tokens = attrs_tokens port.attrs ++ port_words port range tokens

attributed_is : (port : Port) (range tokens : List Token) → (attrs_tokens port.attrs ++ port_text port range) ++ tokens ≡ attributed port range tokens
attributed_is port range tokens = append_assoc (attrs_tokens port.attrs) (port_text port range) tokens ∙ ap (λ t. attrs_tokens port.attrs ++ t) (port_is port range tokens)

words_fine : (port : Port) (range tokens : List Token) → IsRange port.width range → fine_first tokens ≡ true → fine_first (port_words port range tokens) ≡ true
unfolding class_of
words_fine port range tokens is h =
    key_fine (direction port.input) (Key (codes "wire")
    ∷ (signed_tokens port.signed ++ ◌++◌ {A = Token} range (Identifier port.name ∷ tokens)))
    (fine_direction port.input)
    (key_fine (codes "wire") _ refl (net_fine port.signed port.width range port.name tokens is h))

port_fine : (port : Port) (written tokens : List Token) → IsPortText port written → fine_first tokens ≡ true → fine_first (written ++ tokens) ≡ true
port_fine port written tokens is h =
    ap fine_first (ap (λ t. t ++ tokens) is.2 ∙ attributed_is port is.0 tokens) ∙ attrs_fine port.attrs _ (words_fine port is.0 tokens is.1 h)

follows_attrs : follows (Sign (codes "(")) (Sign (codes "(*")) ≡ true
unfolding follows extends
follows_attrs = refl

after_open : (attrs : List Attr) (word : List ℕ) (tokens : List Token)
    → fine_first (attrs_tokens attrs ++ Key word ∷ tokens) ≡ true
    → safe (Sign (codes "(")) (attrs_tokens attrs ++ Key word ∷ tokens) ≡ true
after_open [] word tokens h = let parts = and_parts _ _ h in begun (Sign (codes "(")) (Key word) tokens (follows_key (Sign (codes "(")) word) parts.0 parts.1
after_open (attr ∷ attrs) word tokens h = let parts = and_parts _ _ h in
    begun (Sign (codes "(")) (Sign (codes "(*"))
    (joined comma (map attr_tokens (attr ∷ attrs)) ++ Sign (codes "*)") ∷ [] ++ Key word ∷ tokens) follows_attrs
    parts.0 parts.1

first_port_safe : (port : Port) (written tokens : List Token) → IsPortText port written → fine_first tokens ≡ true → safe (Sign (codes "(")) (written ++ tokens) ≡ true
first_port_safe port written tokens is h =
    ap (safe (Sign (codes "("))) (ap (λ t. t ++ tokens) is.2 ∙ attributed_is port is.0 tokens)
    ∙ after_open port.attrs (direction port.input) _ (attrs_fine port.attrs _ (words_fine port is.0 tokens is.1 h))

more_ports_fine : (ports : List Port) (written : List (List Token)) (tokens : List Token)
    → AllZip IsPortText ports written → fine_first tokens ≡ true
    → fine_first (flat_map (λ more. comma ++ more) written ++ tokens) ≡ true
unfolding class_of extends
more_ports_fine [] [] tokens all h = h
more_ports_fine [] (text ∷ written) tokens all h = absurd all
more_ports_fine (port ∷ ports) [] tokens all h = absurd all
more_ports_fine (port ∷ ports) (text ∷ written) tokens all h =
    ap (λ t. fine_first (Sign (codes ",") ∷ t)) (append_assoc text (flat_map (λ more. comma ++ more) written) tokens)
    ∙ and_from _ _ (and_parts _ _ (mark_opens (codes ",") refl)).0 (after_mark (codes ",") _ never (port_fine port text _ all.0 (more_ports_fine ports written tokens all.1 h)))

pub ports_safe : (ports : List Port) (written : List (List Token)) (tokens : List Token) → ports ≢ []
    → AllZip IsPortText ports written → fine_first tokens ≡ true
    → safe (Sign (codes "(")) (joined comma written ++ tokens) ≡ true
ports_safe [] written tokens some all h = absurd (some refl)
ports_safe (port ∷ ports) [] tokens some all h = absurd all
ports_safe (port ∷ ports) (text ∷ written) tokens some all h =
    ap (safe (Sign (codes "("))) (append_assoc text (flat_map (λ more. comma ++ more) written) tokens)
    ∙ first_port_safe port text _ all.0 (more_ports_fine ports written tokens all.1 h)

-- items

pub semicolon_fine : (tokens : List Token) → fine_first tokens ≡ true → fine_first (Sign (codes ";") ∷ tokens) ≡ true
unfolding is_fine class_of extends
semicolon_fine tokens h = after_mark (codes ";") tokens never h

net_item_fine : (word : List ℕ) → is_key word ≡ true → (signed : Bool) (width : ℕ) (range : List Token) (n : List ℕ) (written tokens : List Token) → IsRange width range →
    written ≡ declaration_tokens (Key word ∷ []) signed range n ++ Sign (codes ";") ∷ [] → fine_first tokens ≡ true → fine_first (written ++ tokens) ≡ true
net_item_fine word fine signed width range n written tokens is same h =
    ap fine_first (ap (λ t. t ++ tokens) same ∙ declaration_is word signed range n tokens)
    ∙ key_fine word _ fine (net_fine signed width range n _ is (semicolon_fine tokens h))

assign_fine : (n : List ℕ) (e : Expr) (written tokens : List Token)
    → written ≡ Key (codes "assign") ∷ Identifier n ∷ Sign (codes "=") ∷ (expr_tokens e ++ Sign (codes ";") ∷ [])
    → fine_first tokens ≡ true → fine_first (written ++ tokens) ≡ true
unfolding class_of extends
assign_fine n e written tokens same h =
    let f = and_parts _ _ (mark_opens (codes "=") refl) in
    ap fine_first (ap (λ t. t ++ tokens) same ∙ assign_is n e tokens)
    ∙ key_fine (codes "assign") (Identifier n ∷ Sign (codes "=") ∷ (expr_tokens e ++ Sign (codes ";") ∷ tokens))
    refl (name_fine n (Sign (codes "=") ∷ (expr_tokens e ++ Sign (codes ";") ∷ tokens))
    (and_from _ _ f.0
    (expr_safe e (Sign (codes "=")) (Sign (codes ";") ∷ tokens) f.1 (semicolon_fine tokens h))))

pub open_fine : (tokens : List Token) → safe (Sign (codes "(")) tokens ≡ true → fine_first (Sign (codes "(") ∷ tokens) ≡ true
open_fine tokens h = and_from _ _ fine_open h

condition_fine : (condition : Option Expr) (tokens : List Token) → fine_first tokens ≡ true → fine_first (condition_tokens condition ++ tokens) ≡ true
unfolding class_of
condition_fine None tokens h = h
condition_fine (Some e) tokens h =
    ap fine_first (condition_is e tokens)
    ∙ key_fine (codes "if") (Sign (codes "(") ∷ (expr_tokens e ++ Sign (codes ")") ∷ tokens)) refl
    (open_fine _ (expr_safe e (Sign (codes "(")) (Sign (codes ")") ∷ tokens) opens_open (round_ends tokens h)))

clocked_fine : (n : List ℕ) (first : Sized) (tokens : List Token) → fine_first tokens ≡ true → fine_first (always_tokens n first tokens) ≡ true
unfolding follows extends is_fine class_of
clocked_fine n first tokens h = after_closing (Key (codes "else")) tokens (closes_key (codes "else")) h

always_fine : (n : List ℕ) (first : Sized) (condition : Option Expr) (e : Expr) (written tokens : List Token)
    → IsItemText (Always n first condition e) written → fine_first tokens ≡ true
    → fine_first (written ++ tokens) ≡ true
unfolding class_of extends
always_fine n first condition e written tokens is h =
    let f = and_parts _ _ (mark_opens (codes "<=") refl) in
    ap fine_first (ap (λ t. t ++ tokens) is.2 ∙ always_is n first condition e tokens)
    ∙ clocked_fine n first _ (condition_fine condition _
    (name_fine n (Sign (codes "<=") ∷ (expr_tokens e ++ Sign (codes ";") ∷ Key (codes "end") ∷ tokens))
    (and_from _ _ f.0 (expr_safe e (Sign (codes "<=")) (Sign (codes ";") ∷ Key (codes "end") ∷ tokens) f.1
    (semicolon_fine (Key (codes "end") ∷ tokens) (key_fine (codes "end") tokens refl h))))))

pub item_fine : (item : ModItem) (written tokens : List Token) → IsItemText item written → fine_first tokens ≡ true → fine_first (written ++ tokens) ≡ true
unfolding class_of
item_fine (Wire signed width n) written tokens is h = net_item_fine (codes "wire") refl signed width is.0 n written tokens is.1 is.2 h
item_fine (Reg signed width n) written tokens is h = net_item_fine (codes "reg") refl signed width is.0 n written tokens is.1 is.2 h
item_fine (Assign n e) written tokens is h = assign_fine n e written tokens is.1 h
item_fine (Always n first condition e) written tokens is h = always_fine n first condition e written tokens is h

items_fine : (items : List ModItem) (written : List (List Token)) (tokens : List Token)
    → AllZip IsItemText items written → fine_first tokens ≡ true
    → fine_first (flat_map (λ item. item) written ++ tokens) ≡ true
items_fine [] [] tokens all h = h
items_fine [] (text ∷ written) tokens all h = absurd all
items_fine (item ∷ items) [] tokens all h = absurd all
items_fine (item ∷ items) (text ∷ written) tokens all h =
    ap fine_first (append_assoc text (flat_map (λ item. item) written) tokens) ∙ item_fine item text _ all.0 (items_fine items written tokens all.1 h)

-- a module's text before its items
pub header_fine : (attrs : List Attr) (n : List ℕ) (ports : List Port) (written : List (List Token))
    (body : List Token) → ports ≢ [] → AllZip IsPortText ports written → fine_first body ≡ true
    → fine_first (header attrs n written body) ≡ true
unfolding class_of
header_fine attrs n ports written body some each h =
    let after : List Token = joined comma written ++ (Sign (codes ")") ∷ Sign (codes ";") ∷ body) in
    attrs_fine attrs _ (key_fine (codes "module") (Identifier n ∷ Sign (codes "(") ∷ after) refl (name_fine n (Sign (codes "(") ∷ after)
    (open_fine after (ports_safe ports written (Sign (codes ")") ∷ Sign (codes ";") ∷ body) some each (round_ends (Sign (codes ";") ∷ body) (semicolon_fine body h))))))

pub end_fine : (tokens : List Token) → fine_first tokens ≡ true → fine_first (Key (codes "endmodule") ∷ tokens) ≡ true
unfolding class_of
end_fine tokens h = key_fine (codes "endmodule") tokens refl h

-- a module, and what is behind it
pub module_fine : (m : Module) (text tokens : List Token) → IsModuleText m text → fine_first tokens ≡ true → fine_first (text ++ tokens) ≡ true
module_fine m text tokens is h =
    ap fine_first (ap (λ t. t ++ tokens) is.text
    ∙ behind (attrs_tokens m.attrs) (joined comma is.ports) (flat_map (λ item. item) is.items) tokens
    (Key (codes "module")) (Identifier m.name) (Sign (codes "(")) (Sign (codes ")")) (Sign (codes ";"))
    (Key (codes "endmodule")))
    ∙ header_fine m.attrs m.name m.ports is.ports
    (flat_map {X = List Token} {A = Token} (λ item. item) is.items ++ Key (codes "endmodule") ∷ tokens)
    is.has_port is.each_port
    (items_fine m.items is.items (Key (codes "endmodule") ∷ tokens) is.each_item (end_fine tokens h))

-- the tokens of a module
pub module_safe : (m : Module) (tokens : List Token) → IsModuleText m tokens → safe (Key []) tokens ≡ true
module_safe m tokens is = after_closing (Key []) tokens (closes_key []) (ap fine_first (sym (append-nil tokens)) ∙ module_fine m tokens [] is refl)
