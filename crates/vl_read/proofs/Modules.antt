-- A module is read from what is written for its tokens.
use Rattle.std.proofs.Common.{◌≡◌, ◌≢◌, ℕ, ◌≤◌, false, List, [], ◌∷◌, ◌++◌, length, Some, refl, sym, ◌∙◌, ap, subst, codes, arith, append_assoc, append-nil, option_and_then}
use Rattle.std.specs.List.{AllZip, flat_map}
use Rattle.vl_ast.specs.declared.modules.Attr.{Attr}
use Rattle.vl_ast.specs.declared.modules.Port.{Port}
use Rattle.vl_ast.specs.declared.modules.Module.{Module}
use Rattle.vl_ast.specs.Spelling.{joined}
use Rattle.vl_ast.specs.Tokens.{Token, Key, Sign, Identifier}
use Rattle.vl_ast.specs.Grammar.{comma, attrs_tokens, IsPortText, IsModuleText}
use Rattle.vl_read.specs.declared.scan.Kind.TheVariants.{Name}
use Rattle.vl_read.specs.inner.Places.{Parser}
use Rattle.vl_read.specs.inner.Places.AttrSpot.{AttrName}
use Rattle.vl_read.specs.inner.Places.Place.{Start, Attributes, Title, Ports, Port as PortPlace, AfterPort, AfterPorts, Items, Done}
use Rattle.vl_read.specs.declared.places.Draft.{Draft}
use Rattle.vl_read.specs.inner.Lexemes.{kind_of}
use Rattle.vl_read.specs.inner.Plain.{step, parse, start, goal_step, declared, item_step, attr_step, net_step, compound_step, operand_step, unary_or_left, opened_step, braced_step, left_step}
use Rattle.vl_read.specs.inner.Plain.{frame_step, spot_step, step_at}
use Rattle.vl_read.specs.inner.LexemeSteps.{parser_at}
use Rattle.vl_read.proofs.Feeds.{run_feed}
use Rattle.vl_read.proofs.TokenReader.{Writes, Reads, writes_as, next, sign, key, name}
use Rattle.vl_read.proofs.PortReader.{attrs_read, with_port, port_read, ports_read}
use Rattle.vl_read.proofs.ItemReader.{items_read}

module_attrs : (draft : Draft) → draft.attrs ≡ [] → step (parser_at draft Start) (codes "(*") ≡ Some (parser_at draft (Attributes false [] AttrName))
unfolding step attr_step declared net_step compound_step operand_step unary_or_left opened_step braced_step left_step frame_step goal_step spot_step item_step step_at
module_attrs draft h = rw h

module_word : (draft : Draft) → step (parser_at draft Start) (codes "module") ≡ Some (parser_at draft Title)
unfolding step attr_step declared net_step compound_step operand_step unary_or_left opened_step braced_step left_step frame_step goal_step spot_step item_step step_at
module_word draft = refl

title_step : (draft : Draft) (n : List ℕ) → kind_of n ≡ Name → step (parser_at draft Title) n ≡ Some (parser_at (record draft { name = n }) Ports)
unfolding step attr_step declared net_step compound_step operand_step unary_or_left opened_step braced_step left_step frame_step goal_step spot_step item_step step_at
title_step draft n h = rw h

ports_open : (draft : Draft) → step (parser_at draft Ports) (codes "(") ≡ Some (parser_at draft (PortPlace []))
unfolding step attr_step declared net_step compound_step operand_step unary_or_left opened_step braced_step left_step frame_step goal_step spot_step item_step step_at
ports_open draft = refl

ports_close : (draft : Draft) → step (parser_at draft AfterPort) (codes ")") ≡ Some (parser_at draft AfterPorts)
unfolding step attr_step declared net_step compound_step operand_step unary_or_left opened_step braced_step left_step frame_step goal_step spot_step item_step step_at
ports_close draft = refl

ports_end : (draft : Draft) → step (parser_at draft AfterPorts) (codes ";") ≡ Some (parser_at draft Items)
unfolding step attr_step declared net_step compound_step operand_step unary_or_left opened_step braced_step left_step frame_step goal_step spot_step item_step step_at
ports_end draft = refl

module_end : (draft : Draft) → step (parser_at draft Items) (codes "endmodule") ≡ Some (parser_at draft Done)
unfolding step attr_step declared net_step compound_step operand_step unary_or_left opened_step braced_step left_step frame_step goal_step spot_step item_step step_at
module_end draft = refl

abbrev empty : ℕ → Draft
empty most = record { name = []; attrs = []; ports = []; items = []; most = most }

start_read : (attrs : List Attr) (most : ℕ) (tokens : List Token) (lexemes : List (List ℕ)) → Writes (attrs_tokens attrs ++ tokens) lexemes →
    Reads (start most) lexemes (parser_at (record (empty most) { attrs = attrs }) Start) tokens
start_read [] most tokens lexemes w = record { taken = []; more = lexemes; writes = w; whole = refl; fed = refl }
start_read (attr ∷ attrs) most tokens lexemes w =
    next _ (parser_at (empty most) (Attributes false [] AttrName)) _ lexemes _ tokens (sign _ _ lexemes (codes "(*") _ (module_attrs (empty most) refl) w)
    (λ l1 w1. attrs_read attr attrs (empty most) false tokens l1 w1)

all_ports_read : (ports : List Port) (written : List (List Token)) → ports ≢ [] → AllZip IsPortText ports written
    → (draft : Draft) → draft.ports ≡ [] → (tokens : List Token) (lexemes : List (List ℕ)) →
    Writes (joined comma written ++ tokens) lexemes → Reads (parser_at draft (PortPlace [])) lexemes (parser_at (record draft { ports = ports }) AfterPort) tokens
all_ports_read [] written some all draft none tokens lexemes w = absurd (some refl)
all_ports_read (port ∷ ports) [] some all draft none tokens lexemes w = absurd all
all_ports_read (port ∷ ports) (text ∷ written) some all draft none tokens lexemes w =
    next _ (parser_at (with_port draft port) AfterPort) _ lexemes _ tokens
    (port_read port text all.0 draft _ lexemes (writes_as _ _ lexemes (append_assoc text (flat_map (λ more. comma ++ more) written) tokens) w))
    (λ l1 w1. subst (λ p. Reads (parser_at (with_port draft port) AfterPort) l1 (parser_at (record draft { ports = p }) AfterPort) tokens) (ap (λ p. (p ++ port ∷ []) ++ ports) none)
    (ports_read ports written all.1 (with_port draft port) tokens l1 w1))

-- the module of a draft that has these ports
abbrev pub headed : List Attr → List ℕ → List Port → ℕ → Draft
headed attrs name ports most = record { name = name; attrs = attrs; ports = ports; items = []; most = most }

-- the tokens of a module before its items, and what is behind them
abbrev pub header : List Attr → List ℕ → List (List Token) → List Token → List Token
header attrs name ports tokens =
    attrs_tokens attrs ++ (Key (codes "module") ∷ Identifier name ∷ Sign (codes "(") ∷ (joined comma ports ++ (Sign (codes ")") ∷ Sign (codes ";") ∷ tokens)))

pub header_read : (attrs : List Attr) (n : List ℕ) (ports : List Port) (written : List (List Token)) (most : ℕ)
    (tokens : List Token) (lexemes : List (List ℕ)) → ports ≢ [] → AllZip IsPortText ports written →
    Writes (header attrs n written tokens) lexemes → Reads (start most) lexemes (parser_at (headed attrs n ports most) Items) tokens
header_read attrs n ports written most tokens lexemes some each w =
    let d1 : Draft = record (empty most) { attrs = attrs } in
    let d2 : Draft = record d1 { name = n } in
    let d3 : Draft = headed attrs n ports most in
    next _ (parser_at d1 Start) _ lexemes _ tokens (start_read attrs most _ lexemes w)
    (λ l1 w1. next _ (parser_at d1 Title) _ l1 _ tokens (key _ _ l1 (codes "module") _ (module_word d1) w1)
    (λ l2 w2. next _ (parser_at d2 Ports) _ l2 _ tokens (name _ _ l2 n _ (title_step d1 n) w2)
    (λ l3 w3. next _ (parser_at d2 (PortPlace [])) _ l3 _ tokens (sign _ _ l3 (codes "(") _ (ports_open d2) w3)
    (λ l4 w4. next _ (parser_at d3 AfterPort) _ l4 _ tokens (all_ports_read ports written some each d2 refl _ l4 w4)
    (λ l5 w5. next _ (parser_at d3 AfterPorts) _ l5 _ tokens (sign _ _ l5 (codes ")") _ (ports_close d3) w5)
    (λ l6 w6. sign _ _ l6 (codes ";") tokens (ports_end d3) w6))))))

pub module_end_read : (draft : Draft) (tokens : List Token) (lexemes : List (List ℕ))
    → Writes (Key (codes "endmodule") ∷ tokens) lexemes
    → Reads (parser_at draft Items) lexemes (parser_at draft Done) tokens
module_end_read draft tokens lexemes w = key _ _ lexemes (codes "endmodule") tokens (module_end draft) w

-- the draft of a module that is read whole
abbrev pub whole_draft : Module → ℕ → Draft
whole_draft m most = record { name = m.name; attrs = m.attrs; ports = m.ports; items = m.items; most = most }

-- what is behind a module's text
pub behind : (a b c d : List Token) (s t u v w x : Token) → (a ++ (s ∷ t ∷ u ∷ (b ++ (v ∷ w ∷ (c ++ x ∷ []))))) ++ d ≡ a ++ (s ∷ t ∷ u ∷ (b ++ (v ∷ w ∷ (c ++ x ∷ d))))
behind a b c d s t u v w x = simp append_assoc

-- a module is read with other tokens behind it
pub module_reads : (m : Module) (text tokens : List Token) (most : ℕ) (lexemes : List (List ℕ)) → IsModuleText m text → length m.items ≤ most → Writes (text ++ tokens) lexemes →
    Reads (start most) lexemes (parser_at (whole_draft m most) Done) tokens
module_reads m text tokens most lexemes is room w =
    let d3 : Draft = headed m.attrs m.name m.ports most in
    let d4 : Draft = whole_draft m most in
    let all : text ++ tokens ≡ header m.attrs m.name is.ports (flat_map (λ item. item) is.items ++ Key (codes "endmodule") ∷ tokens) =
    ap (λ t. t ++ tokens) is.text ∙ behind (attrs_tokens m.attrs) (joined comma is.ports)
    (flat_map (λ item. item) is.items) tokens (Key (codes "module")) (Identifier m.name) (Sign (codes "("))
    (Sign (codes ")")) (Sign (codes ";")) (Key (codes "endmodule")) in
    next _ (parser_at d3 Items) _ lexemes _ tokens (header_read m.attrs m.name m.ports is.ports most _ lexemes is.has_port is.each_port (writes_as _ _ lexemes all w))
    (λ l1 w1. next _ (parser_at d4 Items) _ l1 _ tokens (items_read m.items is.items is.each_item d3 _ l1 (omega (arith, room)) w1)
    (λ l2 w2. module_end_read d4 tokens l2 w2))

end_parse : (from : Parser) (lexemes : List (List ℕ)) (draft : Draft) → Reads from lexemes (parser_at draft Done) [] →
    parse from lexemes ≡ Some (record { name = draft.name; attrs = draft.attrs; ports = draft.ports; items = draft.items })
end_parse from lexemes draft reads =
    ap (parse from) reads.whole ∙ run_feed step parse (λ p l ls. refl) reads.taken reads.more from
    ∙ ap (option_and_then (λ q. parse q reads.more)) reads.fed
    ∙ ap (parse (parser_at draft Done)) reads.writes.each

pub module_read : (m : Module) (tokens : List Token) (most : ℕ) (lexemes : List (List ℕ)) → IsModuleText m tokens → length m.items ≤ most → Writes tokens lexemes → parse (start most) lexemes ≡ Some m
module_read m tokens most lexemes is room w =
    end_parse (start most) lexemes (whole_draft m most) (module_reads m tokens [] most lexemes is room (writes_as _ _ lexemes (sym (append-nil tokens)) w))
