-- Attributes, declarations and ports are read from what is written for their tokens.
use Rattle.std.proofs.Common.{◌≡◌, inl, inr, ℕ, ◌+◌, ◌-◌, ◌<◌, Bool, true, false, List, [], ◌∷◌, ◌++◌, map, Some, refl, sym, ap, subst, codes, arith, append_assoc, append-nil}
use Rattle.std.specs.List.{AllZip, flat_map}
use Rattle.vl_ast.specs.declared.modules.Attr.{Attr}
use Rattle.vl_ast.specs.declared.modules.Port.{Port}
use Rattle.vl_ast.specs.Spelling.{joined}
use Rattle.vl_ast.specs.Tokens.{Token, Key, Sign, Identifier, Number}
use Rattle.vl_ast.specs.Grammar.{comma, attr_tokens, attrs_tokens, signed_tokens, IsRange, IsPortText}
use Rattle.vl_read.specs.declared.scan.Kind.TheVariants.{Name, Count}
use Rattle.vl_read.specs.inner.Places.{NetKind, Parser}
use Rattle.vl_read.specs.inner.Places.NetKind.{OfPort, OfItem}
use Rattle.vl_read.specs.declared.places.NetSpot.TheVariants.{Word, Signed, Ranged, Bound, Colon, Zero, Close, Named}
use Rattle.vl_read.specs.inner.Places.AttrSpot.{AttrName, AttrSign, AttrValue, More}
use Rattle.vl_read.specs.inner.Places.Place.{Start, Attributes, Port as PortPlace, Net, AfterPort, Semicolon}
use Rattle.vl_read.specs.declared.places.Draft.{Draft}
use Rattle.vl_read.specs.inner.Lexemes.{kind_of, dec_of, sized_of}
use Rattle.vl_read.specs.inner.Plain.{step, parse, goal_step, net_item, declared, item_step, attr_step, net_step, compound_step, operand_step, unary_or_left, opened_step, braced_step, left_step}
use Rattle.vl_read.specs.inner.Plain.{frame_step, spot_step, step_at}
use Rattle.vl_read.specs.inner.LexemeSteps.{parser_at}
use Rattle.vl_read.proofs.TokenReader.{Writes, Reads, writes_as, next, sign, key, name, number}
use Rattle.vl_read.proofs.ModuleTokens.{more_attrs, attrs_rest, direction, port_text, port_words, port_is}

-- attributes

attr_named : (draft : Draft) (of_port : Bool) (done : List Attr) (n : List ℕ) → kind_of n ≡ Name
    → step (parser_at draft (Attributes of_port done AttrName)) n
    ≡ Some (parser_at draft (Attributes of_port done (AttrSign n)))
unfolding step attr_step declared net_step compound_step operand_step unary_or_left opened_step braced_step left_step frame_step goal_step spot_step item_step step_at
attr_named draft of_port done n h = rw h

attr_signed : (draft : Draft) (of_port : Bool) (done : List Attr) (n : List ℕ)
    → step (parser_at draft (Attributes of_port done (AttrSign n))) (codes "=")
    ≡ Some (parser_at draft (Attributes of_port done (AttrValue n)))
unfolding step attr_step declared net_step compound_step operand_step unary_or_left opened_step braced_step left_step frame_step goal_step spot_step item_step step_at
attr_signed draft of_port done n = refl

attr_valued : (draft : Draft) (of_port : Bool) (done : List Attr) (attr : Attr) (lexeme : List ℕ) → kind_of lexeme ≡ Count attr.value →
    step (parser_at draft (Attributes of_port done (AttrValue attr.name))) lexeme ≡ Some (parser_at draft (Attributes of_port (done ++ attr ∷ []) More))
unfolding step attr_step declared net_step compound_step operand_step unary_or_left opened_step braced_step left_step frame_step goal_step spot_step item_step step_at
attr_valued draft of_port done attr lexeme h = rw h

attr_more : (draft : Draft) (of_port : Bool) (done : List Attr) → step (parser_at draft (Attributes of_port done More)) (codes ",") ≡ Some (parser_at draft (Attributes of_port done AttrName))
unfolding step attr_step declared net_step compound_step operand_step unary_or_left opened_step braced_step left_step frame_step goal_step spot_step item_step step_at
attr_more draft of_port done = refl

abbrev pub after_attrs : Draft → Bool → List Attr → Parser
after_attrs draft true attrs = parser_at draft (PortPlace attrs)
after_attrs draft false attrs = parser_at (record draft { attrs = attrs }) Start

attr_close : (draft : Draft) (of_port : Bool) (done : List Attr) → step (parser_at draft (Attributes of_port done More)) (codes "*)") ≡ Some (after_attrs draft of_port done)
unfolding step attr_step declared net_step compound_step operand_step unary_or_left opened_step braced_step left_step frame_step goal_step spot_step item_step step_at
attr_close draft true done = refl
attr_close draft false done = refl

attr_read : (attr : Attr) (draft : Draft) (of_port : Bool) (done : List Attr) (tokens : List Token)
    (lexemes : List (List ℕ))
    → Writes (Identifier attr.name ∷ Sign (codes "=") ∷ Number attr.value ∷ tokens) lexemes →
    Reads (parser_at draft (Attributes of_port done AttrName)) lexemes (parser_at draft (Attributes of_port (done ++ attr ∷ []) More)) tokens
attr_read attr draft of_port done tokens lexemes w =
    next _ (parser_at draft (Attributes of_port done (AttrSign attr.name))) _ lexemes _ tokens (name _ _ lexemes attr.name _ (attr_named draft of_port done attr.name) w)
    (λ l1 w1. next _ (parser_at draft (Attributes of_port done (AttrValue attr.name))) _ l1 _ tokens (sign _ _ l1 (codes "=") _ (attr_signed draft of_port done attr.name) w1)
    (λ l2 w2. number _ _ l2 attr.value tokens (attr_valued draft of_port done attr) w2))

more_attrs_read : (attrs : List Attr) (draft : Draft) (of_port : Bool) (done : List Attr) (tokens : List Token) (lexemes : List (List ℕ)) → Writes (more_attrs attrs tokens) lexemes →
    Reads (parser_at draft (Attributes of_port done More)) lexemes (after_attrs draft of_port (done ++ attrs)) tokens
more_attrs_read [] draft of_port done tokens lexemes w =
    subst (λ d. Reads (parser_at draft (Attributes of_port done More)) lexemes (after_attrs draft of_port d) tokens)
    (sym (append-nil done)) (sign _ _ lexemes (codes "*)") tokens (attr_close draft of_port done) w)
more_attrs_read (attr ∷ attrs) draft of_port done tokens lexemes w =
    next _ (parser_at draft (Attributes of_port done AttrName)) _ lexemes _ tokens (sign _ _ lexemes (codes ",") _ (attr_more draft of_port done) w)
    (λ l1 w1. next _ (parser_at draft (Attributes of_port (done ++ attr ∷ []) More)) _ l1 _ tokens (attr_read attr draft of_port done _ l1 w1)
    (λ l2 w2. subst (λ d. Reads (parser_at draft (Attributes of_port (done ++ attr ∷ []) More)) l2 (after_attrs draft of_port d) tokens) (append_assoc done (attr ∷ []) attrs)
    (more_attrs_read attrs draft of_port (done ++ attr ∷ []) tokens l2 w2)))

pub attrs_read : (attr : Attr) (attrs : List Attr) (draft : Draft) (of_port : Bool) (tokens : List Token) (lexemes : List (List ℕ)) →
    Writes ((joined comma (map attr_tokens (attr ∷ attrs)) ++ Sign (codes "*)") ∷ []) ++ tokens) lexemes →
    Reads (parser_at draft (Attributes of_port [] AttrName)) lexemes (after_attrs draft of_port (attr ∷ attrs)) tokens
attrs_read attr attrs draft of_port tokens lexemes w =
    next _ (parser_at draft (Attributes of_port (attr ∷ []) More)) _ lexemes _ tokens
    (attr_read attr draft of_port [] (more_attrs attrs tokens) lexemes
    (writes_as _ _ lexemes (ap (λ t. Identifier attr.name ∷ Sign (codes "=") ∷ Number attr.value ∷ t) (attrs_rest attrs tokens)) w))
    (λ l1 w1. more_attrs_read attrs draft of_port (attr ∷ []) tokens l1 w1)

-- declarations

abbrev pub declared_at : Draft → NetKind → Bool → ℕ → List ℕ → Parser
declared_at draft (OfPort attrs input) signed width n =
    parser_at (record draft { ports = draft.ports ++ record { attrs = attrs; input = input; signed = signed; width = width; name = n } ∷ [] }) AfterPort
declared_at draft (OfItem is_reg) signed width n = parser_at draft (Semicolon (net_item is_reg signed width n))

declared_is : (draft : Draft) (net : NetKind) (signed : Bool) (width : ℕ) (n : List ℕ) → declared draft net signed width n ≡ Some (declared_at draft net signed width n)
unfolding declared
declared_is draft (OfPort attrs input) signed width n = refl
declared_is draft _ signed width n = refl

signed_word : (draft : Draft) (net : NetKind) → step (parser_at draft (Net net Signed)) (codes "signed") ≡ Some (parser_at draft (Net net (Ranged true)))
unfolding step attr_step declared net_step compound_step operand_step unary_or_left opened_step braced_step left_step frame_step goal_step spot_step item_step step_at kind_of dec_of sized_of
signed_word draft net = refl

plain_name : (draft : Draft) (net : NetKind) (n : List ℕ) → kind_of n ≡ Name → step (parser_at draft (Net net Signed)) n ≡ Some (declared_at draft net false 1 n)
unfolding step attr_step declared net_step compound_step operand_step unary_or_left opened_step braced_step left_step frame_step goal_step spot_step item_step step_at
plain_name draft net n h = rw h (declared_is draft net false 1 n)

plain_range : (draft : Draft) (net : NetKind) → step (parser_at draft (Net net Signed)) (codes "[") ≡ Some (parser_at draft (Net net (Bound false)))
unfolding step attr_step declared net_step compound_step operand_step unary_or_left opened_step braced_step left_step frame_step goal_step spot_step item_step step_at kind_of dec_of sized_of
plain_range draft net = refl

ranged_name : (draft : Draft) (net : NetKind) (signed : Bool) (n : List ℕ) → kind_of n ≡ Name → step (parser_at draft (Net net (Ranged signed))) n ≡ Some (declared_at draft net signed 1 n)
unfolding step attr_step declared net_step compound_step operand_step unary_or_left opened_step braced_step left_step frame_step goal_step spot_step item_step step_at
ranged_name draft net signed n h = rw h (declared_is draft net signed 1 n)

ranged_range : (draft : Draft) (net : NetKind) (signed : Bool) → step (parser_at draft (Net net (Ranged signed))) (codes "[") ≡ Some (parser_at draft (Net net (Bound signed)))
unfolding step attr_step declared net_step compound_step operand_step unary_or_left opened_step braced_step left_step frame_step goal_step spot_step item_step step_at kind_of dec_of sized_of
ranged_range draft net signed = refl

bound_step : (draft : Draft) (net : NetKind) (signed : Bool) (width : ℕ) → 0 < width → (lexeme : List ℕ) → kind_of lexeme ≡ Count (width - 1) →
    step (parser_at draft (Net net (Bound signed))) lexeme ≡ Some (parser_at draft (Net net (Colon signed width)))
unfolding step attr_step declared net_step compound_step operand_step unary_or_left opened_step braced_step left_step frame_step goal_step spot_step item_step step_at
bound_step draft net signed width positive lexeme h = let e : width - 1 + 1 ≡ width = omega arith in rw h (ap (λ n. Some (parser_at draft (Net net (Colon signed n)))) e)

colon_step : (draft : Draft) (net : NetKind) (signed : Bool) (width : ℕ) → step (parser_at draft (Net net (Colon signed width))) (codes ":") ≡ Some (parser_at draft (Net net (Zero signed width)))
unfolding step attr_step declared net_step compound_step operand_step unary_or_left opened_step braced_step left_step frame_step goal_step spot_step item_step step_at
colon_step draft net signed width = refl

zero_step : (draft : Draft) (net : NetKind) (signed : Bool) (width : ℕ) → step (parser_at draft (Net net (Zero signed width))) (codes "0") ≡ Some (parser_at draft (Net net (Close signed width)))
unfolding step attr_step declared net_step compound_step operand_step unary_or_left opened_step braced_step left_step frame_step goal_step spot_step item_step step_at
zero_step draft net signed width = refl

close_step : (draft : Draft) (net : NetKind) (signed : Bool) (width : ℕ) → step (parser_at draft (Net net (Close signed width))) (codes "]") ≡ Some (parser_at draft (Net net (Named signed width)))
unfolding step attr_step declared net_step compound_step operand_step unary_or_left opened_step braced_step left_step frame_step goal_step spot_step item_step step_at
close_step draft net signed width = refl

named_step : (draft : Draft) (net : NetKind) (signed : Bool) (width : ℕ) (n : List ℕ) → kind_of n ≡ Name
    → step (parser_at draft (Net net (Named signed width))) n ≡ Some (declared_at draft net signed width n)
unfolding step attr_step declared net_step compound_step operand_step unary_or_left opened_step braced_step left_step frame_step goal_step spot_step item_step step_at
named_step draft net signed width n h = rw h (declared_is draft net signed width n)

range_read : (draft : Draft) (net : NetKind) (signed : Bool) (width : ℕ) (n : List ℕ) (tokens : List Token) (lexemes : List (List ℕ)) → 0 < width →
    Writes (Number (width - 1) ∷ Sign (codes ":") ∷ Key (codes "0") ∷ Sign (codes "]") ∷ Identifier n ∷ tokens) lexemes →
    Reads (parser_at draft (Net net (Bound signed))) lexemes (declared_at draft net signed width n) tokens
range_read draft net signed width n tokens lexemes positive w =
    next _ (parser_at draft (Net net (Colon signed width))) _ lexemes _ tokens (number _ _ lexemes (width - 1) _ (bound_step draft net signed width positive) w)
    (λ l1 w1. next _ (parser_at draft (Net net (Zero signed width))) _ l1 _ tokens (sign _ _ l1 (codes ":") _ (colon_step draft net signed width) w1)
    (λ l2 w2. next _ (parser_at draft (Net net (Close signed width))) _ l2 _ tokens (key _ _ l2 (codes "0") _ (zero_step draft net signed width) w2)
    (λ l3 w3. next _ (parser_at draft (Net net (Named signed width))) _ l3 _ tokens (sign _ _ l3 (codes "]") _ (close_step draft net signed width) w3)
    (λ l4 w4. name _ _ l4 n tokens (named_step draft net signed width n) w4))))

abbrev range_tokens : ℕ → List Token
range_tokens width = Sign (codes "[") ∷ Number (width - 1) ∷ Sign (codes ":") ∷ Key (codes "0") ∷ Sign (codes "]") ∷ []

pub net_read : (draft : Draft) (net : NetKind) (signed : Bool) (width : ℕ) (range : List Token) (n : List ℕ) (tokens : List Token) (lexemes : List (List ℕ)) → IsRange width range →
    Writes (signed_tokens signed ++ (range ++ Identifier n ∷ tokens)) lexemes →
    Reads (parser_at draft (Net net Signed)) lexemes (declared_at draft net signed width n) tokens
net_read draft net false width range n tokens lexemes (inl h) w =
    let w' : Writes (Identifier n ∷ tokens) lexemes = writes_as (range ++ Identifier n ∷ tokens) (Identifier n ∷ tokens) lexemes (ap (λ r. r ++ Identifier n ∷ tokens) h.1) w in
    subst (λ v. Reads (parser_at draft (Net net Signed)) lexemes (declared_at draft net false v n) tokens) (sym h.0) (name _ _ lexemes n tokens (plain_name draft net n) w')
net_read draft net false width range n tokens lexemes (inr h) w =
    let w' = writes_as (range ++ Identifier n ∷ tokens) (range_tokens width ++ Identifier n ∷ tokens) lexemes (ap (λ r. r ++ Identifier n ∷ tokens) h.1) w in
    next _ (parser_at draft (Net net (Bound false))) _ lexemes _ tokens (sign _ _ lexemes (codes "[") _ (plain_range draft net) w')
    (λ l1 w1. range_read draft net false width n tokens l1 h.0 w1)
net_read draft net true width range n tokens lexemes (inl h) w =
    let w' = writes_as (Key (codes "signed") ∷ (range ++ Identifier n ∷ tokens))
    (Key (codes "signed") ∷ Identifier n ∷ tokens) lexemes
    (ap (λ r. Key (codes "signed") ∷ (r ++ Identifier n ∷ tokens)) h.1) w in
    subst (λ v. Reads (parser_at draft (Net net Signed)) lexemes (declared_at draft net true v n) tokens) (sym h.0)
    (next _ (parser_at draft (Net net (Ranged true))) _ lexemes _ tokens (key _ _ lexemes (codes "signed") _ (signed_word draft net) w')
    (λ l1 w1. name _ _ l1 n tokens (ranged_name draft net true n) w1))
net_read draft net true width range n tokens lexemes (inr h) w =
    let w' = writes_as (Key (codes "signed") ∷ (range ++ Identifier n ∷ tokens))
    (Key (codes "signed") ∷ (range_tokens width ++ Identifier n ∷ tokens)) lexemes
    (ap (λ r. Key (codes "signed") ∷ (r ++ Identifier n ∷ tokens)) h.1) w in
    next _ (parser_at draft (Net net (Ranged true))) _ lexemes _ tokens (key _ _ lexemes (codes "signed") _ (signed_word draft net) w')
    (λ l1 w1. next _ (parser_at draft (Net net (Bound true))) _ l1 _ tokens (sign _ _ l1 (codes "[") _ (ranged_range draft net true) w1)
    (λ l2 w2. range_read draft net true width n tokens l2 h.0 w2))

-- ports

port_attrs : (draft : Draft) → step (parser_at draft (PortPlace [])) (codes "(*") ≡ Some (parser_at draft (Attributes true [] AttrName))
unfolding step attr_step declared net_step compound_step operand_step unary_or_left opened_step braced_step left_step frame_step goal_step spot_step item_step step_at
port_attrs draft = refl

port_input : (draft : Draft) (attrs : List Attr) → step (parser_at draft (PortPlace attrs)) (codes "input") ≡ Some (parser_at draft (Net (OfPort attrs true) Word))
unfolding step attr_step declared net_step compound_step operand_step unary_or_left opened_step braced_step left_step frame_step goal_step spot_step item_step step_at
port_input draft attrs = refl

port_output : (draft : Draft) (attrs : List Attr) → step (parser_at draft (PortPlace attrs)) (codes "output") ≡ Some (parser_at draft (Net (OfPort attrs false) Word))
unfolding step attr_step declared net_step compound_step operand_step unary_or_left opened_step braced_step left_step frame_step goal_step spot_step item_step step_at
port_output draft attrs = refl

wire_step : (draft : Draft) (net : NetKind) → step (parser_at draft (Net net Word)) (codes "wire") ≡ Some (parser_at draft (Net net Signed))
unfolding step attr_step declared net_step compound_step operand_step unary_or_left opened_step braced_step left_step frame_step goal_step spot_step item_step step_at
wire_step draft net = refl

direction_step : (draft : Draft) (attrs : List Attr) (input : Bool) → step (parser_at draft (PortPlace attrs)) (direction input) ≡ Some (parser_at draft (Net (OfPort attrs input) Word))
direction_step draft attrs true = port_input draft attrs
direction_step draft attrs false = port_output draft attrs

abbrev pub with_port : Draft → Port → Draft
with_port draft port = record draft { ports = draft.ports ++ port ∷ [] }

port_tail : (port : Port) (draft : Draft) (range tokens : List Token) (lexemes : List (List ℕ)) → IsRange port.width range →
    Writes (port_words port range tokens) lexemes →
    Reads (parser_at draft (PortPlace port.attrs)) lexemes (parser_at (with_port draft port) AfterPort) tokens
port_tail port draft range tokens lexemes is w =
    let net : NetKind = OfPort port.attrs port.input in
    next _ (parser_at draft (Net net Word)) _ lexemes _ tokens (key _ _ lexemes (direction port.input) _ (direction_step draft port.attrs port.input) w)
    (λ l1 w1. next _ (parser_at draft (Net net Signed)) _ l1 _ tokens (key _ _ l1 (codes "wire") _ (wire_step draft net) w1)
    (λ l2 w2. net_read draft net port.signed port.width range port.name tokens l2 is w2))

port_read_by : (attrs : List Attr) (port : Port) → port.attrs ≡ attrs → (draft : Draft) (range tokens : List Token) (lexemes : List (List ℕ)) → IsRange port.width range →
    Writes ((attrs_tokens attrs ++ port_text port range) ++ tokens) lexemes → Reads (parser_at draft (PortPlace [])) lexemes (parser_at (with_port draft port) AfterPort) tokens
port_read_by [] port same draft range tokens lexemes is w =
    subst (λ a. Reads (parser_at draft (PortPlace a)) lexemes (parser_at (with_port draft port) AfterPort) tokens) same
    (port_tail port draft range tokens lexemes is (writes_as _ _ lexemes (port_is port range tokens) w))
port_read_by (attr ∷ attrs) port same draft range tokens lexemes is w =
    next _ (parser_at draft (Attributes true [] AttrName)) _ lexemes _ tokens
    (sign _ _ lexemes (codes "(*") _ (port_attrs draft)
    (writes_as _ _ lexemes (ap (λ t. Sign (codes "(*") ∷ t) (append_assoc (joined comma (map attr_tokens (attr ∷ attrs)) ++ Sign (codes "*)") ∷ []) (port_text port range) tokens)) w))
    (λ l1 w1. next _ (parser_at draft (PortPlace (attr ∷ attrs))) _ l1 _ tokens (attrs_read attr attrs draft true _ l1 w1)
    (λ l2 w2. subst (λ a. Reads (parser_at draft (PortPlace a)) l2 (parser_at (with_port draft port) AfterPort) tokens) same
    (port_tail port draft range tokens l2 is (writes_as _ _ l2 (port_is port range tokens) w2))))

pub port_read : (port : Port) (written : List Token) → IsPortText port written → (draft : Draft) (tokens : List Token) (lexemes : List (List ℕ)) →
    Writes (written ++ tokens) lexemes → Reads (parser_at draft (PortPlace [])) lexemes (parser_at (with_port draft port) AfterPort) tokens
port_read port written is draft tokens lexemes w =
    port_read_by port.attrs port refl draft is.0 tokens lexemes is.1 (writes_as _ _ lexemes (ap (λ t. t ++ tokens) is.2) w)

next_port : (draft : Draft) → step (parser_at draft AfterPort) (codes ",") ≡ Some (parser_at draft (PortPlace []))
unfolding step attr_step declared net_step compound_step operand_step unary_or_left opened_step braced_step left_step frame_step goal_step spot_step item_step step_at
next_port draft = refl

abbrev pub with_ports : Draft → List Port → Draft
with_ports draft ports = record draft { ports = draft.ports ++ ports }

pub ports_read : (ports : List Port) (written : List (List Token)) → AllZip IsPortText ports written → (draft : Draft) (tokens : List Token) (lexemes : List (List ℕ)) →
    Writes (flat_map (λ more. comma ++ more) written ++ tokens) lexemes → Reads (parser_at draft AfterPort) lexemes (parser_at (with_ports draft ports) AfterPort) tokens
ports_read [] [] all draft tokens lexemes w =
    record { taken = []; more = lexemes; writes = w; whole = refl; fed = ap (λ p. Some (parser_at (record draft { ports = p }) AfterPort)) (sym (append-nil draft.ports)) }
ports_read [] (text ∷ written) all draft tokens lexemes w = absurd all
ports_read (port ∷ ports) [] all draft tokens lexemes w = absurd all
ports_read (port ∷ ports) (text ∷ written) all draft tokens lexemes w =
    next _ (parser_at draft (PortPlace [])) _ lexemes _ tokens
    (sign _ _ lexemes (codes ",") _ (next_port draft) (writes_as _ _ lexemes (ap (λ t. Sign (codes ",") ∷ t) (append_assoc text (flat_map (λ more. comma ++ more) written) tokens)) w))
    (λ l1 w1. next _ (parser_at (with_port draft port) AfterPort) _ l1 _ tokens (port_read port text all.0 draft _ l1 w1)
    (λ l2 w2. subst (λ p. Reads (parser_at (with_port draft port) AfterPort) l2 (parser_at (record draft { ports = p }) AfterPort) tokens) (append_assoc draft.ports (port ∷ []) ports)
    (ports_read ports written all.1 (with_port draft port) tokens l2 w2)))
