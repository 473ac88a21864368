-- What each lexeme adds to a list of attributes and to a declaration.
use Rattle.std.proofs.Common.{◌≡◌, ◌≢◌, ℕ, ◌+◌, ◌-◌, Bool, true, false, cond, List, [], ◌∷◌, ◌++◌, map, length, Contains, Option, Some, None, inl, inr, refl, sym, ◌∙◌, ap, subst, codes, arith}
use Rattle.std.proofs.Common.{append_assoc, append-nil, bytes_eq}
use Rattle.std.specs.List.{AllZip, flat_map}
use Rattle.std.proofs.lemmas.List.{map-append}
use Rattle.vl_ast.specs.declared.designs.Instance.{Instance}
use Rattle.vl_ast.specs.Instances.{instance_tokens, part_tokens}
use Rattle.vl_ast.specs.declared.modules.Attr.{Attr}
use Rattle.vl_ast.specs.declared.modules.Port.{Port}
use Rattle.vl_ast.specs.Spelling.{joined}
use Rattle.vl_ast.specs.Tokens.{Token, Key, Sign, Identifier, Number, IsWritten}
use Rattle.vl_names.specs.Identifiers.{is_identifier}
use Rattle.vl_ast.specs.Grammar.{comma, attr_tokens, attrs_tokens, signed_tokens, IsRange, declaration_tokens, IsPortText, IsItemText}
use Rattle.vl_read.specs.declared.scan.Kind.{Kind}
use Rattle.vl_read.specs.declared.scan.Kind.TheVariants.{Name}
use Rattle.vl_read.specs.inner.Places.{NetKind, AttrSpot, Place, Parser}
use Rattle.vl_read.specs.inner.Places.NetKind.{OfPort, OfItem}
use Rattle.vl_read.specs.declared.places.NetSpot.{NetSpot}
use Rattle.vl_read.specs.declared.places.NetSpot.TheVariants.{Word, Signed, Ranged, Bound, Colon, Zero, Close, Named}
use Rattle.vl_read.specs.inner.Places.AttrSpot.{AttrName, AttrSign, AttrValue, More}
use Rattle.vl_read.specs.inner.Places.Place.{Start, Attributes, Port as PortPlace, Net, AfterPort, Semicolon}
use Rattle.vl_read.specs.declared.places.Draft.{Draft}
use Rattle.vl_read.specs.inner.Plain.{attr_step, net_item, declared, net_step}
use Rattle.vl_read.specs.inner.LexemeSteps.{parser_at, goes, is_name}
use Rattle.vl_read.proofs.ModuleTokens.{three_before}
use Rattle.vl_read.proofs.KindSound.{IsOfKind}
use Rattle.vl_read.proofs.ExpressionText.{before_next, before_push, joined_push}
use Rattle.vl_read.proofs.ModuleText.{Given, IsAttrText, net_words, IsNetText, opened_tokens, AtPort, InBody, InItem, AroundAttrs, AttrsAt, AroundNet, NetAt, Has}
use Rattle.vl_read.proofs.SoundFrames.{expected, either_word, nowhere, grow}
use Rattle.vl_read.proofs.SoundSpots.{on_count}

-- the reading goes on with the module

pub record Onward (given : Given) (text : List Token) (lexeme : List ℕ) (q : Parser) : Type 0 where
  pub token : Token
  pub written : IsWritten token lexeme
  pub has : Has given q.draft q.place (text ++ token ∷ [])

pub onward_to : (given : Given) (text : List Token) (lexeme : List ℕ) (q : Parser) (draft : Draft) (place : Place)
    (token : Token) → IsWritten token lexeme → Has given draft place (text ++ token ∷ []) →
    goes draft place ≡ Some q → Onward given text lexeme q
onward_to given text lexeme q draft place token written has e =
    let same : parser_at draft place ≡ q = cc in
    record { token = token; written = written; has = subst (λ (p : Parser). Has given p.draft p.place (text ++ token ∷ [])) same has }

pub onward_sign : (given : Given) (text : List Token) (lexeme : List ℕ) (q : Parser) (draft : Draft) (place : Place) (mark : List ℕ) → Has given draft place (text ++ Sign mark ∷ []) →
    cond (bytes_eq lexeme mark) (goes draft place) None ≡ Some q → Onward given text lexeme q
onward_sign given text lexeme q draft place mark has e =
    let r = expected lexeme mark (goes draft place) q e in
    onward_to given text lexeme q draft place (Sign mark) r.0 has r.1

pub onward_key : (given : Given) (text : List Token) (lexeme : List ℕ) (q : Parser) (draft : Draft) (place : Place) (word : List ℕ) → Has given draft place (text ++ Key word ∷ []) →
    cond (bytes_eq lexeme word) (goes draft place) None ≡ Some q → Onward given text lexeme q
onward_key given text lexeme q draft place word has e =
    let r = expected lexeme word (goes draft place) q e in
    onward_to given text lexeme q draft place (Key word) r.0 has r.1

-- a name, or what is none
pub on_name_or : {R A : Type 0} (kind : Kind) (lexeme : List ℕ) (x other : Option A) (q : A) → IsOfKind kind lexeme → (is_identifier lexeme ≡ true → x ≡ Some q → R) → (other ≡ Some q → R) →
    cond (is_name kind) x other ≡ Some q → R
on_name_or Name lexeme x other q is first second e = first is e
on_name_or _ lexeme x other q is first second e = second e

pub onward_name : (given : Given) (text : List Token) (lexeme : List ℕ) (q : Parser) (draft : Draft) (place : Place)
    (kind : Kind) → IsOfKind kind lexeme → Has given draft place (text ++ Identifier lexeme ∷ []) →
    cond (is_name kind) (goes draft place) None ≡ Some q → Onward given text lexeme q
onward_name given text lexeme q draft place kind is has e =
    on_name_or kind lexeme _ None q is (λ named e. onward_to given text lexeme q draft place (Identifier lexeme) (refl, named) has e) (nowhere q) e

-- what stands around grows

grown_port : (given : Given) (draft : Draft) (own text : List Token) (token : Token)
    → (at : AtPort given draft own text) → text ++ token ∷ []
    ≡ opened_tokens draft ++ (before_next at.ports ++ (own ++ token ∷ []))
grown_port given draft own text token at = ap (λ t. t ++ token ∷ []) at.is ∙ three_before (opened_tokens draft) (before_next at.ports) own (token ∷ [])

pub grow_port : (given : Given) (draft : Draft) (own text : List Token) (token : Token) → AtPort given draft own text → AtPort given draft (own ++ token ∷ []) (text ++ token ∷ [])
grow_port given draft own text token at =
    record { ports = at.ports; each_port = at.each_port; no_items = at.no_items; no_instances = at.no_instances; kept = at.kept; is = grown_port given draft own text token at }

pub grown_body : (given : Given) (draft : Draft) (own text : List Token) (token : Token) → (at : InBody given draft own text) →
    text ++ token ∷ [] ≡ opened_tokens draft ++ (joined comma at.parts.ports ++ (Sign (codes ")") ∷ Sign (codes ";") ∷ (flat_map part_tokens at.parts.parts ++ (own ++ token ∷ []))))
grown_body given draft own text token at =
    ap (λ t. t ++ token ∷ []) at.is ∙ further (opened_tokens draft) (joined comma at.parts.ports) (flat_map part_tokens at.parts.parts) own (token ∷ []) (Sign (codes ")")) (Sign (codes ";"))
  where
    further : (a b c d e : List Token) (s t : Token) → (a ++ (b ++ (s ∷ t ∷ (c ++ d)))) ++ e ≡ a ++ (b ++ (s ∷ t ∷ (c ++ (d ++ e))))
    further a b c d e s t = simp append_assoc

pub grow_body : (given : Given) (draft : Draft) (own text : List Token) (token : Token) → InBody given draft own text → InBody given draft (own ++ token ∷ []) (text ++ token ∷ [])
grow_body given draft own text token at = record { parts = at.parts; is = grown_body given draft own text token at }

pub grow_item : (given : Given) (draft : Draft) (own text : List Token) (token : Token) → InItem given draft own text → InItem given draft (own ++ token ∷ []) (text ++ token ∷ [])
grow_item given draft own text token at = record { body = grow_body given draft own text token at.body; room = at.room }

-- attributes

grow_attrs : (given : Given) (draft : Draft) (of_port : Bool) (own text : List Token) (token : Token)
    → AroundAttrs given draft of_port own text
    → AroundAttrs given draft of_port (own ++ token ∷ []) (text ++ token ∷ [])
grow_attrs given draft true own text token at = grow_port given draft own text token at
grow_attrs given draft false own text token at = (at.0, ap (λ t. t ++ token ∷ []) at.1)

more_attrs : (given : Given) (draft : Draft) (of_port : Bool) (attrs : List Attr) (at other : AttrSpot) (lexeme : List ℕ) (text : List Token) (q : Parser) (attrs' : List Attr) (token : Token) →
    (is_at : AttrsAt given draft of_port attrs at text) → IsWritten token lexeme
    → IsAttrText attrs' other (is_at.own ++ token ∷ []) → goes draft (Attributes of_port attrs' other) ≡ Some q
    → Onward given text lexeme q
more_attrs given draft of_port attrs at other lexeme text q attrs' token is_at written is e =
    onward_to given text lexeme q draft (Attributes of_port attrs' other) token written
    (record { own = is_at.own ++ token ∷ []; around = grow_attrs given draft of_port is_at.own text token is_at.around; is = is }) e

attr_texts : (attrs : List Attr) (attr : Attr) → attrs_tokens (attrs ++ attr ∷ []) ≡ Sign (codes "(*") ∷ ((before_next (map attr_tokens attrs) ++ attr_tokens attr) ++ Sign (codes "*)") ∷ [])
attr_texts attrs attr =
    not_empty attrs ∙ ap (λ ts. Sign (codes "(*") ∷ (joined comma ts ++ Sign (codes "*)") ∷ [])) (map-append attr_tokens attrs (attr ∷ []))
    ∙ ap (λ t. Sign (codes "(*") ∷ (t ++ Sign (codes "*)") ∷ [])) (sym (joined_push (map attr_tokens attrs) (attr_tokens attr)))
  where
    not_empty : (attrs : List Attr) → attrs_tokens (attrs ++ attr ∷ []) ≡ Sign (codes "(*") ∷ (joined comma (map attr_tokens (attrs ++ attr ∷ [])) ++ Sign (codes "*)") ∷ [])
    not_empty [] = refl
    not_empty (first ∷ others) = refl

-- after the number of an attribute
attr_full : (attrs : List Attr) (attr : Attr) (own : List Token) → IsAttrText attrs (AttrValue attr.name) own → IsAttrText (attrs ++ attr ∷ []) More (own ++ Number attr.value ∷ [])
attr_full attrs attr own is =
    let done : List Token = before_next (map attr_tokens attrs) in
    let text : own ++ Number attr.value ∷ [] ≡ Sign (codes "(*") ∷ (done ++ attr_tokens attr) =
    ap (λ t. t ++ Number attr.value ∷ []) is ∙ ap (λ t. Sign (codes "(*") ∷ t) (append_assoc done (Identifier attr.name ∷ Sign (codes "=") ∷ []) (Number attr.value ∷ [])) in (
      ap (λ t. t ++ comma) text ∙ ap (λ t. Sign (codes "(*") ∷ t) (append_assoc done (attr_tokens attr) comma ∙ sym (before_push (map attr_tokens attrs) (attr_tokens attr))
          ∙ ap before_next (sym (map-append attr_tokens attrs (attr ∷ [])))),
      ap (λ t. t ++ Sign (codes "*)") ∷ []) text ∙ sym (attr_texts attrs attr),
    )

close_attrs : (given : Given) (draft : Draft) (of_port : Bool) (attrs : List Attr) (lexeme : List ℕ) (text : List Token) (q : Parser) → AttrsAt given draft of_port attrs More text →
    cond of_port (cond (bytes_eq lexeme (codes "*)")) (goes draft (PortPlace attrs)) None)
    (cond (bytes_eq lexeme (codes "*)")) (goes (record draft { attrs = attrs }) Start) None) ≡ Some q
    → Onward given text lexeme q
close_attrs given draft true attrs lexeme text q at =
    onward_sign given text lexeme q draft (PortPlace attrs) (codes "*)")
    (subst (λ own. AtPort given draft own (text ++ Sign (codes "*)") ∷ [])) at.is.1 (grow_port given draft at.own text (Sign (codes "*)")) at.around))
close_attrs given draft false attrs lexeme text q at =
    onward_sign given text lexeme q (record draft { attrs = attrs }) Start (codes "*)") (
      record {
        no_ports = at.around.0.no_ports;
        no_items = at.around.0.no_items;
        no_instances =
            at.around.0.no_instances;
        kept = at.around.0.kept;
      },
      ap (λ t. t ++ Sign (codes "*)") ∷ []) at.around.1
          ∙ at.is.1,
    )

pub attr_sound : (given : Given) (draft : Draft) (of_port : Bool) (attrs : List Attr) (at : AttrSpot) (kind : Kind)
    (lexeme : List ℕ) (text : List Token) (q : Parser) → AttrsAt given draft of_port attrs at text
    → IsOfKind kind lexeme →
    attr_step draft of_port attrs at kind lexeme ≡ Some q → Onward given text lexeme q
unfolding attr_step
attr_sound given draft of_port attrs AttrName kind lexeme text q at is e =
    on_name_or kind lexeme _ None q is
    (λ named e. more_attrs given draft of_port attrs AttrName (AttrSign lexeme) lexeme text q attrs (Identifier lexeme) at (refl, named) (ap (λ t. t ++ Identifier lexeme ∷ []) at.is) e)
    (nowhere q) e
attr_sound given draft of_port attrs (AttrSign name) kind lexeme text q at is e =
    let r = expected lexeme (codes "=") _ q e in
    more_attrs given draft of_port attrs (AttrSign name) (AttrValue name) lexeme text q attrs (Sign (codes "=")) at r.0
    (ap (λ t. t ++ Sign (codes "=") ∷ []) at.is ∙ ap (λ t. Sign (codes "(*") ∷ t) (append_assoc (before_next (map attr_tokens attrs)) (Identifier name ∷ []) (Sign (codes "=") ∷ []))) r.1
attr_sound given draft of_port attrs (AttrValue name) kind lexeme text q at is e =
    on_count kind lexeme _ q is
    (λ n written e. more_attrs given draft of_port attrs (AttrValue name) More lexeme text q (attrs ++ record { name = name; value = n } ∷ []) (Number n) at written
    (attr_full attrs (record { name = name; value = n }) at.own at.is) e) e
attr_sound given draft of_port attrs More kind lexeme text q at is e =
    either_word lexeme (codes ",") _ _ q
    (λ h e. more_attrs given draft of_port attrs More AttrName lexeme text q attrs (Sign (codes ",")) at h at.is.0 e)
    (close_attrs given draft of_port attrs lexeme text q at) e

-- declarations

grow_net : (given : Given) (draft : Draft) (net : NetKind) (own text : List Token) (token : Token)
    → AroundNet given draft net own text → AroundNet given draft net (own ++ token ∷ []) (text ++ token ∷ [])
grow_net given draft (OfPort attrs input) own text token at =
    subst (λ t. AtPort given draft t (text ++ token ∷ [])) (append_assoc (attrs_tokens attrs) own (token ∷ [])) (grow_port given draft (attrs_tokens attrs ++ own) text token at)
grow_net given draft (OfItem is_reg) own text token at = grow_item given draft own text token at

more_net : (given : Given) (draft : Draft) (net : NetKind) (at other : NetSpot) (lexeme : List ℕ) (text : List Token) (q : Parser) (token : Token) →
    (is_at : NetAt given draft net at text) → IsWritten token lexeme → IsNetText net other (is_at.own ++ token ∷ []) → goes draft (Net net other) ≡ Some q → Onward given text lexeme q
more_net given draft net at other lexeme text q token is_at written is e =
    onward_to given text lexeme q draft (Net net other) token written
    (record { own = is_at.own ++ token ∷ []; around = grow_net given draft net is_at.own text token is_at.around; is = is }) e

-- the text of a declaration from its parts
declaration : (words signed range own : List Token) (token : Token) → own ≡ words ++ (signed ++ range) → own ++ token ∷ [] ≡ words ++ (signed ++ (range ++ token ∷ []))
declaration words signed range own token is = ap (λ t. t ++ token ∷ []) is ∙ three_before words signed range (token ∷ [])

pub zip_push : {A B : Type 0} (R : A → B → Type 0) (xs : List A) (ys : List B) (x : A) (y : B) → AllZip R xs ys → R x y → AllZip R (xs ++ x ∷ []) (ys ++ y ∷ [])
zip_push R [] [] x y each r = (r, tt)
zip_push R [] (b ∷ ys) x y each r = absurd each
zip_push R (a ∷ xs) [] x y each r = absurd each
zip_push R (a ∷ xs) (b ∷ ys) x y each r = (each.0, zip_push R xs ys x y each.1 r)

pub not_empty : {A : Type 0} (xs : List A) (x : A) → xs ++ x ∷ [] ≢ []
not_empty [] x e = cc
not_empty (a ∷ xs) x e = cc

none_within : (i : Instance) → Contains [] i → ⊥
none_within i within = omega (arith, within.1)

-- a port is read with its name
port_read : (given : Given) (draft : Draft) (port : Port) (own text : List Token) (token : Token) → AtPort given draft own text → IsPortText port (own ++ token ∷ []) →
    Has given (record draft { ports = draft.ports ++ port ∷ [] }) AfterPort (text ++ token ∷ [])
port_read given draft port own text token at is =
    let whole : List Token = own ++ token ∷ [] in
    let ports : List (List Token) = at.ports ++ whole ∷ [] in
    let each : AllZip IsPortText (draft.ports ++ port ∷ []) ports = zip_push IsPortText draft.ports at.ports port whole at.each_port is in
    let grown : text ++ token ∷ [] ≡ opened_tokens draft ++ (before_next at.ports ++ whole) = grown_port given draft own text token at in (
      record {
        ports = ports;
        each_port = each;
        no_items = at.no_items;
        no_instances = at.no_instances;
        kept = at.kept;
        is = ap (λ t. t ++ comma) grown ∙ three_before (opened_tokens draft) (before_next at.ports) whole comma
            ∙ ap (λ t. opened_tokens draft ++ t)
            (sym (before_push at.ports whole) ∙ sym (append-nil (before_next ports)));
      },
      record {
        parts = record {
          ports = ports;
          parts = [];
          has_port = not_empty draft.ports port;
          has_link = λ i within. absurd (none_within i (subst (λ instances. Contains instances i) at.no_instances within));
          each_port = each;
          each_item = subst (λ items. AllZip IsItemText items []) (sym at.no_items) tt;
          each_instance = ap (map instance_tokens) (sym at.no_instances);
          kept = at.kept;
          room = omega (arith, ap length at.no_items);
        };
        is = ap (λ t. t ++ Sign (codes ")") ∷ Sign (codes ";") ∷ []) (grown ∙ ap (λ t. opened_tokens draft ++ t) (joined_push at.ports whole))
            ∙ append_assoc (opened_tokens draft) (joined comma ports) (Sign (codes ")") ∷ Sign (codes ";") ∷ []);
      },
    )

-- the text of a register, or else of a wire
item_text : (is_reg signed : Bool) (width : ℕ) (name : List ℕ) (range written : List Token) → IsRange width range →
    written ≡ declaration_tokens (net_words (OfItem is_reg)) signed range name ++ Sign (codes ";") ∷ [] → IsItemText (net_item is_reg signed width name) written
item_text true signed width name range written ranged is = (range, ranged, is)
item_text false signed width name range written ranged is = (range, ranged, is)

-- the name ends a declaration
declared_sound : (given : Given) (draft : Draft) (net : NetKind) (signed : Bool) (width : ℕ) (lexeme : List ℕ) (own text range : List Token) (q : Parser) → AroundNet given draft net own text →
    own ≡ net_words net ++ (signed_tokens signed ++ range) → IsRange width range → is_identifier lexeme ≡ true → declared draft net signed width lexeme ≡ Some q → Onward given text lexeme q
unfolding declared
declared_sound given draft (OfPort attrs input) signed width lexeme own text range q around is ranged named e =
    let port : Port = record { attrs = attrs; input = input; signed = signed; width = width; name = lexeme } in
    onward_to given text lexeme q (record draft { ports = draft.ports ++ port ∷ [] }) AfterPort (Identifier lexeme) (refl, named)
    (port_read given draft port (attrs_tokens attrs ++ own) text (Identifier lexeme) around (
      range,
      ranged,
      append_assoc (attrs_tokens attrs) own (Identifier lexeme ∷ [])
          ∙ ap (λ t. attrs_tokens attrs ++ t) (declaration (net_words (OfPort attrs input))
          (signed_tokens signed) range own (Identifier lexeme) is),
    )) e
declared_sound given draft (OfItem is_reg) signed width lexeme own text range q around is ranged named e =
    onward_to given text lexeme q draft (Semicolon (net_item is_reg signed width lexeme)) (Identifier lexeme) (refl, named)
    (record {
      own = own ++ Identifier lexeme ∷ [];
      around = grow_item given draft own text (Identifier lexeme) around;
      is = item_text is_reg signed width lexeme range _ ranged (ap (λ t. t ++ Sign (codes ";") ∷ []) (declaration (net_words (OfItem is_reg)) (signed_tokens signed) range own (Identifier lexeme) is));
    }) e

one_bit : IsRange 1 []
one_bit = inl (refl, refl)

signed_sound : (given : Given) (draft : Draft) (net : NetKind) (kind : Kind) (lexeme : List ℕ) (text : List Token) (q : Parser) → NetAt given draft net Signed text → IsOfKind kind lexeme →
    net_step draft net Signed kind lexeme ≡ Some q → Onward given text lexeme q
unfolding net_step
signed_sound given draft net kind lexeme text q at is =
    on_name_or kind lexeme _ _ q is
    (λ named e. declared_sound given draft net false 1 lexeme at.own text [] q at.around (at.is ∙ sym (append-nil (net_words net))) one_bit named e)
    (either_word lexeme (codes "signed") _ _ q
    (λ h e. more_net given draft net Signed (Ranged true) lexeme text q (Key (codes "signed")) at h (ap (λ t. t ++ Key (codes "signed") ∷ []) at.is) e)
    (λ e. let r = expected lexeme (codes "[") _ q e in more_net given draft net Signed (Bound false) lexeme text q (Sign (codes "[")) at r.0 (ap (λ t. t ++ Sign (codes "[") ∷ []) at.is) r.1))

ranged_sound : (given : Given) (draft : Draft) (net : NetKind) (signed : Bool) (kind : Kind) (lexeme : List ℕ)
    (text : List Token) (q : Parser) → NetAt given draft net (Ranged signed) text → IsOfKind kind lexeme →
    net_step draft net (Ranged signed) kind lexeme ≡ Some q → Onward given text lexeme q
unfolding net_step
ranged_sound given draft net signed kind lexeme text q at is =
    on_name_or kind lexeme _ _ q is
    (λ named e. declared_sound given draft net signed 1 lexeme at.own text [] q at.around (at.is ∙ ap (λ t. net_words net ++ t) (sym (append-nil (signed_tokens signed)))) one_bit named e)
    (λ e. let r = expected lexeme (codes "[") _ q e in
    more_net given draft net (Ranged signed) (Bound signed) lexeme text q (Sign (codes "[")) at r.0 (grow (net_words net) (signed_tokens signed) _ at.own (Sign (codes "[")) at.is refl) r.1)

-- a range's tokens
bound_text : (net : NetKind) (signed : Bool) (n : ℕ) (own : List Token) → IsNetText net (Bound signed) own → IsNetText net (Colon signed (n + 1)) (own ++ Number n ∷ [])
bound_text net signed n own is =
    let same : n ≡ n + 1 - 1 = omega arith in (
      omega arith,
      declaration (net_words net) (signed_tokens signed) (Sign (codes "[") ∷ []) own (Number n) is
          ∙ ap (λ i. net_words net ++ (signed_tokens signed ++ Sign (codes "[") ∷ Number i ∷ [])) same,
    )

pub net_sound : (given : Given) (draft : Draft) (net : NetKind) (at : NetSpot) (kind : Kind) (lexeme : List ℕ) (text : List Token) (q : Parser) → NetAt given draft net at text → IsOfKind kind lexeme →
    net_step draft net at kind lexeme ≡ Some q → Onward given text lexeme q
unfolding net_step
net_sound given draft net Word kind lexeme text q at is e =
    let r = expected lexeme (codes "wire") _ q e in more_net given draft net Word Signed lexeme text q (Key (codes "wire")) at r.0 at.is r.1
net_sound given draft net Signed kind lexeme text q at is e = signed_sound given draft net kind lexeme text q at is e
net_sound given draft net (Ranged signed) kind lexeme text q at is e = ranged_sound given draft net signed kind lexeme text q at is e
net_sound given draft net (Bound signed) kind lexeme text q at is e =
    on_count kind lexeme _ q is (λ n written e. more_net given draft net (Bound signed) (Colon signed (n + 1)) lexeme text q (Number n) at written (bound_text net signed n at.own at.is) e) e
net_sound given draft net (Colon signed width) kind lexeme text q at is e =
    let r = expected lexeme (codes ":") _ q e in
    more_net given draft net (Colon signed width) (Zero signed width) lexeme text q (Sign (codes ":")) at r.0
    (at.is.0, declaration (net_words net) (signed_tokens signed) _ at.own (Sign (codes ":")) at.is.1) r.1
net_sound given draft net (Zero signed width) kind lexeme text q at is e =
    let r = expected lexeme (codes "0") _ q e in
    more_net given draft net (Zero signed width) (Close signed width) lexeme text q (Key (codes "0")) at r.0
    (at.is.0, declaration (net_words net) (signed_tokens signed) _ at.own (Key (codes "0")) at.is.1) r.1
net_sound given draft net (Close signed width) kind lexeme text q at is e =
    let r = expected lexeme (codes "]") _ q e in
    more_net given draft net (Close signed width) (Named signed width) lexeme text q (Sign (codes "]")) at r.0
    (at.is.0, declaration (net_words net) (signed_tokens signed) _ at.own (Sign (codes "]")) at.is.1) r.1
net_sound given draft net (Named signed width) kind lexeme text q at is e =
    on_name_or kind lexeme _ None q is
    (λ named e. declared_sound given draft net signed width lexeme at.own text _ q at.around at.is.1 (inr (at.is.0, refl)) named e)
    (nowhere q) e
