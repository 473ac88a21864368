-- What is read is written: where the plain reading gives a module, the lexemes are a text of it.
use Rattle.std.proofs.Common.{◌≡◌, ℕ, ◌≤◌, true, false, cond, List, [], ◌∷◌, ◌++◌, map, length, Some, None, refl, sym, ◌∙◌, ap, subst, codes, arith, append_assoc, append-nil, bytes_eq}
use Rattle.std.specs.Prelude.{◌&&◌, nat_lt}
use Rattle.std.specs.List.{AllZip, flat_map}
use Rattle.std.proofs.lemmas.Bool.{and_parts, ltb-true}
use Rattle.vl_ast.specs.declared.expressions.Sized.{Sized}
use Rattle.vl_ast.specs.declared.designs.Instance.{Instance}
use Rattle.vl_ast.specs.Instances.{BodyPart, OfItem, OfInstance, IsTopText, instance_parts, instance_tokens, item_parts, part_tokens}
use Rattle.vl_ast.specs.declared.modules.Attr.{Attr}
use Rattle.vl_ast.specs.declared.modules.Module.{Module}
use Rattle.vl_ast.specs.Spelling.{joined}
use Rattle.vl_ast.specs.Tokens.{Token, Key, Sign, Identifier, Based}
use Rattle.vl_ast.specs.Grammar.{comma, attrs_tokens, IsPortText, condition_tokens, IsModuleText}
use Rattle.vl_read.specs.declared.scan.Kind.{Kind}
use Rattle.vl_read.specs.inner.Places.Spot.{Operand}
use Rattle.vl_read.specs.inner.Places.Goal.{Assigned, Condition, Next}
use Rattle.vl_read.specs.inner.Places.NetKind.{OfPort}
use Rattle.vl_read.specs.declared.places.NetSpot.TheVariants.{Word}
use Rattle.vl_read.specs.inner.Places.AttrSpot.{AttrName}
use Rattle.vl_read.specs.inner.Places.{Place, Parser}
use Rattle.vl_read.specs.inner.Places.Place.{Start, Attributes, Title, Ports, Port as PortPlace, Net, AfterPort, AfterPorts, Items, AssignName, AssignSign, Head, ClockedName, ClockedSign, First}
use Rattle.vl_read.specs.inner.Places.Place.{AfterFirst, Else, Branch, If, Again, NextSign, Expression, Semicolon, End, Done}
use Rattle.vl_read.specs.declared.places.Draft.{Draft}
use Rattle.vl_read.specs.inner.Designs.{module_of}
use Rattle.vl_read.specs.inner.Lexemes.{kind_of}
use Rattle.vl_read.specs.inner.Plain.{has_none, item_step, step_at, step, module_at, parse, start}
use Rattle.vl_read.specs.inner.LexemeSteps.{goes}
use Rattle.vl_read.proofs.TokenReader.{WritesEach}
use Rattle.vl_read.proofs.ModuleTokens.{three_before}
use Rattle.vl_read.proofs.KindSound.{then_some, IsOfKind, kind_means}
use Rattle.vl_read.proofs.ModuleText.{clocked_tokens, opened_tokens, BeforePorts, AtPort, BodyParts, Given, InBody, ItemAt, Whole, Has}
use Rattle.vl_read.proofs.SoundFrames.{same_word, either_way, either_word, nowhere, twice, grow}
use Rattle.vl_read.proofs.SoundSpots.{on_constant}
use Rattle.vl_read.proofs.SoundNets.{Onward, onward_to, onward_sign, onward_key, onward_name, on_name_or, grow_port, attr_sound, net_sound}
use Rattle.vl_read.proofs.SoundItems.{more_item, item_read, item_sound, head_sound, again_sound, expression_starts, expression_sound}

-- before the ports

no_attrs : (attrs : List Attr) → has_none attrs ≡ true → attrs ≡ []
no_attrs [] e = refl
no_attrs (attr ∷ attrs) e = cc

opens_attrs : (lexeme : List ℕ) (attrs : List Attr) → (bytes_eq lexeme (codes "(*") && has_none attrs) ≡ true → (bytes_eq lexeme (codes "(*") ≡ true) × (attrs ≡ [])
opens_attrs lexeme attrs t = let both = and_parts (bytes_eq lexeme (codes "(*")) (has_none attrs) t in (both.0, no_attrs attrs both.1)

start_sound : (given : Given) (draft : Draft) (lexeme : List ℕ) (text : List Token) (q : Parser) → BeforePorts given draft → text ≡ attrs_tokens draft.attrs →
    cond (bytes_eq lexeme (codes "(*") && has_none draft.attrs) (goes draft (Attributes false [] AttrName))
    (cond (bytes_eq lexeme (codes "module")) (goes draft Title) None) ≡ Some q → Onward given text lexeme q
start_sound given draft lexeme text q before is =
    either_way (bytes_eq lexeme (codes "(*") && has_none draft.attrs) _ _ q
    (λ t e. let both = opens_attrs lexeme draft.attrs t in
    onward_to given text lexeme q draft (Attributes false [] AttrName) (Sign (codes "(*")) (same_word lexeme (codes "(*") both.0)
    (record { own = Sign (codes "(*") ∷ []; around = (before, ap (λ t. t ++ Sign (codes "(*") ∷ []) (is ∙ ap attrs_tokens both.1)); is = refl }) e)
    (onward_key given text lexeme q draft Title (codes "module") (before, ap (λ t. t ++ Key (codes "module") ∷ []) is))

title_sound : (given : Given) (draft : Draft) (kind : Kind) (lexeme : List ℕ) (text : List Token) (q : Parser)
    → BeforePorts given draft → text ≡ attrs_tokens draft.attrs ++ Key (codes "module") ∷ [] → IsOfKind kind lexeme
    →
    step_at draft Title kind lexeme ≡ Some q → Onward given text lexeme q
unfolding step_at
title_sound given draft kind lexeme text q before is named =
    onward_name given text lexeme q (record draft { name = lexeme }) Ports kind named (
      record {
        no_ports = before.no_ports;
        no_items = before.no_items;
        no_instances = before.no_instances;
        kept =
            before.kept;
      },
      grow (attrs_tokens draft.attrs) (Key (codes "module") ∷ []) _ text (Identifier lexeme) is refl,
    )

ports_begin : (given : Given) (draft : Draft) (text : List Token) → BeforePorts given draft
    → text ≡ attrs_tokens draft.attrs ++ (Key (codes "module") ∷ Identifier draft.name ∷ [])
    → AtPort given draft [] (text ++ Sign (codes "(") ∷ [])
ports_begin given draft text before is =
    record {
      ports = [];
      each_port = subst (λ ports. AllZip IsPortText ports []) (sym before.no_ports) tt;
      no_items = before.no_items;
      no_instances = before.no_instances;
      kept = before.kept;
      is = grow (attrs_tokens draft.attrs) (Key (codes "module") ∷ Identifier draft.name ∷ []) _ text (Sign (codes "(")) is refl ∙ sym (append-nil (opened_tokens draft));
    }

-- a port begins

port_sound : (given : Given) (draft : Draft) (attrs : List Attr) (lexeme : List ℕ) (text : List Token) (q : Parser) → AtPort given draft (attrs_tokens attrs) text →
    cond (bytes_eq lexeme (codes "(*") && has_none attrs) (goes draft (Attributes true [] AttrName))
    (cond (bytes_eq lexeme (codes "input")) (goes draft (Net (OfPort attrs true) Word))
    (cond (bytes_eq lexeme (codes "output")) (goes draft (Net (OfPort attrs false) Word)) None)) ≡ Some q
    → Onward given text lexeme q
port_sound given draft attrs lexeme text q at =
    either_way (bytes_eq lexeme (codes "(*") && has_none attrs) _ _ q
    (λ t e. let both = opens_attrs lexeme attrs t in
    onward_to given text lexeme q draft (Attributes true [] AttrName) (Sign (codes "(*")) (same_word lexeme (codes "(*") both.0)
    (record {
      own = Sign (codes "(*") ∷ [];
      around =
          subst (λ l. AtPort given draft (attrs_tokens l ++ Sign (codes "(*") ∷ []) (text ++ Sign (codes "(*") ∷ []))
          both.1 (grow_port given draft (attrs_tokens attrs) text (Sign (codes "(*")) at);
      is = refl;
    }) e)
    (either_word lexeme (codes "input") _ _ q
    (λ h e. onward_to given text lexeme q draft (Net (OfPort attrs true) Word) (Key (codes "input")) h
    (record { own = Key (codes "input") ∷ []; around = grow_port given draft (attrs_tokens attrs) text (Key (codes "input")) at; is = refl }) e)
    (onward_key given text lexeme q draft (Net (OfPort attrs false) Word) (codes "output")
    (record { own = Key (codes "output") ∷ []; around = grow_port given draft (attrs_tokens attrs) text (Key (codes "output")) at; is = refl })))

after_port : (given : Given) (draft : Draft) (lexeme : List ℕ) (text : List Token) (q : Parser) → Has given draft AfterPort text →
    cond (bytes_eq lexeme (codes ",")) (goes draft (PortPlace [])) (cond (bytes_eq lexeme (codes ")")) (goes draft AfterPorts) None) ≡ Some q → Onward given text lexeme q
after_port given draft lexeme text q has =
    either_word lexeme (codes ",") _ _ q
    (λ h e. onward_to given text lexeme q draft (PortPlace []) (Sign (codes ",")) h has.0 e)
    (onward_sign given text lexeme q draft AfterPorts (codes ")") (subst (λ t. InBody given draft [] t) (sym (twice text (Sign (codes ")")) (Sign (codes ";")))) has.1))

-- the items

module_read : (given : Given) (draft : Draft) (text : List Token) → InBody given draft [] text → Whole given (module_of draft) (text ++ Key (codes "endmodule") ∷ [])
module_read given draft text body =
    let parts : BodyParts given draft = body.parts in
    record {
      is = record {
        ports = parts.ports;
        parts = parts.parts;
        has_port = parts.has_port;
        has_link = parts.has_link;
        each_port = parts.each_port;
        each_item = parts.each_item;
        each_instance = parts.each_instance;
        text = ap (λ t. t ++ Key (codes "endmodule") ∷ []) body.is
            ∙ regroup (attrs_tokens draft.attrs) (joined comma parts.ports) (flat_map part_tokens parts.parts)
            (Key (codes "module")) (Identifier draft.name) (Sign (codes "(")) (Sign (codes ")"))
            (Sign (codes ";")) (Key (codes "endmodule"));
      };
      room = parts.room;
    }
  where
    regroup : (a b c : List Token) (s t u v w x : Token) → ((a ++ (s ∷ t ∷ u ∷ [])) ++ (b ++ (v ∷ w ∷ (c ++ [])))) ++ x ∷ [] ≡ a ++ (s ∷ t ∷ u ∷ (b ++ (v ∷ w ∷ (c ++ x ∷ []))))
    regroup a b c s t u v w x = simp (append_assoc, append-nil)

items_sound : (given : Given) (draft : Draft) (lexeme : List ℕ) (text : List Token) (q : Parser) → InBody given draft [] text →
    cond (bytes_eq lexeme (codes "endmodule")) (goes draft Done) (cond (nat_lt (length draft.items) draft.most) (item_step draft lexeme) None) ≡ Some q → Onward given text lexeme q
items_sound given draft lexeme text q body =
    either_word lexeme (codes "endmodule") _ _ q
    (λ h e. onward_to given text lexeme q draft Done (Key (codes "endmodule")) h (body.parts.kept, module_read given draft text body) e)
    (either_way (nat_lt (length draft.items) draft.most) _ None q
    (λ t e. item_sound given draft lexeme text q body (omega (arith, ltb-true (length draft.items) draft.most t, body.parts.kept)) e)
    (nowhere q))

-- after `if` or the name again
next_text : (own a b : List Token) (name : List ℕ) → own ≡ a ++ (b ++ Identifier name ∷ []) → own ++ Sign (codes "<=") ∷ [] ≡ a ++ (b ++ Identifier name ∷ Sign (codes "<=") ∷ [])
next_text own a b name is = ap (λ t. t ++ Sign (codes "<=") ∷ []) is ∙ three_before a b (Identifier name ∷ []) (Sign (codes "<=") ∷ [])

branch_sound : (given : Given) (draft : Draft) (name : List ℕ) (first : Sized) (kind : Kind) (lexeme : List ℕ)
    (text : List Token) (q : Parser) → ItemAt given draft (Branch name first) text → IsOfKind kind lexeme →
    step_at draft (Branch name first) kind lexeme ≡ Some q → Onward given text lexeme q
unfolding step_at
branch_sound given draft name first kind lexeme text q item is =
    on_name_or kind lexeme _ _ q is
    (λ named e. again_sound given draft (record { name = name; first = first; condition = None }) lexeme item.own
    text q item.around tt (item.is ∙ sym (append-nil (clocked_tokens name first))) named e)
    (onward_key given text lexeme q draft (If name first) (codes "if")
    (more_item given draft item.own text (Key (codes "if")) (If name first) item.around (ap (λ t. t ++ Key (codes "if") ∷ []) item.is)))

pub place_sound : (given : Given) (draft : Draft) (place : Place) (kind : Kind) (lexeme : List ℕ) (text : List Token) (q : Parser) → Has given draft place text → IsOfKind kind lexeme →
    step_at draft place kind lexeme ≡ Some q → Onward given text lexeme q
unfolding step_at
place_sound given draft Start kind lexeme text q has is e = start_sound given draft lexeme text q has.0 has.1 e
place_sound given draft (Attributes of_port attrs at) kind lexeme text q has is e = attr_sound given draft of_port attrs at kind lexeme text q has is e
place_sound given draft Title kind lexeme text q has is e = title_sound given draft kind lexeme text q has.0 has.1 is e
place_sound given draft Ports kind lexeme text q has is e = onward_sign given text lexeme q draft (PortPlace []) (codes "(") (ports_begin given draft text has.0 has.1) e
place_sound given draft (PortPlace attrs) kind lexeme text q has is e = port_sound given draft attrs lexeme text q has e
place_sound given draft (Net net at) kind lexeme text q has is e = net_sound given draft net at kind lexeme text q has is e
place_sound given draft AfterPort kind lexeme text q has is e = after_port given draft lexeme text q has e
place_sound given draft AfterPorts kind lexeme text q has is e = onward_sign given text lexeme q draft Items (codes ";") has e
place_sound given draft Items kind lexeme text q has is e = items_sound given draft lexeme text q has e
place_sound given draft AssignName kind lexeme text q has is e =
    onward_name given text lexeme q draft (AssignSign lexeme) kind is
    (more_item given draft has.own text (Identifier lexeme) (AssignSign lexeme) has.around
    (ap (λ t. t ++ Identifier lexeme ∷ []) has.is)) e
place_sound given draft (AssignSign name) kind lexeme text q has is e =
    onward_sign given text lexeme q draft (Expression (Assigned name) [] Operand) (codes "=")
    (more_item given draft has.own text (Sign (codes "=")) (Expression (Assigned name) [] Operand) has.around
    (expression_starts (Assigned name) (has.own ++ Sign (codes "=") ∷ []) tt (ap (λ t. t ++ Sign (codes "=") ∷ []) has.is))) e
place_sound given draft (Head at) kind lexeme text q has is e = head_sound given draft at lexeme text q has e
place_sound given draft ClockedName kind lexeme text q has is e =
    onward_name given text lexeme q draft (ClockedSign lexeme) kind is
    (more_item given draft has.own text (Identifier lexeme) (ClockedSign lexeme) has.around
    (ap (λ t. t ++ Identifier lexeme ∷ []) has.is)) e
place_sound given draft (ClockedSign name) kind lexeme text q has is e =
    onward_sign given text lexeme q draft (First name) (codes "<=") (more_item given draft has.own text (Sign (codes "<=")) (First name) has.around (ap (λ t. t ++ Sign (codes "<=") ∷ []) has.is)) e
place_sound given draft (First name) kind lexeme text q has is e =
    on_constant kind lexeme _ q is
    (λ n written e. onward_to given text lexeme q draft (AfterFirst name n) (Based n) written
    (more_item given draft has.own text (Based n) (AfterFirst name n) has.around (ap (λ t. t ++ Based n ∷ []) has.is)) e) e
place_sound given draft (AfterFirst name first) kind lexeme text q has is e =
    onward_sign given text lexeme q draft (Else name first) (codes ";")
    (more_item given draft has.own text (Sign (codes ";")) (Else name first) has.around
    (ap (λ t. t ++ Sign (codes ";") ∷ []) has.is)) e
place_sound given draft (Else name first) kind lexeme text q has is e =
    onward_key given text lexeme q draft (Branch name first) (codes "else")
    (more_item given draft has.own text (Key (codes "else")) (Branch name first) has.around
    (ap (λ t. t ++ Key (codes "else") ∷ []) has.is)) e
place_sound given draft (Branch name first) kind lexeme text q has is e = branch_sound given draft name first kind lexeme text q has is e
place_sound given draft (If name first) kind lexeme text q has is e =
    onward_sign given text lexeme q draft (Expression (Condition name first) [] Operand) (codes "(")
    (more_item given draft has.own text (Sign (codes "(")) (Expression (Condition name first) [] Operand) has.around
    (expression_starts (Condition name first) (has.own ++ Sign (codes "(") ∷ []) tt (grow (clocked_tokens name first) (Key (codes "if") ∷ []) _ has.own (Sign (codes "(")) has.is refl))) e
place_sound given draft (Again clocked) kind lexeme text q has is e =
    on_name_or kind lexeme _ None q is (λ named e. again_sound given draft clocked lexeme has.own text q has.around has.is.0 has.is.1 named e) (nowhere q) e
place_sound given draft (NextSign clocked) kind lexeme text q has is e =
    onward_sign given text lexeme q draft (Expression (Next clocked) [] Operand) (codes "<=")
    (more_item given draft has.own text (Sign (codes "<=")) (Expression (Next clocked) [] Operand) has.around
    (expression_starts (Next clocked) (has.own ++ Sign (codes "<=") ∷ []) has.is.0
    (next_text has.own (clocked_tokens clocked.name clocked.first)
    (condition_tokens clocked.condition) clocked.name has.is.1))) e
place_sound given draft (Expression goal frames spot) kind lexeme text q has is e = expression_sound given draft goal frames spot kind lexeme text q has is e
place_sound given draft (Semicolon item) kind lexeme text q has is e =
    onward_sign given text lexeme q (record draft { items = draft.items ++ item ∷ [] }) Items (codes ";") (item_read given draft item has.own text (Sign (codes ";")) has.around has.is) e
place_sound given draft (End item) kind lexeme text q has is e =
    onward_key given text lexeme q (record draft { items = draft.items ++ item ∷ [] }) Items (codes "end") (item_read given draft item has.own text (Key (codes "end")) has.around has.is) e
place_sound given draft Done kind lexeme text q has is e = nowhere q e

-- each lexeme adds the token that it writes
pub step_sound : (given : Given) (p : Parser) (lexeme : List ℕ) (text : List Token) (q : Parser) → Has given p.draft p.place text → step p lexeme ≡ Some q → Onward given text lexeme q
unfolding step
step_sound given p lexeme text q has e = place_sound given p.draft p.place (kind_of lexeme) lexeme text q has (kind_means lexeme) e

-- the module is read where its text is whole
finish_sound : (given : Given) (draft : Draft) (place : Place) (text : List Token) (m : Module) → Has given draft place text → module_at draft place ≡ Some m → Whole given m text
finish_sound given draft Done text m has e = let same : module_of draft ≡ m = cc in subst (λ m. Whole given m text) same has.1
finish_sound given draft place text m has e = let no : ⊥ = cc in absurd no

-- the lexemes that are left write tokens that make the text whole
record Rest (given : Given) (m : Module) (text : List Token) (lexemes : List (List ℕ)) : Type 0 where
  tokens : List Token
  whole : Whole given m (text ++ tokens)
  each : WritesEach tokens lexemes

rest_sound : (lexemes : List (List ℕ)) (given : Given) (p : Parser) (text : List Token) (m : Module) → Has given p.draft p.place text → parse p lexemes ≡ Some m → Rest given m text lexemes
rest_sound [] given p text m has e =
    record { tokens = []; whole = subst (λ t. Whole given m t) (sym (append-nil text)) (finish_sound given p.draft p.place text m has e); each = refl }
rest_sound (lexeme ∷ lexemes) given p text m has e =
    let r = then_some (step p lexeme) (λ next. parse next lexemes) m e in
    let onward : Onward given text lexeme r.0 = step_sound given p lexeme text r.0 has r.1 in
    let rest : Rest given m (text ++ onward.token ∷ []) lexemes = rest_sound lexemes given r.0 (text ++ onward.token ∷ []) m onward.has r.2 in
    record {
      tokens = onward.token ∷ rest.tokens;
      whole = subst (λ t. Whole given m t) (append_assoc text (onward.token ∷ []) rest.tokens) rest.whole;
      each = (lexeme, lexemes, refl, onward.written, rest.each);
    }

-- before the first lexeme
pub nothing_read : (most : ℕ) → Has (record { most = most; instances = [] }) (start most).draft (start most).place []
nothing_read most = (record { no_ports = refl; no_items = refl; no_instances = refl; kept = refl }, refl)

-- a text without instances is one of the module alone

only_items : (parts : List BodyPart) → instance_parts parts ≡ [] → flat_map part_tokens parts ≡ flat_map (λ item. item) (item_parts parts)
only_items [] none = refl
only_items (OfItem text ∷ parts) none = ap (λ t. text ++ t) (only_items parts none)
only_items (OfInstance text ∷ parts) none = let no : ⊥ = cc in absurd no

pub top_alone : (m : Module) (instances : List Instance) (tokens : List Token) → IsTopText m instances tokens → instances ≡ [] → IsModuleText m tokens
top_alone m instances tokens is none = record {
  ports = is.ports;
  items = item_parts is.parts;
  has_port = is.has_port;
  each_port = is.each_port;
  each_item = is.each_item;
  text = is.text ∙ ap (λ t. attrs_tokens m.attrs
      ++ (Key (codes "module") ∷ Identifier m.name ∷ Sign (codes "(")
      ∷ (joined comma is.ports ++ (Sign (codes ")") ∷ Sign (codes ";") ∷ (t ++ Key (codes "endmodule") ∷ [])))))
      (only_items is.parts (is.each_instance ∙ ap (map instance_tokens) none));
}

pub sound : (most : ℕ) (lexemes : List (List ℕ)) (m : Module) → parse (start most) lexemes ≡ Some m →
    (tokens : List Token) × IsModuleText m tokens × WritesEach tokens lexemes × (length m.items ≤ most)
sound most lexemes m e =
    let given : Given = record { most = most; instances = [] } in
    let rest : Rest given m [] lexemes = rest_sound lexemes given (start most) [] m (nothing_read most) e in
    (rest.tokens, top_alone m [] rest.tokens rest.whole.is refl, rest.each, rest.whole.room)
