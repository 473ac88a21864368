-- The tokens of a design may follow each other with nothing between them, where not both are words.
use Rattle.std.proofs.Common.{◌≡◌, ◌≢◌, ℕ, ◌+◌, true, false, List, [], ◌∷◌, ◌++◌, map, length, Contains, refl, ◌∙◌, ap, codes, arith, append_assoc}
use Rattle.std.specs.List.{AllZip, flat_map}
use Rattle.std.proofs.lemmas.Bool.{and_parts, and_from}
use Rattle.vl_ast.specs.declared.designs.Instance.{Instance}
use Rattle.vl_ast.specs.declared.designs.Link.{Link}
use Rattle.vl_ast.specs.declared.modules.Module.{Module}
use Rattle.vl_ast.specs.declared.modules.ModItem.{ModItem}
use Rattle.vl_ast.specs.Grammar.{IsItemText, IsModuleText, comma}
use Rattle.vl_ast.specs.Instances.{BodyPart, OfItem, OfInstance, IsTopText, instance_parts, instance_tokens, item_parts, link_tokens, part_tokens}
use Rattle.vl_ast.specs.Spelling.{joined}
use Rattle.vl_ast.specs.Tokens.{Token, Key, Sign, Identifier}
use Rattle.vl_read.specs.declared.design.Design.{Design}
use Rattle.vl_read.specs.Designs.{IsDesignText}
use Rattle.vl_read.specs.inner.Lexemes.{class_of, extends}
use Rattle.vl_read.proofs.DesignReader.{HaveLinks, first_links, later_links}
use Rattle.vl_read.proofs.Safe.{is_fine, follows, safe}
use Rattle.vl_read.proofs.SafeMarks.{fine_first, after_closing, never, after_mark, closes_key, begun, follows_identifier, mark_opens, round_ends}
use Rattle.vl_read.proofs.SafeTokens.{end_fine, header_fine, item_fine, module_fine, name_fine, open_fine, semicolon_fine}

fine_dot : is_fine (Sign (codes ".")) ≡ true
unfolding is_fine class_of extends
fine_dot = refl

after_open : follows (Sign (codes "(")) (Sign (codes ".")) ≡ true
unfolding follows extends
after_open = refl

-- a name after a mark
named_safe : (mark n : List ℕ) (tokens : List Token) → fine_first (Identifier n ∷ tokens) ≡ true → safe (Sign mark) (Identifier n ∷ tokens) ≡ true
named_safe mark n tokens h =
    let parts = and_parts (is_fine (Identifier n)) (safe (Identifier n) tokens) h in begun (Sign mark) (Identifier n) tokens (follows_identifier (Sign mark) n) parts.0 parts.1

link_fine : (link : Link) (tokens : List Token) → fine_first tokens ≡ true → fine_first (link_tokens link ++ tokens) ≡ true
link_fine link tokens h =
    let net : List Token = Identifier link.net ∷ Sign (codes ")") ∷ tokens in
    let port : List Token = Identifier link.port ∷ Sign (codes "(") ∷ net in
    let inner : fine_first net ≡ true = name_fine link.net (Sign (codes ")") ∷ tokens) (round_ends tokens h) in
    let outer : fine_first port ≡ true = name_fine link.port (Sign (codes "(") ∷ net) (open_fine net (named_safe (codes "(") link.net (Sign (codes ")") ∷ tokens) inner)) in
    and_from (is_fine (Sign (codes "."))) (safe (Sign (codes ".")) port) fine_dot (named_safe (codes ".") link.port (Sign (codes "(") ∷ net) outer)

more_links_fine : (links : List Link) (tokens : List Token) → fine_first tokens ≡ true → fine_first (flat_map (λ more. comma ++ more) (map link_tokens links) ++ tokens) ≡ true
unfolding class_of extends
more_links_fine [] tokens h = h
more_links_fine (link ∷ links) tokens h =
    let rest : List Token = flat_map (λ more. comma ++ more) (map link_tokens links) ++ tokens in
    and_from (is_fine (Sign (codes ","))) (safe (Sign (codes ",")) (link_tokens link ++ rest)) (and_parts _ _ (mark_opens (codes ",") refl)).0
    (after_mark (codes ",") (link_tokens link ++ rest) never (link_fine link rest (more_links_fine links tokens h)))

links_safe : (links : List Link) (tokens : List Token) → links ≢ [] → fine_first tokens ≡ true → safe (Sign (codes "(")) (joined comma (map link_tokens links) ++ tokens) ≡ true
links_safe [] tokens some h = absurd (some refl)
links_safe (link ∷ links) tokens some h =
    let rest : List Token = flat_map (λ more. comma ++ more) (map link_tokens links) ++ tokens in
    let behind : List Token = Identifier link.port ∷ Sign (codes "(") ∷ Identifier link.net ∷ Sign (codes ")") ∷ rest in
    let parts = and_parts (is_fine (Sign (codes "."))) (safe (Sign (codes ".")) behind) (link_fine link rest (more_links_fine links tokens h)) in
    begun (Sign (codes "(")) (Sign (codes ".")) behind after_open parts.0 parts.1

instance_fine : (i : Instance) (tokens : List Token) → i.links ≢ [] → fine_first tokens ≡ true → fine_first (instance_tokens i ++ tokens) ≡ true
instance_fine i tokens some h =
    let links : List Token = joined comma (map link_tokens i.links) in
    let ends : List Token = Sign (codes ")") ∷ Sign (codes ";") ∷ tokens in
    ap (λ t. fine_first (Identifier i.of ∷ Identifier i.name ∷ Sign (codes "(") ∷ t)) (append_assoc links (Sign (codes ")") ∷ Sign (codes ";") ∷ []) tokens)
    ∙ name_fine i.of (Identifier i.name ∷ Sign (codes "(") ∷ (links ++ ends))
    (name_fine i.name (Sign (codes "(") ∷ (links ++ ends)) (open_fine (links ++ ends) (links_safe i.links ends some (round_ends (Sign (codes ";") ∷ tokens) (semicolon_fine tokens h)))))

parts_fine : (parts : List BodyPart) (items : List ModItem) (own : List Instance) (tokens : List Token)
    → AllZip IsItemText items (item_parts parts) → instance_parts parts ≡ map instance_tokens own → HaveLinks own
    → fine_first tokens ≡ true →
    fine_first (flat_map part_tokens parts ++ tokens) ≡ true
parts_fine [] items own tokens each same all h = h
parts_fine (OfItem text ∷ parts) [] own tokens each same all h = absurd each
parts_fine (OfItem text ∷ parts) (item ∷ items) own tokens each same all h =
    ap fine_first (append_assoc text (flat_map part_tokens parts) tokens) ∙ item_fine item text _ each.0 (parts_fine parts items own tokens each.1 same all h)
parts_fine (OfInstance text ∷ parts) items [] tokens each same all h = let no : ⊥ = cc in absurd no
parts_fine (OfInstance text ∷ parts) items (i ∷ own) tokens each same all h =
    let is : text ≡ instance_tokens i = cc in
    let others : instance_parts parts ≡ map instance_tokens own = cc in
    ap fine_first (append_assoc text (flat_map part_tokens parts) tokens ∙ ap (λ t. t ++ (flat_map part_tokens parts ++ tokens)) is)
    ∙ instance_fine i _ (first_links i own all) (parts_fine parts items own tokens each others (later_links i own all) h)

top_fine : (m : Module) (own : List Instance) (text : List Token) → IsTopText m own text → fine_first text ≡ true
top_fine m own text is =
    ap fine_first is.text
    ∙ header_fine m.attrs m.name m.ports is.ports (flat_map part_tokens is.parts ++ Key (codes "endmodule") ∷ []) is.has_port is.each_port
    (parts_fine is.parts m.items own (Key (codes "endmodule") ∷ []) is.each_item is.each_instance is.has_link (end_fine [] refl))

modules_fine : (modules : List Module) (texts : List (List Token)) (tokens : List Token)
    → AllZip IsModuleText modules texts → fine_first tokens ≡ true
    → fine_first (flat_map (λ text. text) texts ++ tokens) ≡ true
modules_fine [] [] tokens each h = h
modules_fine [] (text ∷ texts) tokens each h = absurd each
modules_fine (m ∷ modules) [] tokens each h = absurd each
modules_fine (m ∷ modules) (text ∷ texts) tokens each h =
    ap fine_first (append_assoc text (flat_map (λ text. text) texts) tokens) ∙ module_fine m text _ each.0 (modules_fine modules texts tokens each.1 h)

-- the tokens of a design
pub design_safe : (design : Design) (tokens : List Token) → IsDesignText design tokens → safe (Key []) tokens ≡ true
design_safe design tokens is =
    after_closing (Key []) tokens (closes_key []) (ap fine_first is.text ∙ modules_fine is.below is.texts is.last is.each_below (top_fine is.top design.instances is.last is.top_text))
