-- What some text of a module says of it: its names are identifiers, and its expressions of the grammar.
use Rattle.std.proofs.Common.{◌≡◌, ⊎_elim, ℕ, Bool, true, false, if◌then◌else◌, List, [], ◌∷◌, ◌++◌, flat_map, Contains, codes, None, sym, subst}
use Rattle.std.specs.List.{AllZip}
use Rattle.std.proofs.lemmas.List.Elements.{Contains-append_left, Contains-append_right}
use Rattle.vl_ast.specs.declared.modules.ModItem.{ModItem}
use Rattle.vl_ast.specs.declared.modules.ModItem.TheVariants.{Wire, Reg, Assign, Always}
use Rattle.vl_ast.specs.declared.modules.Port.{Port}
use Rattle.vl_ast.specs.declared.modules.Module.{Module}
use Rattle.vl_ast.specs.Conditions.{doubly, undriven}
use Rattle.vl_ast.specs.Grammar.{IsItemText, IsModuleText, IsPortText, Spells, attrs_tokens, comma, declaration_tokens, signed_tokens}
use Rattle.vl_ast.specs.Nets.{Declared, declarations}
use Rattle.vl_ast.specs.Spellable.{HasExprs}
use Rattle.vl_ast.specs.Spelling.{joined}
use Rattle.vl_ast.specs.Tokens.{Identifier, IsWritten, Key, Lays, Sign, Token, is_word}
use Rattle.vl_ast.proofs.Facts.{Declaration, OfPort, OfReg, OfWire, declaration-by, listed-mention}
use Rattle.math_list.proofs.Elements.{cons-cases, flat-in, head-in, none-in, tail-in}
use Rattle.vl_names.specs.Identifiers.{is_identifier}

-- the other element of a pair of lists
pub zipped : {A B : Type 0} (R : A → B → Type 0) (xs : List A) (ys : List B) → AllZip R xs ys → (x : A) → Contains xs x → (y : B) × Contains ys y × R x y
zipped R [] ys a x h = absurd (none-in x h)
zipped R (z ∷ xs) [] a x h = absurd a
zipped R (z ∷ xs) (y ∷ ys) a x h = ⊎_elim
    (λ e. (y, head-in y ys, subst (λ w. R w y) e a.0))
    (λ t. let r = zipped R xs ys a.1 x t in (r.0, tail-in y r.0 ys r.1, r.2))
    (cons-cases z x xs h)

-- a token of a text that is laid out is written
pub written : (after_word : Bool) (tokens : List Token) (bytes : List ℕ) → Lays after_word tokens bytes → (t : Token) → Contains tokens t → (w : List ℕ) × IsWritten t w
written after_word [] bytes l t h = absurd (none-in t h)
written after_word (token ∷ tokens) bytes (gap, text, rest, g, sep, w, longest, l, e) t h = ⊎_elim
    (λ s. (text, subst (λ k. IsWritten k text) s w))
    (λ k. written (is_word token) tokens rest l t k)
    (cons-cases token t tokens h)

-- a part of parts with separators
in-joined : (separator : List Token) (parts : List (List Token)) (part : List Token) (t : Token) → Contains parts part → Contains part t → Contains (joined separator parts) t
in-joined separator [] part t h c = absurd (none-in part h)
in-joined separator (first ∷ others) part t h c = ⊎_elim
    (λ e. Contains-append_left first (flat_map (λ more. separator ++ more) others) t (subst (λ p. Contains p t) (sym e) c))
    (λ k. Contains-append_right first (flat_map (λ more. separator ++ more) others) t
    (flat-in (λ more. separator ++ more) others part t k (Contains-append_right separator part t c)))
    (cons-cases first part others h)

declared-token : (words : List Token) (signed : Bool) (range : List Token) (name : List ℕ) → Contains (declaration_tokens words signed range name) (Identifier name)
declared-token words signed range name =
    Contains-append_right words (signed_tokens signed ++ (range ++ Identifier name ∷ [])) (Identifier name)
    (Contains-append_right (signed_tokens signed) (range ++ Identifier name ∷ []) (Identifier name)
    (Contains-append_right range (Identifier name ∷ []) (Identifier name) (head-in (Identifier name) [])))

module _ (bytes : List ℕ) (m : Module) (spells : Spells bytes m) where
  abbrev grammar : IsModuleText m spells.tokens
  grammar = spells.grammar

  name-of : (name : List ℕ) → Contains spells.tokens (Identifier name) → is_identifier name ≡ true
  name-of name h = let r = written false spells.tokens bytes spells.layout (Identifier name) h in r.1.1

  abbrev behind_ports : List Token
  behind_ports = Sign (codes ")") ∷ Sign (codes ";") ∷ (flat_map (λ item. item) spells.grammar.items ++ Key (codes "endmodule") ∷ [])

  abbrev behind_attrs : List Token
  behind_attrs = Key (codes "module") ∷ Identifier m.name ∷ Sign (codes "(") ∷ (joined comma spells.grammar.ports ++ behind_ports)

  in-text : (t : Token) → Contains (joined comma spells.grammar.ports ++ behind_ports) t → Contains spells.tokens t
  in-text t h = subst (λ ts. Contains ts t) (sym spells.grammar.text)
      (Contains-append_right (attrs_tokens m.attrs) behind_attrs t
      (tail-in (Key (codes "module")) t (Identifier m.name ∷ Sign (codes "(") ∷ (joined comma spells.grammar.ports ++ behind_ports))
      (tail-in (Identifier m.name) t (Sign (codes "(") ∷ (joined comma spells.grammar.ports ++ behind_ports))
      (tail-in (Sign (codes "(")) t (joined comma spells.grammar.ports ++ behind_ports) h))))

  port-name : (port : Port) → Contains m.ports port → is_identifier port.name ≡ true
  port-name port h =
      let r = zipped IsPortText m.ports spells.grammar.ports spells.grammar.each_port port h in
      let range = r.2 in
      let words : List Token = Key (if port.input then codes "input" else codes "output") ∷ Key (codes "wire") ∷ [] in
      let there : Contains r.0 (Identifier port.name) = subst (λ ts. Contains ts (Identifier port.name)) (sym range.2)
      (Contains-append_right (attrs_tokens port.attrs) (declaration_tokens words port.signed range.0 port.name) (Identifier port.name) (declared-token words port.signed range.0 port.name)) in
      name-of port.name (in-text (Identifier port.name) (Contains-append_left (joined comma spells.grammar.ports) behind_ports (Identifier port.name)
      (in-joined comma spells.grammar.ports r.0 (Identifier port.name) r.1 there)))

  in-item : (text : List Token) (t : Token) → Contains spells.grammar.items text → Contains text t → Contains spells.tokens t
  in-item text t h c = in-text t (Contains-append_right (joined comma spells.grammar.ports) behind_ports t
      (tail-in (Sign (codes ")")) t (Sign (codes ";") ∷ (flat_map (λ item. item) spells.grammar.items ++ Key (codes "endmodule") ∷ []))
      (tail-in (Sign (codes ";")) t (flat_map (λ item. item) spells.grammar.items ++ Key (codes "endmodule") ∷ [])
      (Contains-append_left (flat_map (λ item. item) spells.grammar.items) (Key (codes "endmodule") ∷ []) t
      (flat-in (λ item. item) spells.grammar.items text t h c)))))

  declaration-name : (key name : List ℕ) (signed : Bool) (range text : List Token)
      → Contains spells.grammar.items text → text
      ≡ declaration_tokens (Key key ∷ []) signed range name ++ Sign (codes ";") ∷ [] → is_identifier name ≡ true
  declaration-name key name signed range text c is =
      name-of name (in-item text (Identifier name) c (subst (λ ts. Contains ts (Identifier name)) (sym is)
      (Contains-append_left (declaration_tokens (Key key ∷ []) signed range name) (Sign (codes ";") ∷ []) (Identifier name) (declared-token (Key key ∷ []) signed range name))))

  wire-name : (signed : Bool) (width : ℕ) (name : List ℕ) → Contains m.items (Wire signed width name) → is_identifier name ≡ true
  wire-name signed width name h =
      let r = zipped IsItemText m.items spells.grammar.items spells.grammar.each_item (Wire signed width name) h in
      declaration-name (codes "wire") name signed r.2.0 r.0 r.1 r.2.2

  reg-name : (signed : Bool) (width : ℕ) (name : List ℕ) → Contains m.items (Reg signed width name) → is_identifier name ≡ true
  reg-name signed width name h =
      let r = zipped IsItemText m.items spells.grammar.items spells.grammar.each_item (Reg signed width name) h in
      declaration-name (codes "reg") name signed r.2.0 r.0 r.1 r.2.2

  pub declared-name : (driven : undriven m ≡ None) (once : doubly m ≡ None) (d : Declared) → Contains (declarations m) d → is_identifier d.name ≡ true
  declared-name driven once d h = by (declaration-by m driven once d (listed-mention m driven once d h)) where
    by : Declaration m driven once d → is_identifier d.name ≡ true
    by (OfPort port there same) = subst (λ (x : Declared). is_identifier x.name ≡ true) same (port-name port there)
    by (OfWire signed width there kind) = wire-name signed width d.name there
    by (OfReg signed width there kind) = reg-name signed width d.name there

  exprs-of : (i : ModItem) (text : List Token) → IsItemText i text → HasExprs i
  exprs-of (Wire signed width name) text t = tt
  exprs-of (Reg signed width name) text t = tt
  exprs-of (Assign name value) text t = t.0
  exprs-of (Always name first condition value) text t = (t.0, t.1)

  pub item-exprs : (i : ModItem) → Contains m.items i → HasExprs i
  item-exprs i h = let r = zipped IsItemText m.items spells.grammar.items spells.grammar.each_item i h in exprs-of i r.0 r.2
