-- The tokens of a module that breaks no condition can be written, where its names are identifiers.
use Rattle.std.proofs.Common.{◌≡◌, ◌≤◌, ◌-◌, ⊎_elim, inl, inr, ℕ, nat_le, Bool, true, false, not, ◌&&◌, ◌==◌, if◌then◌else◌, List, [], ◌∷◌, ◌++◌, map, find, flat_map, Contains, codes, Option, Some}
use Rattle.std.proofs.Common.{None, option_map, refl, sym, ap, subst, ◌∙◌, arith}
use Rattle.std.specs.List.{AllZip}
use Rattle.std.proofs.lemmas.Bool.{leb-true, eqb-true, and_parts}
use Rattle.std.proofs.lemmas.List.Elements.{Contains-append_left, Contains-append_right}
use Rattle.vl_ast.specs.declared.expressions.Expr.{Expr}
use Rattle.vl_ast.specs.declared.modules.Attr.{Attr}
use Rattle.vl_ast.specs.declared.modules.Port.{Port}
use Rattle.vl_ast.specs.declared.modules.ModItem.{ModItem}
use Rattle.vl_ast.specs.declared.modules.ModItem.TheVariants.{Wire, Reg, Assign, Always}
use Rattle.vl_ast.specs.declared.modules.Module.{Module}
use Rattle.vl_ast.specs.Conditions.{IsAcyclic, is_number, is_sound, is_sound_condition, is_sound_item, is_width, item_name, soundness, too_wide}
use Rattle.vl_ast.specs.Context.{Net}
use Rattle.vl_ast.specs.Grammar.{comma, attr_tokens, attrs_tokens, signed_tokens, declaration_tokens, condition_tokens, expr_tokens, IsCondition, IsRange, IsItemText, IsPortText, Spells}
use Rattle.vl_ast.specs.Nets.{Declared, Declares, Drives, Reads, mentions, declaration_of, nets_of, names_read, condition_names, port_declared}
use Rattle.vl_ast.specs.Spellable.{IsShortAttr, IsSpellable}
use Rattle.vl_ast.specs.Spelling.{joined, spelling}
use Rattle.vl_ast.specs.Tokens.{Token, Key, Sign, Identifier, IsWritable, AreWritable}
use Rattle.vl_names.specs.Identifiers.{is_identifier}
use Rattle.vl_ast.proofs.Agree.{ByLayer}
use Rattle.vl_ast.proofs.Facts.{Declaration, OfPort, OfWire, OfReg, declaration-by, is-declared, mention-listed, read-declared, driven-declared, in-port, wire-declared, reg-declared, assign-drives}
use Rattle.vl_ast.proofs.Facts.{always-drives, reads-of-assign, reads-of-always}
use Rattle.vl_ast.proofs.Layouts.{AllWritable-append}
use Rattle.vl_ast.proofs.ItemLayouts.{net_item}
use Rattle.vl_ast.proofs.ModuleLayouts.{item_tokens, port_tokens, port_words, module_lays, module_tokens, module_tail}
use Rattle.vl_ast.proofs.NetLayouts.{bounds, range_tokens}
use Rattle.math_list.proofs.Elements.{cons-cases, none-in, head-in, tail-in, map-in}
use Rattle.vl_ast.proofs.OneRun.{net-is}
use Rattle.vl_ast.proofs.TokenForms.{number-writable}
use Rattle.vl_ast.proofs.ExprTokens.{IsKnown, EachWritable, expr-writable, joined-writable, key-writable, literal-of, name-writable, sign-writable}

-- none is found that fails
all-pass : (xs : List (List ℕ × Bool)) → find (λ part. not part.1) xs ≡ None → (x : List ℕ × Bool) → Contains xs x → x.1 ≡ true
all-pass [] e x c = absurd (none-in x c)
all-pass (y ∷ xs) e x c = by (y.1) refl e c (all-pass xs) where
  by : (b : Bool) → y.1 ≡ b → (if not b then Some y else find (λ part. not part.1) xs) ≡ None → Contains (y ∷ xs) x
      → (find (λ (part : List ℕ × Bool). not part.1) xs ≡ None → (z : List ℕ × Bool) → Contains xs z → z.1 ≡ true) → x.1 ≡ true
  by true is e c others = ⊎_elim (λ same. ap (λ (p : List ℕ × Bool). p.1) (sym same) ∙ is) (λ after. others e x after) (cons-cases y x xs c)
  by false is e c others = absurd (cc e)

pub unnamed : (found : Option (List ℕ × Bool)) → option_map (λ (part : List ℕ × Bool). part.0) found ≡ None → found ≡ None
unnamed None e = refl
unnamed (Some x) e = absurd (cc e)

-- ---- ranges and attributes

width-of : (width : ℕ) → is_width width ≡ true → (1 ≤ width) × (width ≤ 128)
width-of width e = (let b = and_parts (nat_le 1 width) (nat_le width 128) e in (leb-true 1 width b.0, leb-true width 128 b.1))

range-by : (width : ℕ) → 1 ≤ width → width ≤ 128 → (b : Bool) → (b ≡ true → width ≡ 1)
    → IsRange width (if b then [] else bounds width) × AreWritable (if b then [] else bounds width)
range-by width some most true one = (inl (one refl, refl), tt)
range-by width some most false one = (
  inr (some, refl),
  (sign-writable (codes "["), (number-writable (width - 1) (omega (arith, most)), (sign-writable (codes ":"), (key-writable (codes "0"), (sign-writable (codes "]"), tt))))),
)

range-written : (width : ℕ) → is_width width ≡ true → IsRange width (range_tokens width) × AreWritable (range_tokens width)
range-written width e = (let w = width-of width e in range-by width w.0 w.1 (width == 1) (λ t. eqb-true width 1 t))

signed-written : (signed : Bool) → AreWritable (signed_tokens signed)
signed-written true = (key-writable (codes "signed"), tt)
signed-written false = tt

declaration-written : (words : List Token) (signed : Bool) (width : ℕ) (name : List ℕ) → AreWritable words → is_width width ≡ true → is_identifier name ≡ true
    → AreWritable (declaration_tokens words signed (range_tokens width) name)
declaration-written words signed width name w wide e =
    AllWritable-append words _ w (AllWritable-append (signed_tokens signed) _ (signed-written signed)
    (AllWritable-append (range_tokens width) (Identifier name ∷ []) (range-written width wide).1 (name-writable name e, tt)))

each-attr : (attrs : List Attr) → ((attr : Attr) → Contains attrs attr → IsShortAttr attr) → EachWritable (map attr_tokens attrs)
each-attr [] short = tt
each-attr (attr ∷ attrs) short =
    let a = short attr (head-in attr attrs) in
    ((name-writable attr.name a.name, (sign-writable (codes "="), (number-writable attr.value a.value, tt))), each-attr attrs (λ other c. short other (tail-in attr other attrs c)))

attrs-written : (attrs : List Attr) → ((attr : Attr) → Contains attrs attr → IsShortAttr attr) → AreWritable (attrs_tokens attrs)
attrs-written [] short = tt
attrs-written (attr ∷ attrs) short = (
  sign-writable (codes "(*"),
  AllWritable-append (joined comma (map attr_tokens (attr ∷ attrs))) (Sign (codes "*)") ∷ [])
      (joined-writable (map attr_tokens (attr ∷ attrs)) (each-attr (attr ∷ attrs) short)) (sign-writable (codes "*)"), tt),
)

-- ---- lists of texts

zip-of : {A : Type 0} (R : A → List Token → Type 0) (f : A → List Token) (xs : List A) → ((x : A) → Contains xs x → R x (f x)) → AllZip R xs (map f xs)
zip-of R f [] h = tt
zip-of R f (x ∷ xs) h = (h x (head-in x xs), zip-of R f xs (λ y c. h y (tail-in x y xs c)))

each-of : {A : Type 0} (f : A → List Token) (xs : List A) → ((x : A) → Contains xs x → AreWritable (f x)) → EachWritable (map f xs)
each-of f [] h = tt
each-of f (x ∷ xs) h = (h x (head-in x xs), each-of f xs (λ y c. h y (tail-in x y xs c)))

flat-of : {A : Type 0} (f : A → List Token) (xs : List A) → ((x : A) → Contains xs x → AreWritable (f x)) → AreWritable (flat_map (λ ts. ts) (map f xs))
flat-of f [] h = tt
flat-of f (x ∷ xs) h = AllWritable-append (f x) _ (h x (head-in x xs)) (flat-of f xs (λ y c. h y (tail-in x y xs c)))

direction-written : (input : Bool) → AreWritable (port_words input)
direction-written input = (key-writable (if input then codes "input" else codes "output"), (key-writable (codes "wire"), tt))

-- ---- the module

module _ (by_layer : ByLayer) (m : Module) (acyclic : IsAcyclic m) (wide : too_wide m ≡ None) (spellable : IsSpellable m) where
  passes : (x : List ℕ × Bool) → Contains (soundness m) x → x.1 ≡ true
  passes = all-pass (soundness m) (unnamed (find (λ part. not part.1) (soundness m)) wide)

  port-wide : (port : Port) → Contains m.ports port → is_width port.width ≡ true
  port-wide port c = passes (port.name, is_width port.width) (Contains-append_left _ _ _ (map-in (λ (p : Port). (p.name, is_width p.width)) m.ports port c))

  item-sound : (i : ModItem) → Contains m.items i → is_sound_item (nets_of m) i ≡ true
  item-sound i c = passes (item_name i, is_sound_item (nets_of m) i) (Contains-append_right _ _ _ (map-in (λ (j : ModItem). (item_name j, is_sound_item (nets_of m) j)) m.items i c))

  -- what a wire or a register is declared with is its item's
  wide-by : (d e : Declared) → Contains (mentions m) (Declares d) → Contains (mentions m) (Declares e) → e.name ≡ d.name → is_width e.net.width ≡ true → is_width d.net.width ≡ true
  wide-by d e h i same w =
      let a : declaration_of m d.name ≡ Some d = is-declared m acyclic.driven acyclic.once d h in
      let b : declaration_of m d.name ≡ Some e = subst (λ (n : List ℕ). declaration_of m n ≡ Some e) same (is-declared m acyclic.driven acyclic.once e i) in
      let c : Some d ≡ Some e = sym a ∙ b in
      let g : d ≡ e = cc c in
      subst (λ (x : Declared). is_width x.net.width ≡ true) (sym g) w

  wide-of : (d : Declared) → Contains (mentions m) (Declares d) → Declaration m acyclic.driven acyclic.once d → is_width d.net.width ≡ true
  wide-of d h (OfPort port c e) = subst (λ (x : Declared). is_width x.net.width ≡ true) e (port-wide port c)
  wide-of d h (OfWire signed width c kind) = wide-by d _ h (wire-declared m acyclic.driven acyclic.once signed width d.name c) refl (item-sound (Wire signed width d.name) c)
  wide-of d h (OfReg signed width c kind) = wide-by d _ h (reg-declared m acyclic.driven acyclic.once signed width d.name c) refl (item-sound (Reg signed width d.name) c)

  known-of : (d : Declared) → Contains (mentions m) (Declares d) → IsKnown (nets_of m) d.name
  known-of d h =
      let w = width-of d.net.width (wide-of d h (declaration-by m acyclic.driven acyclic.once d h)) in
      let e : nets_of m d.name ≡ d.net = net-is by_layer m acyclic.driven acyclic.once acyclic.acyclic d h in
      record {
        identifier = spellable.declared d (mention-listed m acyclic.driven acyclic.once d h);
        some = subst (λ (n : Net). 1 ≤ n.width) (sym e) w.0;
        most = subst (λ (n : Net). n.width ≤ 128) (sym e) w.1;
      }

  known : (name : List ℕ) → Contains (mentions m) (Reads name) → IsKnown (nets_of m) name
  known name h = (let d = read-declared m acyclic.driven acyclic.once name h in subst (IsKnown (nets_of m)) d.2 (known-of d.0 d.1))

  driven-name : (clocked : Bool) (name : List ℕ) → Contains (mentions m) (Drives clocked name) → is_identifier name ≡ true
  driven-name clocked name h = (let d = driven-declared m acyclic.driven acyclic.once clocked name h in subst (λ (n : List ℕ). is_identifier n ≡ true) d.2 (known-of d.0 d.1).identifier)

  abbrev IsWrittenItem : ModItem → Type 0
  IsWrittenItem i = IsItemText i (item_tokens i) × AreWritable (item_tokens i)

  condition-written : (condition : Option Expr) → is_sound_condition (nets_of m) condition ≡ true
      → IsCondition condition
      → ((name : List ℕ) → Contains (condition_names condition) name → IsKnown (nets_of m) name)
      → AreWritable (condition_tokens condition)
  condition-written None sound expr k = tt
  condition-written (Some condition) sound expr k = (
    key-writable (codes "if"),
    (
      sign-writable (codes "("),
      AllWritable-append (expr_tokens condition) (Sign (codes ")") ∷ [])
          (expr-writable (nets_of m) condition sound expr.1 k) (sign-writable (codes ")"), tt),
    ),
  )

  net-written : (word : List ℕ) → IsWritable (Key word) → (signed : Bool) (width : ℕ) (name : List ℕ)
      → is_width width ≡ true → is_identifier name ≡ true → AreWritable (net_item word signed width name)
  net-written word writable signed width name wide e =
      AllWritable-append (declaration_tokens (Key word ∷ []) signed (range_tokens width) name) (Sign (codes ";") ∷ [])
      (declaration-written (Key word ∷ []) signed width name (writable, tt) wide e) (sign-writable (codes ";"), tt)

  item-written : (i : ModItem) → Contains m.items i → IsWrittenItem i
  item-written (Wire signed width name) c =
      let wide = item-sound (Wire signed width name) c in
      let e = (known-of _ (wire-declared m acyclic.driven acyclic.once signed width name c)).identifier in
      ((range_tokens width, (range-written width wide).0, refl), net-written (codes "wire") (key-writable (codes "wire")) signed width name wide e)
  item-written (Reg signed width name) c =
      let wide = item-sound (Reg signed width name) c in
      let e = (known-of _ (reg-declared m acyclic.driven acyclic.once signed width name c)).identifier in
      ((range_tokens width, (range-written width wide).0, refl), net-written (codes "reg") (key-writable (codes "reg")) signed width name wide e)
  item-written (Assign name value) c =
      let expr = spellable.items (Assign name value) c in
      let e = driven-name false name (assign-drives m acyclic.driven acyclic.once name value c) in
      let w = expr-writable (nets_of m) value (item-sound (Assign name value) c) expr.1 (λ read r. known read (reads-of-assign m acyclic.driven acyclic.once name read value c r)) in (
        (expr, refl),
        (
          key-writable (codes "assign"),
          (
            name-writable name e,
            (
              sign-writable (codes "="),
              AllWritable-append (expr_tokens value) (Sign (codes ";") ∷ []) w (sign-writable (codes ";"), tt),
            ),
          ),
        ),
      )
  item-written (Always name first condition value) c =
      let expr = spellable.items (Always name first condition value) c in
      let e = driven-name true name (always-drives m acyclic.driven acyclic.once name first condition value c) in
      let sound = and_parts (is_number first && is_sound_condition (nets_of m) condition) (is_sound (nets_of m) value) (item-sound (Always name first condition value) c) in
      let head = and_parts (is_number first) (is_sound_condition (nets_of m) condition) sound.0 in
      let read : (n : List ℕ) → Contains (condition_names condition ++ names_read value) n → IsKnown (nets_of m) n =
      λ n r. known n (reads-of-always m acyclic.driven acyclic.once name n first condition value c r) in
      let w = expr-writable (nets_of m) value sound.1 expr.1.1 (λ n r. read n (Contains-append_right (condition_names condition) (names_read value) n r)) in
      let v = condition-written condition head.1 expr.0 (λ n r. read n (Contains-append_left (condition_names condition) (names_read value) n r)) in (
        (expr.0, expr.1, refl),
        (
          key-writable (codes "always"),
          (
            sign-writable (codes "@"),
            (
              sign-writable (codes "("),
              (
                key-writable (codes "posedge"),
                (
                  key-writable (codes "clk"),
                  (
                    sign-writable (codes ")"),
                    (
                      key-writable (codes "begin"),
                      (
                        key-writable (codes "if"),
                        (
                          sign-writable (codes "("),
                          (
                            key-writable (codes "reset"),
                            (
                              sign-writable (codes ")"),
                              (
                                name-writable name e,
                                (
                                  sign-writable (codes "<="),
                                  (
                                    (literal-of first head.0).writable,
                                    (
                                      sign-writable (codes ";"),
                                      (
                                        key-writable (codes "else"),
                                        AllWritable-append (condition_tokens condition) _ v (
                                          name-writable name e,
                                          (
                                            sign-writable (codes "<="),
                                            AllWritable-append (expr_tokens value) _ w (
                                              sign-writable (codes ";"),
                                              (
                                                key-writable (codes "end"),
                                                tt,
                                              ),
                                            ),
                                          ),
                                        ),
                                      ),
                                    ),
                                  ),
                                ),
                              ),
                            ),
                          ),
                        ),
                      ),
                    ),
                  ),
                ),
              ),
            ),
          ),
        ),
      )

  port-written : (port : Port) → Contains m.ports port → IsPortText port (port_tokens port) × AreWritable (port_tokens port)
  port-written port c =
      let wide = port-wide port c in
      let e = (known-of (port_declared port) (in-port m acyclic.driven acyclic.once port c)).identifier in (
        (range_tokens port.width, (range-written port.width wide).0, refl),
        AllWritable-append (attrs_tokens port.attrs) _ (attrs-written port.attrs (spellable.port_attrs port c))
            (declaration-written (port_words port.input) port.signed port.width port.name (direction-written port.input) wide e),
      )

  module-written : AreWritable (module_tokens m)
  module-written =
      AllWritable-append (attrs_tokens m.attrs) _ (attrs-written m.attrs spellable.attrs) (
        key-writable (codes "module"),
        (
          name-writable m.name spellable.name,
          (
            sign-writable (codes "("),
            AllWritable-append (joined comma (map port_tokens m.ports))
                (module_tail m) (joined-writable (map port_tokens m.ports)
                (each-of port_tokens m.ports (λ port c. (port-written port c).1))) (
                  sign-writable (codes ")"),
                  (
                    sign-writable (codes ";"),
                    AllWritable-append (flat_map (λ ts. ts) (map item_tokens m.items))
                        (Key (codes "endmodule") ∷ [])
                        (flat-of item_tokens m.items (λ i c. (item-written i c).1))
                        (key-writable (codes "endmodule"), tt),
                  ),
                ),
          ),
        ),
      )

  pub module-spells : Spells (spelling m) m
  module-spells = record {
    tokens = module_tokens m;
    grammar = record {
      ports = map port_tokens m.ports;
      items = map item_tokens m.items;
      has_port = spellable.has_port;
      each_port = zip-of IsPortText port_tokens m.ports (λ port c. (port-written port c).0);
      each_item = zip-of IsItemText item_tokens m.items (λ i c. (item-written i c).0);
      text = refl;
    };
    layout = module_lays m spellable.has_port module-written;
  }
