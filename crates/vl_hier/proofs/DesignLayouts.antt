-- The one text of a design spells it, where some text does.
use Rattle.std.proofs.Common.{◌≡◌, ◌≢◌, ℕ, Bool, true, false, List, [], ◌∷◌, ◌++◌, map, flat_map, codes, inl, refl, sym, ap, subst, ◌∙◌, append-nil, append_assoc}
use Rattle.std.specs.List.{AllZip}
use Rattle.vl_ast.specs.declared.designs.Instance.{Instance}
use Rattle.vl_ast.specs.declared.modules.Attr.{Attr}
use Rattle.vl_ast.specs.declared.modules.Module.{Module}
use Rattle.vl_ast.specs.declared.modules.ModItem.{ModItem}
use Rattle.vl_ast.specs.Grammar.{IsItemText, IsModuleText, IsPortText, attr_tokens, attrs_tokens, comma}
use Rattle.vl_ast.specs.Instances.{BodyPart, OfItem, OfInstance, IsTopText, instance_parts, instance_tokens, item_parts, part_tokens}
use Rattle.vl_ast.specs.Spelling.{attrs_text, item_text, joined, port_text, spelling}
use Rattle.vl_ast.specs.Tokens.{Token, Key, Sign, Identifier, IsGap, IsWritable, Lays, AreWritable}
use Rattle.vl_ast.proofs.Layouts.{laid_same, no_gap, line_gap, space_gap, right_false, AllWritable-laid, AllWritable-front, AllWritable-back, AllWritable-append}
use Rattle.vl_ast.proofs.FormLayouts.{after_sign, not_empty, sign_lays, word_lays}
use Rattle.vl_ast.proofs.ModuleLayouts.{all_kept, item_kept, item_tokens, items_lay, list_kept, list_lays, module_tokens, port_tokens, written_as}
use Rattle.vl_ast.proofs.NetLayouts.{attrs_lay}
use Rattle.vl_read.specs.declared.design.Design.{Design}
use Rattle.vl_read.specs.Designs.{SpellsDesign}
use Rattle.vl_hier.specs.Written.{IsDesignSpelling, instance_text, open_spelling, top_spelling}
use Rattle.vl_hier.proofs.InstanceLayouts.{instances_lay}

-- ---- one module, with these tokens and this text behind its items

abbrev body_tokens : Module → List Token → List Token
body_tokens m more = flat_map (λ ts. ts) (map item_tokens m.items) ++ more

abbrev named_tokens : Module → List Token → List Token
named_tokens m more =
    Identifier m.name ∷ Sign (codes "(") ∷ (joined comma (map port_tokens m.ports) ++ Sign (codes ")") ∷ Sign (codes ";") ∷ (body_tokens m more ++ Key (codes "endmodule") ∷ []))

abbrev whole_tokens : Module → List Token → List Token
whole_tokens m more = attrs_tokens m.attrs ++ (Key (codes "module") ∷ named_tokens m more)

whole_shape : (gap attrs name ports items more rest : List ℕ) →
    gap ++ (((attrs ++ codes "module " ++ name ++ codes " (\n" ++ ports ++ codes "\n);\n" ++ items) ++ more ++ codes "endmodule\n") ++ rest)
    ≡ gap ++ (attrs ++ (codes "module" ++ (codes " "
    ++ (name ++ (codes " " ++ (codes "("
    ++ (codes "\n" ++ (ports ++ (codes "\n"
    ++ (codes ")" ++ (codes ";" ++ (codes "\n" ++ (items ++ (more ++ (codes "endmodule" ++ (codes "\n" ++ rest))))))))))))))))
whole_shape gap attrs name ports items more rest = simp append_assoc

-- a sign may follow whatever stands before
any-sign : (sign : List ℕ) (ts : List Token) (bytes : List ℕ) (b : Bool) → Lays false (Sign sign ∷ ts) bytes → Lays b (Sign sign ∷ ts) bytes
any-sign sign ts bytes b (gap, written, rest, g, apart, is, longest, next, text) = (gap, written, rest, g, (λ e. absurd (right_false b e)), is, longest, next, text)

module _ (m : Module) (some : m.ports ≢ []) (more : List Token) (text : List ℕ) (w : AreWritable (whole_tokens m more))
    (lays : (tail : List Token) (rest : List ℕ) → ((b : Bool) → Lays b tail (codes "\n" ++ rest)) → (b : Bool) → Lays b (more ++ tail) (codes "\n" ++ (text ++ rest)))
    (tail : List Token) (rest : List ℕ) (next : (b : Bool) → Lays b tail (codes "\n" ++ rest)) where
  abbrev items : List Token
  items = flat_map (λ ts. ts) (map item_tokens m.items)

  abbrev ports : List Token
  ports = joined comma (map port_tokens m.ports)

  abbrev end : List Token
  end = Key (codes "endmodule") ∷ []

  abbrev t6 : List ℕ
  t6 = text ++ (codes "endmodule" ++ (codes "\n" ++ rest))

  abbrev t5 : List ℕ
  t5 = flat_map item_text m.items ++ t6

  abbrev t4 : List ℕ
  t4 = codes ";" ++ (codes "\n" ++ t5)

  abbrev t3 : List ℕ
  t3 = codes "\n" ++ (codes ")" ++ t4)

  abbrev t2 : List ℕ
  t2 = codes "\n" ++ (joined (codes ",\n") (map port_text m.ports) ++ t3)

  abbrev t1 : List ℕ
  t1 = codes " " ++ (codes "(" ++ t2)

  abbrev t0 : List ℕ
  t0 = codes " " ++ (m.name ++ t1)

  head-writable : AreWritable (Key (codes "module") ∷ named_tokens m more)
  head-writable = AllWritable-back (attrs_tokens m.attrs) _ w

  body-writable : AreWritable (body_tokens m more ++ end)
  body-writable = (AllWritable-back ports _ head-writable.1.1.1).1.1

  end-lays : (b : Bool) → Lays b (end ++ tail) (codes "\n" ++ (codes "endmodule" ++ (codes "\n" ++ rest)))
  end-lays b = word_lays (Key (codes "endmodule")) b (codes "\n") tail (codes "\n" ++ rest) _ (codes "endmodule", refl) tt line_gap (not_empty 10 [] b) next refl

  body-lays : (b : Bool) → Lays b ((body_tokens m more ++ end) ++ tail) (codes "\n" ++ t5)
  body-lays b =
      laid_same b _ (items ++ (more ++ (end ++ tail))) _ (append_assoc (body_tokens m more) end tail ∙ append_assoc items more (end ++ tail))
      (items_lay m.items (AllWritable-front items more (AllWritable-front (body_tokens m more) end body-writable)) (more ++ (end ++ tail)) t6
      (lays (end ++ tail) (codes "endmodule" ++ (codes "\n" ++ rest)) end-lays) b)

  named-lays : (b : Bool) → Lays b (named_tokens m more ++ tail) t0
  named-lays b =
      let closing : List Token = Sign (codes ")") ∷ Sign (codes ";") ∷ (body_tokens m more ++ end) in
      let l4 : Lays false (Sign (codes ";") ∷ ((body_tokens m more ++ end) ++ tail)) t4 = sign_lays (codes ";") [] _ (codes "\n" ++ t5) t4 no_gap refl (body-lays false) refl false in
      let l3 : (b : Bool) → Lays b (closing ++ tail) t3 = λ d. sign_lays (codes ")") (codes "\n") (Sign (codes ";") ∷ ((body_tokens m more ++ end) ++ tail)) t4 t3 line_gap refl l4 refl d in
      let l2 : Lays false ((ports ++ closing) ++ tail) t2 =
      laid_same false _ (ports ++ (closing ++ tail)) t2 (append_assoc ports closing tail)
      (list_lays m.ports some (AllWritable-front ports closing head-writable.1.1.1) (closing ++ tail) t3 l3) in
      let l1 : (b : Bool) → Lays b (Sign (codes "(") ∷ ((ports ++ closing) ++ tail)) t1 = λ d. sign_lays (codes "(") (codes " ") ((ports ++ closing) ++ tail) t2 t1 space_gap refl l2 refl d in
      word_lays (Identifier m.name) b (codes " ") (Sign (codes "(") ∷ ((ports ++ closing) ++ tail)) t1 t0 head-writable.1.0 tt space_gap (not_empty 32 [] b) l1 refl

  module-word-lays : (b : Bool) (gap : List ℕ) → IsGap gap → (b ≡ true → gap ≢ []) → Lays b ((Key (codes "module") ∷ named_tokens m more) ++ tail) (gap ++ (codes "module" ++ t0))
  module-word-lays b gap g apart =
      word_lays (Key (codes "module")) b gap (named_tokens m more ++ tail) t0 (gap ++ (codes "module" ++ t0)) (codes "module", refl) tt g apart named-lays refl

  pub whole-lays : (b : Bool) (gap : List ℕ) → IsGap gap → (b ≡ true → gap ≢ [])
      → Lays b (whole_tokens m more ++ tail) (gap ++ ((open_spelling m ++ text ++ codes "endmodule\n") ++ rest))
  whole-lays b gap g apart =
      let P : List ℕ → Type 0 = λ bytes. Lays b (whole_tokens m more ++ tail) bytes in
      subst P (sym (whole_shape gap (attrs_text [] m.attrs) m.name (joined (codes ",\n") (map port_text m.ports)) (flat_map item_text m.items) text rest))
      (laid_same b _ (attrs_tokens m.attrs ++ ((Key (codes "module") ∷ named_tokens m more) ++ tail)) _ (append_assoc (attrs_tokens m.attrs) (Key (codes "module") ∷ named_tokens m more) tail)
      (by m.attrs (AllWritable-front (attrs_tokens m.attrs) _ w)))
    where
      by : (attrs : List Attr) → AreWritable (attrs_tokens attrs)
          → Lays b (attrs_tokens attrs ++ ((Key (codes "module") ∷ named_tokens m more) ++ tail)) (gap ++ (attrs_text [] attrs ++ (codes "module" ++ t0)))
      by [] v = module-word-lays b gap g apart
      by (attr ∷ attrs) v =
          any-sign (codes "(*")
          ((joined comma (map attr_tokens (attr ∷ attrs)) ++ Sign (codes "*)") ∷ []) ++ ((Key (codes "module") ∷ named_tokens m more) ++ tail))
          (gap ++ (attrs_text [] (attr ∷ attrs) ++ (codes "module" ++ t0))) b
          (attrs_lay [] no_gap (attr ∷ attrs) v gap g ((Key (codes "module") ∷ named_tokens m more) ++ tail) (codes "module" ++ t0)
          (λ other o. module-word-lays false other o (after_sign other)))

-- it can be written where its parts can
whole-writable : (m : Module) (more : List Token) → AreWritable (attrs_tokens m.attrs) → IsWritable (Identifier m.name) → AreWritable (joined comma (map port_tokens m.ports))
    → AreWritable (flat_map (λ ts. ts) (map item_tokens m.items)) → AreWritable more → AreWritable (whole_tokens m more)
whole-writable m more attrs name ports items further =
    let last : List Token = Key (codes "endmodule") ∷ [] in
    let closing : List Token = Sign (codes ")") ∷ Sign (codes ";") ∷ (body_tokens m more ++ last) in
    AllWritable-append (attrs_tokens m.attrs) (Key (codes "module") ∷ named_tokens m more) attrs (
      (codes "module", refl),
      (
        name,
        (
          (codes "(", refl),
          AllWritable-append (joined comma (map port_tokens m.ports)) closing ports (
            (codes ")", refl),
            (
              (codes ";", refl),
              AllWritable-append (body_tokens m more) last
                  (AllWritable-append (flat_map (λ ts. ts) (map item_tokens m.items)) more items further) ((codes "endmodule", refl), tt),
            ),
          ),
        ),
      ),
    )

-- ---- a top and its instances

-- the tokens of items and of instances can be written where those of both can
parts-writable : (parts : List BodyPart) → AreWritable (flat_map part_tokens parts)
    → AreWritable (flat_map (λ ts. ts) (item_parts parts)) × AreWritable (flat_map (λ ts. ts) (instance_parts parts))
parts-writable [] w = (tt, tt)
parts-writable (OfItem ts ∷ parts) w =
    let rest = parts-writable parts (AllWritable-back ts _ w) in
    (AllWritable-append ts (flat_map (λ us. us) (item_parts parts)) (AllWritable-front ts (flat_map part_tokens parts) w) rest.0, rest.1)
parts-writable (OfInstance ts ∷ parts) w =
    let rest = parts-writable parts (AllWritable-back ts _ w) in
    (rest.0, AllWritable-append ts (flat_map (λ us. us) (instance_parts parts)) (AllWritable-front ts (flat_map part_tokens parts) w) rest.1)

joined-each : {A : Type 0} (f : A → List Token) (xs : List A) → flat_map (λ ts. ts) (map f xs) ≡ flat_map f xs
joined-each f [] = refl
joined-each f (x ∷ xs) = ap (λ ts. f x ++ ts) (joined-each f xs)

-- items first, and instances behind them
abbrev instances-last : List Instance → List BodyPart
instances-last instances = map (λ (i : Instance). OfInstance (instance_tokens i)) instances

abbrev parts-of : List ModItem → List Instance → List BodyPart
parts-of items instances = map (λ (i : ModItem). OfItem (item_tokens i)) items ++ instances-last instances

no-items : (instances : List Instance) → item_parts (instances-last instances) ≡ []
no-items [] = refl
no-items (i ∷ instances) = no-items instances

all-instances : (instances : List Instance) → instance_parts (instances-last instances) ≡ map instance_tokens instances
all-instances [] = refl
all-instances (i ∷ instances) = ap (λ tss. instance_tokens i ∷ tss) (all-instances instances)

their-tokens : (instances : List Instance) → flat_map part_tokens (instances-last instances) ≡ flat_map instance_tokens instances
their-tokens [] = refl
their-tokens (i ∷ instances) = ap (λ ts. instance_tokens i ++ ts) (their-tokens instances)

module _ (instances : List Instance) where
  items-are : (items : List ModItem) → item_parts (parts-of items instances) ≡ map item_tokens items
  items-are [] = no-items instances
  items-are (i ∷ items) = ap (λ tss. item_tokens i ∷ tss) (items-are items)

  instances-are : (items : List ModItem) → instance_parts (parts-of items instances) ≡ map instance_tokens instances
  instances-are [] = all-instances instances
  instances-are (i ∷ items) = instances-are items

  tokens-are : (items : List ModItem) → flat_map part_tokens (parts-of items instances) ≡ flat_map (λ ts. ts) (map item_tokens items) ++ flat_map instance_tokens instances
  tokens-are [] = their-tokens instances
  tokens-are (i ∷ items) =
      ap (λ ts. item_tokens i ++ ts) (tokens-are items)
      ∙ sym (append_assoc (item_tokens i) (flat_map (λ ts. ts) (map item_tokens items)) (flat_map instance_tokens instances))

module _ (top : Module) (instances : List Instance) (tokens : List Token) (is : IsTopText top instances tokens) (w : AreWritable tokens) where
  abbrev more : List Token
  more = flat_map instance_tokens instances

  abbrev last : List Token
  last = Key (codes "endmodule") ∷ []

  head : AreWritable (Key (codes "module") ∷ Identifier top.name ∷ Sign (codes "(") ∷ (joined comma is.ports ++ (Sign (codes ")") ∷ Sign (codes ";") ∷ (flat_map part_tokens is.parts ++ last))))
  head = AllWritable-back (attrs_tokens top.attrs) _ (written_as tokens _ is.text w)

  over : AreWritable (Sign (codes ")") ∷ Sign (codes ";") ∷ (flat_map part_tokens is.parts ++ last))
  over = AllWritable-back (joined comma is.ports) _ head.1.1.1

  pieces : AreWritable (flat_map (λ ts. ts) (item_parts is.parts)) × AreWritable (flat_map (λ ts. ts) (instance_parts is.parts))
  pieces = parts-writable is.parts (AllWritable-front (flat_map part_tokens is.parts) last over.1.1)

  ports-kept : AllZip IsPortText top.ports (map port_tokens top.ports) × AreWritable (joined comma (map port_tokens top.ports))
  ports-kept = list_kept top.ports is.ports is.each_port (AllWritable-front (joined comma is.ports) _ head.1.1.1)

  items-kept : AllZip IsItemText top.items (map item_tokens top.items) × AreWritable (flat_map (λ ts. ts) (map item_tokens top.items))
  items-kept = all_kept IsItemText item_tokens [] item_kept top.items (item_parts is.parts) is.each_item pieces.0

  pub more-writable : AreWritable more
  more-writable =
      written_as (flat_map (λ ts. ts) (instance_parts is.parts)) more (ap (flat_map (λ (ts : List Token). ts)) is.each_instance ∙ joined-each instance_tokens instances) pieces.1

  pub top-writable : AreWritable (whole_tokens top more)
  top-writable =
      whole-writable top more (AllWritable-front (attrs_tokens top.attrs) _ (written_as tokens _ is.text w)) head.1.0 ports-kept.1 items-kept.1 more-writable

  pub top-grammar : IsTopText top instances (whole_tokens top more)
  top-grammar = record {
    ports = map port_tokens top.ports;
    parts = parts-of top.items instances;
    has_port = is.has_port;
    has_link = is.has_link;
    each_port = ports-kept.0;
    each_item = let P : List (List Token) → Type 0 = λ tss. AllZip IsItemText top.items tss in subst P (sym (items-are instances top.items)) items-kept.0;
    each_instance = instances-are instances top.items;
    text = ap (λ ts. attrs_tokens top.attrs ++ (Key (codes "module") ∷ Identifier top.name ∷ Sign (codes "(")
        ∷ (joined comma (map port_tokens top.ports) ++ (Sign (codes ")") ∷ Sign (codes ";") ∷ (ts ++ last))))) (sym (tokens-are instances top.items));
  }

-- ---- the modules before it

abbrev texts-of : List Module → List (List Token)
texts-of below = map (λ m. whole_tokens m []) below

nothing-more : (ts : List Token) → ts ++ [] ≡ ts
nothing-more [] = refl
nothing-more (t ∷ ts) = ap (λ us. t ∷ us) (nothing-more ts)

-- no instances stand in it
plain-tokens : (m : Module) → whole_tokens m [] ≡ module_tokens m
plain-tokens m =
    ap (λ ts. attrs_tokens m.attrs ++ (Key (codes "module") ∷ Identifier m.name ∷ Sign (codes "(")
    ∷ (joined comma (map port_tokens m.ports) ++ Sign (codes ")") ∷ Sign (codes ";") ∷ (ts ++ Key (codes "endmodule") ∷ []))))
    (nothing-more (flat_map (λ ts. ts) (map item_tokens m.items)))

module-kept : (m : Module) (tokens : List Token) → IsModuleText m tokens → AreWritable tokens → IsModuleText m (whole_tokens m []) × AreWritable (whole_tokens m [])
module-kept m tokens is w =
    let v = written_as tokens _ is.text w in
    let head = AllWritable-back (attrs_tokens m.attrs) _ v in
    let over = AllWritable-back (joined comma is.ports) _ head.1.1.1 in
    let ports = list_kept m.ports is.ports is.each_port (AllWritable-front (joined comma is.ports) _ head.1.1.1) in
    let items = all_kept IsItemText item_tokens [] item_kept m.items is.items is.each_item (AllWritable-front (flat_map (λ ts. ts) is.items) _ over.1.1) in (
      record {
        ports = map port_tokens m.ports;
        items = map item_tokens m.items;
        has_port = is.has_port;
        each_port = ports.0;
        each_item = items.0;
        text = plain-tokens m;
      },
      whole-writable m [] (AllWritable-front (attrs_tokens m.attrs) _ v) head.1.0 ports.1 items.1 tt,
    )

below-kept : (below : List Module) (texts : List (List Token)) → AllZip IsModuleText below texts → AreWritable (flat_map (λ ts. ts) texts)
    → AllZip IsModuleText below (texts-of below) × AreWritable (flat_map (λ ts. ts) (texts-of below))
below-kept [] [] each w = (tt, tt)
below-kept [] (ts ∷ texts) each w = absurd each
below-kept (m ∷ below) [] each w = absurd each
below-kept (m ∷ below) (ts ∷ texts) each w =
    let here = module-kept m ts each.0 (AllWritable-front ts _ w) in
    let rest = below-kept below texts each.1 (AllWritable-back ts _ w) in
    ((here.0, rest.0), AllWritable-append (whole_tokens m []) (flat_map (λ ts. ts) (texts-of below)) here.1 rest.1)

below-lay : (below : List Module) → AllZip IsModuleText below (texts-of below) → AreWritable (flat_map (λ ts. ts) (texts-of below))
    → (tail : List Token) (rest : List ℕ) → ((b : Bool) (gap : List ℕ) → IsGap gap → (b ≡ true → gap ≢ []) → Lays b tail (gap ++ rest))
    → (b : Bool) (gap : List ℕ) → IsGap gap → (b ≡ true → gap ≢ []) → Lays b (flat_map (λ ts. ts) (texts-of below) ++ tail) (gap ++ (flat_map spelling below ++ rest))
below-lay [] each w tail rest next b gap g apart = next b gap g apart
below-lay (m ∷ below) each w tail rest next b gap g apart =
    let own : List Token = whole_tokens m [] in
    let others : List Token = flat_map (λ ts. ts) (texts-of below) in
    let after : List ℕ = flat_map spelling below ++ rest in
    let lain : Lays b (own ++ (others ++ tail)) (gap ++ ((open_spelling m ++ [] ++ codes "endmodule\n") ++ after)) =
    whole-lays m each.0.has_port [] [] (AllWritable-front own others w) (λ ts bytes follow d. follow d) (others ++ tail) after
    (λ d. below-lay below each.1 (AllWritable-back own others w) tail rest next d (codes "\n") line_gap (not_empty 10 [] d)) b gap g apart in
    let P : List ℕ → Type 0 = λ bytes. Lays b ((own ++ others) ++ tail) (gap ++ bytes) in
    let Q : List ℕ → Type 0 = λ bytes. Lays b (own ++ (others ++ tail)) (gap ++ ((bytes ++ codes "endmodule\n") ++ after)) in
    subst P (sym (append_assoc (spelling m) (flat_map spelling below) rest))
    (laid_same b ((own ++ others) ++ tail) (own ++ (others ++ tail)) (gap ++ (spelling m ++ after)) (append_assoc own others tail)
    (subst Q (append-nil (open_spelling m)) lain))

-- ---- the design

pub design-spelled : (bytes : List ℕ) (design : Design) (spelled : SpellsDesign bytes design)
    → SpellsDesign (flat_map spelling spelled.grammar.below ++ top_spelling spelled.grammar.top design.instances) design
design-spelled bytes design spelled =
    let is = spelled.grammar in
    let top = is.top in
    let instances = design.instances in
    let w : AreWritable (flat_map (λ ts. ts) is.texts ++ is.last) = written_as spelled.tokens _ is.text (AllWritable-laid false spelled.tokens bytes spelled.layout) in
    let last-w : AreWritable is.last = AllWritable-back (flat_map (λ ts. ts) is.texts) is.last w in
    let below = below-kept is.below is.texts is.each_below (AllWritable-front (flat_map (λ ts. ts) is.texts) is.last w) in
    let more : List Token = flat_map instance_tokens instances in
    let text : List ℕ = flat_map instance_text instances in
    let whole : List ℕ = open_spelling top ++ text ++ codes "endmodule\n" in
    let top-w = top-writable top instances is.last is.top_text last-w in
    let more-w = more-writable top instances is.last is.top_text last-w in
    let grammar = top-grammar top instances is.last is.top_text last-w in
    let top-lays : (b : Bool) (gap : List ℕ) → IsGap gap → (b ≡ true → gap ≢ []) → Lays b (whole_tokens top more) (gap ++ whole) = λ b gap g apart.
    (let P : List ℕ → Type 0 = λ bytes. Lays b (whole_tokens top more) (gap ++ bytes) in
    subst P (append-nil whole)
    (laid_same b _ (whole_tokens top more ++ []) _ (sym (nothing-more (whole_tokens top more)))
    (whole-lays top is.top_text.has_port more text top-w (instances_lay instances is.top_text.has_link more-w) [] [] (λ d. inl line_gap) b gap g apart))) in
    record {
      tokens = flat_map (λ ts. ts) (texts-of is.below) ++ whole_tokens top more;
      grammar = record {
        below = is.below;
        top = top;
        parted = is.parted;
        texts = texts-of is.below;
        each_below = below.0;
        last = whole_tokens top more;
        top_text = grammar;
        text = refl;
      };
      layout = below-lay is.below below.0 below.1 (whole_tokens top more) whole top-lays false [] no_gap (after_sign []);
    }

some-behind : {A : Type 0} (xs : List A) (x : A) → [] ≡ xs ++ x ∷ [] → ⊥
some-behind [] x e = let no : ⊥ = cc in no
some-behind (y ∷ xs) x e = let no : ⊥ = cc in no

-- two lists with one behind each are the same parts
same-parts : {A : Type 0} (xs ys : List A) (x y : A) → xs ++ x ∷ [] ≡ ys ++ y ∷ [] → (xs ≡ ys) × (x ≡ y)
same-parts [] [] x y e = let same : x ≡ y = cc in (refl, same)
same-parts [] (b ∷ ys) x y e = let rest : [] ≡ ys ++ y ∷ [] = cc in absurd (some-behind ys y rest)
same-parts (a ∷ xs) [] x y e = let rest : [] ≡ xs ++ x ∷ [] = cc in absurd (some-behind xs x (rest))
same-parts (a ∷ xs) (b ∷ ys) x y e =
    let here : a ≡ b = cc in
    let rest : xs ++ x ∷ [] ≡ ys ++ y ∷ [] = cc in
    let same = same-parts xs ys x y rest in
    ((λ k. here k ∷ same.0 k), same.1)

pub spelling-spells : (bytes text : List ℕ) (design : Design) → SpellsDesign bytes design → IsDesignSpelling design text → SpellsDesign text design
spelling-spells bytes text design spelled is =
    let same = same-parts is.0 spelled.grammar.below is.1 spelled.grammar.top (sym is.2 ∙ spelled.grammar.parted) in
    let P : List ℕ → Type 0 = λ written. SpellsDesign written design in
    subst P (sym (is.3 ∙ (λ k. flat_map spelling (same.0 k) ++ top_spelling (same.1 k) design.instances))) (design-spelled bytes design spelled)
