-- The one text of a module spells it, where some text does.
use Rattle.std.proofs.Common.{◌≡◌, ◌≢◌, ℕ, Bool, true, false, List, [], ◌∷◌, ◌++◌, map, flat_map, codes, refl, sym, ap, subst, append_assoc, if◌then◌else◌, inl}
use Rattle.std.specs.List.{AllZip}
use Rattle.vl_ast.specs.declared.modules.Port.{Port}
use Rattle.vl_ast.specs.declared.modules.ModItem.{ModItem}
use Rattle.vl_ast.specs.declared.modules.ModItem.TheVariants.{Wire, Reg, Assign, Always}
use Rattle.vl_ast.specs.declared.modules.Module.{Module}
use Rattle.vl_ast.specs.Grammar.{comma, attrs_tokens, signed_tokens, IsRange, declaration_tokens, IsPortText, IsItemText, IsModuleText, Spells}
use Rattle.vl_ast.specs.Spelling.{joined, attrs_text, signed_text, range_text, item_text, port_text, spelling}
use Rattle.vl_ast.specs.Tokens.{Token, Key, Sign, Identifier, IsGap, Lays, AreWritable}
use Rattle.vl_ast.proofs.Layouts.{laid_same, no_gap, line_gap, space_gap, gap_append, AllWritable-laid, AllWritable-front, AllWritable-back, AllWritable-append}
use Rattle.vl_ast.proofs.FormLayouts.{after_sign, not_empty, sign_lays, word_lays}
use Rattle.vl_ast.proofs.ItemLayouts.{indent_gap, net_item, net_item_lays, assign_item, assign_lays, always_item, always_lays}
use Rattle.vl_ast.proofs.NetLayouts.{attrs_lay, range_tokens, range_kept, net_lays}

-- the tokens of an item and of a port in the one text

abbrev pub item_tokens : ModItem → List Token
item_tokens (Wire signed width name) = net_item (codes "wire") signed width name
item_tokens (Reg signed width name) = net_item (codes "reg") signed width name
item_tokens (Assign name value) = assign_item name value
item_tokens (Always name first condition value) = always_item name first condition value

abbrev pub port_words : Bool → List Token
port_words input = Key (if input then codes "input" else codes "output") ∷ Key (codes "wire") ∷ []

abbrev pub port_tokens : Port → List Token
port_tokens port = attrs_tokens port.attrs ++ declaration_tokens (port_words port.input) port.signed (range_tokens port.width) port.name

-- these can be written where those of some text can

net_kept : (words end : List Token) (signed : Bool) (width : ℕ) (name : List ℕ) (range : List Token)
    → AreWritable (declaration_tokens words signed range name ++ end) → AreWritable (range_tokens width) →
    AreWritable (declaration_tokens words signed (range_tokens width) name ++ end)
net_kept words end signed width name range w kept =
    let body : AreWritable (declaration_tokens words signed range name) = AllWritable-front _ end w in
    let more : AreWritable (signed_tokens signed ++ (range ++ Identifier name ∷ [])) = AllWritable-back words _ body in
    let last : AreWritable (Identifier name ∷ []) = AllWritable-back range _ (AllWritable-back (signed_tokens signed) _ more) in
    AllWritable-append _ end
    (AllWritable-append words _ (AllWritable-front words _ body)
    (AllWritable-append (signed_tokens signed) _ (AllWritable-front (signed_tokens signed) _ more) (AllWritable-append (range_tokens width) _ kept last)))
    (AllWritable-back (declaration_tokens words signed range name) end w)

net_range : (words end : List Token) (signed : Bool) (name : List ℕ) (range : List Token) → AreWritable (declaration_tokens words signed range name ++ end) → AreWritable range
net_range words end signed name range w =
    AllWritable-front range _ (AllWritable-back (signed_tokens signed) _ (AllWritable-back words _ (AllWritable-front (declaration_tokens words signed range name) end w)))

pub written_as : (ts us : List Token) → ts ≡ us → AreWritable ts → AreWritable us
written_as ts us e w = let P : List Token → Type 0 = λ vs. AreWritable vs in subst P e w

net_item_kept : (word : List ℕ) (signed : Bool) (width : ℕ) (name : List ℕ) (range ts : List Token)
    → IsRange width range → ts ≡ declaration_tokens (Key word ∷ []) signed range name ++ Sign (codes ";") ∷ [] →
    AreWritable ts → IsRange width (range_tokens width) × AreWritable (net_item word signed width name)
net_item_kept word signed width name range ts ranged is w =
    let v = written_as ts _ is w in
    let kept = range_kept width range ranged (net_range (Key word ∷ []) (Sign (codes ";") ∷ []) signed name range v) in
    (kept.0, net_kept (Key word ∷ []) (Sign (codes ";") ∷ []) signed width name range v kept.1)

pub item_kept : (item : ModItem) (ts : List Token) → IsItemText item ts → AreWritable ts → IsItemText item (item_tokens item) × AreWritable (item_tokens item)
item_kept (Wire signed width name) ts is w =
    let kept = net_item_kept (codes "wire") signed width name is.0 ts is.1 is.2 w in
    ((range_tokens width, kept.0, refl), kept.1)
item_kept (Reg signed width name) ts is w =
    let kept = net_item_kept (codes "reg") signed width name is.0 ts is.1 is.2 w in
    ((range_tokens width, kept.0, refl), kept.1)
item_kept (Assign name value) ts is w = ((is.0, refl), written_as ts _ is.1 w)
item_kept (Always name first condition value) ts is w = ((is.0, is.1, refl), written_as ts _ is.2 w)

append_nil : (ts : List Token) → ts ++ [] ≡ ts
append_nil [] = refl
append_nil (t ∷ ts) = ap (λ us. t ∷ us) (append_nil ts)

pub port_kept : (port : Port) (ts : List Token) → IsPortText port ts → AreWritable ts → IsPortText port (port_tokens port) × AreWritable (port_tokens port)
port_kept port ts is w =
    let words = port_words port.input in
    let v = written_as ts _ is.2 w in
    let body = written_as _ _ (sym (append_nil (declaration_tokens words port.signed is.0 port.name))) (AllWritable-back (attrs_tokens port.attrs) _ v) in
    let kept = range_kept port.width is.0 is.1 (net_range words [] port.signed port.name is.0 body) in (
      (range_tokens port.width, kept.0, refl),
      AllWritable-append (attrs_tokens port.attrs) _ (AllWritable-front (attrs_tokens port.attrs) _ v)
          (written_as _ _ (append_nil (declaration_tokens words port.signed (range_tokens port.width) port.name)) (net_kept words [] port.signed port.width port.name is.0 body kept.1)),
    )

-- what holds of each part of a list, where these tokens stand before each
pub all_kept : {A : Type 0} (R : A → List Token → Type 0) (tokens : A → List Token) (before : List Token)
    → ((x : A) (ts : List Token) → R x ts → AreWritable ts → R x (tokens x) × AreWritable (tokens x)) →
    (xs : List A) (tss : List (List Token)) → AllZip R xs tss → AreWritable (flat_map (λ ts. before ++ ts) tss)
    → AllZip R xs (map tokens xs) × AreWritable (flat_map (λ ts. before ++ ts) (map tokens xs))
all_kept R tokens before kept [] [] each w = (tt, tt)
all_kept R tokens before kept [] (ts ∷ tss) each w = absurd each
all_kept R tokens before kept (x ∷ xs) [] each w = absurd each
all_kept R tokens before kept (x ∷ xs) (ts ∷ tss) each w =
    let first = AllWritable-front (before ++ ts) _ w in
    let here = kept x ts each.0 (AllWritable-back before ts first) in
    let more = all_kept R tokens before kept xs tss each.1 (AllWritable-back (before ++ ts) _ w) in
    ((here.0, more.0), AllWritable-append (before ++ tokens x) _ (AllWritable-append before (tokens x) (AllWritable-front before ts first) here.1) more.1)

pub list_kept : (ports : List Port) (tss : List (List Token)) → AllZip IsPortText ports tss → AreWritable (joined comma tss) →
    AllZip IsPortText ports (map port_tokens ports) × AreWritable (joined comma (map port_tokens ports))
list_kept [] [] each w = (tt, tt)
list_kept [] (ts ∷ tss) each w = absurd each
list_kept (port ∷ ports) [] each w = absurd each
list_kept (port ∷ ports) (ts ∷ tss) each w =
    let here = port_kept port ts each.0 (AllWritable-front ts _ w) in
    let more = all_kept IsPortText port_tokens comma port_kept ports tss each.1 (AllWritable-back ts _ w) in
    ((here.0, more.0), AllWritable-append (port_tokens port) _ here.1 more.1)

-- the layout

pub item_lays : (item : ModItem) → AreWritable (item_tokens item) → (tail : List Token) (rest : List ℕ) → ((b : Bool) → Lays b tail (codes "\n" ++ rest)) →
    (after : Bool) → Lays after (item_tokens item ++ tail) (codes "\n" ++ (item_text item ++ rest))
item_lays (Wire signed width name) w = net_item_lays (codes "wire") signed width name w
item_lays (Reg signed width name) w = net_item_lays (codes "reg") signed width name w
item_lays (Assign name value) w = assign_lays name value w
item_lays (Always name first condition value) w = always_lays name first condition value w

pub items_lay : (items : List ModItem) → AreWritable (flat_map (λ ts. ts) (map item_tokens items)) → (tail : List Token) (rest : List ℕ) → ((b : Bool) → Lays b tail (codes "\n" ++ rest)) →
    (b : Bool) → Lays b (flat_map (λ ts. ts) (map item_tokens items) ++ tail) (codes "\n" ++ (flat_map item_text items ++ rest))
items_lay [] w tail rest next b = next b
items_lay (item ∷ items) w tail rest next b =
    let others : List Token = flat_map (λ ts. ts) (map item_tokens items) in
    let P : List ℕ → Type 0 = λ bytes. Lays b ((item_tokens item ++ others) ++ tail) (codes "\n" ++ bytes) in
    subst P (sym (append_assoc (item_text item) (flat_map item_text items) rest))
    (laid_same b _ (item_tokens item ++ (others ++ tail)) _ (append_assoc (item_tokens item) others tail)
    (item_lays item (AllWritable-front (item_tokens item) others w) (others ++ tail) (flat_map item_text items ++ rest)
    (items_lay items (AllWritable-back (item_tokens item) others w) tail rest next) b))

words_shape : (gap signed range name rest : List ℕ) (direction : List ℕ) →
    gap ++ ((codes "  " ++ direction ++ codes " wire " ++ signed ++ range ++ name) ++ rest)
    ≡ (gap ++ codes "  ") ++ (direction ++ (codes " " ++ (codes "wire" ++ (codes " " ++ ((signed ++ range ++ name) ++ rest)))))
words_shape gap signed range name rest direction = simp append_assoc

-- a port's declaration after a gap and the indent
direction_lays : (word : List ℕ) (signed : Bool) (width : ℕ) (name : List ℕ) → AreWritable (declaration_tokens (Key word ∷ Key (codes "wire") ∷ []) signed (range_tokens width) name) →
    (tail : List Token) (rest : List ℕ) → ((b : Bool) → Lays b tail rest) → (gap : List ℕ) → IsGap gap →
    Lays false (declaration_tokens (Key word ∷ Key (codes "wire") ∷ []) signed (range_tokens width) name ++ tail)
    (gap ++ ((codes "  " ++ word ++ codes " wire " ++ signed_text signed ++ range_text width ++ name) ++ rest))
direction_lays word signed width name w tail rest next gap g =
    let net : List Token = signed_tokens signed ++ (range_tokens width ++ Identifier name ∷ []) in
    let named : List ℕ = codes " " ++ ((signed_text signed ++ range_text width ++ name) ++ rest) in
    word_lays (Key word) false (gap ++ codes "  ") (Key (codes "wire") ∷ (net ++ tail)) (codes " " ++ (codes "wire" ++ named)) _ w.0 tt (gap_append gap (codes "  ") g indent_gap) (after_sign _)
    (λ b. word_lays (Key (codes "wire")) b (codes " ") (net ++ tail) named _ w.1.0 tt space_gap (not_empty 32 [] b) (net_lays signed width name w.1.1 tail rest next) refl)
    (words_shape gap (signed_text signed) (range_text width) name rest word)

words_lay : (input signed : Bool) (width : ℕ) (name : List ℕ) → AreWritable (declaration_tokens (port_words input) signed (range_tokens width) name) →
    (tail : List Token) (rest : List ℕ) → ((b : Bool) → Lays b tail rest) → (gap : List ℕ) → IsGap gap →
    Lays false (declaration_tokens (port_words input) signed (range_tokens width) name ++ tail)
    (gap ++ (((if input then codes "  input wire " else codes "  output wire ") ++ signed_text signed ++ range_text width ++ name) ++ rest))
words_lay true = direction_lays (codes "input")
words_lay false = direction_lays (codes "output")

port_shape : (attrs words signed range name rest : List ℕ) → (attrs ++ words ++ signed ++ range ++ name) ++ rest ≡ attrs ++ ((words ++ signed ++ range ++ name) ++ rest)
port_shape attrs words signed range name rest = simp append_assoc

port_lays : (port : Port) → AreWritable (port_tokens port) → (tail : List Token) (rest : List ℕ) → ((b : Bool) → Lays b tail rest) →
    Lays false (port_tokens port ++ tail) (codes "\n" ++ (port_text port ++ rest))
port_lays port w tail rest next =
    let words : List Token = declaration_tokens (port_words port.input) port.signed (range_tokens port.width) port.name in
    let start : List ℕ = if port.input then codes "  input wire " else codes "  output wire " in
    let P : List ℕ → Type 0 = λ bytes. Lays false (port_tokens port ++ tail) (codes "\n" ++ bytes) in
    subst P (sym (port_shape (attrs_text (codes "  ") port.attrs) start (signed_text port.signed) (range_text port.width) port.name rest))
    (laid_same false _ (attrs_tokens port.attrs ++ (words ++ tail)) _ (append_assoc (attrs_tokens port.attrs) words tail)
    (attrs_lay (codes "  ") indent_gap port.attrs (AllWritable-front (attrs_tokens port.attrs) words w) (codes "\n") line_gap (words ++ tail) _
    (words_lay port.input port.signed port.width port.name (AllWritable-back (attrs_tokens port.attrs) words w) tail rest next)))

ports_lay : (ports : List Port) → AreWritable (flat_map (λ ts. comma ++ ts) (map port_tokens ports)) → (tail : List Token) (rest : List ℕ) → ((b : Bool) → Lays b tail rest) →
    (b : Bool) → Lays b (flat_map (λ ts. comma ++ ts) (map port_tokens ports) ++ tail) (flat_map (λ more. codes ",\n" ++ more) (map port_text ports) ++ rest)
ports_lay [] w tail rest next b = next b
ports_lay (port ∷ ports) w tail rest next b =
    let others : List Token = flat_map (λ ts. comma ++ ts) (map port_tokens ports) in
    let after : List ℕ = flat_map (λ more. codes ",\n" ++ more) (map port_text ports) ++ rest in
    sign_lays (codes ",") [] ((port_tokens port ++ others) ++ tail) (codes "\n" ++ (port_text port ++ after)) _ no_gap refl
    (laid_same false _ (port_tokens port ++ (others ++ tail)) _ (append_assoc (port_tokens port) others tail)
    (port_lays port (AllWritable-front (port_tokens port) others w.1) (others ++ tail) after (ports_lay ports (AllWritable-back (port_tokens port) others w.1) tail rest next)))
    (append_assoc (codes ",\n" ++ port_text port) (flat_map (λ more. codes ",\n" ++ more) (map port_text ports)) rest) b

pub list_lays : (ports : List Port) → ports ≢ [] → AreWritable (joined comma (map port_tokens ports)) → (tail : List Token) (rest : List ℕ) → ((b : Bool) → Lays b tail rest) →
    Lays false (joined comma (map port_tokens ports) ++ tail) (codes "\n" ++ (joined (codes ",\n") (map port_text ports) ++ rest))
list_lays [] some w tail rest next = absurd (some refl)
list_lays (port ∷ ports) some w tail rest next =
    let others : List Token = flat_map (λ ts. comma ++ ts) (map port_tokens ports) in
    let P : List ℕ → Type 0 = λ bytes. Lays false ((port_tokens port ++ others) ++ tail) (codes "\n" ++ bytes) in
    subst P (sym (append_assoc (port_text port) (flat_map (λ more. codes ",\n" ++ more) (map port_text ports)) rest))
    (laid_same false _ (port_tokens port ++ (others ++ tail)) _ (append_assoc (port_tokens port) others tail)
    (port_lays port (AllWritable-front (port_tokens port) others w) (others ++ tail) _ (ports_lay ports (AllWritable-back (port_tokens port) others w) tail rest next)))

abbrev pub module_tail : Module → List Token
module_tail m = Sign (codes ")") ∷ Sign (codes ";") ∷ (flat_map (λ ts. ts) (map item_tokens m.items) ++ Key (codes "endmodule") ∷ [])

abbrev pub module_tokens : Module → List Token
module_tokens m =
    attrs_tokens m.attrs ++ (Key (codes "module") ∷ Identifier m.name ∷ Sign (codes "(") ∷ (joined comma (map port_tokens m.ports) ++ module_tail m))

spelling_shape : (attrs name ports items : List ℕ) →
    attrs ++ codes "module " ++ name ++ codes " (\n" ++ ports ++ codes "\n);\n" ++ items ++ codes "endmodule\n"
    ≡ [] ++ (attrs ++ (codes "module" ++ (codes " "
    ++ (name ++ (codes " " ++ (codes "("
    ++ (codes "\n" ++ (ports ++ (codes "\n"
    ++ (codes ")" ++ (codes ";" ++ (codes "\n" ++ (items ++ codes "endmodule\n")))))))))))))
spelling_shape attrs name ports items = simp append_assoc

pub module_lays : (m : Module) → m.ports ≢ [] → AreWritable (module_tokens m) → Lays false (module_tokens m) (spelling m)
module_lays m some w =
    let items : List Token = flat_map (λ ts. ts) (map item_tokens m.items) in
    let ports : List Token = joined comma (map port_tokens m.ports) in
    let head : List Token = Key (codes "module") ∷ Identifier m.name ∷ Sign (codes "(") ∷ (ports ++ module_tail m) in
    let v : AreWritable head = AllWritable-back (attrs_tokens m.attrs) head w in
    let own : AreWritable ports = AllWritable-front ports (module_tail m) v.1.1.1 in
    let body : AreWritable (items ++ Key (codes "endmodule") ∷ []) = (AllWritable-back ports (module_tail m) v.1.1.1).1.1 in
    let t5 : List ℕ = flat_map item_text m.items ++ codes "endmodule\n" in
    let t4 : List ℕ = codes ";" ++ (codes "\n" ++ t5) in
    let t3 : List ℕ = codes "\n" ++ (codes ")" ++ t4) in
    let t2 : List ℕ = codes "\n" ++ (joined (codes ",\n") (map port_text m.ports) ++ t3) in
    let t1 : List ℕ = codes " " ++ (codes "(" ++ t2) in
    let t0 : List ℕ = codes " " ++ (m.name ++ t1) in
    let l5 : (b : Bool) → Lays b (items ++ Key (codes "endmodule") ∷ []) (codes "\n" ++ t5) =
    items_lay m.items (AllWritable-front items _ body) (Key (codes "endmodule") ∷ []) (codes "endmodule\n")
    (λ b. word_lays (Key (codes "endmodule")) b (codes "\n") [] (codes "\n") (codes "\n" ++ codes "endmodule\n") (codes "endmodule", refl) tt line_gap (not_empty 10 [] b) (λ d. inl line_gap) refl) in
    let l4 : (b : Bool) → Lays b (Sign (codes ";") ∷ (items ++ Key (codes "endmodule") ∷ [])) t4 = λ b. sign_lays (codes ";") [] _ (codes "\n" ++ t5) t4 no_gap refl (l5 false) refl b in
    let l3 : (b : Bool) → Lays b (module_tail m) t3 = λ b. sign_lays (codes ")") (codes "\n") (Sign (codes ";") ∷ (items ++ Key (codes "endmodule") ∷ [])) t4 t3 line_gap refl (l4 false) refl b in
    let l2 : Lays false (ports ++ module_tail m) t2 = list_lays m.ports some own (module_tail m) t3 l3 in
    let l1 : (b : Bool) → Lays b (Sign (codes "(") ∷ (ports ++ module_tail m)) t1 = λ b. sign_lays (codes "(") (codes " ") (ports ++ module_tail m) t2 t1 space_gap refl l2 refl b in
    let l0 : (b : Bool) → Lays b (Identifier m.name ∷ Sign (codes "(") ∷ (ports ++ module_tail m)) t0 =
    λ b. word_lays (Identifier m.name) b
    (codes " ") (Sign (codes "(") ∷ (ports ++ module_tail m)) t1 t0 v.1.0 tt space_gap
    (not_empty 32 [] b) l1 refl in
    let P : List ℕ → Type 0 = λ bytes. Lays false (module_tokens m) bytes in
    subst P (sym (spelling_shape (attrs_text [] m.attrs) m.name (joined (codes ",\n") (map port_text m.ports)) (flat_map item_text m.items)))
    (attrs_lay [] no_gap m.attrs (AllWritable-front (attrs_tokens m.attrs) head w) [] no_gap head (codes "module" ++ t0)
    (λ gap g. word_lays (Key (codes "module")) false gap
    (Identifier m.name ∷ Sign (codes "(") ∷ (ports ++ module_tail m)) t0 (gap ++ (codes "module" ++ t0))
    (codes "module", refl) tt g (after_sign gap) l0 refl))

pub tokens_spell : (m : Module) (tokens : List Token) → IsModuleText m tokens → AreWritable tokens → Spells (spelling m) m
tokens_spell m tokens is writable =
    let w = written_as tokens _ is.text writable in
    let start = AllWritable-front (attrs_tokens m.attrs) _ w in
    let head = AllWritable-back (attrs_tokens m.attrs) _ w in
    let ports = list_kept m.ports is.ports is.each_port (AllWritable-front (joined comma is.ports) _ head.1.1.1) in
    let over = AllWritable-back (joined comma is.ports) _ head.1.1.1 in
    let items = all_kept IsItemText item_tokens [] item_kept m.items is.items is.each_item (AllWritable-front (flat_map (λ ts. ts) is.items) _ over.1.1) in
    let end = AllWritable-back (flat_map (λ ts. ts) is.items) _ over.1.1 in
    let v : AreWritable (module_tokens m) =
    AllWritable-append (attrs_tokens m.attrs) _ start (
      head.0,
      (
        head.1.0,
        (
          head.1.1.0,
          AllWritable-append (joined comma (map port_tokens m.ports)) (module_tail m) ports.1
              (over.0, (over.1.0, AllWritable-append (flat_map (λ ts. ts) (map item_tokens m.items)) _ items.1 end)),
        ),
      ),
    ) in
    record {
      tokens = module_tokens m;
      grammar = record {
        ports = map port_tokens m.ports;
        items = map item_tokens m.items;
        has_port = is.has_port;
        each_port = ports.0;
        each_item = items.0;
        text = refl;
      };
      layout = module_lays m is.has_port v;
    }

pub spelling_spells : (bytes : List ℕ) (m : Module) → Spells bytes m → Spells (spelling m) m
spelling_spells bytes m spells = tokens_spell m spells.tokens spells.grammar (AllWritable-laid false spells.tokens bytes spells.layout)
