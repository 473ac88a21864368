-- The line of an instance is laid out as its tokens.
use Rattle.std.proofs.Common.{◌≡◌, ◌≢◌, ℕ, Bool, true, false, List, [], ◌∷◌, ◌++◌, map, flat_map, codes, refl, sym, subst, append_assoc, Contains}
use Rattle.vl_ast.specs.declared.designs.Instance.{Instance}
use Rattle.vl_ast.specs.declared.designs.Link.{Link}
use Rattle.vl_ast.specs.Grammar.{comma}
use Rattle.vl_ast.specs.Instances.{instance_tokens, link_tokens}
use Rattle.vl_ast.specs.Spelling.{joined}
use Rattle.vl_ast.specs.Tokens.{Token, Sign, Identifier, IsGap, Lays, AreWritable, is_longest}
use Rattle.vl_ast.proofs.Layouts.{laid_same, no_gap, line_gap, space_gap, AllWritable-front, AllWritable-back}
use Rattle.vl_ast.proofs.FormLayouts.{not_empty, after_sign, sign_lays, word_lays}
use Rattle.vl_ast.proofs.TokenForms.{identifier_opens}
use Rattle.math_list.proofs.Elements.{head-in, tail-in}
use Rattle.vl_hier.specs.Written.{instance_text, link_text}

link_shape : (gap port net rest : List ℕ) → gap ++ ((codes "." ++ port ++ codes "(" ++ net ++ codes ")") ++ rest)
    ≡ gap ++ (codes "." ++ (port ++ (codes "(" ++ (net ++ (codes ")" ++ rest)))))
link_shape gap port net rest = simp append_assoc

link_lays : (link : Link) → AreWritable (link_tokens link) → (tail : List Token) (rest : List ℕ) → Lays false tail rest
    → (gap : List ℕ) → IsGap gap → Lays false (link_tokens link ++ tail) (gap ++ (link_text link ++ rest))
link_lays link w tail rest next gap g =
    let t4 : List ℕ = codes ")" ++ rest in
    let t3 : List ℕ = link.net ++ t4 in
    let t2 : List ℕ = codes "(" ++ t3 in
    let t1 : List ℕ = link.port ++ t2 in
    let l4 : (b : Bool) → Lays b (Sign (codes ")") ∷ tail) t4 = λ b. sign_lays (codes ")") [] tail rest t4 no_gap refl next refl b in
    let l3 : Lays false (Identifier link.net ∷ Sign (codes ")") ∷ tail) t3 =
    word_lays (Identifier link.net) false [] (Sign (codes ")") ∷ tail) t4 t3 w.1.1.1.0 tt no_gap (after_sign []) l4 refl in
    let l2 : (b : Bool) → Lays b (Sign (codes "(") ∷ Identifier link.net ∷ Sign (codes ")") ∷ tail) t2 =
    λ b. sign_lays (codes "(") [] (Identifier link.net ∷ Sign (codes ")") ∷ tail) t3 t2 no_gap (identifier_opens link.net t4 w.1.1.1.0.1.1) l3 refl b in
    let l1 : Lays false (Identifier link.port ∷ Sign (codes "(") ∷ Identifier link.net ∷ Sign (codes ")") ∷ tail) t1 =
    word_lays (Identifier link.port) false [] (Sign (codes "(") ∷ Identifier link.net ∷ Sign (codes ")") ∷ tail) t2 t1 w.1.0 tt no_gap (after_sign []) l2 refl in
    sign_lays (codes ".") gap (Identifier link.port ∷ Sign (codes "(") ∷ Identifier link.net ∷ Sign (codes ")") ∷ tail) t1
    (gap ++ (link_text link ++ rest)) g refl l1 (link_shape gap link.port link.net rest) false

-- further links, each behind a comma
links_lay : (links : List Link) → AreWritable (flat_map (λ ts. comma ++ ts) (map link_tokens links)) → (tail : List Token) (rest : List ℕ) → Lays false tail rest
    → Lays false (flat_map (λ ts. comma ++ ts) (map link_tokens links) ++ tail) (flat_map (λ more. codes ", " ++ more) (map link_text links) ++ rest)
links_lay [] w tail rest next = next
links_lay (link ∷ links) w tail rest next =
    let others : List Token = flat_map (λ ts. comma ++ ts) (map link_tokens links) in
    let after : List ℕ = flat_map (λ more. codes ", " ++ more) (map link_text links) ++ rest in
    sign_lays (codes ",") [] ((link_tokens link ++ others) ++ tail) (codes " " ++ (link_text link ++ after)) _ no_gap refl
    (laid_same false _ (link_tokens link ++ (others ++ tail)) _ (append_assoc (link_tokens link) others tail)
    (link_lays link (AllWritable-front (link_tokens link) others w.1) (others ++ tail) after
    (links_lay links (AllWritable-back (link_tokens link) others w.1) tail rest next) (codes " ") space_gap))
    (append_assoc (codes ", " ++ link_text link) (flat_map (λ more. codes ", " ++ more) (map link_text links)) rest) false

all_links_lay : (links : List Link) → links ≢ [] → AreWritable (joined comma (map link_tokens links)) → (tail : List Token) (rest : List ℕ) → Lays false tail rest
    → Lays false (joined comma (map link_tokens links) ++ tail) (joined (codes ", ") (map link_text links) ++ rest)
all_links_lay [] some w tail rest next = absurd (some refl)
all_links_lay (link ∷ links) some w tail rest next =
    let others : List Token = flat_map (λ ts. comma ++ ts) (map link_tokens links) in
    let P : List ℕ → Type 0 = λ bytes. Lays false ((link_tokens link ++ others) ++ tail) bytes in
    subst P (sym (append_assoc (link_text link) (flat_map (λ more. codes ", " ++ more) (map link_text links)) rest))
    (laid_same false _ (link_tokens link ++ (others ++ tail)) _ (append_assoc (link_tokens link) others tail)
    (link_lays link (AllWritable-front (link_tokens link) others w) (others ++ tail) _
    (links_lay links (AllWritable-back (link_tokens link) others w) tail rest next) [] no_gap))

-- the bytes of an open bracket before a link
opens_link : (links : List Link) → links ≢ [] → (rest : List ℕ) → (others : List ℕ) × (joined (codes ", ") (map link_text links) ++ rest ≡ codes "." ++ others)
opens_link [] some rest = absurd (some refl)
opens_link (link ∷ links) some rest = by link.port link.net (flat_map (λ more. codes ", " ++ more) (map link_text links))
  where
    by : (port net more : List ℕ) → (others : List ℕ) × (((codes "." ++ port ++ codes "(" ++ net ++ codes ")") ++ more) ++ rest ≡ codes "." ++ others)
    by port net more = (port ++ (codes "(" ++ (net ++ (codes ")" ++ (more ++ rest)))), simp append_assoc)

instance_shape : (of name links rest : List ℕ) → codes "\n" ++ ((of ++ codes " " ++ name ++ codes " (" ++ links ++ codes ");\n") ++ rest)
    ≡ codes "\n" ++ (of ++ (codes " " ++ (name ++ (codes " " ++ (codes "(" ++ (links ++ (codes ")" ++ (codes ";" ++ (codes "\n" ++ rest)))))))))
instance_shape of name links rest = simp append_assoc

pub instance_lays : (i : Instance) → i.links ≢ [] → AreWritable (instance_tokens i) → (tail : List Token) (rest : List ℕ) → ((b : Bool) → Lays b tail (codes "\n" ++ rest))
    → (b : Bool) → Lays b (instance_tokens i ++ tail) (codes "\n" ++ (instance_text i ++ rest))
instance_lays i some w tail rest next b =
    let links : List Token = joined comma (map link_tokens i.links) in
    let end : List Token = Sign (codes ")") ∷ Sign (codes ";") ∷ [] in
    let t4 : List ℕ = codes ";" ++ (codes "\n" ++ rest) in
    let t3 : List ℕ = codes ")" ++ t4 in
    let t2 : List ℕ = joined (codes ", ") (map link_text i.links) ++ t3 in
    let t1 : List ℕ = codes " " ++ (codes "(" ++ t2) in
    let t0 : List ℕ = codes " " ++ (i.name ++ t1) in
    let l4 : Lays false (Sign (codes ";") ∷ tail) t4 = sign_lays (codes ";") [] tail (codes "\n" ++ rest) t4 no_gap refl (next false) refl false in
    let l3 : Lays false (Sign (codes ")") ∷ Sign (codes ";") ∷ tail) t3 = sign_lays (codes ")") [] (Sign (codes ";") ∷ tail) t4 t3 no_gap refl l4 refl false in
    let l2 : Lays false ((links ++ end) ++ tail) t2 =
    laid_same false _ (links ++ (Sign (codes ")") ∷ Sign (codes ";") ∷ tail)) t2 (append_assoc links end tail)
    (all_links_lay i.links some (AllWritable-front links end w.1.1.1) (Sign (codes ")") ∷ Sign (codes ";") ∷ tail) t3 l3) in
    let opened = opens_link i.links some t3 in
    let l1 : (b : Bool) → Lays b (Sign (codes "(") ∷ ((links ++ end) ++ tail)) t1 =
    λ b. sign_lays (codes "(") (codes " ") ((links ++ end) ++ tail) t2 t1 space_gap
    (let P : List ℕ → Type 0 = λ bytes. is_longest (codes "(") bytes ≡ true in subst P (sym opened.1) refl) l2 refl b in
    let l0 : (b : Bool) → Lays b (Identifier i.name ∷ Sign (codes "(") ∷ ((links ++ end) ++ tail)) t0 =
    λ b. word_lays (Identifier i.name) b (codes " ") (Sign (codes "(") ∷ ((links ++ end) ++ tail)) t1 t0 w.1.0 tt space_gap (not_empty 32 [] b) l1 refl in
    word_lays (Identifier i.of) b (codes "\n") (Identifier i.name ∷ Sign (codes "(") ∷ ((links ++ end) ++ tail)) t0 _ w.0 tt line_gap (not_empty 10 [] b) l0
    (instance_shape i.of i.name (joined (codes ", ") (map link_text i.links)) rest)

pub instances_lay : (instances : List Instance) → ((i : Instance) → Contains instances i → i.links ≢ []) → AreWritable (flat_map instance_tokens instances)
    → (tail : List Token) (rest : List ℕ) → ((b : Bool) → Lays b tail (codes "\n" ++ rest))
    → (b : Bool) → Lays b (flat_map instance_tokens instances ++ tail) (codes "\n" ++ (flat_map instance_text instances ++ rest))
instances_lay [] some w tail rest next b = next b
instances_lay (i ∷ instances) some w tail rest next b =
    let others : List Token = flat_map instance_tokens instances in
    let P : List ℕ → Type 0 = λ bytes. Lays b ((instance_tokens i ++ others) ++ tail) (codes "\n" ++ bytes) in
    subst P (sym (append_assoc (instance_text i) (flat_map instance_text instances) rest))
    (laid_same b _ (instance_tokens i ++ (others ++ tail)) _ (append_assoc (instance_tokens i) others tail)
    (instance_lays i (some i (head-in i instances)) (AllWritable-front (instance_tokens i) others w) (others ++ tail) (flat_map instance_text instances ++ rest)
    (instances_lay instances (λ x there. some x (tail-in i x instances there)) (AllWritable-back (instance_tokens i) others w) tail rest next) b))
