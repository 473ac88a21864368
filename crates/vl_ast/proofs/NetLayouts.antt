-- The one text of attributes and of declared nets lays out its tokens.
use Rattle.std.proofs.Common.{◌≡◌, ℕ, ◌-◌, ◌<◌, Bool, true, false, List, [], ◌∷◌, ◌++◌, map, flat_map, codes, decimal, refl, sym, ap, subst, ◌∙◌, append_assoc, arith, inl, inr, if◌then◌else◌}
use Rattle.std.specs.Prelude.{◌==◌}
use Rattle.std.proofs.lemmas.Bool.Decides.{nat_tests}
use Rattle.vl_ast.specs.declared.modules.Attr.{Attr}
use Rattle.vl_ast.specs.Grammar.{comma, attr_tokens, attrs_tokens, signed_tokens, IsRange}
use Rattle.vl_ast.specs.Spelling.{joined, attr_text, attrs_text, signed_text, range_text}
use Rattle.vl_ast.specs.Tokens.{Token, Key, Sign, Identifier, Number, is_longest, IsGap, Lays, AreWritable}
use Rattle.vl_ast.proofs.Layouts.{laid_same, no_gap, line_gap, space_gap, gap_append, AllWritable-front, AllWritable-back}
use Rattle.vl_ast.proofs.FormLayouts.{Fits, FitsEach, after_sign, not_empty, sign_lays, word_lays, more_lays}
use Rattle.vl_ast.proofs.TokenForms.{identifier_opens}

-- parts with commas between, after a sign and a gap
pub joined_after : (ts : List Token) (tss : List (List Token)) (text : List ℕ) (texts : List (List ℕ)) → Fits ts text → FitsEach tss texts → AreWritable (joined comma (ts ∷ tss)) →
    (gap : List ℕ) → IsGap gap → (tail : List Token) (rest : List ℕ) → ((b : Bool) → Lays b tail rest) →
    Lays false (joined comma (ts ∷ tss) ++ tail) (gap ++ (joined (codes ", ") (text ∷ texts) ++ rest))
joined_after ts tss text texts fit fits w gap g tail rest next =
    let others : List Token = flat_map (λ us. comma ++ us) tss in
    let after : List ℕ = flat_map (λ more. codes ", " ++ more) texts ++ rest in
    laid_same false _ (ts ++ (others ++ tail)) _ (append_assoc ts others tail)
    (fit.lays (AllWritable-front ts others w) false gap (others ++ tail) after _ g (after_sign gap)
    (more_lays tss texts fits (AllWritable-back ts others w) tail rest next)
    (ap (λ t. gap ++ t) (append_assoc text (flat_map (λ more. codes ", " ++ more) texts) rest)))

attr_shape : (name value rest : List ℕ) → (name ++ codes " = " ++ value) ++ rest ≡ name ++ (codes " " ++ (codes "=" ++ (codes " " ++ (value ++ rest))))
attr_shape name value rest = simp append_assoc

attr_fits : (attr : Attr) → Fits (attr_tokens attr) (attr_text attr)
attr_fits attr = record {
  opens = λ w rest. let P : List ℕ → Type 0 = λ bytes. is_longest (codes "(") bytes ≡ true in subst P (sym (attr_shape attr.name (decimal attr.value) rest)) (identifier_opens attr.name _ w.0.1.1);
  lays = λ w after gap tail rest bytes g apart next text.
      let ended : List ℕ = codes " " ++ (decimal attr.value ++ rest) in
      let middle : List ℕ = codes " " ++ (codes "=" ++ ended) in
      word_lays (Identifier attr.name) after gap (Sign (codes "=") ∷ Number attr.value ∷ tail) middle bytes w.0 tt g apart
      (λ b. sign_lays (codes "=") (codes " ") (Number attr.value ∷ tail) ended middle space_gap refl
      (word_lays (Number attr.value) false (codes " ") tail rest ended w.1.1.0 tt space_gap (after_sign (codes " ")) next refl) refl b)
      (text ∙ ap (λ t. gap ++ t) (attr_shape attr.name (decimal attr.value) rest));
}

attrs_fit : (attrs : List Attr) → FitsEach (map attr_tokens attrs) (map attr_text attrs)
attrs_fit [] = tt
attrs_fit (attr ∷ attrs) = (attr_fits attr, attrs_fit attrs)

attrs_shape : (gap indent list rest : List ℕ) →
    gap ++ ((indent ++ codes "(* " ++ list ++ codes " *)\n") ++ rest) ≡ (gap ++ indent) ++ (codes "(*" ++ (codes " " ++ (list ++ (codes " " ++ (codes "*)" ++ (codes "\n" ++ rest))))))
attrs_shape gap indent list rest = simp append_assoc

-- a line of attributes after a sign, where what follows takes any gap
pub attrs_lay : (indent : List ℕ) → IsGap indent → (attrs : List Attr) → AreWritable (attrs_tokens attrs) → (gap : List ℕ) → IsGap gap →
    (tail : List Token) (rest : List ℕ) → ((g : List ℕ) → IsGap g → Lays false tail (g ++ rest)) → Lays false (attrs_tokens attrs ++ tail) (gap ++ (attrs_text indent attrs ++ rest))
attrs_lay indent i [] w gap g tail rest next = next gap g
attrs_lay indent i (attr ∷ attrs) w gap g tail rest next =
    let list : List Token = joined comma (map attr_tokens (attr ∷ attrs)) in
    let closing : List Token = Sign (codes "*)") ∷ [] in
    let ended : List ℕ = codes " " ++ (codes "*)" ++ (codes "\n" ++ rest)) in
    let inside : List ℕ = codes " " ++ (joined (codes ", ") (map attr_text (attr ∷ attrs)) ++ ended) in
    sign_lays (codes "(*") (gap ++ indent) ((list ++ closing) ++ tail) inside _ (gap_append gap indent g i) refl
    (laid_same false _ (list ++ (Sign (codes "*)") ∷ tail)) _ (append_assoc list closing tail)
    (joined_after (attr_tokens attr) (map attr_tokens attrs) (attr_text attr) (map attr_text attrs) (attr_fits attr) (attrs_fit attrs) (AllWritable-front list closing w.1)
    (codes " ") space_gap (Sign (codes "*)") ∷ tail) ended
    (λ b. sign_lays (codes "*)") (codes " ") tail (codes "\n" ++ rest) ended space_gap refl (next (codes "\n") line_gap) refl b)))
    (attrs_shape gap indent (joined (codes ", ") (map attr_text (attr ∷ attrs))) rest) false

-- the range of a net as the one text has it
abbrev pub bounds : ℕ → List Token
bounds width = Sign (codes "[") ∷ Number (width - 1) ∷ Sign (codes ":") ∷ Key (codes "0") ∷ Sign (codes "]") ∷ []

abbrev pub range_tokens : ℕ → List Token
range_tokens width = if width == 1 then [] else bounds width

range_shape : (upper name rest : List ℕ) →
    codes " " ++ (((codes "[" ++ upper ++ codes ":0] ") ++ name) ++ rest)
    ≡ codes " " ++ (codes "[" ++ (upper ++ (codes ":" ++ (codes "0" ++ (codes "]" ++ (codes " " ++ (name ++ rest)))))))
range_shape upper name rest = simp append_assoc

-- the range and the name, after a word
range_lays : (one : Bool) (width : ℕ) (name : List ℕ) → AreWritable ((if one then [] else bounds width) ++ Identifier name ∷ []) →
    (tail : List Token) (rest : List ℕ) → ((b : Bool) → Lays b tail rest) → (after : Bool) →
    Lays after (((if one then [] else bounds width) ++ Identifier name ∷ []) ++ tail) (codes " " ++ (((if one then [] else codes "[" ++ decimal (width - 1) ++ codes ":0] ") ++ name) ++ rest))
range_lays true width name w tail rest next after =
    word_lays (Identifier name) after (codes " ") tail rest _ w.0 tt space_gap (not_empty 32 [] after) next refl
range_lays false width name w tail rest next after =
    let last : List ℕ = codes " " ++ (name ++ rest) in
    let low : List ℕ = codes "0" ++ (codes "]" ++ last) in
    let upper : List ℕ = decimal (width - 1) ++ (codes ":" ++ low) in
    sign_lays (codes "[") (codes " ") (Number (width - 1) ∷ Sign (codes ":") ∷ Key (codes "0") ∷ Sign (codes "]") ∷ Identifier name ∷ tail) upper _ space_gap refl
    (word_lays (Number (width - 1)) false [] (Sign (codes ":") ∷ Key (codes "0") ∷ Sign (codes "]") ∷ Identifier name ∷ tail) (codes ":" ++ low) upper w.1.0 tt no_gap (after_sign [])
    (λ b. sign_lays (codes ":") [] (Key (codes "0") ∷ Sign (codes "]") ∷ Identifier name ∷ tail) low (codes ":" ++ low) no_gap refl
    (word_lays (Key (codes "0")) false [] (Sign (codes "]") ∷ Identifier name ∷ tail) (codes "]" ++ last) low w.1.1.1.0 tt no_gap (after_sign [])
    (λ d. sign_lays (codes "]") [] (Identifier name ∷ tail) last (codes "]" ++ last) no_gap refl
    (word_lays (Identifier name) false (codes " ") tail rest last w.1.1.1.1.1.0 tt space_gap (after_sign (codes " ")) next refl) refl d) refl) refl b) refl)
    (range_shape (decimal (width - 1)) name rest) after

-- the rest of a declaration, after its words
pub net_lays : (signed : Bool) (width : ℕ) (name : List ℕ) → AreWritable (signed_tokens signed ++ (range_tokens width ++ Identifier name ∷ [])) →
    (tail : List Token) (rest : List ℕ) → ((b : Bool) → Lays b tail rest) → (after : Bool) →
    Lays after ((signed_tokens signed ++ (range_tokens width ++ Identifier name ∷ [])) ++ tail) (codes " " ++ ((signed_text signed ++ range_text width ++ name) ++ rest))
net_lays false width name w tail rest next after = range_lays (width == 1) width name w tail rest next after
net_lays true width name w tail rest next after =
    word_lays (Key (codes "signed")) after
    (codes " ") ((range_tokens width ++ Identifier name ∷ []) ++ tail)
    (codes " " ++ ((range_text width ++ name) ++ rest)) _ w.0 tt space_gap (not_empty 32 [] after)
    (range_lays (width == 1) width name w.1 tail rest next) refl

range_of : (one : Bool) (width : ℕ) → 0 < width → (one ≡ true → width ≡ 1) → AreWritable (bounds width) →
    IsRange width (if one then [] else bounds width) × AreWritable (if one then [] else bounds width)
range_of true width some is w = (inl (is refl, refl), tt)
range_of false width some is w = (inr (some, refl), w)

-- where a net's range can be written, so can that of the one text
pub range_kept : (width : ℕ) (tokens : List Token) → IsRange width tokens → AreWritable tokens → IsRange width (range_tokens width) × AreWritable (range_tokens width)
range_kept width tokens (inl p) w =
    let P : ℕ → Type 0 = λ n. IsRange n (range_tokens n) × AreWritable (range_tokens n) in subst P (sym p.0) (inl (refl, refl), tt)
range_kept width tokens (inr p) w =
    let Q : List Token → Type 0 = λ ts. AreWritable ts in range_of (width == 1) width p.0 (λ e. grind (arith, nat_tests)) (subst Q p.1 w)
