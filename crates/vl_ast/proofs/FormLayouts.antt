-- The one text of each form of an expression lays out its tokens, where those of its parts do.
use Rattle.std.proofs.Common.{◌≡◌, ◌≢◌, ℕ, Bool, true, false, List, [], ◌∷◌, ◌++◌, flat_map, codes, decimal, refl, sym, ap, subst, ◌∙◌, append_assoc}
use Rattle.std.specs.Bool.{⊤}
use Rattle.std.proofs.lemmas.Bool.{false≢true}
use Rattle.std.specs.Str.Parse.{IsNumeral}
use Rattle.vl_ast.specs.declared.expressions.Sized.{Sized}
use Rattle.vl_ast.specs.Grammar.{comma}
use Rattle.vl_ast.specs.Spelling.{joined, sized_text}
use Rattle.vl_ast.specs.Tokens.{Token, Key, Sign, Identifier, Number, Based, IsLongest, is_longest, IsGap, Lays, IsWritable, AreWritable}
use Rattle.vl_ast.proofs.Layouts.{laid, laid_sign, laid_same, no_gap, space_gap, AllWritable-front, AllWritable-back}
use Rattle.vl_ast.proofs.TokenForms.{token_text, IsWritten-token_text, identifier_opens, numeral_opens, IsBased-sized_text}

-- these tokens, before others that may follow a word or not, are laid out by this text after any gap;
-- and the text may follow a bracket
pub record Fits (ts : List Token) (text : List ℕ) : Type 0 where
  pub opens : AreWritable ts → (rest : List ℕ) → is_longest (codes "(") (text ++ rest) ≡ true
  pub lays : AreWritable ts → (after : Bool) (gap : List ℕ) (tail : List Token) (rest bytes : List ℕ) → IsGap gap
      → (after ≡ true → gap ≢ []) → ((b : Bool) → Lays b tail rest) → bytes ≡ gap ++ (text ++ rest)
      → Lays after (ts ++ tail) bytes

-- after a sign any gap is right
pub after_sign : (gap : List ℕ) → false ≡ true → gap ≢ []
after_sign gap e = absurd (false≢true e)

pub not_empty : (byte : ℕ) (gap : List ℕ) (b : Bool) → b ≡ true → byte ∷ gap ≢ []
not_empty byte gap b e same = cc

-- one sign, and what follows it
pub sign_lays : (sign gap : List ℕ) (ts : List Token) (rest bytes : List ℕ) → IsGap gap → is_longest sign rest ≡ true → Lays false ts rest →
    bytes ≡ gap ++ (sign ++ rest) → (b : Bool) → Lays b (Sign sign ∷ ts) bytes
sign_lays sign gap ts rest bytes g longest next text b = laid_sign b sign ts gap rest bytes g longest next (text ∙ sym (append_assoc gap sign rest))

-- one word, and what follows it
pub word_lays : (t : Token) (after : Bool) (gap : List ℕ) (ts : List Token) (rest bytes : List ℕ) → IsWritable t → IsLongest t rest → IsGap gap → (after ≡ true → gap ≢ []) →
    ((b : Bool) → Lays b ts rest) → bytes ≡ gap ++ (token_text t ++ rest) → Lays after (t ∷ ts) bytes
word_lays t after gap ts rest bytes w longest g apart next text =
    laid after t ts gap (token_text t) rest bytes g apart (IsWritten-token_text t w) longest (next _) (text ∙ sym (append_assoc gap (token_text t) rest))

pub name_fits : (name : List ℕ) → Fits (Identifier name ∷ []) name
name_fits name = record {
  opens = λ w rest. identifier_opens name rest w.0.1.1;
  lays = λ w after gap tail rest bytes g apart next text. word_lays (Identifier name) after gap tail rest bytes w.0 tt g apart next text;
}

-- a text that begins with digits may follow a bracket
digits_open : (text digits others rest : List ℕ) → IsNumeral 10 digits → text ≡ digits ++ others → is_longest (codes "(") (text ++ rest) ≡ true
digits_open text digits others rest numeral split =
    let P : List ℕ → Type 0 = λ bytes. is_longest (codes "(") bytes ≡ true in
    subst P (sym (ap (λ bytes. bytes ++ rest) split ∙ append_assoc digits others rest)) (numeral_opens digits (others ++ rest) numeral)

pub literal_fits : (number : Sized) → Fits (Based number ∷ []) (sized_text number)
literal_fits number = record {
  opens = λ w rest.
      let b = IsBased-sized_text number w.0.0 w.0.1 in
      digits_open (sized_text number) b.width _ rest b.width_is.numeral
      (b.text ∙ append_assoc (b.width ++ codes "'") b.mark (b.letter ∷ b.digits) ∙ append_assoc b.width (codes "'") (b.mark ++ b.letter ∷ b.digits));
  lays = λ w after gap tail rest bytes g apart next text. word_lays (Based number) after gap tail rest bytes w.0 tt g apart next text;
}

abbrev close : List Token
close = Sign (codes ")") ∷ []

close_lays : (tail : List Token) (rest : List ℕ) → ((b : Bool) → Lays b tail rest) → (b : Bool) → Lays b (Sign (codes ")") ∷ tail) (codes ")" ++ rest)
close_lays tail rest next b = sign_lays (codes ")") [] tail rest (codes ")" ++ rest) no_gap refl (next false) refl b

-- a part and the closing bracket
closed : (ts : List Token) (text gap : List ℕ) (tail : List Token) (rest bytes : List ℕ) → Fits ts text → AreWritable ts → IsGap gap → ((b : Bool) → Lays b tail rest) →
    bytes ≡ gap ++ (text ++ (codes ")" ++ rest)) → Lays false ((ts ++ close) ++ tail) bytes
closed ts text gap tail rest bytes f w g next is =
    laid_same false _ (ts ++ (Sign (codes ")") ∷ tail)) bytes (append_assoc ts close tail)
    (f.lays w false gap (Sign (codes ")") ∷ tail) (codes ")" ++ rest) bytes g (after_sign gap) (close_lays tail rest next) is)

binary_shape : (left op right rest : List ℕ) →
    (codes "(" ++ left ++ codes " " ++ op ++ codes " " ++ right ++ codes ")") ++ rest
    ≡ codes "(" ++ (left ++ (codes " " ++ (op ++ (codes " " ++ (right ++ (codes ")" ++ rest))))))
binary_shape left op right rest = simp append_assoc

pub binary_fits : (op : List ℕ) (ts us : List Token) (left right : List ℕ) → ((rest : List ℕ) → is_longest op (codes " " ++ rest) ≡ true) → Fits ts left → Fits us right →
    Fits (Sign (codes "(") ∷ (ts ++ Sign op ∷ (us ++ close))) (codes "(" ++ left ++ codes " " ++ op ++ codes " " ++ right ++ codes ")")
binary_fits op ts us left right longest f h = record {
  opens = λ w rest. refl;
  lays = λ w after gap tail rest bytes g apart next text.
      let first : AreWritable ts = AllWritable-front ts _ w.1 in
      let second : AreWritable us = AllWritable-front us close (AllWritable-back ts (Sign op ∷ (us ++ close)) w.1).1 in
      let ended : List ℕ = codes " " ++ (right ++ (codes ")" ++ rest)) in
      let middle : List ℕ = codes " " ++ (op ++ ended) in
      sign_lays (codes "(") gap _ (left ++ middle) bytes g (f.opens first middle)
      (laid_same false _ (ts ++ (Sign op ∷ ((us ++ close) ++ tail))) _ (append_assoc ts (Sign op ∷ (us ++ close)) tail)
      (f.lays first false [] _ middle (left ++ middle) no_gap (after_sign [])
      (λ b. sign_lays op (codes " ") _ ended middle space_gap (longest _)
      (closed us right (codes " ") tail rest ended h second space_gap next refl) refl b) refl))
      (text ∙ ap (λ t. gap ++ t) (binary_shape left op right rest)) after;
}

unary_shape : (op part rest : List ℕ) →
    (codes "(" ++ op ++ codes " " ++ part ++ codes ")") ++ rest ≡ codes "(" ++ (op ++ (codes " " ++ (part ++ (codes ")" ++ rest))))
unary_shape op part rest = simp append_assoc

pub unary_fits : (op : List ℕ) (ts : List Token) (part : List ℕ) → ((rest : List ℕ) → is_longest (codes "(") (op ++ (codes " " ++ rest)) ≡ true) →
    ((rest : List ℕ) → is_longest op (codes " " ++ rest) ≡ true) → Fits ts part →
    Fits (Sign (codes "(") ∷ Sign op ∷ (ts ++ close)) (codes "(" ++ op ++ codes " " ++ part ++ codes ")")
unary_fits op ts part bracket longest f = record {
  opens = λ w rest. refl;
  lays = λ w after gap tail rest bytes g apart next text.
      let first : AreWritable ts = AllWritable-front ts close w.1.1 in
      let ended : List ℕ = codes " " ++ (part ++ (codes ")" ++ rest)) in
      sign_lays (codes "(") gap (Sign op ∷ ((ts ++ close) ++ tail)) (op ++ ended) bytes g (bracket _)
      (sign_lays op [] _ ended (op ++ ended) no_gap (longest _) (closed ts part (codes " ") tail rest ended f first space_gap next refl) refl false)
      (text ∙ ap (λ t. gap ++ t) (unary_shape op part rest)) after;
}

shift_shape : (part op amount rest : List ℕ) →
    (codes "(" ++ part ++ codes " " ++ op ++ codes " " ++ amount ++ codes ")") ++ rest
    ≡ codes "(" ++ (part ++ (codes " " ++ (op ++ (codes " " ++ (amount ++ (codes ")" ++ rest))))))
shift_shape part op amount rest = simp append_assoc

pub shift_fits : (op : List ℕ) (ts : List Token) (part : List ℕ) (amount : Sized) → ((rest : List ℕ) → is_longest op (codes " " ++ rest) ≡ true) → Fits ts part →
    Fits (Sign (codes "(") ∷ (ts ++ Sign op ∷ Based amount ∷ close)) (codes "(" ++ part ++ codes " " ++ op ++ codes " " ++ sized_text amount ++ codes ")")
shift_fits op ts part amount longest f = record {
  opens = λ w rest. refl;
  lays = λ w after gap tail rest bytes g apart next text.
      let first : AreWritable ts = AllWritable-front ts _ w.1 in
      let number : IsWritable (Based amount) = (AllWritable-back ts (Sign op ∷ Based amount ∷ close) w.1).1.0 in
      let ended : List ℕ = codes " " ++ (sized_text amount ++ (codes ")" ++ rest)) in
      let middle : List ℕ = codes " " ++ (op ++ ended) in
      sign_lays (codes "(") gap _ (part ++ middle) bytes g (f.opens first middle)
      (laid_same false _ (ts ++ (Sign op ∷ Based amount ∷ Sign (codes ")") ∷ tail)) _ (append_assoc ts (Sign op ∷ Based amount ∷ close) tail)
      (f.lays first false [] _ middle (part ++ middle) no_gap (after_sign [])
      (λ b. sign_lays op (codes " ") (Based amount ∷ Sign (codes ")") ∷ tail) ended middle space_gap (longest _)
      (word_lays (Based amount) false (codes " ") (Sign (codes ")") ∷ tail) (codes ")" ++ rest) ended number tt space_gap (after_sign (codes " ")) (close_lays tail rest next) refl) refl b) refl))
      (text ∙ ap (λ t. gap ++ t) (shift_shape part op (sized_text amount) rest)) after;
}

choose_shape : (test chosen other rest : List ℕ) →
    (codes "(" ++ test ++ codes " ? " ++ chosen ++ codes " : " ++ other ++ codes ")") ++ rest
    ≡ codes "(" ++ (test ++ (codes " " ++ (codes "?" ++ (codes " " ++ (chosen ++ (codes " " ++ (codes ":" ++ (codes " " ++ (other ++ (codes ")" ++ rest))))))))))
choose_shape test chosen other rest = simp append_assoc

pub choose_fits : (ts us vs : List Token) (test chosen other : List ℕ) → Fits ts test → Fits us chosen → Fits vs other →
    Fits (Sign (codes "(") ∷ (ts ++ Sign (codes "?") ∷ (us ++ Sign (codes ":") ∷ (vs ++ close)))) (codes "(" ++ test ++ codes " ? " ++ chosen ++ codes " : " ++ other ++ codes ")")
choose_fits ts us vs test chosen other f h k = record {
  opens = λ w rest. refl;
  lays = λ w after gap tail rest bytes g apart next text.
      let first : AreWritable ts = AllWritable-front ts _ w.1 in
      let more : AreWritable (us ++ Sign (codes ":") ∷ (vs ++ close)) = (AllWritable-back ts (Sign (codes "?") ∷ (us ++ Sign (codes ":") ∷ (vs ++ close))) w.1).1 in
      let second : AreWritable us = AllWritable-front us _ more in
      let third : AreWritable vs = AllWritable-front vs close (AllWritable-back us (Sign (codes ":") ∷ (vs ++ close)) more).1 in
      let ended : List ℕ = codes " " ++ (other ++ (codes ")" ++ rest)) in
      let colon : List ℕ = codes " " ++ (codes ":" ++ ended) in
      let mark : List ℕ = codes " " ++ (codes "?" ++ (codes " " ++ (chosen ++ colon))) in
      sign_lays (codes "(") gap _ (test ++ mark) bytes g (f.opens first mark)
      (laid_same false _ (ts ++ (Sign (codes "?") ∷ ((us ++ Sign (codes ":") ∷ (vs ++ close)) ++ tail))) _ (append_assoc ts _ tail)
      (f.lays first false [] _ mark (test ++ mark) no_gap (after_sign [])
      (λ b. sign_lays (codes "?") (codes " ") _ (codes " " ++ (chosen ++ colon)) mark space_gap refl
      (laid_same false _ (us ++ (Sign (codes ":") ∷ ((vs ++ close) ++ tail))) _ (append_assoc us _ tail)
      (h.lays second false (codes " ") _ colon (codes " " ++ (chosen ++ colon)) space_gap (after_sign (codes " "))
      (λ d. sign_lays (codes ":") (codes " ") _ ended colon space_gap refl (closed vs other (codes " ") tail rest ended k third space_gap next refl) refl d) refl)) refl b) refl))
      (text ∙ ap (λ t. gap ++ t) (choose_shape test chosen other rest)) after;
}

cast_shape : (word part rest : List ℕ) → (word ++ codes " (" ++ part ++ codes ")") ++ rest ≡ word ++ (codes " " ++ (codes "(" ++ (part ++ (codes ")" ++ rest))))
cast_shape word part rest = simp append_assoc

-- a word and a part in brackets
pub cast_fits : (word : List ℕ) (ts : List Token) (part : List ℕ) → ((rest : List ℕ) → is_longest (codes "(") (word ++ rest) ≡ true) → Fits ts part →
    Fits (Key word ∷ Sign (codes "(") ∷ (ts ++ close)) (word ++ codes " (" ++ part ++ codes ")")
cast_fits word ts part bracket f = record {
  opens = λ w rest. let P : List ℕ → Type 0 = λ bytes. is_longest (codes "(") bytes ≡ true in subst P (sym (cast_shape word part rest)) (bracket _);
  lays = λ w after gap tail rest bytes g apart next text.
      let first : AreWritable ts = AllWritable-front ts close w.1.1 in
      let ended : List ℕ = part ++ (codes ")" ++ rest) in
      let middle : List ℕ = codes " " ++ (codes "(" ++ ended) in
      word_lays (Key word) after gap (Sign (codes "(") ∷ ((ts ++ close) ++ tail)) middle bytes w.0 tt g apart
      (λ b. sign_lays (codes "(") (codes " ") ((ts ++ close) ++ tail) ended middle space_gap (f.opens first _) (closed ts part [] tail rest ended f first no_gap next refl) refl b)
      (text ∙ ap (λ t. gap ++ t) (cast_shape word part rest));
}

repeat_shape : (count part rest : List ℕ) →
    (codes "{" ++ count ++ codes " {" ++ part ++ codes "}}") ++ rest ≡ codes "{" ++ (count ++ (codes " " ++ (codes "{" ++ (part ++ (codes "}" ++ (codes "}" ++ rest))))))
repeat_shape count part rest = simp append_assoc

pub repeat_fits : (count : ℕ) (ts : List Token) (part : List ℕ) → Fits ts part →
    Fits (Sign (codes "{") ∷ Number count ∷ Sign (codes "{") ∷ (ts ++ Sign (codes "}") ∷ Sign (codes "}") ∷ [])) (codes "{" ++ decimal count ++ codes " {" ++ part ++ codes "}}")
repeat_fits count ts part f = record {
  opens = λ w rest. refl;
  lays = λ w after gap tail rest bytes g apart next text.
      let first : AreWritable ts = AllWritable-front ts _ w.1.1.1 in
      let outer : List ℕ = codes "}" ++ rest in
      let ended : List ℕ = part ++ (codes "}" ++ outer) in
      let middle : List ℕ = codes " " ++ (codes "{" ++ ended) in
      let braces : List Token = Sign (codes "}") ∷ Sign (codes "}") ∷ [] in
      sign_lays (codes "{") gap (Number count ∷ Sign (codes "{") ∷ ((ts ++ braces) ++ tail)) (decimal count ++ middle) bytes g refl
      (word_lays (Number count) false [] (Sign (codes "{") ∷ ((ts ++ braces) ++ tail)) middle (decimal count ++ middle) w.1.0 tt no_gap (after_sign [])
      (λ b. sign_lays (codes "{") (codes " ") ((ts ++ braces) ++ tail) ended middle space_gap refl
      (laid_same false _ (ts ++ (Sign (codes "}") ∷ Sign (codes "}") ∷ tail)) ended (append_assoc ts braces tail)
      (f.lays first false [] (Sign (codes "}") ∷ Sign (codes "}") ∷ tail) (codes "}" ++ outer) ended no_gap (after_sign [])
      (λ d. sign_lays (codes "}") [] (Sign (codes "}") ∷ tail) outer (codes "}" ++ outer) no_gap refl
      (sign_lays (codes "}") [] tail rest outer no_gap refl (next false) refl false) refl d) refl)) refl b) refl)
      (text ∙ ap (λ t. gap ++ t) (repeat_shape (decimal count) part rest)) after;
}

bit_shape : (name place rest : List ℕ) → (name ++ codes " [" ++ place ++ codes "]") ++ rest ≡ name ++ (codes " " ++ (codes "[" ++ (place ++ (codes "]" ++ rest))))
bit_shape name place rest = simp append_assoc

pub bit_fits : (name : List ℕ) (place : ℕ) → Fits (Identifier name ∷ Sign (codes "[") ∷ Number place ∷ Sign (codes "]") ∷ []) (name ++ codes " [" ++ decimal place ++ codes "]")
bit_fits name place = record {
  opens = λ w rest. let P : List ℕ → Type 0 = λ bytes. is_longest (codes "(") bytes ≡ true in subst P (sym (bit_shape name (decimal place) rest)) (identifier_opens name _ w.0.1.1);
  lays = λ w after gap tail rest bytes g apart next text.
      let ended : List ℕ = decimal place ++ (codes "]" ++ rest) in
      let middle : List ℕ = codes " " ++ (codes "[" ++ ended) in
      word_lays (Identifier name) after gap (Sign (codes "[") ∷ Number place ∷ Sign (codes "]") ∷ tail) middle bytes w.0 tt g apart
      (λ b. sign_lays (codes "[") (codes " ") (Number place ∷ Sign (codes "]") ∷ tail) ended middle space_gap refl
      (word_lays (Number place) false [] (Sign (codes "]") ∷ tail) (codes "]" ++ rest) ended w.1.1.0 tt no_gap (after_sign [])
      (λ d. sign_lays (codes "]") [] tail rest (codes "]" ++ rest) no_gap refl (next false) refl d) refl) refl b)
      (text ∙ ap (λ t. gap ++ t) (bit_shape name (decimal place) rest));
}

part_shape : (name high low rest : List ℕ) →
    (name ++ codes " [" ++ high ++ codes ":" ++ low ++ codes "]") ++ rest
    ≡ name ++ (codes " " ++ (codes "[" ++ (high ++ (codes ":" ++ (low ++ (codes "]" ++ rest))))))
part_shape name high low rest = simp append_assoc

pub part_fits : (name : List ℕ) (high low : ℕ) →
    Fits (Identifier name ∷ Sign (codes "[") ∷ Number high ∷ Sign (codes ":") ∷ Number low ∷ Sign (codes "]") ∷ []) (name ++ codes " [" ++ decimal high ++ codes ":" ++ decimal low ++ codes "]")
part_fits name high low = record {
  opens = λ w rest. let P : List ℕ → Type 0 = λ bytes. is_longest (codes "(") bytes ≡ true in subst P (sym (part_shape name (decimal high) (decimal low) rest)) (identifier_opens name _ w.0.1.1);
  lays = λ w after gap tail rest bytes g apart next text.
      let ended : List ℕ = decimal low ++ (codes "]" ++ rest) in
      let second : List ℕ = codes ":" ++ ended in
      let middle : List ℕ = codes " " ++ (codes "[" ++ (decimal high ++ second)) in
      word_lays (Identifier name) after gap (Sign (codes "[") ∷ Number high ∷ Sign (codes ":") ∷ Number low ∷ Sign (codes "]") ∷ tail) middle bytes w.0 tt g apart
      (λ b. sign_lays (codes "[") (codes " ") (Number high ∷ Sign (codes ":") ∷ Number low ∷ Sign (codes "]") ∷ tail) (decimal high ++ second) middle space_gap refl
      (word_lays (Number high) false [] (Sign (codes ":") ∷ Number low ∷ Sign (codes "]") ∷ tail) second (decimal high ++ second) w.1.1.0 tt no_gap (after_sign [])
      (λ d. sign_lays (codes ":") [] (Number low ∷ Sign (codes "]") ∷ tail) ended second no_gap refl
      (word_lays (Number low) false [] (Sign (codes "]") ∷ tail) (codes "]" ++ rest) ended w.1.1.1.1.0 tt no_gap (after_sign [])
      (λ h. sign_lays (codes "]") [] tail rest (codes "]" ++ rest) no_gap refl (next false) refl h) refl) refl d) refl) refl b)
      (text ∙ ap (λ t. gap ++ t) (part_shape name (decimal high) (decimal low) rest));
}

-- each list of tokens with its text
abbrev pub FitsEach : List (List Token) → List (List ℕ) → Type 0
FitsEach [] [] = ⊤
FitsEach [] (text ∷ texts) = ⊥
FitsEach (ts ∷ tss) [] = ⊥
FitsEach (ts ∷ tss) (text ∷ texts) = Fits ts text × FitsEach tss texts

-- the parts after the first, each after a comma
pub more_lays : (tss : List (List Token)) (texts : List (List ℕ)) → FitsEach tss texts → AreWritable (flat_map (λ ts. comma ++ ts) tss) →
    (tail : List Token) (rest : List ℕ) → ((b : Bool) → Lays b tail rest) →
    (b : Bool) → Lays b (flat_map (λ ts. comma ++ ts) tss ++ tail) (flat_map (λ text. codes ", " ++ text) texts ++ rest)
more_lays [] [] fits w tail rest next b = next b
more_lays [] (text ∷ texts) fits w tail rest next b = absurd fits
more_lays (ts ∷ tss) [] fits w tail rest next b = absurd fits
more_lays (ts ∷ tss) (text ∷ texts) fits w tail rest next b =
    let others : List Token = flat_map (λ us. comma ++ us) tss in
    let after : List ℕ = flat_map (λ more. codes ", " ++ more) texts ++ rest in
    sign_lays (codes ",") [] ((ts ++ others) ++ tail) (codes " " ++ (text ++ after)) _ no_gap refl
    (laid_same false _ (ts ++ (others ++ tail)) _ (append_assoc ts others tail)
    (fits.0.lays (AllWritable-front ts others w.1) false (codes " ") (others ++ tail) after (codes " " ++ (text ++ after)) space_gap (after_sign (codes " "))
    (more_lays tss texts fits.1 (AllWritable-back ts others w.1) tail rest next) refl))
    (append_assoc (codes ", " ++ text) (flat_map (λ more. codes ", " ++ more) texts) rest) b

concat_shape : (joined' rest : List ℕ) → (codes "{" ++ joined' ++ codes "}") ++ rest ≡ codes "{" ++ (joined' ++ (codes "}" ++ rest))
concat_shape joined' rest = simp append_assoc

-- the parts with commas between, right after an opening bracket
pub joined_lays : (tss : List (List Token)) (texts : List (List ℕ)) → FitsEach tss texts → AreWritable (joined comma tss) →
    (tail : List Token) (rest : List ℕ) → ((b : Bool) → Lays b tail rest) → Lays false (joined comma tss ++ tail) (joined (codes ", ") texts ++ rest)
joined_lays [] [] fits w tail rest next = next false
joined_lays [] (text ∷ texts) fits w tail rest next = absurd fits
joined_lays (ts ∷ tss) [] fits w tail rest next = absurd fits
joined_lays (ts ∷ tss) (text ∷ texts) fits w tail rest next =
    let others : List Token = flat_map (λ us. comma ++ us) tss in
    let after : List ℕ = flat_map (λ more. codes ", " ++ more) texts ++ rest in
    laid_same false _ (ts ++ (others ++ tail)) _ (append_assoc ts others tail)
    (fits.0.lays (AllWritable-front ts others w) false [] (others ++ tail) after _ no_gap (after_sign [])
    (more_lays tss texts fits.1 (AllWritable-back ts others w) tail rest next) (append_assoc text (flat_map (λ more. codes ", " ++ more) texts) rest))

pub concat_fits : (tss : List (List Token)) (texts : List (List ℕ)) → FitsEach tss texts →
    Fits (Sign (codes "{") ∷ (joined comma tss ++ Sign (codes "}") ∷ [])) (codes "{" ++ joined (codes ", ") texts ++ codes "}")
concat_fits tss texts fits = record {
  opens = λ w rest. refl;
  lays = λ w after gap tail rest bytes g apart next text.
      let brace : List Token = Sign (codes "}") ∷ [] in
      sign_lays (codes "{") gap ((joined comma tss ++ brace) ++ tail) (joined (codes ", ") texts ++ (codes "}" ++ rest)) bytes g refl
      (laid_same false _ (joined comma tss ++ (Sign (codes "}") ∷ tail)) _ (append_assoc (joined comma tss) brace tail)
      (joined_lays tss texts fits (AllWritable-front (joined comma tss) brace w.1) (Sign (codes "}") ∷ tail) (codes "}" ++ rest)
      (λ b. sign_lays (codes "}") [] tail rest (codes "}" ++ rest) no_gap refl (next false) refl b)))
      (text ∙ ap (λ t. gap ++ t) (concat_shape (joined (codes ", ") texts) rest)) after;
}
