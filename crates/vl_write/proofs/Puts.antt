-- Texts that are put one after another.
use Rattle.std.proofs.Common.{◌≡◌, ◌==◌, ℕ, ◌-◌, Bool, true, false, List, [], ◌∷◌, ◌++◌, Vec, Global, codes, if◌then◌else◌, length, ◌≤◌, append-nil, append_assoc, true≢false, sym, ap, refl, subst}
use Rattle.std.proofs.Common.{◌∙◌, arith}
use Rattle.std.specs.Fmt.{decimal}
use Rattle.std.proofs.lemmas.Bool.Decides.{nat_tests}
use Rattle.std.specs.Prelude.{map}
use Rattle.vl_ast.specs.declared.expressions.Sized.{Sized}
use Rattle.vl_ast.specs.declared.modules.Attr.{Attr}
use Rattle.vl_ast.specs.Spelling.{attr_text, attrs_text, joined, range_text, sized_text}
use Rattle.vl_write.specs.declared.parts.Writer.{Writer}
use Rattle.vl_write.specs.inner.Puts.{Puts, base_text}

-- two texts are one
pub both : {old mid new : Writer} {first second : List ℕ} → Puts old mid first → Puts mid new second → Puts old new (first ++ second)
both {old} {mid} {new} {first} {second} one two = record {
  whole = λ enough.
      let last = two.whole enough in
      let before = one.whole last.0 in
      (before.0, last.1 ∙ ap (λ (xs : List ℕ). xs ++ second) before.1 ∙ append_assoc old.text.items first second);
}

pub puts-as : {old new : Writer} {first second : List ℕ} → first ≡ second → Puts old new first → Puts old new second
puts-as {old} {new} is one = subst (λ (text : List ℕ). Puts old new text) is one

pub none-put : (out : Writer) → Puts out out []
none-put out = record { whole = λ enough. (enough, sym (append-nil out.text.items)) }

pub refused : (old : Writer) (text : Vec ℕ Global) (more : List ℕ) → Puts old (record { text = text; wanting = true }) more
refused old text more = record { whole = λ enough. absurd (true≢false enough) }

pub one-put : (old : Writer) (text : Vec ℕ Global) (more : List ℕ) → text.items ≡ old.text.items ++ more → Puts old (record { text = text; wanting = old.wanting }) more
one-put old text more is = record { whole = λ enough. (enough, is) }

-- what a text has so far, unless memory was wanting
pub record Has (out : Writer) (text : List ℕ) : Type 0 where
  pub whole : out.wanting ≡ false → out.text.items ≡ text

pub begun : (text : Vec ℕ Global) → Has (record { text = text; wanting = false }) text.items
begun text = record { whole = λ enough. refl }

pub has-more : {old new : Writer} {text more : List ℕ} → Has old text → Puts old new more → Has new (text ++ more)
has-more {old} {new} {text} {more} has put = record {
  whole = λ enough. let last = put.whole enough in last.1 ∙ ap (λ (xs : List ℕ). xs ++ more) (has.whole last.0);
}

pub has-as : {out : Writer} {first second : List ℕ} → first ≡ second → Has out first → Has out second
has-as {out} is has = subst (λ (text : List ℕ). Has out text) is has

-- texts that are put one after another, in the order in which a text has them
pub left3 : (a b c : List ℕ) → a ++ (b ++ c) ≡ a ++ b ++ c
left3 a b c = sym (append_assoc a b c)

pub left4 : (a b c d : List ℕ) → a ++ (b ++ (c ++ d)) ≡ a ++ b ++ c ++ d
left4 a b c d = simp append_assoc

pub left5 : (a b c d e : List ℕ) → a ++ (b ++ (c ++ (d ++ e))) ≡ a ++ b ++ c ++ d ++ e
left5 a b c d e = simp append_assoc

pub part-left : (name b high c low d : List ℕ) → name ++ ((b ++ (high ++ c)) ++ (low ++ d)) ≡ name ++ b ++ high ++ c ++ low ++ d
part-left name b high c low d = simp append_assoc

pub repeat-left : (a count b part d : List ℕ) → (a ++ (count ++ b)) ++ (part ++ d) ≡ a ++ count ++ b ++ part ++ d
repeat-left a count b part d = simp append_assoc

pub binary-left : (a left b op right d : List ℕ) → (a ++ (left ++ b)) ++ (op ++ (b ++ (right ++ d))) ≡ a ++ left ++ b ++ op ++ b ++ right ++ d
binary-left a left b op right d = simp append_assoc

pub choose-left : (a test b chosen c other d : List ℕ) → (a ++ (test ++ b)) ++ ((chosen ++ c) ++ (other ++ d)) ≡ a ++ test ++ b ++ chosen ++ c ++ other ++ d
choose-left a test b chosen c other d = simp append_assoc

pub net-left : (word signed range name end : List ℕ) → (word ++ (signed ++ (range ++ name))) ++ end ≡ word ++ signed ++ range ++ name ++ end
net-left word signed range name end = simp append_assoc

pub clocked-left : (a name b first c condition value d : List ℕ)
    → a ++ (name ++ (b ++ (first ++ (c ++ (condition ++ (name ++ (b ++ (value ++ d))))))))
    ≡ a ++ name ++ b ++ first ++ c ++ condition ++ name ++ b ++ value ++ d
clocked-left a name b first c condition value d = simp append_assoc

pub header-left : (a b name c ports d items end : List ℕ) → (a ++ (b ++ (name ++ (c ++ (ports ++ d))))) ++ items ++ end ≡ a ++ b ++ name ++ c ++ ports ++ d ++ items ++ end
header-left a b name c ports d items end = simp append_assoc

-- a based number, its range, and a line of attributes
based : (width digits : List ℕ) (signed : Bool) → (width ++ base_text signed) ++ digits ≡ width ++ codes "'" ++ (if signed then codes "s" else []) ++ codes "d" ++ digits
based width digits true = append_assoc width (codes "'sd") digits ∙ left5 width (codes "'") (codes "s") (codes "d") digits
based width digits false = append_assoc width (codes "'d") digits ∙ left5 width (codes "'") [] (codes "d") digits

pub sized-is : (number : Sized) (word : List ℕ) → word ≡ base_text number.signed → (decimal number.width ++ word) ++ decimal number.bits ≡ sized_text number
sized-is number word is = ap (λ xs. (decimal number.width ++ xs) ++ decimal number.bits) is ∙ based (decimal number.width) (decimal number.bits) number.signed

pub range-one : (width : ℕ) → width ≡ 1 → [] ≡ range_text width
range-one width is = ap range_text (sym is)

not-one : (width : ℕ) → (width ≡ 1 → ⊥) → (width == 1) ≡ false
not-one width other = by (width == 1) refl where
  by : (t : Bool) → (width == 1) ≡ t → (width == 1) ≡ false
  by true e = absurd (other (grind (arith, nat_tests, e)))
  by false e = e

pub range-more : (width less : ℕ) → (width ≡ 1 → ⊥) → less ≡ width - 1 → codes "[" ++ (decimal less ++ codes ":0] ") ≡ range_text width
range-more width less other is =
    ap (λ n. codes "[" ++ (decimal n ++ codes ":0] ")) is
    ∙ left3 (codes "[") (decimal (width - 1)) (codes ":0] ")
    ∙ ap (λ (t : Bool). if t then [] else codes "[" ++ decimal (width - 1) ++ codes ":0] ") (sym (not-one width other))

pub no-attrs : (indent : List ℕ) (attrs : List Attr) → length attrs ≡ 0 → [] ≡ attrs_text indent attrs
no-attrs indent [] none = refl
no-attrs indent (attr ∷ attrs) none = absurd (omega (arith, none))

pub some-attrs : (indent : List ℕ) (attrs : List Attr) → 1 ≤ length attrs → indent ++ (codes "(* " ++ (joined (codes ", ") (map attr_text attrs) ++ codes " *)\n")) ≡ attrs_text indent attrs
some-attrs indent [] some = absurd (omega (arith, some))
some-attrs indent (attr ∷ attrs) some = left4 indent (codes "(* ") (joined (codes ", ") (map attr_text (attr ∷ attrs))) (codes " *)\n")
