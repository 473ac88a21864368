-- A layout is cut behind any of its tokens, and put together again.
use Rattle.std.proofs.Common.{◌≡◌, ◌≤◌, ◌+◌, ◌&&◌, ◌||◌, ℕ, nat_le, nat_eq, Bool, true, not, List, [], ◌∷◌, ◌++◌, length, refl, sym, ap, subst, ◌∙◌, arith, append_assoc, length-append}
use Rattle.std.specs.Cmp.Lexicographic.{pointwise}
use Rattle.std.specs.List.{list_all, starts_with}
use Rattle.std.proofs.lemmas.List.{take-append-le}
use Rattle.std.proofs.lemmas.Bool.{and_parts, leb-true}
use Rattle.vl_ast.specs.Layouts.{IsCut, LaysTo, ends_in_word}
use Rattle.vl_ast.specs.Tokens.{Token, Key, Sign, Identifier, Number, Based, IsLongest, Lays, is_word, long_signs}

pub cut-layout : (w : Bool) (front back : List Token) (bytes : List ℕ) → Lays w (front ++ back) bytes → IsCut w front back bytes
cut-layout w [] back bytes l = record { before = []; behind = bytes; whole = refl; front_lies = refl; back_lies = l }
cut-layout w (t ∷ front) back bytes (gap, written, rest, g, apart, is, longest, next, text) =
    let cut = cut-layout (is_word t) front back rest next in
    record {
      before = gap ++ written ++ cut.before;
      behind = cut.behind;
      whole = text ∙ ap (λ r. gap ++ written ++ r) cut.whole ∙ sym (append_assoc (gap ++ written) cut.before cut.behind);
      front_lies = (gap, written, cut.before, g, apart, is, subst (λ r. IsLongest t r) cut.whole longest, cut.front_lies, refl);
      back_lies = cut.back_lies;
    }

pub join-layouts : (w : Bool) (front back : List Token) (before behind : List ℕ) → LaysTo w front before behind → Lays (ends_in_word w front) back behind
    → Lays w (front ++ back) (before ++ behind)
join-layouts w [] back before behind is l = subst (λ r. Lays w back (r ++ behind)) (sym is) l
join-layouts w (t ∷ front) back before behind (gap, written, rest, g, apart, is, longest, next, text) l = (
  gap,
  written,
  rest ++ behind,
  g,
  apart,
  is,
  longest,
  join-layouts (is_word t) front back rest behind next l,
  ap (λ r. r ++ behind) text ∙ append_assoc (gap ++ written) rest behind,
)

-- ---- what follows three bytes more

same-start : (bytes behind other needle : List ℕ) → length needle ≤ length bytes → starts_with nat_eq (bytes ++ behind) needle ≡ starts_with nat_eq (bytes ++ other) needle
same-start bytes behind other needle fits =
    ap (pointwise nat_eq needle) (take-append-le (length needle) bytes behind fits ∙ sym (take-append-le (length needle) bytes other fits))

same-tests : (sign bytes behind other : List ℕ) → 3 ≤ length bytes → (signs : List (List ℕ)) → list_all (λ (s : List ℕ). nat_le (length s) 3) signs ≡ true
    → list_all (λ longer. nat_le (length longer) (length sign) || not (starts_with nat_eq (sign ++ (bytes ++ behind)) longer)) signs
    ≡ list_all (λ longer. nat_le (length longer) (length sign) || not (starts_with nat_eq (sign ++ (bytes ++ other)) longer)) signs
same-tests sign bytes behind other long [] short = refl
same-tests sign bytes behind other long (longer ∷ signs) short =
    let parts = and_parts (nat_le (length longer) 3) (list_all (λ (s : List ℕ). nat_le (length s) 3) signs) short in
    let short : length longer ≤ 3 = leb-true (length longer) 3 parts.0 in
    let fits : length longer ≤ length (sign ++ bytes) = omega (arith, short, long, length-append sign bytes) in
    let here = ap (λ r. starts_with nat_eq r longer) (sym (append_assoc sign bytes behind)) ∙ same-start (sign ++ bytes) behind other longer fits
    ∙ ap (λ r. starts_with nat_eq r longer) (append_assoc sign bytes other) in
    (λ i. (nat_le (length longer) (length sign) || not (here i)) && same-tests sign bytes behind other long signs parts.1 i)

longest-stands : (t : Token) (bytes behind other : List ℕ) → 3 ≤ length bytes → IsLongest t (bytes ++ behind) → IsLongest t (bytes ++ other)
longest-stands (Key word) bytes behind other long is = tt
longest-stands (Sign sign) bytes behind other long is = sym (same-tests sign bytes behind other long long_signs refl) ∙ is
longest-stands (Identifier name) bytes behind other long is = tt
longest-stands (Number number) bytes behind other long is = tt
longest-stands (Based number) bytes behind other long is = tt

-- tokens that end in a word take its bytes at least
takes-word : (w : Bool) (tokens : List Token) (word bytes behind : List ℕ) → LaysTo w (tokens ++ Key word ∷ []) bytes behind → length word ≤ length bytes
takes-word w [] word bytes behind (gap, written, rest, g, apart, is, longest, next, text) =
    omega (arith, ap length text, length-append (gap ++ written) rest, length-append gap written, ap length is)
takes-word w (t ∷ tokens) word bytes behind (gap, written, rest, g, apart, is, longest, next, text) =
    omega (arith, ap length text, length-append (gap ++ written) rest, takes-word (is_word t) tokens word rest behind next)

pub word-stands : (w : Bool) (tokens : List Token) (word bytes behind other : List ℕ) → 3 ≤ length word → LaysTo w (tokens ++ Key word ∷ []) bytes behind
    → LaysTo w (tokens ++ Key word ∷ []) bytes other
word-stands w [] word bytes behind other long (gap, written, rest, g, apart, is, longest, next, text) = (gap, written, rest, g, apart, is, tt, next, text)
word-stands w (t ∷ tokens) word bytes behind other long (gap, written, rest, g, apart, is, longest, next, text) =
    let some = takes-word (is_word t) tokens word rest behind next in (
      gap,
      written,
      rest,
      g,
      apart,
      is,
      longest-stands t rest behind other (omega (arith, some, long)) longest,
      word-stands (is_word t) tokens word rest behind other long next,
      text,
    )
