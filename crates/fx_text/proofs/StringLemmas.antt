-- A string, read byte by byte, and its form.
use Rattle.std.proofs.Common.{◌≡◌, ℕ, ◌+◌, ◌<◌, ◌≤◌, ◌≢◌, eqb, None, Some, Option, List, [], ◌∷◌, ◌++◌, length, get_or, drop, refl, sym, ap, inl, inr, ◌∙◌, append_assoc, append-nil, arith, rules}
use Rattle.std.specs.Prelude.{◌⊎◌}
use Rattle.std.proofs.lemmas.Bool.{cond-true, cond-false}
use Rattle.std.proofs.lemmas.Bool.Decides.{nat_tests}
use Rattle.std.proofs.lemmas.List.{drop_more}
use Rattle.fx_text.specs.Strings.{string_behind, prepend, escaped}

pub prepend-nil : (r : Option (List ℕ × List ℕ)) → prepend [] r ≡ r
prepend-nil None = refl
prepend-nil (Some (content, rest)) = refl

pub prepend-prepend : (front next : List ℕ) (r : Option (List ℕ × List ℕ)) → prepend front (prepend next r) ≡ prepend (front ++ next) r
prepend-prepend front next None = refl
prepend-prepend front next (Some (content, rest)) = ap (λ text. Some (text, rest)) (sym (append_assoc front next content))

-- a byte that stands for itself
pub behind-plain : (b : ℕ) (text : List ℕ) → b ≢ 34 → (length text ≡ 0) ⊎ (b ≢ 92) → string_behind (b ∷ text) ≡ prepend (b ∷ []) (string_behind text)
behind-plain b [] open_ plain = cond-false (eqb b 34) (Some ([], [])) None (search (rules, nat_tests))
behind-plain b (c ∷ text) open_ (inl none) = absurd (omega arith)
behind-plain b (c ∷ text) open_ (inr other) =
    cond-false (eqb b 34) (Some ([], c ∷ text)) _ (search (rules, nat_tests))
    ∙ cond-false (eqb b 92) (prepend (escaped c) (string_behind text)) (prepend (b ∷ []) (string_behind (c ∷ text))) (search (rules, nat_tests))

pub behind-escape : (b c : ℕ) (text : List ℕ) → b ≡ 92 → string_behind (b ∷ c ∷ text) ≡ prepend (escaped c) (string_behind text)
behind-escape b c text is =
    cond-false (eqb b 34) (Some ([], c ∷ text)) _ (search (rules, nat_tests))
    ∙ cond-true (eqb b 92) (prepend (escaped c) (string_behind text)) (prepend (b ∷ []) (string_behind (c ∷ text))) (search (rules, nat_tests))

pub behind-close : (b : ℕ) (text : List ℕ) → b ≡ 34 → string_behind (b ∷ text) ≡ Some ([], text)
behind-close b [] is = cond-true (eqb b 34) (Some ([], [])) None (search (rules, nat_tests))
behind-close b (c ∷ text) is = cond-true (eqb b 34) (Some ([], c ∷ text)) _ (search (rules, nat_tests))

-- one byte put
pub put_plain : (content after text : List ℕ) → 0 < length text → get_or text 0 0 ≢ 34
    → (length text ≤ 1) ⊎ (get_or text 0 0 ≢ 92) → after ≡ content ++ get_or text 0 0 ∷ []
    → prepend after (string_behind (drop 1 text)) ≡ prepend content (string_behind text)
put_plain content after [] some inside plain is = absurd (omega arith)
put_plain content after (b ∷ text) some inside plain is =
    ap (λ front. prepend front (string_behind text)) is
    ∙ sym (prepend-prepend content (b ∷ []) (string_behind text))
    ∙ ap (prepend content) (sym (behind-plain b text inside (elim plain [ inl lone ↦ inl (omega arith) | inr other ↦ inr other ])))

-- a backslash and a byte put
pub put_escaped : (content after text : List ℕ) → 1 < length text → get_or text 0 0 ≡ 92
    → after ≡ content ++ escaped (get_or text 1 0)
    → prepend after (string_behind (drop 2 text)) ≡ prepend content (string_behind text)
put_escaped content after [] some is put = absurd (omega arith)
put_escaped content after (b ∷ []) some is put = absurd (omega arith)
put_escaped content after (b ∷ c ∷ text) some is put =
    ap (λ front. prepend front (string_behind text)) put
    ∙ sym (prepend-prepend content (escaped c) (string_behind text))
    ∙ ap (prepend content) (sym (behind-escape b c text is))

-- the quote that closes
pub closed : (content text : List ℕ) (place : ℕ) → place < length text → get_or text place 0 ≡ 34
    → prepend content (string_behind (drop place text)) ≡ string_behind text
    → string_behind text ≡ Some (content, drop (place + 1) text)
closed content text place inside is read =
    sym read
    ∙ ap (λ left. prepend content (string_behind left)) (drop_more text place 0 inside)
    ∙ ap (prepend content) (behind-close (get_or text place 0) (drop (place + 1) text) is)
    ∙ ap (λ whole. Some (whole, drop (place + 1) text)) (append-nil content)
