-- Facts about lines, and that bytes stop being the beginning of a text at one line only. Crates above may cite them.
use Rattle.std.proofs.Common.{◌≡◌, ℕ, ◌+◌, true, false, cond, not, List, [], ◌∷◌, ◌++◌, ◌⊎◌, inl, inr, count_by, refl, sym, ◌∙◌, ap, subst, append_assoc, append-nil}
use Rattle.std.specs.Prelude.{◌==◌}
use Rattle.std.specs.List.{list_all}
use Rattle.std.proofs.lemmas.Bool.{and_parts, and_from, not-true}
use Rattle.std.proofs.lemmas.List.Folds.{list_all-append}
use Rattle.std.proofs.lemmas.List.Sums.{sum_by-append, sum_by-cons}
use Rattle.fx_io.specs.FaultLine.{IsOneLine, IsPrefix, AreWholeLines, Stops, IsFaultLine}

-- a line's front and its rest
pub line_parts : (front rest : List ℕ) → IsOneLine (front ++ rest) → IsOneLine front × IsOneLine rest
line_parts front rest h = and_parts _ _ (sym (list_all-append (λ byte. not (byte == 10)) front rest) ∙ h)

pub line_join : (front rest : List ℕ) → IsOneLine front → IsOneLine rest → IsOneLine (front ++ rest)
line_join front rest f r = list_all-append (λ byte. not (byte == 10)) front rest ∙ and_from _ _ f r

-- the newlines of two parts are those of the whole
pub count_append : (xs ys : List ℕ) → count_by (λ byte. byte == 10) (xs ++ ys) ≡ count_by (λ byte. byte == 10) xs + count_by (λ byte. byte == 10) ys
count_append xs ys = sum_by-append (λ byte. cond (byte == 10) 1 0) xs ys

-- a line counts no newline
pub count_none : (xs : List ℕ) → IsOneLine xs → count_by (λ byte. byte == 10) xs ≡ 0
count_none [] h = refl
count_none (x ∷ xs) h =
    let parts = and_parts (not (x == 10)) (list_all (λ byte. not (byte == 10)) xs) h in
    sum_by-cons (λ byte. cond (byte == 10) 1 0) x xs ∙ ap (λ t. cond t 1 0 + count_by (λ byte. byte == 10) xs) (not-true (x == 10) parts.0) ∙ ap (λ n. 0 + n) (count_none xs parts.1)

-- a text cut in two ways: the bytes between the two cuts, the second not being before the first
record Between (one after other after_other : List ℕ) : Type 0 where
  pub between : List ℕ
  pub longer : other ≡ one ++ between
  pub shorter : after ≡ between ++ after_other

-- of two cuts of a text one is not before the other
cuts : (one after other after_other : List ℕ) → one ++ after ≡ other ++ after_other → Between one after other after_other ⊎ Between other after_other one after
cuts [] after other after_other e = inl (record { between = other; longer = refl; shorter = e })
cuts (x ∷ one) after [] after_other e = inr (record { between = x ∷ one; longer = refl; shorter = sym e })
cuts (x ∷ one) after (y ∷ other) after_other e =
    let same : x ≡ y = cc in
    let rest : one ++ after ≡ other ++ after_other = cc in
    joined x y one after other after_other same (cuts one after other after_other rest)
  where
    joined : (x y : ℕ) (one after other after_other : List ℕ) → x ≡ y
        → Between one after other after_other ⊎ Between other after_other one after
        → Between (x ∷ one) after (y ∷ other) after_other ⊎ Between (y ∷ other) after_other (x ∷ one) after
    joined x y one after other after_other same (inl h) = inl (record { between = h.between; longer = cc; shorter = h.shorter })
    joined x y one after other after_other same (inr h) = inr (record { between = h.between; longer = cc; shorter = h.shorter })

-- the end of bytes that end with a newline does too, or is empty
last_newline : (one between front : List ℕ) → one ++ between ≡ front ++ 10 ∷ [] → AreWholeLines between
last_newline [] between front e = inr (front, e)
last_newline (x ∷ []) between [] e = inl cc
last_newline (x ∷ y ∷ one) between [] e = absurd cc
last_newline (x ∷ one) between (y ∷ front) e = last_newline one between front cc

-- what is left of whole lines, wherever they are cut, ends with a newline or is empty
whole_end : (one between other : List ℕ) → other ≡ one ++ between → AreWholeLines other → AreWholeLines between
whole_end [] between other cut (inl none) = inl (sym cut ∙ none)
whole_end (x ∷ one) between other cut (inl none) = absurd cc
whole_end one between other cut (inr (front, ends)) = last_newline one between front (sym cut ∙ ends)

-- bytes with a newline among them are no line
not_one_line : (front rest : List ℕ) → IsOneLine (front ++ 10 ∷ rest) → ⊥
not_one_line front rest one =
    let bad : false ≡ true = (line_parts front (10 ∷ rest) one).1 in
    absurd cc

-- the first newline of bytes is the one that ends their first line
first_newline_within : (line front more rest : List ℕ) → IsOneLine line → front ++ 10 ∷ rest ≡ line ++ 10 ∷ more → (left : List ℕ) × (front ++ 10 ∷ [] ≡ (line ++ 10 ∷ []) ++ left)
first_newline_within [] [] more rest one e = ([], refl)
first_newline_within [] (x ∷ front) more rest one e = (front ++ 10 ∷ [], cc)
first_newline_within (y ∷ line) [] more rest one e =
    let newline : y ≡ 10 = cc in
    absurd (not_one_line [] line (subst (λ b. IsOneLine (b ∷ line)) newline one))
first_newline_within (y ∷ line) (x ∷ front) more rest one e =
    let same : x ≡ y = cc in
    let tail : front ++ 10 ∷ rest ≡ line ++ 10 ∷ more = cc in
    let within = first_newline_within line front more rest (and_parts _ _ one).1 tail in
    (within.0, ap (λ b. b ∷ (front ++ 10 ∷ [])) same ∙ ap (λ l. y ∷ l) within.1)

module _ (IsText : List ℕ → Type 0) where
  -- Bytes that stop at a line begin no text that goes on past it by a whole line.
  none_past : (before after between after_other : List ℕ) → Stops IsText before after → after ≡ between ++ after_other → AreWholeLines between → IsPrefix IsText (before ++ between) → between ≡ []
  none_past before after between after_other stops cut (inl none) begins = none
  none_past before after between after_other (inl one) cut (inr (front, ends)) begins =
      absurd (not_one_line front [] (subst IsOneLine ends (line_parts between after_other (subst IsOneLine cut one)).0))
  none_past before after between after_other (inr (line, more, one, split, stops)) cut (inr (front, ends)) begins =
      let both : front ++ 10 ∷ after_other ≡ line ++ 10 ∷ more = sym (append_assoc front (10 ∷ []) after_other) ∙ ap (λ l. l ++ after_other) (sym ends) ∙ sym cut ∙ split in
      let within = first_newline_within line front more after_other one both in
      let longer : before ++ between ≡ (before ++ (line ++ 10 ∷ [])) ++ within.0 = ap (λ l. before ++ l) (ends ∙ within.1) ∙ sym (append_assoc before (line ++ 10 ∷ []) within.0) in
      absurd (stops (record {
        rest = within.0 ++ begins.rest;
        is_text =
            subst IsText (ap (λ l. l ++ begins.rest) longer
            ∙ append_assoc (before ++ (line ++ 10 ∷ [])) within.0 begins.rest) begins.is_text;
      }))

  module _ (bytes : List ℕ) where
    -- bytes that stop at two lines, the second not before the first, stop at one
    same_line : (one other : ℕ) (first : IsFaultLine IsText bytes one) (second : IsFaultLine IsText bytes other) → Between first.before first.after second.before second.after → one ≡ other
    same_line one other first second cut =
        let none = none_past first.before first.after cut.between second.after first.stops cut.shorter
        (whole_end first.before cut.between second.before cut.longer second.lines)
        (subst (IsPrefix IsText) cut.longer second.begins) in
        let same : second.before ≡ first.before = cut.longer ∙ ap (λ l. first.before ++ l) none ∙ append-nil first.before in
        first.number ∙ ap (λ l. 1 + count_by (λ byte. byte == 10) l) (sym same) ∙ sym second.number

    -- bytes stop being the beginning of a text at one line at most
    pub one_line : (one other : ℕ) → IsFaultLine IsText bytes one → IsFaultLine IsText bytes other → one ≡ other
    one_line one other first second = chosen (cuts first.before first.after second.before second.after (sym first.whole ∙ second.whole))
      where
        chosen : Between first.before first.after second.before second.after ⊎ Between second.before second.after first.before first.after → one ≡ other
        chosen (inl cut) = same_line one other first second cut
        chosen (inr cut) = sym (same_line other one second first cut)
