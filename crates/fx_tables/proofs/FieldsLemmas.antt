-- How the fields of a line come off one by one.
use Rattle.std.proofs.Common.{◌≡◌, ℕ, zero, suc, ◌<◌, ◌≤◌, true, false, List, [], ◌∷◌, length, get_or, take, drop, refl, sym, ap, length-take, inl, inr, ◌∙◌, arith, rules}
use Rattle.std.specs.Prelude.{filter, ◌⊎◌}
use Rattle.std.specs.List.{slice_split}
use Rattle.std.proofs.lemmas.List.Splits.{slice_split-cons_yes}
use Rattle.std.proofs.lemmas.List.{take_all, drop_all}
use Rattle.std.proofs.lemmas.Bool.{cond-true, cond-false, cases_lt, false≢true}
use Rattle.fx_tables.specs.Fields.{is_blank, after_blanks, is_run, fields_of}
use Rattle.fx_tables.proofs.SplitLemmas.{slice_split-first, slice_split-whole}

pub fields_of-blank : (b : ℕ) (line : List ℕ) → is_blank b ≡ true → fields_of (b ∷ line) ≡ fields_of line
fields_of-blank b line h = ap (filter is_run) (slice_split-cons_yes is_blank b line h)

pub fields_of-drop_blanks : (n : ℕ) (line : List ℕ) → n ≤ length line → ((k : ℕ) → k < n → is_blank (get_or line k 0) ≡ true) → fields_of line ≡ fields_of (drop n line)
fields_of-drop_blanks zero line fits blank = refl
fields_of-drop_blanks (suc n) [] fits blank = absurd (omega arith)
fields_of-drop_blanks (suc n) (b ∷ line) fits blank =
    fields_of-blank b line (blank 0 (omega arith)) ∙ fields_of-drop_blanks n line (omega arith) (λ k h. blank (suc k) (omega arith))

filter-run : (run : List ℕ) (runs : List (List ℕ)) → 0 < length run → filter is_run (run ∷ runs) ≡ run ∷ filter is_run runs
filter-run [] runs h = absurd (omega arith)
filter-run (x ∷ run) runs h = refl

at_blank : (n : ℕ) (line : List ℕ) → n < length line → is_blank (get_or line n 0) ≡ true → fields_of (drop (suc n) line) ≡ fields_of (drop n line)
at_blank n [] fits found = absurd (omega arith)
at_blank zero (b ∷ line) fits found = sym (fields_of-blank b line found)
at_blank (suc n) (b ∷ line) fits found = at_blank n line (omega arith) found

fields_of-at : (n : ℕ) (line : List ℕ) → 0 < n → n < length line
    → ((k : ℕ) → k < n → is_blank (get_or line k 0) ≡ false) → is_blank (get_or line n 0) ≡ true
    → fields_of line ≡ take n line ∷ fields_of (drop n line)
fields_of-at n line some fits before found =
    ap (filter is_run) (slice_split-first is_blank n line fits before found)
    ∙ filter-run (take n line) (slice_split is_blank (drop (suc n) line)) (search rules)
    ∙ ap (λ later. take n line ∷ later) (at_blank n line fits found)

fields_of-whole : (line : List ℕ) → 0 < length line → ((k : ℕ) → k < length line → is_blank (get_or line k 0) ≡ false) → fields_of line ≡ line ∷ []
fields_of-whole line some before = ap (filter is_run) (slice_split-whole is_blank line before) ∙ filter-run line [] some

apart : (m n : ℕ) → m ≤ n → (m < n) ⊎ (m ≡ n)
apart m n h = elim (cases_lt m n) [ inl below ↦ inl below | inr above ↦ inr (omega arith) ]

by_place : (n : ℕ) (line : List ℕ) → 0 < n → ((k : ℕ) → k < n → is_blank (get_or line k 0) ≡ false)
    → (n < length line → is_blank (get_or line n 0) ≡ true) → (n < length line) ⊎ (n ≡ length line)
    → fields_of line ≡ take n line ∷ fields_of (drop n line)
by_place n line some before found (inl inside) = fields_of-at n line some inside before (found inside)
by_place n line some before found (inr whole) =
    rw (whole, take_all (length line) line (omega arith), drop_all (length line) line (omega arith))
    (fields_of-whole line (omega arith) (λ k h. before k (omega arith)))

-- a line that does not begin with a blank begins with its first field
pub fields_of-field : (n : ℕ) (line : List ℕ) → 0 < n → n ≤ length line
    → ((k : ℕ) → k < n → is_blank (get_or line k 0) ≡ false) → (n < length line → is_blank (get_or line n 0) ≡ true)
    → fields_of line ≡ take n line ∷ fields_of (drop n line)
fields_of-field n line some fits before found = by_place n line some before found (apart n (length line) fits)

pub after_blanks-drop : (n : ℕ) (line : List ℕ) → n ≤ length line
    → ((k : ℕ) → k < n → is_blank (get_or line k 0) ≡ true) → (n < length line → is_blank (get_or line n 0) ≡ false)
    → drop n line ≡ after_blanks line
after_blanks-drop zero [] fits blank found = refl
after_blanks-drop zero (b ∷ line) fits blank found = sym (cond-false (is_blank b) (after_blanks line) (b ∷ line) (found (omega arith)))
after_blanks-drop (suc n) [] fits blank found = absurd (omega arith)
after_blanks-drop (suc n) (b ∷ line) fits blank found =
    after_blanks-drop n line (omega arith) (λ k h. blank (suc k) (omega arith)) (λ h. found (omega arith))
    ∙ sym (cond-true (is_blank b) (after_blanks line) (b ∷ line) (blank 0 (omega arith)))

-- a run of e bytes at the start
pub record IsRunAt (rest : List ℕ) (e : ℕ) : Type 0 where
  pub start : 0 < length rest → is_blank (get_or rest 0 0) ≡ false
  pub end_within : e ≤ length rest
  pub run : (k : ℕ) → k < e → is_blank (get_or rest k 0) ≡ false
  pub end : e < length rest → is_blank (get_or rest e 0) ≡ true

fields_of-none : (rest : List ℕ) → IsRunAt rest 0 → fields_of rest ≡ []
fields_of-none [] cut = refl
fields_of-none (b ∷ rest) cut = absurd (false≢true (sym (cut.start (omega arith)) ∙ cut.end (omega arith)))

pub no_field : (rest : List ℕ) (e : ℕ) → IsRunAt rest e → length (take e rest) ≡ 0 → fields_of rest ≡ []
no_field rest zero cut none = fields_of-none rest cut
no_field rest (suc e) cut none = absurd (omega (arith, length-take (suc e) rest, cut.end_within))

pub first_field : (rest : List ℕ) (e : ℕ) → IsRunAt rest e → 0 < length (take e rest) → fields_of rest ≡ take e rest ∷ fields_of (drop e rest)
first_field rest e cut some = fields_of-field e rest (omega (arith, length-take e rest)) cut.end_within cut.run cut.end
