-- How the lines of a text come off one by one.
use Rattle.std.proofs.Common.{◌≡◌, ℕ, suc, ◌<◌, Bool, true, false, eqb, List, [], ◌∷◌, length, get_or, take, drop, refl, ap, ◌∙◌, arith, rules}
use Rattle.std.specs.Str.Lines.{lines, lines_of_parts, strip_carriage_return}
use Rattle.std.proofs.lemmas.List.Splits.{length-slice_split}
use Rattle.std.proofs.lemmas.Bool.{cond-false}
use Rattle.std.proofs.lemmas.Bool.Decides.{nat_tests}
use Rattle.fx_tables.proofs.SplitLemmas.{slice_split-first, slice_split-whole}

abbrev pub is_newline : ℕ → Bool
is_newline b = eqb b 10

lone_line : (part : List ℕ) → 0 < length part → lines_of_parts (part ∷ []) ≡ part ∷ []
lone_line part some = cond-false (eqb (length part) 0) [] (part ∷ []) (search (rules, nat_tests))

pub lines-last : (text : List ℕ) → 0 < length text → ((k : ℕ) → k < length text → is_newline (get_or text k 0) ≡ false) → lines text ≡ text ∷ []
lines-last [] some before = absurd (omega arith)
lines-last (b ∷ text) some before = ap lines_of_parts (slice_split-whole is_newline (b ∷ text) before) ∙ lone_line (b ∷ text) some

lines_of_parts-cons : (part : List ℕ) (parts : List (List ℕ)) → 0 < length parts → lines_of_parts (part ∷ parts) ≡ strip_carriage_return part ∷ lines_of_parts parts
lines_of_parts-cons part [] some = absurd (omega arith)
lines_of_parts-cons part (next ∷ parts) some = refl

pub lines-first : (n : ℕ) (text : List ℕ) → n < length text
    → ((k : ℕ) → k < n → is_newline (get_or text k 0) ≡ false) → is_newline (get_or text n 0) ≡ true
    → lines text ≡ strip_carriage_return (take n text) ∷ lines (drop (suc n) text)
lines-first n text fits before found =
    ap lines_of_parts (slice_split-first is_newline n text fits before found)
    ∙ lines_of_parts-cons (take n text) _ (omega (arith, length-slice_split is_newline (drop (suc n) text)))
