-- Facts about the lines of a text.
use Rattle.std.proofs.Common.{◌≡◌, ℕ, Bool, true, false, cond, not, List, [], ◌∷◌, ◌++◌, refl, sym, ◌∙◌, ap, append-nil}
use Rattle.std.specs.Prelude.{◌==◌}
use Rattle.std.specs.List.{list_all, AllByRecursion}
use Rattle.std.proofs.lemmas.Bool.{and_parts, and_from, not-true}
use Rattle.fx_io.specs.FaultLine.{IsOneLine}
use Rattle.mdl_text.specs.Bytes.{AreBlanks, is_blank, is_name_byte, on_first, lines_of}
use Rattle.mdl_text.proofs.Classes.{no_byte, newline_no_blank, newline_no_name}

-- a text has a first line
pub record FirstLine (bytes : List ℕ) : Type 0 where
  pub first : List ℕ
  pub more : List (List ℕ)
  pub form : lines_of bytes ≡ first ∷ more

on_first_line : (b : ℕ) (lines : List (List ℕ)) → (first : List ℕ) × (more : List (List ℕ)) × (on_first b lines ≡ first ∷ more)
on_first_line b [] = (b ∷ [], [], refl)
on_first_line b (line ∷ lines) = (b ∷ line, lines, refl)

pub first_line : (bytes : List ℕ) → FirstLine bytes
first_line [] = record { first = []; more = []; form = refl }
first_line (b ∷ bs) = elim (b == 10) as (λ t. (b == 10) ≡ t → FirstLine (b ∷ bs)) [
  | true ↦ λ e. record { first = []; more = lines_of bs; form = ap (λ t. cond t ([] ∷ lines_of bs) (on_first b (lines_of bs))) e }
  | false ↦ λ e. let f = on_first_line b (lines_of bs) in record { first = f.0; more = f.1; form = ap (λ t. cond t ([] ∷ lines_of bs) (on_first b (lines_of bs))) e ∙ f.2 }
] refl

-- bytes with no newline join the line after them
pub lines_front : (pre rest first : List ℕ) (more : List (List ℕ)) → IsOneLine pre → lines_of rest ≡ first ∷ more → lines_of (pre ++ rest) ≡ (pre ++ first) ∷ more
lines_front [] rest first more line e = e
lines_front (b ∷ bs) rest first more line e =
    let parts = and_parts (not (b == 10)) (list_all (λ byte. not (byte == 10)) bs) line in
    ap (λ t. cond t ([] ∷ lines_of (bs ++ rest)) (on_first b (lines_of (bs ++ rest)))) (not-true (b == 10) parts.0)
    ∙ ap (on_first b) (lines_front bs rest first more parts.1 e)

pub lines_one : (line : List ℕ) → IsOneLine line → lines_of line ≡ line ∷ []
lines_one line h = ap lines_of (sym (append-nil line)) ∙ lines_front line [] [] [] h refl ∙ ap (λ l. l ∷ []) (append-nil line)

pub lines_next : (line rest : List ℕ) → IsOneLine line → lines_of (line ++ 10 ∷ rest) ≡ line ∷ lines_of rest
lines_next line rest h = lines_front line (10 ∷ rest) [] (lines_of rest) h refl ∙ ap (λ l. l ∷ lines_of rest) (append-nil line)

on_first_each : (b : ℕ) (lines : List (List ℕ)) → not (b == 10) ≡ true → AllByRecursion IsOneLine lines → AllByRecursion IsOneLine (on_first b lines)
on_first_each b [] h each = (and_from (not (b == 10)) true h refl, tt)
on_first_each b (line ∷ lines) h each = (and_from (not (b == 10)) (list_all (λ byte. not (byte == 10)) line) h each.0, each.1)

-- no line has a newline
pub lines_each : (bytes : List ℕ) → AllByRecursion IsOneLine (lines_of bytes)
lines_each [] = (refl, tt)
lines_each (b ∷ bs) = elim (b == 10) as (λ t. (b == 10) ≡ t → AllByRecursion IsOneLine (cond t ([] ∷ lines_of bs) (on_first b (lines_of bs)))) [
  | true ↦ λ e. (refl, lines_each bs)
  | false ↦ λ e. on_first_each b (lines_of bs) (ap not e) (lines_each bs)
] refl

one_line_of : (p : ℕ → Bool) (bytes : List ℕ) → p 10 ≡ false → list_all p bytes ≡ true → IsOneLine bytes
one_line_of p [] h each = refl
one_line_of p (b ∷ bs) h each =
    let parts = and_parts (p b) (list_all p bs) each in
    and_from (not (b == 10)) (list_all (λ byte. not (byte == 10)) bs) (ap not (no_byte p b 10 parts.0 h)) (one_line_of p bs h parts.1)

pub blanks_line : (bytes : List ℕ) → AreBlanks bytes → IsOneLine bytes
blanks_line bytes h = one_line_of is_blank bytes newline_no_blank h

pub name_line : (bytes : List ℕ) → list_all is_name_byte bytes ≡ true → IsOneLine bytes
name_line bytes h = one_line_of is_name_byte bytes newline_no_name h
