-- Which ends the paths of a plan's lines have.
use Rattle.std.proofs.Common.{◌≡◌, ℕ, ◌<◌, ◌≤◌, ◌-◌, ◌+◌, Bool, true, false, cond, List, [], ◌∷◌, ◌++◌, length, take, drop, Some, None, Option, Bor, bytes_eq, refl, sym, ap, subst, ◌∙◌, true≢false}
use Rattle.std.proofs.Common.{⊎_elim, arith}
use Rattle.std.specs.Prelude.{codes, is_some, position, slice_get, ⊤}
use Rattle.std.proofs.lemmas.Bool.{cases_lt}
use Rattle.std.proofs.lemmas.List.{append_assoc, length-append, take_more}
use Rattle.std.proofs.lemmas.Option.{get_or_from_slice_get, slice_get-get_or}
use Rattle.dg_model.specs.declared.plan.Pipeline.{Pipeline}
use Rattle.dg_model.specs.Joined.{joined}
use Rattle.dg_rules.specs.inner.Ends.{HasEnds, HaveEnds, IsNoEnd, is_end}
use Rattle.dg_rules.proofs.PlanLines.{found, has, within}
use Rattle.math_list.proofs.Places.{push_cases}
use Rattle.math_list.proofs.Tests.{bytes_same}

-- ---- the ends of one path

-- an end of so many bytes is what is left behind the others
behind : (front end : List ℕ) → drop (length front) (front ++ end) ≡ end
behind [] end = refl
behind (first ∷ front) end = behind front end

pub only_end : (path front end : List ℕ) → path ≡ front ++ end → drop (length path - length end) path ≡ end
only_end path front end parts =
    let long : length path ≡ length front + length end = ap length parts ∙ length-append front end in
    let less : length path - length end ≡ length front = omega (arith, long) in
    ap (λ (n : ℕ). drop n path) less ∙ ap (drop (length front)) parts ∙ behind front end

-- those of fewer than so many bytes are ends, and what was an end is one
pub record ArePut (before entries : List (Bor (List ℕ) × ⊤)) (path : List ℕ) (size : ℕ) : Type 0 where
  pub ends : (front end : List ℕ) → path ≡ front ++ end → length end < size → is_end entries end ≡ true
  pub kept : (end : List ℕ) → is_end before end ≡ true → is_end entries end ≡ true

-- one end more
pub put_more : (before entries after : List (Bor (List ℕ) × ⊤)) (path end : List ℕ) (size : ℕ) → end ≡ drop (length path - size) path
    → ((other : List ℕ) → is_end after other ≡ cond (bytes_eq end other) true (is_end entries other)) → ArePut before entries path size → ArePut before after path (size + 1)
put_more before entries after path end size is updated put = record {
  ends = λ front other parts less. ⊎_elim
      (λ (shorter : length other < size). stays other (put.ends front other parts shorter))
      (λ (long : size ≤ length other).
      let size_is : length other ≡ size = omega (arith, long, less) in
      let same : end ≡ other = is ∙ ap (λ (n : ℕ). drop (length path - n) path) (sym size_is) ∙ only_end path front other parts in
      updated other ∙ ap (λ (b : Bool). cond b true (is_end entries other)) (bytes_same end other same))
      (cases_lt (length other) size);
  kept = λ other was. stays other (put.kept other was);
}
  where
    by_same : (b old : Bool) → old ≡ true → cond b true old ≡ true
    by_same true old was = refl
    by_same false old was = was

    stays : (other : List ℕ) → is_end entries other ≡ true → is_end after other ≡ true
    stays other was = updated other ∙ by_same (bytes_eq end other) (is_end entries other) was

-- what an insertion tells, as a test
pub is_told : (b : Bool) (old : Option ⊤) → is_some (cond b (Some tt) old) ≡ cond b true (is_some old)
is_told true old = refl
is_told false old = refl

-- ---- the ends of all

-- the paths of some lines
ends_kept : (lines : List Pipeline) (entries after : List (Bor (List ℕ) × ⊤)) → ((end : List ℕ) → is_end entries end ≡ true → is_end after end ≡ true) → HaveEnds lines entries → HaveEnds lines after
ends_kept lines entries after kept have = λ number line at front end parts short. kept end (have number line at front end parts short)

-- those of one line more
pub one_more_line : (lines : List Pipeline) (i : ℕ) (item : Pipeline) (entries after : List (Bor (List ℕ) × ⊤))
    → i < length lines → slice_get lines i ≡ Some item
    → ((end : List ℕ) → is_end entries end ≡ true → is_end after end ≡ true)
    → HasEnds after item.path → HaveEnds (take i lines) entries → HaveEnds (take (i + 1) lines) after
one_more_line lines i item entries after below at kept new have =
    let longer : take (i + 1) lines ≡ take i lines ++ item ∷ [] = take_more lines i item below ∙ ap (λ (it : Pipeline). take i lines ++ it ∷ []) (get_or_from_slice_get lines i item item at) in
    λ number line there. ⊎_elim
    (λ old. ends_kept (take i lines) entries after kept have number line old)
    (λ last. subst (λ (it : Pipeline). HasEnds after it.path) last.1 new)
    (push_cases (take i lines) item number line (ap (λ (ls : List Pipeline). slice_get ls number) (sym longer) ∙ there))

-- ---- what no line asks for

-- a path ends with the name of its block
pub ends_so : (around : Option (List ℕ)) (name : List ℕ) → (front : List ℕ) × (joined around name ≡ front ++ name)
ends_so None name = ([], refl)
ends_so (Some outer) name = (outer ++ codes "/", refl)

-- a name ends as its last bytes do
pub no_end : (lines : List Pipeline) (entries : List (Bor (List ℕ) × ⊤)) (name front end : List ℕ)
    → name ≡ front ++ end → length end ≤ 8 → is_end entries end ≡ false → HaveEnds lines entries
    → IsNoEnd lines name
no_end lines entries name front end parts short none have = λ number line at before is.
    true≢false (sym (have number line at (before ++ front) end (is ∙ ap (λ (xs : List ℕ). before ++ xs) parts ∙ sym (append_assoc before front end)) short) ∙ none)

-- a path has no number among lines of which none is it
pub no_number : (lines : List Pipeline) (path : List ℕ) → ((number : ℕ) (line : Pipeline) → slice_get lines number ≡ Some line → ¬ (line.path ≡ path)) → None ≡ position (has path) lines
no_number lines path others = by_number (position (has path) lines) refl
  where
    no_line : Pipeline
    no_line = record { path = []; count = 0 }

    by_number : (number : Option ℕ) → position (has path) lines ≡ number → None ≡ number
    by_number None is = refl
    by_number (Some k) is =
        let at = slice_get-get_or lines k no_line (within lines path k is) in
        absurd (others k _ at (found lines path k _ is at))
