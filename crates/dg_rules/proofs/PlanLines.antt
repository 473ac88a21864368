-- The paths of a plan's lines differ, so that a path has one number.
use Rattle.std.proofs.Common.{◌≡◌, ℕ, zero, suc, Bool, true, false, List, [], ◌∷◌, take, length, Some, None, bytes_eq, Bor, refl, sym, ap, subst, ◌∙◌, true≢false, inl, inr, arith}
use Rattle.std.specs.Prelude.{find, position, slice_get, nat_lt, ◌⊎◌, ◌+◌, ◌<◌, ◌≤◌, not, cond}
use Rattle.std.specs.List.{AllByRecursion, position_from, position_or_len}
use Rattle.std.proofs.lemmas.Bool.{cases_lt, cond-true, cond-false, lt-ltb, le-ltb}
use Rattle.std.proofs.lemmas.Iterator.Adapters.{position_from-zero}
use Rattle.std.proofs.lemmas.List.Folds.{find_at}
use Rattle.std.proofs.lemmas.List.Quantifiers.{position-Some}
use Rattle.std.proofs.lemmas.Option.{none-some, same_Some, get_or_from_slice_get, slice_get_past}
use Rattle.std.proofs.lemmas.Slice.Eq.{bytes_eq-Decides}
use Rattle.dg_model.specs.declared.plan.Pipeline.{Pipeline}
use Rattle.dg_model.specs.declared.plan.Plan.{Plan}
use Rattle.dg_model.specs.PlanNames.{count_of}
use Rattle.dg_model.specs.PlanRange.{AreDifferent}
use Rattle.dg_rules.specs.inner.Lines.{AreNumbered, number_of}
use Rattle.dg_rules.specs.inner.Standings.{count_in}
use Rattle.math_list.proofs.Tests.{bytes_same, unequal}

-- what holds of all holds of each
each_of : {X : Type 0} (P : X → Type 0) (xs : List X) (k : ℕ) (x : X) → AllByRecursion P xs → slice_get xs k ≡ Some x → P x
each_of P [] k x all at = absurd (none-some x at)
each_of P (y ∷ ys) zero x all at = subst P (same_Some y x at) all.0
each_of P (y ∷ ys) (suc k) x all at = each_of P ys k x all.1 at

-- ---- the number of a path

-- a line has this path
abbrev pub has : List ℕ → Pipeline → Bool
has path line = bytes_eq path line.path

turned_eq : (a b : List ℕ) → bytes_eq a b ≡ bytes_eq b a
turned_eq a b = by (bytes_eq a b) refl where
  by : (t : Bool) → bytes_eq a b ≡ t → t ≡ bytes_eq b a
  by true e = sym (bytes_same b a (sym ((bytes_eq-Decides a b).0 e)))
  by false e = sym (unequal b a (λ same. true≢false (sym (bytes_same a b (sym same)) ∙ e)))

-- one more line, whose path is none of those before it
one_more_from : (i : ℕ) (lines : List Pipeline) (k : ℕ) (line : Pipeline) (path : List ℕ) → AreDifferent lines → slice_get lines k ≡ Some line
    → cond (bytes_eq line.path path) (Some (i + k)) (position_from (has path) i (take k lines)) ≡ position_from (has path) i (take (suc k) lines)
one_more_from i [] k line path apart at = absurd (none-some line at)
one_more_from i (x ∷ xs) zero line path apart at =
    let same : x.path ≡ line.path = ap (λ (l : Pipeline). l.path) (same_Some x line at) in
    let here : i + 0 ≡ i = omega arith in
    ap (λ n. cond (bytes_eq line.path path) (Some n) None) here
    ∙ ap (λ t. cond t (Some i) None) (turned_eq line.path path ∙ ap (bytes_eq path) (sym same))
one_more_from i (x ∷ xs) (suc k) line path apart at = by (one_more_from (i + 1) xs k line path apart.1 at) (has path x) refl where
  differs : has path x ≡ true → bytes_eq line.path path ≡ false
  differs is = unequal line.path path (λ same. each_of (λ (other : Pipeline). x.path ≡ other.path → ⊥) xs k line apart.0 at (sym ((bytes_eq-Decides path x.path).0 is) ∙ sym same))

  by : cond (bytes_eq line.path path) (Some ((i + 1) + k)) (position_from (has path) (i + 1) (take k xs)) ≡ position_from (has path) (i + 1) (take (suc k) xs)
      → (t : Bool) → has path x ≡ t
      → cond (bytes_eq line.path path) (Some (i + suc k)) (cond t (Some i) (position_from (has path) (i + 1) (take k xs))) ≡ cond t (Some i) (position_from (has path) (i + 1) (take (suc k) xs))
  by rest true is = ap (λ b. cond b (Some (i + suc k)) (Some i)) (differs is)
  by rest false is =
      let next : i + suc k ≡ (i + 1) + k = omega arith in
      ap (λ n. cond (bytes_eq line.path path) (Some n) (position_from (has path) (i + 1) (take k xs))) next ∙ rest

pub one_more : (lines : List Pipeline) (k : ℕ) (line : Pipeline) (path : List ℕ) → AreDifferent lines → slice_get lines k ≡ Some line
    → cond (bytes_eq line.path path) (Some k) (position (has path) (take k lines)) ≡ position (has path) (take (suc k) lines)
one_more lines k line path apart at =
    let here : k ≡ 0 + k = omega arith in
    ap (λ n. cond (bytes_eq line.path path) (Some n) (position (has path) (take k lines))) here
    ∙ ap (cond (bytes_eq line.path path) (Some (0 + k))) (position_from-zero (has path) (take k lines))
    ∙ one_more_from 0 lines k line path apart at
    ∙ sym (position_from-zero (has path) (take (suc k) lines))

-- the number of a path is the place of the first line that has it
pub number_is : (entries : List (Bor (List ℕ) × ℕ)) (lines : List Pipeline) (path : List ℕ) → AreNumbered lines entries
    → number_of entries path ≡ position (has path) lines
number_is entries lines path are = are path

pub found : (lines : List Pipeline) (path : List ℕ) (k : ℕ) (line : Pipeline) → position (has path) lines ≡ Some k → slice_get lines k ≡ Some line → line.path ≡ path
found lines path k line at there =
    let passes = (position-Some (has path) lines k line at).1 in
    sym ((bytes_eq-Decides path line.path).0 (ap (has path) (sym (get_or_from_slice_get lines k line line there)) ∙ passes))

pub within : (lines : List Pipeline) (path : List ℕ) (k : ℕ) → position (has path) lines ≡ Some k → k < length lines
within lines path k at = (position-Some (has path) lines k (record { path = []; count = 0 }) at).0

missing_from : (lines : List Pipeline) (path : List ℕ) → length lines ≤ position_or_len (has path) lines
    → (k : ℕ) (line : Pipeline) → slice_get lines k ≡ Some line → line.path ≡ path → ⊥
missing_from [] path none k line at same = none-some line at
missing_from (x ∷ xs) path none k line at same = by (has path x) refl k at none (λ below j there. missing_from xs path below j line there same) where
  by : (t : Bool) → has path x ≡ t → (k : ℕ) → slice_get (x ∷ xs) k ≡ Some line → suc (length xs) ≤ cond (not t) (1 + position_or_len (has path) xs) 0
      → (length xs ≤ position_or_len (has path) xs → (j : ℕ) → slice_get xs j ≡ Some line → ⊥) → ⊥
  by true is k at none rest = omega arith
  by false is zero at none rest = true≢false (sym (bytes_same path x.path (sym (ap (λ (l : Pipeline). l.path) (same_Some x line at) ∙ same))) ∙ is)
  by false is (suc k) at none rest = rest (omega arith) k at

pub missing : (lines : List Pipeline) (path : List ℕ) → position (has path) lines ≡ None
    → (k : ℕ) (line : Pipeline) → slice_get lines k ≡ Some line → line.path ≡ path → ⊥
missing lines path none = by (cases_lt (position_or_len (has path) lines) (length lines)) where
  by : (position_or_len (has path) lines < length lines) ⊎ (length lines ≤ position_or_len (has path) lines) → (k : ℕ) (line : Pipeline) → slice_get lines k ≡ Some line → line.path ≡ path → ⊥
  by (inl less) = absurd (none-some _ (sym none ∙ cond-true (nat_lt (position_or_len (has path) lines) (length lines)) (Some (position_or_len (has path) lines)) None (lt-ltb _ _ less)))
  by (inr more) = missing_from lines path more

-- two lines with one path are one
pub one_line : (lines : List Pipeline) (i j : ℕ) (a b : Pipeline) → AreDifferent lines → slice_get lines i ≡ Some a → slice_get lines j ≡ Some b → a.path ≡ b.path → i ≡ j
one_line [] i j a b apart ai bj same = absurd (none-some a ai)
one_line (x ∷ xs) zero zero a b apart ai bj same = refl
one_line (x ∷ xs) zero (suc j) a b apart ai bj same =
    absurd (each_of (λ (other : Pipeline). x.path ≡ other.path → ⊥) xs j b apart.0 bj (ap (λ (l : Pipeline). l.path) (same_Some x a ai) ∙ same))
one_line (x ∷ xs) (suc i) zero a b apart ai bj same =
    absurd (each_of (λ (other : Pipeline). x.path ≡ other.path → ⊥) xs i a apart.0 ai (ap (λ (l : Pipeline). l.path) (same_Some x b bj) ∙ sym same))
one_line (x ∷ xs) (suc i) (suc j) a b apart ai bj same = ap (λ n. suc n) (one_line xs i j a b apart.1 ai bj same)

-- ---- the registers of a path

turned : (path : List ℕ) (lines : List Pipeline) → find (λ (line : Pipeline). bytes_eq line.path path) lines ≡ find (has path) lines
turned path [] = refl
turned path (x ∷ xs) = rw (turned_eq x.path path) (ap (λ rest. cond (bytes_eq path x.path) (Some x) rest) (turned path xs))

pub count_is : (plan : Plan) (path : List ℕ) → count_in (position (has path) plan.pipelines) plan.pipelines ≡ count_of plan path
count_is plan path = by (cases_lt (position_or_len (has path) plan.pipelines) (length plan.pipelines)) where
  by : (position_or_len (has path) plan.pipelines < length plan.pipelines) ⊎ (length plan.pipelines ≤ position_or_len (has path) plan.pipelines)
      → count_in (position (has path) plan.pipelines) plan.pipelines ≡ count_of plan path
  by (inl less) = rw (
    cond-true (nat_lt (position_or_len (has path) plan.pipelines) (length plan.pipelines))
        (Some (position_or_len (has path) plan.pipelines)) None (lt-ltb _ _ less),
    turned path plan.pipelines,
    find_at (has path) plan.pipelines,
  ) refl
  by (inr more) = rw (
    cond-false (nat_lt (position_or_len (has path) plan.pipelines) (length plan.pipelines))
        (Some (position_or_len (has path) plan.pipelines)) None (le-ltb _ _ more),
    turned path plan.pipelines,
    find_at (has path) plan.pipelines,
    slice_get_past plan.pipelines (position_or_len (has path) plan.pipelines) more,
  ) refl
