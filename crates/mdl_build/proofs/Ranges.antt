-- Ranges of places, and what is found among them.
use Rattle.std.proofs.Common.{◌≡◌, ℕ, zero, suc, ◌+◌, ◌<◌, ◌≤◌, Bool, true, false, cond, List, [], ◌∷◌, ◌++◌, length, filter, Option, Some, None, refl, sym, ap, ◌∙◌, arith}
use Rattle.std.specs.Prelude.{◌==◌, ◌-◌, nat_eq, nat_le, position, slice_get}
use Rattle.std.specs.List.{range_with_len, position_from}
use Rattle.std.proofs.lemmas.Bool.Decides.{nat_tests}
use Rattle.std.proofs.lemmas.Iterator.Adapters.{position_from-zero}
use Rattle.std.proofs.lemmas.List.{length-append}
use Rattle.std.proofs.lemmas.List.Elements.{filter-append}
use Rattle.std.proofs.lemmas.Option.{none-some, same_Some}

-- ---- ranges

pub range_split : (a k m : ℕ) → range_with_len a (k + m) ≡ range_with_len a k ++ range_with_len (a + k) m
range_split a zero m =
    let e : 0 + m ≡ m = omega arith in
    let f : a ≡ a + 0 = omega arith in
    ap (range_with_len a) e ∙ ap (λ (b : ℕ). range_with_len b m) f
range_split a (suc k) m =
    let e : suc k + m ≡ suc (k + m) = omega arith in
    let f : (a + 1) + k ≡ a + suc k = omega arith in
    ap (range_with_len a) e ∙ ap (λ (rest : List ℕ). a ∷ rest) (range_split (a + 1) k m ∙ ap (λ (b : ℕ). range_with_len (a + 1) k ++ range_with_len b m) f)

-- one more place
pub range_next : (n : ℕ) → range_with_len 0 (n + 1) ≡ range_with_len 0 n ++ n ∷ []
range_next n =
    let f : 0 + n ≡ n = omega arith in
    range_split 0 n 1 ∙ ap (λ (b : ℕ). range_with_len 0 n ++ b ∷ []) f

pub filter_next : (p : ℕ → Bool) (n : ℕ) → filter p (range_with_len 0 (n + 1)) ≡ filter p (range_with_len 0 n) ++ cond (p n) (n ∷ []) []
filter_next p n = ap (filter p) (range_next n) ∙ filter-append p (range_with_len 0 n) (n ∷ [])

-- where 20,000 pass and one more does, too many pass
too_many_in : (p : ℕ → Bool) (i n rest : ℕ) → n ≡ (i + 1) + rest → p i ≡ true → length (filter p (range_with_len 0 i)) ≡ 20000 → 20001 ≤ length (filter p (range_with_len 0 n))
too_many_in p i n rest whole passes full =
    let parts : filter p (range_with_len 0 n) ≡ filter p (range_with_len 0 (i + 1)) ++ filter p (range_with_len (0 + (i + 1)) rest) =
    ap (λ (k : ℕ). filter p (range_with_len 0 k)) whole ∙ ap (filter p) (range_split 0 (i + 1) rest) ∙ filter-append p (range_with_len 0 (i + 1)) (range_with_len (0 + (i + 1)) rest) in
    let front : filter p (range_with_len 0 (i + 1)) ≡ filter p (range_with_len 0 i) ++ i ∷ [] =
    filter_next p i ∙ ap (λ (b : Bool). filter p (range_with_len 0 i) ++ cond b (i ∷ []) []) passes in
    let long : length (filter p (range_with_len 0 (i + 1))) ≡ 20001 = ap length front ∙ length-append (filter p (range_with_len 0 i)) (i ∷ []) ∙ ap (λ (k : ℕ). k + 1) full in
    omega (arith, ap length parts, length-append (filter p (range_with_len 0 (i + 1))) (filter p (range_with_len (0 + (i + 1)) rest)), long)

pub too_many : (p : ℕ → Bool) (i n : ℕ) → i < n → p i ≡ true → length (filter p (range_with_len 0 i)) ≡ 20000 → nat_le (length (filter p (range_with_len 0 n))) 20000 ≡ false
too_many p i n below passes full =
    let whole : n ≡ (i + 1) + (n - (i + 1)) = omega arith in
    let more : 20001 ≤ length (filter p (range_with_len 0 n)) = too_many_in p i n (n - (i + 1)) whole passes full in
    grind (arith, nat_tests, more)

-- ---- what passes a test

-- what is kept lies in the range, and passes
pub kept_within : (p : ℕ → Bool) (a n k place : ℕ) → slice_get (filter p (range_with_len a n)) k ≡ Some place → (a ≤ place) × (place < a + n) × (p place ≡ true)
kept_within p a zero k place at = absurd (none-some place at)
kept_within p a (suc n) k place at = by (λ j there. let h = kept_within p (a + 1) n j place there in (omega (arith, h.0), omega (arith, h.1), h.2)) (p a) refl k at
  where
    by : ((j : ℕ) → slice_get (filter p (range_with_len (a + 1) n)) j ≡ Some place
        → (a ≤ place) × (place < a + suc n) × (p place ≡ true)) → (b : Bool) → p a ≡ b → (j : ℕ)
        → slice_get (cond b (a ∷ filter p (range_with_len (a + 1) n)) (filter p (range_with_len (a + 1) n))) j
        ≡ Some place → (a ≤ place) × (place < a + suc n) × (p place ≡ true)
    by deeper true e zero there = let same : a ≡ place = same_Some a place there in (omega (arith, same), omega (arith, same), ap p (sym same) ∙ e)
    by deeper true e (suc j) there = deeper j there
    by deeper false e j there = deeper j there

-- it is found by its place
place_from : (p : ℕ → Bool) (a n i k place : ℕ) → slice_get (filter p (range_with_len a n)) k ≡ Some place
    → position_from (λ (other : ℕ). other == place) i (filter p (range_with_len a n)) ≡ Some (i + k)
place_from p a zero i k place at = absurd (none-some place at)
place_from p a (suc n) i k place at = by (λ start j there. place_from p (a + 1) n start j place there) (p a) k at
  where
    by : ((start j : ℕ) → slice_get (filter p (range_with_len (a + 1) n)) j ≡ Some place → position_from (λ (other : ℕ). other == place) start (filter p (range_with_len (a + 1) n)) ≡ Some (start + j))
        → (b : Bool) (j : ℕ) → slice_get (cond b (a ∷ filter p (range_with_len (a + 1) n)) (filter p (range_with_len (a + 1) n))) j ≡ Some place
        → position_from (λ (other : ℕ). other == place) i (cond b (a ∷ filter p (range_with_len (a + 1) n)) (filter p (range_with_len (a + 1) n))) ≡ Some (i + j)
    by rest true zero there =
        let same : a ≡ place = same_Some a place there in
        let e : nat_eq a place ≡ true = grind (arith, nat_tests, same) in
        let f : i ≡ i + 0 = omega arith in
        ap (λ (b : Bool). cond b (Some i) (position_from (λ (other : ℕ). other == place) (i + 1) (filter p (range_with_len (a + 1) n)))) e ∙ ap Some f
    by rest true (suc j) there =
        let more = (kept_within p (a + 1) n j place there).0 in
        let e : nat_eq a place ≡ false = grind (arith, nat_tests, more) in
        let f : (i + 1) + j ≡ i + suc j = omega arith in
        ap (λ (b : Bool). cond b (Some i) (position_from (λ (other : ℕ). other == place) (i + 1) (filter p (range_with_len (a + 1) n)))) e
        ∙ rest (i + 1) j there ∙ ap Some f
    by rest false j there = rest i j there

pub place_found : (p : ℕ → Bool) (n k place : ℕ) → slice_get (filter p (range_with_len 0 n)) k ≡ Some place → position (λ (other : ℕ). other == place) (filter p (range_with_len 0 n)) ≡ Some k
place_found p n k place at =
    let f : 0 + k ≡ k = omega arith in
    position_from-zero (λ (other : ℕ). other == place) (filter p (range_with_len 0 n)) ∙ place_from p 0 n 0 k place at ∙ ap Some f

-- ---- the first that passes, with one more element

abbrev pub pushed : Bool → ℕ → Option ℕ → Option ℕ
pushed test count (Some k) = Some k
pushed true count None = Some count
pushed false count None = None

pub pushed-false : (count : ℕ) (found : Option ℕ) → pushed false count found ≡ found
pushed-false count (Some k) = refl
pushed-false count None = refl

from_push : {X : Type 0} (p : X → Bool) (i : ℕ) (xs : List X) (y : X) → position_from p i (xs ++ y ∷ []) ≡ pushed (p y) (i + length xs) (position_from p i xs)
from_push p i [] y = by (p y)
  where
    by : (b : Bool) → cond b (Some i) None ≡ pushed b (i + 0) None
    by true = let f : i ≡ i + 0 = omega arith in ap Some f
    by false = refl
from_push p i (x ∷ xs) y = by (from_push p (i + 1) xs y) (p x)
  where
    by : position_from p (i + 1) (xs ++ y ∷ []) ≡ pushed (p y) ((i + 1) + length xs) (position_from p (i + 1) xs)
        → (b : Bool) → cond b (Some i) (position_from p (i + 1) (xs ++ y ∷ []))
        ≡ pushed (p y) (i + suc (length xs)) (cond b (Some i) (position_from p (i + 1) xs))
    by rest true = refl
    by rest false = let f : (i + 1) + length xs ≡ i + suc (length xs) = omega arith in rest ∙ ap (λ (n : ℕ). pushed (p y) n (position_from p (i + 1) xs)) f

pub position-push : {X : Type 0} (p : X → Bool) (xs : List X) (y : X) → position p (xs ++ y ∷ []) ≡ pushed (p y) (length xs) (position p xs)
position-push p xs y =
    let f : 0 + length xs ≡ length xs = omega arith in
    position_from-zero p (xs ++ y ∷ []) ∙ from_push p 0 xs y ∙ ap (λ (n : ℕ). pushed (p y) n (position_from p 0 xs)) f ∙ ap (pushed (p y) (length xs)) (sym (position_from-zero p xs))
