-- The numbers of blocks, and the blocks of numbers.
use Rattle.std.proofs.Common.{◌≡◌, ℕ, zero, suc, ◌+◌, ◌<◌, ◌≤◌, Bool, true, false, cond, List, [], ◌∷◌, length, Option, Some, None, refl, sym, ◌∙◌, ap, arith, true≢false}
use Rattle.std.specs.Prelude.{◌==◌, filter, slice_get, unwrap_or, count_by, find}
use Rattle.std.specs.List.{range_with_len}
use Rattle.std.proofs.lemmas.Bool.Decides.{nat_tests}
use Rattle.std.proofs.lemmas.List.Sums.{sum_by-append}
use Rattle.mdl_text.specs.declared.tree.Item.{Item}
use Rattle.mdl_build.specs.Blocks.{number_at}
use Rattle.mdl_build.specs.Roles.{role_of, is_block, blocks_of}
use Rattle.mdl_build.proofs.Ranges.{kept_within, place_found}

-- ---- ranges

-- what passes is kept somewhere
pub kept_at : (P : ℕ → Bool) (from count place : ℕ) → from ≤ place → place < from + count → P place ≡ true → (k : ℕ) × (slice_get (filter P (range_with_len from count)) k ≡ Some place)
kept_at P from zero place above below passes = absurd (omega arith)
kept_at P from (suc count) place above below passes = by_test (λ a b. kept_at P (from + 1) count place a b passes) (P from) refl
  where
    by_test : (from + 1 ≤ place → place < from + 1 + count → (k : ℕ) × (slice_get (filter P (range_with_len (from + 1) count)) k ≡ Some place))
        → (b : Bool) → P from ≡ b → (k : ℕ) × (slice_get (cond b (from ∷ filter P (range_with_len (from + 1) count)) (filter P (range_with_len (from + 1) count))) k ≡ Some place)
    by_test later true e = by_place (from == place) refl
      where
        by_place : (b : Bool) → (from == place) ≡ b → (k : ℕ) × (slice_get (from ∷ filter P (range_with_len (from + 1) count)) k ≡ Some place)
        by_place true same = let is : from ≡ place = grind (arith, nat_tests) in (0, ap (λ (n : ℕ). Some n) is)
        by_place false other = let more : from + 1 ≤ place = grind (arith, nat_tests) in let found = later more (omega arith) in (suc found.0, found.1)
    by_test later false e =
        let differs : (from ≡ place) → ⊥ = λ same. true≢false (sym passes ∙ ap P (sym same) ∙ e) in
        later (above_more from place above differs) (omega arith)
      where
        above_more : (a b : ℕ) → a ≤ b → ((a ≡ b) → ⊥) → a + 1 ≤ b
        above_more a b h differs = grind (arith, differs)

-- in order of their places
pub kept_in_order : (P : ℕ → Bool) (from count i j one other : ℕ)
    → slice_get (filter P (range_with_len from count)) i ≡ Some one
    → slice_get (filter P (range_with_len from count)) j ≡ Some other → one < other → i < j
kept_in_order P from zero i j one other here there less = let bad : ◌≡◌ {A = Option ℕ} None (Some one) = here in absurd (cc)
kept_in_order P from (suc count) i j one other here there less =
    by_test (λ a b. kept_in_order P (from + 1) count a b one other)
    (λ k place at. (kept_within P (from + 1) count k place at).0) (P from) i j here there
  where
    by_test : ((a b : ℕ) → slice_get (filter P (range_with_len (from + 1) count)) a ≡ Some one → slice_get (filter P (range_with_len (from + 1) count)) b ≡ Some other → one < other → a < b)
        → ((k place : ℕ) → slice_get (filter P (range_with_len (from + 1) count)) k ≡ Some place → from + 1 ≤ place)
        → (b : Bool) (i j : ℕ) → slice_get (cond b (from ∷ filter P (range_with_len (from + 1) count))
        (filter P (range_with_len (from + 1) count))) i ≡ Some one
        → slice_get (cond b (from ∷ filter P (range_with_len (from + 1) count))
        (filter P (range_with_len (from + 1) count))) j ≡ Some other → i < j
    by_test rest behind false i j here there = rest i j here there less
    by_test rest behind true zero zero here there = let both : ◌≡◌ {A = Option ℕ} (Some one) (Some other) = sym here ∙ there in let same : one ≡ other = cc in absurd (omega arith)
    by_test rest behind true zero (suc j) here there = omega arith
    by_test rest behind true (suc i) zero here there =
        let first : ◌≡◌ {A = Option ℕ} (Some from) (Some other) = there in
        let same : from ≡ other = cc in let more = behind i one here in absurd (omega arith)
    by_test rest behind true (suc i) (suc j) here there = let inner = rest i j here there less in omega arith

pub count_cons : {A : Type 0} (P : A → Bool) (x : A) (xs : List A) → count_by P (x ∷ xs) ≡ (0 + cond (P x) 1 0) + count_by P xs
count_cons P x xs = sum_by-append (λ y. cond (P y) 1 0) (x ∷ []) xs

more_than : (a b : ℕ) → a ≤ b → ((a ≡ b) → ⊥) → a + 1 ≤ b
more_than a b h differs = grind (arith, differs)

-- where none passes
pub none_counted : (P : ℕ → Bool) (from count place : ℕ) → count_by P (range_with_len from count) ≡ 0 → from ≤ place → place < from + count → P place ≡ true → ⊥
none_counted P from zero place none above below passes = omega arith
none_counted P from (suc count) place none above below passes = by_test (λ n a b. none_counted P (from + 1) count place n a b passes) (P from) refl
  where
    by_test : (count_by P (range_with_len (from + 1) count) ≡ 0 → from + 1 ≤ place → place < from + 1 + count → ⊥) → (b : Bool) → P from ≡ b → ⊥
    by_test rest true e =
        let counted = sym (ap (λ (b : Bool). (0 + cond b 1 0) + count_by P (range_with_len (from + 1) count)) e)
        ∙ sym (count_cons P from (range_with_len (from + 1) count)) ∙ none in omega (arith, counted)
    by_test rest false e =
        let counted = sym (ap (λ (b : Bool). (0 + cond b 1 0) + count_by P (range_with_len (from + 1) count)) e) ∙ sym (count_cons P from (range_with_len (from + 1) count)) ∙ none in
        let differs : (from ≡ place) → ⊥ = λ same. true≢false (sym passes ∙ ap P (sym same) ∙ e) in
        rest (omega (arith, counted)) (more_than from place above differs) (omega arith)

-- where none passes behind the first, the first is the one
first_is : (P : ℕ → Bool) (from count place : ℕ) → count_by P (range_with_len (from + 1) count) ≡ 0 → from ≤ place → place < from + suc count → P place ≡ true → place ≡ from
first_is P from count place none above below passes = by_place (from == place) refl
  where
    by_place : (b : Bool) → (from == place) ≡ b → place ≡ from
    by_place true same = grind (arith, nat_tests)
    by_place false other = let more : from + 1 ≤ place = grind (arith, nat_tests) in absurd (none_counted P (from + 1) count place none more (omega arith) passes)

-- of those that pass there is one alone
pub only_one : (P : ℕ → Bool) (from count one other : ℕ) → count_by P (range_with_len from count) ≡ 1 → from ≤ one
    → one < from + count → P one ≡ true → from ≤ other → other < from + count → P other ≡ true → one ≡ other
only_one P from zero one other few above below passes above' below' passes' = absurd (omega arith)
only_one P from (suc count) one other few above below passes above' below' passes' = by_test (λ n a b c d. only_one P (from + 1) count one other n a b passes c d passes') (P from) refl
  where
    by_test : (count_by P (range_with_len (from + 1) count) ≡ 1 → from + 1 ≤ one → one < from + 1 + count
        → from + 1 ≤ other → other < from + 1 + count → one ≡ other) → (b : Bool) → P from ≡ b → one ≡ other
    by_test rest true e =
        let counted = sym (ap (λ (b : Bool). (0 + cond b 1 0) + count_by P (range_with_len (from + 1) count)) e) ∙ sym (count_cons P from (range_with_len (from + 1) count)) ∙ few in
        let none : count_by P (range_with_len (from + 1) count) ≡ 0 = omega (arith, counted) in
        first_is P from count one none above below passes ∙ sym (first_is P from count other none above' below' passes')
    by_test rest false e =
        let counted = sym (ap (λ (b : Bool). (0 + cond b 1 0) + count_by P (range_with_len (from + 1) count)) e) ∙ sym (count_cons P from (range_with_len (from + 1) count)) ∙ few in
        let differs : (from ≡ one) → ⊥ = λ same. true≢false (sym passes ∙ ap P (sym same) ∙ e) in
        let differs' : (from ≡ other) → ⊥ = λ same. true≢false (sym passes' ∙ ap P (sym same) ∙ e) in
        rest (omega (arith, counted)) (more_than from one above differs) (omega arith) (more_than from other above' differs') (omega arith)

-- ---- blocks

-- a block stands at its number
pub block_at : (items : List Item) (place : ℕ) → place < length items → is_block (role_of items place) ≡ true → slice_get (blocks_of items) (number_at items place) ≡ Some place
block_at items place within counts =
    let found = kept_at (λ (other : ℕ). is_block (role_of items other)) 0 (length items) place (omega arith) (omega arith) counts in
    let number_is : number_at items place ≡ found.0 = ap (λ (n : Option ℕ). unwrap_or n 0) (place_found (λ (other : ℕ). is_block (role_of items other)) (length items) found.0 place found.1) in
    ap (slice_get (blocks_of items)) number_is ∙ found.1

-- so no two have the same number
pub one_number : (items : List Item) (one other : ℕ) → one < length items → is_block (role_of items one) ≡ true
    → other < length items → is_block (role_of items other) ≡ true → number_at items one ≡ number_at items other
    → one ≡ other
one_number items one other within counts within' counts' same =
    let both : ◌≡◌ {A = Option ℕ} (Some one) (Some other) = sym (block_at items one within counts) ∙ ap (slice_get (blocks_of items)) same ∙ block_at items other within' counts' in cc

-- one that stands before has a lesser number
pub number_before : (items : List Item) (one other : ℕ) → other < length items → is_block (role_of items one) ≡ true
    → is_block (role_of items other) ≡ true → one < other → number_at items one < number_at items other
number_before items one other within counts counts' less =
    kept_in_order (λ (p : ℕ). is_block (role_of items p)) 0 (length items) _ _ one other (block_at items one (omega arith) counts) (block_at items other within counts') less

-- ---- searches

-- where none is found, each fails
pub none_passes : {A : Type 0} (P : A → Bool) (xs : List A) → find P xs ≡ None → (k : ℕ) (x : A) → slice_get xs k ≡ Some x → P x ≡ false
none_passes {A} P [] none k x at = let bad : ◌≡◌ {A = Option A} None (Some x) = at in absurd (cc)
none_passes {A} P (y ∷ ys) none k x at = by_test (none_passes P ys) (P y) refl k at
  where
    by_test : (find P ys ≡ None → (k : ℕ) (x : A) → slice_get ys k ≡ Some x → P x ≡ false) → (b : Bool) → P y ≡ b → (k : ℕ) → slice_get (y ∷ ys) k ≡ Some x → P x ≡ false
    by_test rest true e k at = let bad : ◌≡◌ {A = Option A} (Some y) None = sym (ap (λ (b : Bool). cond b (Some y) (find P ys)) e) ∙ none in absurd (cc)
    by_test rest false e zero at = let first : ◌≡◌ {A = Option A} (Some y) (Some x) = at in let same : y ≡ x = cc in ap P (sym same) ∙ e
    by_test rest false e (suc k) at = rest (sym (ap (λ (b : Bool). cond b (Some y) (find P ys)) e) ∙ none) k x at

-- what is found passes
pub found_passes : {A : Type 0} (P : A → Bool) (xs : List A) (x : A) → find P xs ≡ Some x → P x ≡ true
found_passes {A} P [] x found = let bad : ◌≡◌ {A = Option A} None (Some x) = found in absurd (cc)
found_passes {A} P (y ∷ ys) x found = by_test (found_passes P ys x) (P y) refl
  where
    by_test : (find P ys ≡ Some x → P x ≡ true) → (b : Bool) → P y ≡ b → P x ≡ true
    by_test rest true e = let first : ◌≡◌ {A = Option A} (Some y) (Some x) = sym (ap (λ (b : Bool). cond b (Some y) (find P ys)) e) ∙ found in let same : y ≡ x = cc in ap P (sym same) ∙ e
    by_test rest false e = rest (sym (ap (λ (b : Bool). cond b (Some y) (find P ys)) e) ∙ found)
