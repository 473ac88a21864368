-- Ports whose numbers are apart and no more than their count have each number up to it.
use Rattle.std.proofs.Common.{◌≡◌, ℕ, zero, suc, ◌<◌, ◌≤◌, ◌+◌, Bool, true, false, cond, ◌&&◌, List, [], ◌∷◌, Option, Some, None, zero-add, refl, sym, ap, ◌∙◌, inl, inr, arith}
use Rattle.std.specs.Prelude.{count_by, slice_get}
use Rattle.std.specs.List.{position_from}
use Rattle.std.specs.Option.{is_some}
use Rattle.std.proofs.lemmas.Bool.{cases_eq, eq-eqb, ne_eqb}
use Rattle.std.proofs.lemmas.Iterator.Adapters.{position_from-zero}
use Rattle.dg_model.specs.declared.nested.Nested.{Nested}
use Rattle.dg_model.specs.declared.nested.NestedBlock.{NestedBlock}
use Rattle.dg_flat.specs.declared.numbering.Side.{Side}
use Rattle.dg_flat.specs.Parts.{same_system, count_in, first_in, is_number}
use Rattle.dg_flat.specs.Rules.{KeepsWiring, AllNestedKeep}
use Rattle.dg_flat.specs.inner.PortNumbers.{number_on}
use Rattle.math_list.proofs.Places.{count_cons}
use Rattle.dg_flat.proofs.Positions.{ranged}
use Rattle.dg_flat.proofs.Firsts.{same_system_eq}
use Rattle.dg_flat.proofs.Verdicts.{has_this, passed}

-- ---- sums

abbrev sum_below : (ℕ → ℕ) → ℕ → ℕ
sum_below f zero = 0
sum_below f (suc n) = sum_below f n + f n

sum_same : (f g : ℕ → ℕ) (n : ℕ) → ((m : ℕ) → m < n → f m ≡ g m) → sum_below f n ≡ sum_below g n
sum_same f g zero same = refl
sum_same f g (suc n) same = let before = sum_same f g n (λ m below. same m (omega (arith, below))) in omega (arith, before, same n (omega arith))

sum_add : (f g : ℕ → ℕ) (n : ℕ) → sum_below (λ m. f m + g m) n ≡ sum_below f n + sum_below g n
sum_add f g zero = refl
sum_add f g (suc n) = omega (arith, sum_add f g n)

sum_zero : (f : ℕ → ℕ) (n : ℕ) → ((m : ℕ) → m < n → f m ≡ 0) → sum_below f n ≡ 0
sum_zero f zero none = refl
sum_zero f (suc n) none = omega (arith, sum_zero f n (λ m below. none m (omega (arith, below))), none n (omega arith))

sum_single : (f : ℕ → ℕ) (n j : ℕ) → j < n → f j ≡ 1 → ((m : ℕ) → m < n → (m ≡ j → ⊥) → f m ≡ 0) → sum_below f n ≡ 1
sum_single f zero j inside one others = absurd (omega (arith, inside))
sum_single f (suc n) j inside one others =
    elim (cases_eq n j) [
      | inl e ↦
          let last : f n ≡ 1 = ap f e ∙ one in
          let rest = sum_zero f n (λ m below. others m (omega (arith, below)) (λ s. absurd (omega (arith, s, e, below)))) in
          omega (arith, last, rest)
      | inr apart ↦
          let rest = sum_single f n j (omega (arith, inside, apart)) one (λ m below. others m (omega (arith, below))) in
          omega (arith, rest, others n (omega arith) apart)
    ]

at_most : (f : ℕ → ℕ) (n : ℕ) → ((m : ℕ) → f m ≤ 1) → sum_below f n ≤ n
at_most f zero few = omega arith
at_most f (suc n) few = omega (arith, at_most f n few, few n)

each_one : (f : ℕ → ℕ) (n : ℕ) → ((m : ℕ) → f m ≤ 1) → n ≤ sum_below f n → (m : ℕ) → m < n → f m ≡ 1
each_one f zero few full m below = absurd (omega (arith, below))
each_one f (suc n) few full m below =
    elim (cases_eq m n) [
      | inl e ↦ ap f e ∙ (omega (arith, at_most f n few, few n, full))
      | inr apart ↦ each_one f n few (omega (arith, few n, full)) m (omega (arith, below, apart))
    ]

-- ---- counts

count_none : {X : Type 0} (p : X → Bool) (xs : List X) → ((i : ℕ) (x : X) → slice_get xs i ≡ Some x → p x ≡ true → ⊥) → count_by p xs ≡ 0
count_none p [] none = refl
count_none {X} p (x ∷ xs) none = go (p x) refl (count_none p xs (λ i y at. none (suc i) y at)) where
  go : (b : Bool) → p x ≡ b → count_by p xs ≡ 0 → count_by p (x ∷ xs) ≡ 0
  go true e rest = absurd (none 0 x refl e)
  go false e rest = count_cons p x xs ∙ ap (λ (b : Bool). cond b 1 0 + count_by p xs) e ∙ zero-add (count_by p xs) ∙ rest

count_once : {X : Type 0} (p : X → Bool) (xs : List X) → ((i j : ℕ) (x y : X) → i < j → slice_get xs i ≡ Some x → slice_get xs j ≡ Some y → p x ≡ true → p y ≡ true → ⊥) → count_by p xs ≤ 1
count_once p [] apart = omega arith
count_once {X} p (x ∷ xs) apart = go (p x) refl (count_once p xs (λ i j y z before. apart (suc i) (suc j) y z (omega (arith, before)))) where
  go : (b : Bool) → p x ≡ b → count_by p xs ≤ 1 → count_by p (x ∷ xs) ≤ 1
  go true e rest =
      let none = count_none p xs (λ i y at. apart 0 (suc i) x y (omega arith) refl at e) in
      let all : count_by p (x ∷ xs) ≡ 1 + count_by p xs = count_cons p x xs ∙ ap (λ (b : Bool). cond b 1 0 + count_by p xs) e in
      omega (arith, none, all)
  go false e rest =
      let all : count_by p (x ∷ xs) ≡ 0 + count_by p xs = count_cons p x xs ∙ ap (λ (b : Bool). cond b 1 0 + count_by p xs) e in
      omega (arith, rest, all)

found_from : {X : Type 0} (p : X → Bool) (i : ℕ) (xs : List X) → count_by p xs ≡ 1 → (k : ℕ) × (position_from p i xs ≡ Some k)
found_from p i [] one = absurd (omega (arith, one))
found_from {X} p i (x ∷ xs) one = go (p x) refl (λ rest. found_from p (i + 1) xs rest) where
  go : (b : Bool) → p x ≡ b → (count_by p xs ≡ 1 → (k : ℕ) × (position_from p (i + 1) xs ≡ Some k)) → (k : ℕ) × (cond (p x) (Some i) (position_from p (i + 1) xs) ≡ Some k)
  go true e rest = (i, ap (λ (b : Bool). cond b (Some i) (position_from p (i + 1) xs)) e)
  go false e rest =
      let all : count_by p (x ∷ xs) ≡ 0 + count_by p xs = count_cons p x xs ∙ ap (λ (b : Bool). cond b 1 0 + count_by p xs) e in
      let found = rest (omega (arith, one, all)) in
      (found.0, ap (λ (b : Bool). cond b (Some i) (position_from p (i + 1) xs)) e ∙ found.1)

-- ---- numbers

abbrev is_port : Side → Option ℕ → NestedBlock → Bool
is_port side system block = same_system block.parent system && is_some (number_on side block.part)

abbrev InRange : List NestedBlock → Side → Option ℕ → ℕ → Type 0
InRange blocks side system count = (place number : ℕ) (block : NestedBlock) → slice_get blocks place ≡ Some block
    → block.parent ≡ system → number_on side block.part ≡ Some number → (1 ≤ number) × (number ≤ count)

-- one block is counted at its own number alone
one_block : (side : Side) (system : Option ℕ) (count : ℕ) (block : NestedBlock) → ((number : ℕ) → block.parent ≡ system → number_on side block.part ≡ Some number → (1 ≤ number) × (number ≤ count)) →
    sum_below (λ m. cond (has_this side system (suc m) block) 1 0) count ≡ cond (is_port side system block) 1 0
one_block side system count block ranged = go (same_system block.parent system) refl (number_on side block.part) refl where
  go : (b : Bool) → same_system block.parent system ≡ b → (o : Option ℕ) → number_on side block.part ≡ o
      → sum_below (λ m. cond (has_this side system (suc m) block) 1 0) count ≡ cond (is_port side system block) 1 0
  go false e o is =
      sum_zero (λ m. cond (has_this side system (suc m) block) 1 0) count (λ m below. ap (λ (v : Bool). cond (v && is_number (suc m) (number_on side block.part)) 1 0) e)
      ∙ sym (ap (λ (v : Bool). cond (v && is_some (number_on side block.part)) 1 0) e)
  go true e None is =
      sum_zero (λ m. cond (has_this side system (suc m) block) 1 0) count (λ m below.
      ap (λ (v : Bool). cond (v && is_number (suc m) (number_on side block.part)) 1 0) e ∙ ap (λ (o : Option ℕ). cond (is_number (suc m) o) 1 0) is)
      ∙ sym (ap (λ (v : Bool). cond (v && is_some (number_on side block.part)) 1 0) e ∙ ap (λ (o : Option ℕ). cond (is_some o) 1 0) is)
  go true e (Some zero) is = absurd (omega (arith, (ranged zero (same_system_eq block.parent system e) is).0))
  go true e (Some (suc j)) is =
      let value : (m : ℕ) → ◌≡◌ {A = ℕ} (cond (has_this side system (suc m) block) 1 0) (cond (is_number (suc m) (Some (suc j))) 1 0) =
      λ m. ap (λ (v : Bool). cond (v && is_number (suc m) (number_on side block.part)) 1 0) e ∙ ap (λ (o : Option ℕ). cond (is_number (suc m) o) 1 0) is in
      sum_single (λ m. cond (has_this side system (suc m) block) 1 0) count j (omega (arith, (ranged (suc j) (same_system_eq block.parent system e) is).1))
      (value j ∙ ap (λ (v : Bool). cond v 1 0) (eq-eqb (suc j) (suc j) refl))
      (λ m below apart. value m ∙ ap (λ (v : Bool). cond v 1 0) (ne_eqb (suc j) (suc m) (λ s. apart (omega (arith, s)))))
      ∙ sym (ap (λ (v : Bool). cond (v && is_some (number_on side block.part)) 1 0) e ∙ ap (λ (o : Option ℕ). cond (is_some o) 1 0) is)

-- the blocks of each number are together the ports
total : (side : Side) (system : Option ℕ) (count : ℕ) (blocks : List NestedBlock) → InRange blocks side system count →
    sum_below (λ m. count_by (has_this side system (suc m)) blocks) count ≡ count_by (is_port side system) blocks
total side system count [] ranged = sum_zero (λ m. 0) count (λ m below. refl)
total side system count (block ∷ blocks) ranged =
    sum_same (λ m. count_by (has_this side system (suc m)) (block ∷ blocks)) (λ m. cond (has_this side system (suc m) block) 1 0 + count_by (has_this side system (suc m)) blocks) count
    (λ m below. count_cons (has_this side system (suc m)) block blocks)
    ∙ sum_add (λ m. cond (has_this side system (suc m) block) 1 0) (λ m. count_by (has_this side system (suc m)) blocks) count
    ∙ ap (λ (n : ℕ). n + sum_below (λ m. count_by (has_this side system (suc m)) blocks) count) (one_block side system count block (λ number same is. ranged 0 number block refl same is))
    ∙ ap (λ (n : ℕ). cond (is_port side system block) 1 0 + n) (total side system count blocks (λ place number b at. ranged (suc place) number b at))
    ∙ sym (count_cons (is_port side system) block blocks)

pub each_number : (nested : Nested) → AllNestedKeep nested KeepsWiring
    → (side : Side) (system : Option ℕ) (number : ℕ) → 1 ≤ number
    → number ≤ count_in nested.blocks system (λ part. is_some (number_on side part)) →
    (k : ℕ) × (first_in nested.blocks system (λ part. is_number number (number_on side part)) ≡ Some k)
each_number nested keep side system zero above within = absurd (omega (arith, above))
each_number nested keep side system (suc m) above within =
    let found = found_from (has_this side system (suc m)) 0 nested.blocks one in
    (found.0, position_from-zero (has_this side system (suc m)) nested.blocks ∙ found.1) where
      in_range : InRange nested.blocks side system (count_by (is_port side system) nested.blocks)
      in_range place number block at same is =
          let its = ranged nested keep side place number block at is in
          let counts : count_in nested.blocks block.parent (λ part. is_some (number_on side part))
          ≡ count_by (is_port side system) nested.blocks =
          ap (λ (s : Option ℕ). count_in nested.blocks s (λ part. is_some (number_on side part))) same in
          (its.above, omega (arith, its.within, counts))

      few : (n : ℕ) → count_by (has_this side system (suc n)) nested.blocks ≤ 1
      few n = count_once (has_this side system (suc n)) nested.blocks (λ i j x y before at there px py.
          let first = passed side system (suc n) x px in
          let second = passed side system (suc n) y py in
          (ranged nested keep side j (suc n) y there second.1).first i x before at (first.0 ∙ sym second.0) first.1)

      one : count_by (has_this side system (suc m)) nested.blocks ≡ 1
      one = each_one (λ n. count_by (has_this side system (suc n)) nested.blocks) (count_by (is_port side system) nested.blocks) few
          (omega (arith, total side system (count_by (is_port side system) nested.blocks) nested.blocks in_range)) m (omega (arith, within))
