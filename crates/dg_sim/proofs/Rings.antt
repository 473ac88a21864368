-- A push into a ring puts a value before what it keeps.
use Rattle.std.proofs.Common.{◌≡◌, ℕ, zero, suc, ◌+◌, ◌-◌, ◌<◌, ◌≤◌, ◌⊎◌, inl, inr, Bool, cond, ℤ, pos, Some, None, slice_get, List, ◌∷◌, map, length, take, get_or, set, length-set, get_or-set_same}
use Rattle.std.proofs.Common.{get_or-set_other, ap, ap₂, sym, ◌∙◌, refl, arith, lt-ltb, le-ltb, add-one}
use Rattle.std.proofs.lemmas.Bool.{cases_lt}
use Rattle.math_list.proofs.Numbers.{mapped_at}
use Rattle.math_list.specs.Numbers.{numbers_from}
use Rattle.dg_sim.specs.Ring.{place, ring_values}

pub map_shifted : {A : Type 0} (f g : ℕ → A) (k m : ℕ) → ((p : ℕ) → p < k + m → f (suc p) ≡ g p) → map f (numbers_from (suc k) m) ≡ map g (numbers_from k m)
map_shifted f g k zero h = refl
map_shifted f g k (suc m) h = ap₂ (λ x xs. x ∷ xs) (h k (omega arith)) (map_shifted f g (suc k) m (λ p l. h p (omega (arith, l))))

pub take_numbers : {A : Type 0} (f : ℕ → A) (k j m : ℕ) → j ≤ m → take j (map f (numbers_from k m)) ≡ map f (numbers_from k j)
take_numbers f k zero m h = refl
take_numbers f k (suc j) zero h = absurd (omega (arith, h))
take_numbers f k (suc j) (suc m) h = ap (λ xs. f k ∷ xs) (take_numbers f (suc k) j m (omega (arith, h)))

pub take_few : {A : Type 0} (f : ℕ → A) (k j m : ℕ) → m ≤ j → take j (map f (numbers_from k m)) ≡ map f (numbers_from k m)
take_few f k zero zero h = refl
take_few f k (suc j) zero h = refl
take_few f k zero (suc m) h = absurd (omega (arith, h))
take_few f k (suc j) (suc m) h = ap (λ xs. f k ∷ xs) (take_few f (suc k) j m (omega (arith, h)))

-- the place before the head
abbrev pub IsBefore : ℕ → ℕ → ℕ → Type 0
IsBefore n head before = ((head ≡ 0) × (before + 1 ≡ n)) ⊎ (head ≡ before + 1)

place_cases : (n head k : ℕ) → ((head + k < n) × (place n head k ≡ head + k)) ⊎ ((n ≤ head + k) × (place n head k ≡ head + k - n))
place_cases n head k = go (cases_lt (head + k) n)
  where
    go : (head + k < n) ⊎ (n ≤ head + k) → ((head + k < n) × (place n head k ≡ head + k)) ⊎ ((n ≤ head + k) × (place n head k ≡ head + k - n))
    go (inl l) = inl (l, ap (λ (b : Bool). cond b (head + k) (head + k - n)) (lt-ltb (head + k) n l))
    go (inr g) = inr (g, ap (λ (b : Bool). cond b (head + k) (head + k - n)) (le-ltb (head + k) n g))

pub place_shifted : (n head before p : ℕ) → head < n → IsBefore n head before → p + 1 < n → (place n before (suc p) ≡ place n head p) × ¬ (place n before (suc p) ≡ before)
place_shifted n head before p below is h = go is (place_cases n before (suc p)) (place_cases n head p)
  where
    go : ((head ≡ 0) × (before + 1 ≡ n)) ⊎ (head ≡ before + 1)
        → ((before + suc p < n) × (place n before (suc p) ≡ before + suc p)) ⊎ ((n ≤ before + suc p) × (place n before (suc p) ≡ before + suc p - n))
        → ((head + p < n) × (place n head p ≡ head + p)) ⊎ ((n ≤ head + p) × (place n head p ≡ head + p - n)) → (place n before (suc p) ≡ place n head p) × ¬ (place n before (suc p) ≡ before)
    go (inl e) (inl a) (inl b) = absurd (omega (arith, e.1, a.0))
    go (inl e) (inl a) (inr b) = absurd (omega (arith, e.1, a.0))
    go (inl e) (inr a) (inl b) = (a.1 ∙ (let k : before + suc p - n ≡ head + p = omega (arith, e.0, e.1) in k) ∙ sym b.1, λ z. omega (arith, a.1, z, e.0, e.1, h))
    go (inl e) (inr a) (inr b) = absurd (omega (arith, e.0, b.0, h))
    go (inr e) (inl a) (inl b) = (a.1 ∙ (let k : before + suc p ≡ head + p = omega (arith, e) in k) ∙ sym b.1, λ z. omega (arith, a.1, z))
    go (inr e) (inl a) (inr b) = absurd (omega (arith, e, a.0, b.0))
    go (inr e) (inr a) (inl b) = absurd (omega (arith, e, a.0, b.0))
    go (inr e) (inr a) (inr b) = (a.1 ∙ (let k : before + suc p - n ≡ head + p - n = omega (arith, e) in k) ∙ sym b.1, λ z. omega (arith, a.0, a.1, z, h))

module _ (values : List ℤ) (v : ℤ) (head before filled : ℕ) (below : head < length values) (few : filled ≤ length values) (is : IsBefore (length values) head before) where
  pub before_below : before < length values
  before_below = go is
    where
      go : ((head ≡ 0) × (before + 1 ≡ length values)) ⊎ (head ≡ before + 1) → before < length values
      go (inl e) = omega (arith, e.1)
      go (inr e) = omega (arith, e, below)

  old : ℕ → ℤ
  old k = get_or values (place (length values) head k) (pos 0)

  new : ℕ → ℤ
  new k = get_or (set values before v) (place (length (set values before v)) before k) (pos 0)

  newest : new 0 ≡ v
  unfolding new
  newest = ap (λ (n : ℕ). get_or (set values before v) (place n before 0) (pos 0)) (length-set values before v)
      ∙ ap (λ (i : ℕ). get_or (set values before v) i (pos 0)) at_start
      ∙ get_or-set_same values before v (pos 0) before_below
    where
      at_start : place (length values) before 0 ≡ before
      at_start = go (place_cases (length values) before 0)
        where
          go : ((before + 0 < length values) × (place (length values) before 0 ≡ before + 0))
              ⊎ ((length values ≤ before + 0) × (place (length values) before 0 ≡ before + 0 - length values))
              → place (length values) before 0 ≡ before
          go (inl a) = omega (arith, a.1)
          go (inr a) = absurd (omega (arith, a.0, before_below))

  older : (p : ℕ) → p + 1 < length values → new (suc p) ≡ old p
  unfolding new old
  older p h =
      let s = place_shifted (length values) head before p below is h in
      let apart = s.1 in
      ap (λ (n : ℕ). get_or (set values before v) (place n before (suc p)) (pos 0)) (length-set values before v)
      ∙ get_or-set_other values before (place (length values) before (suc p)) v (pos 0) apart
      ∙ ap (λ (i : ℕ). get_or values i (pos 0)) s.0

  pub pushed_more : filled < length values → ring_values (set values before v) before (filled + 1) ≡ take (length values) (v ∷ ring_values values head filled)
  unfolding new old
  pushed_more h = go (length values) refl
    where
      go : (n : ℕ) → length values ≡ n → ring_values (set values before v) before (filled + 1) ≡ take n (v ∷ ring_values values head filled)
      go zero e = absurd (omega (arith, e, h))
      go (suc j) e = rw add-one (ap₂ (λ (x : ℤ) (xs : List ℤ). x ∷ xs) newest
          (map_shifted new old 0 filled (λ p l. older p (omega (arith, l, h))) ∙ sym (take_few old 0 j filled (omega (arith, e, h)))))

  pub pushed_full : length values ≤ filled → ring_values (set values before v) before (length values) ≡ take (length values) (v ∷ ring_values values head filled)
  unfolding new old
  pushed_full h = go (length values) refl
    where
      go : (n : ℕ) → length values ≡ n → ring_values (set values before v) before n ≡ take n (v ∷ ring_values values head filled)
      go zero e = refl
      go (suc j) e = ap₂ (λ (x : ℤ) (xs : List ℤ). x ∷ xs) newest
          (map_shifted new old 0 j (λ p l. older p (omega (arith, l, e))) ∙ sym (take_numbers old 0 j filled (omega (arith, e, h))))

  pub pushed : (more : ℕ) → ((filled < length values) × (more ≡ filled + 1))
      ⊎ ((length values ≤ filled) × (more ≡ length values))
      → ring_values (set values before v) before more
      ≡ take (length values) (v ∷ ring_values values head filled)
  pushed more (inl e) = ap (λ (n : ℕ). ring_values (set values before v) before n) e.1 ∙ pushed_more e.0
  pushed more (inr e) = ap (λ (n : ℕ). ring_values (set values before v) before n) e.1 ∙ pushed_full e.0

-- what is read of a ring
pub value_there : (values : List ℤ) (head filled age : ℕ) → age < filled → slice_get (ring_values values head filled) age ≡ Some (get_or values (place (length values) head age) (pos 0))
value_there values head filled age below =
    let zero_more : 0 + age ≡ age = omega arith in
    mapped_at (λ k. get_or values (place (length values) head k) (pos 0)) 0 filled age below ∙ ap (λ (k : ℕ). Some (get_or values (place (length values) head k) (pos 0))) zero_more

none_mapped : (f : ℕ → ℤ) (from n k : ℕ) → n ≤ k → slice_get (map f (numbers_from from n)) k ≡ None
none_mapped f from zero k h = refl
none_mapped f from (suc n) zero h = absurd (omega (arith, h))
none_mapped f from (suc n) (suc k) h = none_mapped f (suc from) n k (omega (arith, h))

pub value_none : (values : List ℤ) (head filled age : ℕ) → filled ≤ age → None ≡ slice_get (ring_values values head filled) age
value_none values head filled age h = sym (none_mapped (λ k. get_or values (place (length values) head k) (pos 0)) 0 filled age h)
