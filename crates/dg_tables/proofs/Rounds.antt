-- Rounds in which what is known stays: after as many as there are blocks nothing more becomes known.
use Rattle.std.proofs.Common.{◌≡◌, ℕ, zero, suc, ◌<◌, ◌≤◌, ◌⊎◌, inl, inr, List, [], ◌∷◌, length, slice_get, Option, Some, None, ap, ap₂, sym, ◌∙◌, subst, refl, arith}
use Rattle.std.proofs.lemmas.Option.{none-some, same_Some, slice_get_within, get_or_from_slice_get}
use Rattle.dg_waves.specs.Rounds.{round, after_rounds}
use Rattle.dg_waves.proofs.WaveRounds.{length_round, round_at, length_after}
use Rattle.math_list.proofs.Places.{same_places}
use Rattle.dg_model.specs.Periods.{known_or, known_at}

-- what is known stands there
pub known_there : {A : Type 0} (xs : List (Option A)) (k : ℕ) (x : A) → known_at xs k ≡ Some x → slice_get xs k ≡ Some (Some x)
known_there [] k x e = absurd (none-some x e)
known_there {A} (y ∷ xs) zero x e = ap (λ (o : Option A). Some o) e
known_there (y ∷ xs) (suc k) x e = known_there xs k x e

pub there_known : {A : Type 0} (xs : List (Option A)) (k : ℕ) (x : A) → slice_get xs k ≡ Some (Some x) → known_at xs k ≡ Some x
there_known xs k x e = get_or_from_slice_get xs k (Some x) None e

-- what is known in the first list is known in the other
pub record Grows {A : Type 0} (xs ys : List (Option A)) : Type 0 where
  pub same : length xs ≡ length ys
  pub kept : (k : ℕ) (x : A) → slice_get xs k ≡ Some (Some x) → slice_get ys k ≡ Some (Some x)

abbrev count_known : {A : Type 0} → List (Option A) → ℕ
count_known [] = 0
count_known (None ∷ xs) = count_known xs
count_known (Some x ∷ xs) = suc (count_known xs)

pub rest_grows : {A : Type 0} (x y : Option A) (xs ys : List (Option A)) → Grows (x ∷ xs) (y ∷ ys) → Grows xs ys
rest_grows x y xs ys g = record { same = omega (arith, g.same); kept = λ k z e. g.kept (suc k) z e }

abbrev SameLists : {A : Type 0} → List (Option A) → List (Option A) → Type 0
SameLists xs ys = xs ≡ ys

more_or_same : {A : Type 0} (xs ys : List (Option A)) → Grows xs ys → (count_known xs < count_known ys) ⊎ (xs ≡ ys)
more_or_same [] [] g = inr refl
more_or_same [] (y ∷ ys) g = absurd (omega (arith, g.same))
more_or_same (x ∷ xs) [] g = absurd (omega (arith, g.same))
more_or_same {A} (None ∷ xs) (None ∷ ys) g = go (more_or_same xs ys (rest_grows None None xs ys g))
  where
    go : (count_known xs < count_known ys) ⊎ (xs ≡ ys) → (count_known xs < count_known ys) ⊎ SameLists (None ∷ xs) (None ∷ ys)
    go (inl l) = inl l
    go (inr e) = inr (ap (λ (zs : List (Option A)). None ∷ zs) e)
more_or_same {A} (None ∷ xs) (Some y ∷ ys) g = inl (go (more_or_same xs ys (rest_grows None (Some y) xs ys g)))
  where
    go : (count_known xs < count_known ys) ⊎ (xs ≡ ys) → count_known xs < suc (count_known ys)
    go (inl l) = omega (arith, l)
    go (inr e) = let same : count_known xs ≡ count_known ys = ap (λ (zs : List (Option A)). count_known zs) e in omega (arith, same)
more_or_same (Some x ∷ xs) (None ∷ ys) g = absurd (none-some x (same_Some None (Some x) (g.kept 0 x refl)))
more_or_same {A} (Some x ∷ xs) (Some y ∷ ys) g = go (more_or_same xs ys (rest_grows (Some x) (Some y) xs ys g)) (same_Some (Some y) (Some x) (g.kept 0 x refl))
  where
    go : (count_known xs < count_known ys) ⊎ (xs ≡ ys) → Some y ≡ Some x → (suc (count_known xs) < suc (count_known ys)) ⊎ SameLists (Some x ∷ xs) (Some y ∷ ys)
    go (inl l) f = inl (omega (arith, l))
    go (inr e) f = inr (ap₂ (λ (o : Option A) (zs : List (Option A)). o ∷ zs) (sym f) e)

at_most_all : {A : Type 0} (xs : List (Option A)) → count_known xs ≤ length xs
at_most_all [] = omega arith
at_most_all (None ∷ xs) = omega (arith, at_most_all xs)
at_most_all (Some x ∷ xs) = omega (arith, at_most_all xs)

all_there : {A : Type 0} (xs : List (Option A)) → length xs ≤ count_known xs → (k : ℕ) → k < length xs → (x : A) × (slice_get xs k ≡ Some (Some x))
all_there [] all k below = absurd (omega (arith, below))
all_there (None ∷ xs) all k below = absurd (omega (arith, all, at_most_all xs))
all_there (Some x ∷ xs) all zero below = (x, refl)
all_there (Some x ∷ xs) all (suc k) below = all_there xs (omega (arith, all)) k (omega (arith, below))

module _ {A : Type 0} (take : List (Option A) → ℕ → Option A) where
  abbrev pub next : List (Option A) → ℕ → Option A
  next values block = known_or (known_at values block) (take values block)

  abbrev pub after : ℕ → List (Option A) → List (Option A)
  after rounds start = after_rounds next rounds start

  kept_known : (values : List (Option A)) (block : ℕ) (x : A) → known_at values block ≡ Some x → next values block ≡ Some x
  kept_known values block x e = subst (λ (o : Option A). known_or o (take values block) ≡ Some x) (sym e) refl

  pub round_grows : (values : List (Option A)) → Grows values (round next values)
  round_grows values = record {
    same = sym (length_round next values);
    kept = λ k x e. round_at next values k (slice_get_within values k (Some x) e) ∙ ap (λ (o : Option A). Some o) (kept_known values k x (there_known values k x e));
  }

  all_stay : (values : List (Option A)) → length values ≤ count_known values → round next values ≡ values
  all_stay values all = same_places (round next values) values (length_round next values) (λ k below. here k (subst (λ (n : ℕ). k < n) (length_round next values) below))
    where
      here : (k : ℕ) → k < length values → slice_get (round next values) k ≡ slice_get values k
      here k below = let x = all_there values all k below in (round_grows values).kept k x.0 x.1 ∙ sym x.1

  fixed_or_more : (n : ℕ) (start : List (Option A)) → (round next (after n start) ≡ after n start) ⊎ (n ≤ count_known (after n start))
  fixed_or_more zero start = inr (omega arith)
  fixed_or_more (suc n) start = go (fixed_or_more n start)
    where
      by_count : n ≤ count_known (after n start) → (count_known (after n start) < count_known (round next (after n start))) ⊎ (after n start ≡ round next (after n start))
          → (round next (round next (after n start)) ≡ round next (after n start)) ⊎ (suc n ≤ count_known (round next (after n start)))
      by_count more (inl l) = inr (omega (arith, more, l))
      by_count more (inr e) = inl (ap (round next) (sym e))

      go : (round next (after n start) ≡ after n start) ⊎ (n ≤ count_known (after n start))
          → (round next (round next (after n start)) ≡ round next (after n start)) ⊎ (suc n ≤ count_known (round next (after n start)))
      go (inl e) = inl (ap (round next) e)
      go (inr more) = by_count more (more_or_same (after n start) (round next (after n start)) (round_grows (after n start)))

  -- as many rounds as there are blocks are enough
  pub settled : (n : ℕ) (start : List (Option A)) → length start ≡ n → round next (after n start) ≡ after n start
  settled n start size = go (fixed_or_more n start)
    where
      go : (round next (after n start) ≡ after n start) ⊎ (n ≤ count_known (after n start)) → round next (after n start) ≡ after n start
      go (inl e) = e
      go (inr more) = all_stay (after n start) (omega (arith, more, size, length_after next n start))

  -- what a block would take, it has
  pub taken_known : (values : List (Option A)) (block : ℕ) (x : A) → round next values ≡ values → block < length values → take values block ≡ Some x → (y : A) × (known_at values block ≡ Some y)
  taken_known values block x fixed below e = go (known_at values block) refl
    where
      there : slice_get values block ≡ Some (next values block)
      there = subst (λ (list : List (Option A)). slice_get list block ≡ Some (next values block)) fixed (round_at next values block below)

      go : (o : Option A) → known_at values block ≡ o → (y : A) × (known_at values block ≡ Some y)
      go (Some y) same = (y, same)
      go None same =
          let new : next values block ≡ Some x = subst (λ (o : Option A). known_or o (take values block) ≡ Some x) (sym same) e in
          (x, there_known values block x (there ∙ ap (λ (o : Option A). Some o) new))

  -- what is known after a round was known before, or is taken in it
  pub round_known : (values : List (Option A)) (block : ℕ) (x : A) → known_at (round next values) block ≡ Some x → (known_at values block ≡ Some x) ⊎ (take values block ≡ Some x)
  round_known values block x e = go (known_at values block) refl
    where
      there : slice_get (round next values) block ≡ Some (Some x)
      there = known_there (round next values) block x e

      is_next : next values block ≡ Some x
      is_next =
          let below : block < length (round next values) = slice_get_within (round next values) block (Some x) there in
          same_Some (next values block) (Some x) (sym (round_at next values block (subst (λ (n : ℕ). block < n) (length_round next values) below)) ∙ there)

      go : (o : Option A) → known_at values block ≡ o → (known_at values block ≡ Some x) ⊎ (take values block ≡ Some x)
      go (Some y) same = inl (same ∙ subst (λ (p : Option A). known_or p (take values block) ≡ Some x) same is_next)
      go None same = inr (subst (λ (p : Option A). known_or p (take values block) ≡ Some x) same is_next)
