-- Of the counted hits all but the latest are those counted before it.
use Rattle.std.proofs.Common.{◌≡◌, ℕ, zero, suc, ◌%◌, ◌<◌, Bool, true, false, cond, if◌then◌else◌, List, [], ◌∷◌, filter, Option, Some, None, ◌==◌, ap, sym, ◌∙◌, subst, refl, arith, eqb-true}
use Rattle.dg_model.specs.Signals.{Table}
use Rattle.dg_model.specs.Hits.{Hits, is_hit, hits_before, is_enabled_at, hits_since_enabled, counted_hits}
use Rattle.dg_filters.specs.Laws.{GoOn, CountedHitsGoOn}

-- what the equality of lists with a head says
head_is : (x y : ℕ) (xs ys : List ℕ) → x ∷ xs ≡ y ∷ ys → x ≡ y
head_is x y xs ys e = ap (λ (l : List ℕ). first l) e
  where
    first : List ℕ → ℕ
    first [] = 0
    first (x ∷ xs) = x

tail_is : (x y : ℕ) (xs ys : List ℕ) → x ∷ xs ≡ y ∷ ys → xs ≡ ys
tail_is x y xs ys e = ap (λ (l : List ℕ). rest l) e
  where
    rest : List ℕ → List ℕ
    rest [] = []
    rest (x ∷ xs) = xs

none_has : (y : ℕ) (ys : List ℕ) → [] ≡ y ∷ ys → ⊥
none_has y ys e = cc

pub hit_is : (period : Option ℕ) (t : ℕ) → is_hit period t ≡ true → Hits period t
hit_is None t e = eqb-true t 0 e
hit_is (Some period) t e = eqb-true (t % period) 0 e

module _ (period : Option ℕ) where
  -- a list that grows at hits of a test, or starts anew at others
  module _ (before : ℕ → List ℕ) where
    abbrev Past : ℕ → Type 0
    Past t = (h : ℕ) (more : List ℕ) → before t ≡ h ∷ more → (before h ≡ more) × (h < t) × Hits period h

    here : (t : ℕ) → is_hit period t ≡ true → (h : ℕ) (more : List ℕ) → t ∷ before t ≡ h ∷ more → (before h ≡ more) × (h < suc t) × Hits period h
    here t hit h more e =
        let same = head_is t h (before t) more e in
        (subst (λ (k : ℕ). before k ≡ more) same (tail_is t h (before t) more e), omega (arith, same), subst (λ (k : ℕ). Hits period k) same (hit_is period t hit))

    there : (t : ℕ) → Past t → (h : ℕ) (more : List ℕ) → before t ≡ h ∷ more → (before h ≡ more) × (h < suc t) × Hits period h
    there t past h more e = let p = past h more e in (p.0, omega (arith, p.1), p.2)

  hits_past : (t h : ℕ) (more : List ℕ) → hits_before period t ≡ h ∷ more → (hits_before period h ≡ more) × (h < t) × Hits period h
  hits_past zero h more e = absurd (none_has h more e)
  hits_past (suc t) h more e = go (is_hit period t) refl (hits_past t) e
    where
      go : (hit : Bool) → is_hit period t ≡ hit → Past (hits_before period) t
          → (if hit then t ∷ hits_before period t else hits_before period t) ≡ h ∷ more
          → (hits_before period h ≡ more) × (h < suc t) × Hits period h
      go true is past e = here (hits_before period) t is h more e
      go false is past e = there (hits_before period) t past h more e

  abbrev kept : (ℕ → Bool) → ℕ → List ℕ
  kept test k = filter test (hits_before period k)

  filtered_past : (test : ℕ → Bool) (t h : ℕ) (more : List ℕ) → filter test (hits_before period t) ≡ h ∷ more → (filter test (hits_before period h) ≡ more) × (h < t) × Hits period h
  filtered_past test zero h more e = absurd (none_has h more e)
  filtered_past test (suc t) h more e = go (is_hit period t) (test t) refl refl (filtered_past test t) e
    where
      go : (hit enabled : Bool) → is_hit period t ≡ hit → test t ≡ enabled → Past (kept test) t
          → filter test (if hit then t ∷ hits_before period t else hits_before period t) ≡ h ∷ more
          → (filter test (hits_before period h) ≡ more) × (h < suc t) × Hits period h
      go false enabled is on past e = there (kept test) t past h more e
      go true true is on past e = here (kept test) t is h more (sym (ap (λ (b : Bool). cond b (t ∷ kept test t) (kept test t)) on) ∙ e)
      go true false is on past e = there (kept test) t past h more (sym (ap (λ (b : Bool). cond b (t ∷ kept test t) (kept test t)) on) ∙ e)

  since_past : (table : Table) (control : ℕ) (t h : ℕ) (more : List ℕ)
      → hits_since_enabled table control period t ≡ h ∷ more
      → (hits_since_enabled table control period h ≡ more) × (h < t) × Hits period h
  since_past table control zero h more e = absurd (none_has h more e)
  since_past table control (suc t) h more e = go (is_hit period t) (is_enabled_at table control t) refl (since_past table control t) e
    where
      go : (hit enabled : Bool) → is_hit period t ≡ hit → Past (hits_since_enabled table control period) t
          → (if hit then (if enabled then t ∷ hits_since_enabled table control period t else []) else
          hits_since_enabled table control period t) ≡ h ∷ more
          → (hits_since_enabled table control period h ≡ more) × (h < suc t) × Hits period h
      go false enabled is past e = there (hits_since_enabled table control period) t past h more e
      go true true is past e = here (hits_since_enabled table control period) t is h more e
      go true false is past e = absurd (none_has h more e)

pub counted_go_on : CountedHitsGoOn
counted_go_on table None reset period t h more e = let p = hits_past period t h more e in record { before = p.0; earlier = p.1; hit = p.2 }
counted_go_on table (Some control) false period t h more e = let p = filtered_past period (is_enabled_at table control) t h more e in record { before = p.0; earlier = p.1; hit = p.2 }
counted_go_on table (Some control) true period t h more e = let p = since_past period table control t h more e in record { before = p.0; earlier = p.1; hit = p.2 }
