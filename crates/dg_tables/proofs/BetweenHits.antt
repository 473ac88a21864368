-- Between hits the entry of one sample is that of the sample before.
use Rattle.std.proofs.Common.{◌≡◌, ℕ, zero, suc, ◌+◌, ◌*◌, ◌/◌, ◌%◌, ◌<◌, ◌≤◌, ◌⊎◌, inl, inr, Option, Some, None, ap, sym, ◌∙◌, refl, arith, div-add-mod', mod-lt}
use Rattle.std.proofs.lemmas.Bool.{cases_lt}
use Rattle.std.proofs.lemmas.Nat.{mod-mul-add}
use Rattle.dg_model.specs.Hits.{Hits, last_hit}
use Rattle.dg_tables.specs.Laws.{EntriesStay}
use Rattle.dg_tables.proofs.Lists.{hit_or_not}

-- one more, where it doesn't reach the next multiple
mod-suc : (t p : ℕ) → ¬ (suc t % p ≡ 0) → 0 < p → suc t % p ≡ suc (t % p)
mod-suc t p miss some = go (cases_lt (suc (t % p)) p)
  where
    go : (suc (t % p) < p) ⊎ (p ≤ suc (t % p)) → suc t % p ≡ suc (t % p)
    go (inl l) =
        let e : suc t ≡ t / p * p + suc (t % p) = omega (arith, div-add-mod' t p) in
        ap (λ (n : ℕ). n % p) e ∙ mod-mul-add (t / p) p (suc (t % p)) l
    go (inr g) =
        let full : suc (t % p) ≡ p = omega (arith, g, mod-lt t some) in
        let e : suc t ≡ suc (t / p) * p + 0 = omega (arith, div-add-mod' t p, full) in
        absurd (miss (ap (λ (n : ℕ). n % p) e ∙ mod-mul-add (suc (t / p)) p 0 some))

last_stays : (period : Option ℕ) (t : ℕ) → ¬ Hits period (suc t) → (Hits period t → last_hit period (suc t) ≡ t) × (¬ Hits period t → last_hit period (suc t) ≡ last_hit period t)
last_stays None t miss = (λ hit. sym hit, λ _. refl)
last_stays (Some zero) t miss =
    let e : t % 0 ≡ t = omega (arith, div-add-mod' t 0) in
    let f : suc t % 0 ≡ suc t = omega (arith, div-add-mod' (suc t) 0) in
    (λ hit. omega (arith, e, f, hit), λ _. omega (arith, e, f))
last_stays (Some (suc p)) t miss =
    let e = mod-suc t (suc p) miss (omega arith) in
    (λ hit. omega (arith, e, hit), λ _. omega (arith, e))

pub entries_stay : EntriesStay
entries_stay diagram attributes stimulus n table solves block b port element t shown below miss = go (hit_or_not (attributes.period_at block) t)
  where
    go : Hits (attributes.period_at block) t ⊎ ¬ Hits (attributes.period_at block) t → table block port element (suc t) ≡ table block port element t
    go (inl hit) =
        solves.between_hits block b port element (suc t) shown below miss
        ∙ ap (λ (s : ℕ). table block port element s) ((last_stays (attributes.period_at block) t miss).0 hit)
    go (inr no_hit) =
        solves.between_hits block b port element (suc t) shown below miss
        ∙ ap (λ (s : ℕ). table block port element s) ((last_stays (attributes.period_at block) t miss).1 no_hit)
        ∙ sym (solves.between_hits block b port element t shown (omega (arith, below)) no_hit)
