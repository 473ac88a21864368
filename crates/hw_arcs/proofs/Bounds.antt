-- How great the least latencies can be: they leave no gap that is wider than what an arc asks.
use Rattle.std.proofs.Common.{◌≡◌, ℕ, zero, suc, ◌+◌, ◌-◌, ◌*◌, ◌<◌, ◌≤◌, Bool, true, false, cond, List, [], ◌∷◌, length, map, get_or, inl, inr, ⊎_elim, refl, arith}
use Rattle.std.specs.Prelude.{nat_lt, ◌⊎◌}
use Rattle.std.specs.List.{count_by}
use Rattle.std.proofs.lemmas.Bool.{cases_lt, ltb-true, ltb-false}
use Rattle.std.proofs.lemmas.List.Sums.{sum_by-cons, count_by-le-length}
use Rattle.hw_arcs.specs.declared.arc.Arc.{Arc}
use Rattle.hw_arcs.specs.Latencies.{latency_at, IsFeasible, IsLeast}
use Rattle.hw_arcs.specs.Laws.{AskAtMost}
use Rattle.hw_arcs.proofs.Counts.{one_if}

-- ---- latencies above a level, one less

abbrev lowered : ℕ → List ℕ → List ℕ
lowered level lat = map (λ x. cond (nat_lt level x) (x - 1) x) lat

record IsLowered (old new level : ℕ) : Type 0 where
  high : level < old → suc new ≡ old
  low : old ≤ level → new ≡ old

lowered_one : (level x : ℕ) → IsLowered x (cond (nat_lt level x) (x - 1) x) level
lowered_one level x = by_test (nat_lt level x) refl
  where
    by_test : (b : Bool) → nat_lt level x ≡ b → IsLowered x (cond b (x - 1) x) level
    by_test true is = let h = ltb-true level x is in record { high = λ more. omega (arith, h); low = λ less. absurd (omega (arith, h, less)) }
    by_test false is = let h = ltb-false level x is in record { high = λ more. absurd (omega (arith, h, more)); low = λ less. refl }

lowered_is : (level : ℕ) (lat : List ℕ) (block : ℕ) → IsLowered (latency_at lat block) (latency_at (lowered level lat) block) level
lowered_is level [] block = record { high = λ more. absurd (omega (arith, more)); low = λ less. refl }
lowered_is level (x ∷ lat) zero = lowered_one level x
lowered_is level (x ∷ lat) (suc block) = lowered_is level lat block

-- ---- gaps

record IsGap (lat : List ℕ) (low high : ℕ) : Type 0 where
  apart : (block : ℕ) → (latency_at lat block ≤ low) ⊎ (high < latency_at lat block)

lowered_keeps : (arcs : List Arc) (lat : List ℕ) (most low high : ℕ) → IsFeasible arcs lat → AskAtMost arcs most → IsGap lat low high → high ≡ low + most → IsFeasible arcs (lowered high lat)
lowered_keeps arcs lat most low high feasible ask gap wide = record {
  keeps = λ number arc at counts.
      by_ends (latency_at lat arc.from) (latency_at (lowered high lat) arc.from) (latency_at lat arc.to) (latency_at (lowered high lat) arc.to) arc.gain arc.slack
      (feasible.keeps number arc at counts) (ask.most number arc at counts) (lowered_is high lat arc.from) (lowered_is high lat arc.to) (gap.apart arc.from) (cases_lt high (latency_at lat arc.to));
}
  where
    by_ends : (from new_from to new_to gain slack : ℕ) → from + gain ≤ to + slack → gain ≤ slack + most → IsLowered from new_from high → IsLowered to new_to high
        → (from ≤ low) ⊎ (high < from) → (high < to) ⊎ (to ≤ high) → new_from + gain ≤ new_to + slack
    by_ends from new_from to new_to gain slack keeps little f t (inl early) (inl late) = let a =
        f.low (omega (arith, early, wide)) in let b =
        t.high late in omega (arith, keeps, little, a, b, early, late, wide)
    by_ends from new_from to new_to gain slack keeps little f t (inl early) (inr soon) = let a = f.low (omega (arith, early, wide)) in let b = t.low soon in omega (arith, keeps, a, b)
    by_ends from new_from to new_to gain slack keeps little f t (inr after) (inl late) = let a = f.high after in let b = t.high late in omega (arith, keeps, a, b)
    by_ends from new_from to new_to gain slack keeps little f t (inr after) (inr soon) = let a = f.high after in let b = t.low soon in omega (arith, keeps, a, b)

no_gap : (arcs : List Arc) (lat : List ℕ) (most low high block : ℕ) → IsLeast arcs lat → AskAtMost arcs most → IsGap lat low high → high ≡ low + most → high < latency_at lat block → ⊥
no_gap arcs lat most low high block least ask gap wide above =
    let less = least.least (lowered high lat) (lowered_keeps arcs lat most low high least.feasible ask gap wide) block in
    let one = (lowered_is high lat block).high above in
    omega (arith, less, one)

-- ---- how many latencies are above a level

abbrev Marked : ℕ → ℕ → Type 0
Marked level x = ((level < x) × (one_if (nat_lt level x) ≡ 1)) ⊎ ((x ≤ level) × (one_if (nat_lt level x) ≡ 0))

marked : (level x : ℕ) → Marked level x
marked level x = by_test (nat_lt level x) refl
  where
    by_test : (b : Bool) → nat_lt level x ≡ b → ((level < x) × (one_if b ≡ 1)) ⊎ ((x ≤ level) × (one_if b ≡ 0))
    by_test true is = inl (ltb-true level x is, refl)
    by_test false is = inr (ltb-false level x is, refl)

counted : (level : ℕ) (xs : List ℕ) (k : ℕ) → level < get_or xs k 0 → 1 ≤ count_by (nat_lt level) xs
counted level [] k above = absurd (omega (arith, above))
counted level (x ∷ xs) zero above =
    let c = sum_by-cons (λ y. cond (nat_lt level y) 1 0) x xs in
    ⊎_elim
    (λ (more : (level < x) × (one_if (nat_lt level x) ≡ 1)). let one = more.1 in omega (arith, c, one))
    (λ (less : (x ≤ level) × (one_if (nat_lt level x) ≡ 0)). let low = less.0 in absurd (omega (arith, low, above)))
    (marked level x)
counted level (x ∷ xs) (suc k) above =
    let c = sum_by-cons (λ y. cond (nat_lt level y) 1 0) x xs in
    let more = counted level xs k above in
    omega (arith, c, more)

-- one between two levels counts at the lower alone, and every other at both or at none
between : (low high x : ℕ) → low ≤ high → (((x ≤ low) ⊎ (high < x)) × (one_if (nat_lt high x) ≡ one_if (nat_lt low x))) ⊎ (one_if (nat_lt high x) + 1 ≡ one_if (nat_lt low x))
between low high x below = by (marked low x) (marked high x)
  where
    by : Marked low x → Marked high x → (((x ≤ low) ⊎ (high < x)) × (one_if (nat_lt high x) ≡ one_if (nat_lt low x))) ⊎ (one_if (nat_lt high x) + 1 ≡ one_if (nat_lt low x))
    by (inl over) (inl above) = let one = over.1 in let too = above.1 in inl (inr above.0, omega (arith, one, too))
    by (inl over) (inr under) = let one = over.1 in let none = under.1 in inr (omega (arith, one, none))
    by (inr down) (inl above) = let less = down.0 in let more = above.0 in absurd (omega (arith, less, more, below))
    by (inr down) (inr under) = let none = down.1 in let too = under.1 in inl (inl down.0, omega (arith, none, too))

no_more : (low high : ℕ) (xs : List ℕ) → low ≤ high → count_by (nat_lt high) xs ≤ count_by (nat_lt low) xs
no_more low high [] below = omega arith
no_more low high (x ∷ xs) below =
    let l = sum_by-cons (λ y. cond (nat_lt low y) 1 0) x xs in
    let h = sum_by-cons (λ y. cond (nat_lt high y) 1 0) x xs in
    let more = no_more low high xs below in
    elim (between low high x below) [
      | inl level ↦ let same = level.1 in omega (arith, l, h, more, same)
      | inr one ↦ omega (arith, l, h, more, one)
    ]

fewer : (low high : ℕ) (xs : List ℕ) → low ≤ high → (count_by (nat_lt high) xs + 1 ≤ count_by (nat_lt low) xs) ⊎ IsGap xs low high
fewer low high [] below = inr (record { apart = λ k. inl (omega arith) })
fewer low high (x ∷ xs) below =
    let l = sum_by-cons (λ y. cond (nat_lt low y) 1 0) x xs in
    let h = sum_by-cons (λ y. cond (nat_lt high y) 1 0) x xs in
    let more = no_more low high xs below in
    elim (between low high x below) [
      | inl level ↦ elim (fewer low high xs below) [
        | inl less ↦ let same = level.1 in inl (omega (arith, l, h, less, same))
        | inr gap ↦ inr (wider x gap level.0)
      ]
      | inr one ↦ inl (omega (arith, l, h, more, one))
    ]
  where
    wider : (x : ℕ) → IsGap xs low high → (x ≤ low) ⊎ (high < x) → IsGap (x ∷ xs) low high
    wider x gap here = record { apart = by_place gap here }
      where
        by_place : IsGap xs low high → (x ≤ low) ⊎ (high < x) → (block : ℕ) → (latency_at (x ∷ xs) block ≤ low) ⊎ (high < latency_at (x ∷ xs) block)
        by_place gap here zero = here
        by_place gap here (suc block) = gap.apart block

-- ---- the bound

thinner : (arcs : List Arc) (lat : List ℕ) (most block : ℕ) → IsLeast arcs lat → AskAtMost arcs most → (k : ℕ) → k * most < latency_at lat block → count_by (nat_lt (k * most)) lat + k ≤ length lat
thinner arcs lat most block least ask zero above = let all = count_by-le-length (nat_lt (0 * most)) lat in omega (arith, all)
thinner arcs lat most block least ask (suc k) above =
    let wide : suc k * most ≡ k * most + most = omega arith in
    let more = thinner arcs lat most block least ask k (omega (arith, above, wide)) in
    ⊎_elim
    (λ (less : count_by (nat_lt (suc k * most)) lat + 1 ≤ count_by (nat_lt (k * most)) lat). omega (arith, more, less))
    (λ (gap : IsGap lat (k * most) (suc k * most)). absurd (no_gap arcs lat most (k * most) (suc k * most) block least ask gap wide above))
    (fewer (k * most) (suc k * most) lat (omega (arith, wide)))

pub bounded : (arcs : List Arc) (lat : List ℕ) (most : ℕ) → IsLeast arcs lat → AskAtMost arcs most → (block : ℕ) → latency_at lat block ≤ length lat * most
bounded arcs lat most least ask block = ⊎_elim
    (λ (above : length lat * most < latency_at lat block).
    let few = thinner arcs lat most block least ask (length lat) above in
    let one = counted (length lat * most) lat block above in
    absurd (omega (arith, few, one)))
    (λ (below : latency_at lat block ≤ length lat * most). below)
    (cases_lt (length lat * most) (latency_at lat block))
