-- The order of good plans, and how the best of the first findings goes on.
use Rattle.std.proofs.Common.{◌≡◌, ℕ, ◌+◌, ◌<◌, ◌≤◌, List, Option, Some, None, sym, ap, subst, ◌∙◌, inl, inr, arith}
use Rattle.std.specs.Prelude.{slice_get}
use Rattle.std.proofs.lemmas.Bool.{cases_lt}
use Rattle.std.proofs.lemmas.Option.{same_Some}
use Rattle.hw_explore.specs.declared.exploring.Best.{Best}
use Rattle.hw_explore.specs.declared.finding.Finding.{Finding}
use Rattle.hw_explore.specs.declared.finding.Judged.{Judged}
use Rattle.hw_explore.specs.declared.finding.Judged.TheVariants.{Good, Bad}
use Rattle.hw_explore.specs.declared.rank.Rank.{Rank}
use Rattle.hw_explore.specs.Findings.{IsLessOr, IsBetter, IsRanked}
use Rattle.hw_explore.specs.inner.Best.{IsBest, IsBestAt}

-- ---- the order

less_or_trans : (x y z : ℕ) (T U V : Type 0) → IsLessOr x y T → IsLessOr y z U → (T → U → V) → IsLessOr x z V
less_or_trans x y z T U V (inl less) (inl more) then = inl (omega (arith, less, more))
less_or_trans x y z T U V (inl less) (inr same) then = let e = same.0 in inl (omega (arith, less, e))
less_or_trans x y z T U V (inr same) (inl more) then = let e = same.0 in inl (omega (arith, more, e))
less_or_trans x y z T U V (inr same) (inr also) then = inr (same.0 ∙ also.0, then same.1 also.1)

less_or_self : (x : ℕ) (T : Type 0) → IsLessOr x x T → T
less_or_self x T (inl less) = absurd (omega (arith, less))
less_or_self x T (inr same) = same.1

better_trans : (a b c : Rank) → IsBetter a b → IsBetter b c → IsBetter a c
better_trans a b c one other =
    less_or_trans a.multiplications b.multiplications c.multiplications _ _ _ one other
    (λ one other. less_or_trans a.cycles b.cycles c.cycles _ _ _ one other
    (λ one other. less_or_trans a.latency b.latency c.latency _ _ _ one other
    (λ less more. omega (arith, less, more))))

not_better_self : (a : Rank) → ¬ IsBetter a a
not_better_self a better =
    let less = less_or_self a.latency _ (less_or_self a.cycles _ (less_or_self a.multiplications _ better)) in
    absurd (omega (arith, less))

-- ---- ranks of one finding

owed_of : Judged → ℕ
owed_of (Good owed latency) = owed
owed_of (Bad rule shown) = 0

late_of : Judged → ℕ
late_of (Good owed latency) = latency
late_of (Bad rule shown) = 0

one_rank : (finding : Finding) (rank other : Rank) → IsRanked finding rank → IsRanked finding other → rank ≡ other
unfolding owed_of late_of
one_rank finding rank other is also =
    let owed : rank.multiplications ≡ other.multiplications = ap owed_of (sym is.good ∙ also.good) in
    let late : rank.latency ≡ other.latency = ap late_of (sym is.good ∙ also.good) in
    let cycles : rank.cycles ≡ other.cycles = is.cycles ∙ sym also.cycles in
    let multipliers : rank.multipliers ≡ other.multipliers = is.multipliers ∙ sym also.multipliers in
    λ i. record { multiplications = owed i; cycles = cycles i; latency = late i; multipliers = multipliers i }

-- ---- one finding more

module _ (rows : List Finding) (place : ℕ) (finding : Finding) (there : slice_get rows place ≡ Some finding) where
  -- a finding there is this one
  same_there : (k : ℕ) (other : Finding) → place ≤ k → k < place + 1 → slice_get rows k ≡ Some other → finding ≡ other
  same_there k other low high at =
      let e : place ≡ k = omega (arith, low, high) in
      same_Some finding other (sym there ∙ subst (λ (j : ℕ). slice_get rows j ≡ Some other) (sym e) at)

  pub best_kept : (best : Option Best) → ((rank : Rank) → ¬ IsRanked finding rank) → IsBest rows place best → IsBest rows (place + 1) best
  best_kept None bad none = λ k other rank below at ranked. elim (cases_lt k place) [
    | inl before ↦ none k other rank before at ranked
    | inr past ↦ bad rank (subst (λ (f : Finding). IsRanked f rank) (sym (same_there k other past below at)) ranked)
  ]
  best_kept (Some best) bad is = record {
    finding = is.finding;
    there = is.there;
    ranked = is.ranked;
    least = λ k other better below at ranked. elim (cases_lt k place) [
      | inl before ↦ is.least k other better before at ranked
      | inr past ↦ absurd (bad better (subst (λ (f : Finding). IsRanked f better) (sym (same_there k other past below at)) ranked))
    ];
  }

  -- none there is better than the rank of this one
  not_there : (rank : Rank) → IsRanked finding rank → (k : ℕ) (other : Finding) (better : Rank) → place ≤ k
      → k < place + 1 → slice_get rows k ≡ Some other → IsRanked other better → ¬ IsBetter better rank
  not_there rank ranked k other better past below at also =
      let own = subst (λ (f : Finding). IsRanked f better) (sym (same_there k other past below at)) also in
      subst (λ (r : Rank). ¬ IsBetter r rank) (one_rank finding rank better ranked own) (not_better_self rank)

  pub best_first : (rank : Rank) (at : ℕ) → at ≡ place → IsRanked finding rank → IsBest rows place None → IsBestAt rows (place + 1) (record { place = at; rank = rank })
  best_first rank at at_is ranked none = record {
    finding = finding;
    there = subst (λ (j : ℕ). slice_get rows j ≡ Some finding) (sym at_is) there;
    ranked = ranked;
    least = λ k other better below at also. elim (cases_lt k place) [
      | inl before ↦ absurd (none k other better before at also)
      | inr past ↦ not_there rank ranked k other better past below at also
    ];
  }

  pub best_new : (rank : Rank) (at : ℕ) (best : Best) → at ≡ place → IsRanked finding rank → IsBetter rank best.rank
      → IsBestAt rows place best → IsBestAt rows (place + 1) (record { place = at; rank = rank })
  best_new rank at best at_is ranked beats is = record {
    finding = finding;
    there = subst (λ (j : ℕ). slice_get rows j ≡ Some finding) (sym at_is) there;
    ranked = ranked;
    least = λ k other better below at also. elim (cases_lt k place) [
      | inl before ↦ λ wins. is.least k other better before at also (better_trans better rank best.rank wins beats)
      | inr past ↦ not_there rank ranked k other better past below at also
    ];
  }

  pub best_old : (rank : Rank) (best : Best) → IsRanked finding rank → ¬ IsBetter rank best.rank → IsBestAt rows place best → IsBestAt rows (place + 1) best
  best_old rank best ranked loses is = record {
    finding = is.finding;
    there = is.there;
    ranked = is.ranked;
    least = λ k other better below at also. elim (cases_lt k place) [
      | inl before ↦ is.least k other better before at also
      | inr past ↦
          let own = subst (λ (f : Finding). IsRanked f better) (sym (same_there k other past below at)) also in
          subst (λ (r : Rank). ¬ IsBetter r best.rank) (one_rank finding rank better ranked own) loses
    ];
  }
