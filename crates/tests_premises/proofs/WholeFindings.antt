-- What is found of the whole model in two clocks and in three is what was worked out by hand.
use Rattle.std.proofs.Common.{◌≡◌, inl, inr, ⊎_elim, ℕ, zero, suc, ◌≤◌, ◌<◌, List, [], ◌∷◌, length, Some, None, slice_get, codes, refl, sym, ap, subst, ◌∙◌, arith}
use Rattle.std.specs.Prelude.{Option}
use Rattle.std.specs.Fmt.{digits}
use Rattle.std.proofs.Math.Dec.{lit≤, lit<}
use Rattle.std.proofs.lemmas.Option.{none-some, same_Some}
use Rattle.cmd_explore.specs.FindingsText.{findings_text, finding_line, named}
use Rattle.dg_model.specs.declared.fault.RuleFault.{RuleFault}
use Rattle.dg_model.specs.declared.fault.Shown.{Shown}
use Rattle.dg_model.specs.declared.fault.Shown.TheVariants.{Budget}
use Rattle.dg_model.specs.declared.resolved.Resolved.{Resolved}
use Rattle.dg_model.specs.declared.rule.Rule.{Rule}
use Rattle.dg_model.specs.Attributes.{attributes_of}
use Rattle.dg_model.specs.Faults.{fault_of}
use Rattle.dg_model.specs.Signals.{Attributes}
use Rattle.hw_explore.specs.declared.finding.Finding.{Finding}
use Rattle.hw_explore.specs.declared.finding.Judged.{Judged}
use Rattle.hw_explore.specs.declared.finding.Judged.TheVariants.{Bad, Good}
use Rattle.hw_explore.specs.declared.findings.Findings.{Findings}
use Rattle.hw_explore.specs.declared.rank.Rank.{Rank}
use Rattle.hw_explore.specs.Candidates.{IsFinding, IsGood, IsJudged}
use Rattle.hw_explore.specs.Findings.{AreFindings, IsBetter, IsLeast, IsLeastAt, IsRanked}
use Rattle.hw_latency.specs.Latency.{BreaksLatency}
use Rattle.hw_latency.specs.Laws.{FedIsOne, LatenciesAreOne, LatencyCyclesLeaveNone}
use Rattle.hw_rules.specs.Rules.{BreaksTimes, KeepsTimes}
use Rattle.hw_sched.specs.Budget.{IsPeriodOf, KeepsBudget}
use Rattle.hw_sched.specs.Laws.{DepthsAreOne}
use Rattle.hw_sched.specs.Ready.{owed}
use Rattle.hw_sched.specs.Scheduled.{IsTimingOf}
use Rattle.hw_sched.specs.Slots.{Timing, have_of, need_of}
use Rattle.hw_sched.specs.Storage.{greatest_latency, storage}
use Rattle.tests_premises.specs.Explored.{ExploresWhole, enough, good, range, too_few, whole_exploration, whole_findings}
use Rattle.tests_premises.specs.Whole.{diagram}
use Rattle.tests_premises.proofs.WholeRules.{attributes, attributes_known}
use Rattle.tests_premises.proofs.WholeTimes.{at_once, in_clocks, only_times, three_alike, timed, two_alike}

-- ---- every block has period 1
period_by : (place period : ℕ) → attributes.period_at place ≡ Some period → period ≡ 1
period_by zero period is = sym (same_Some 1 period is)
period_by (suc zero) period is = sym (same_Some 1 period is)
period_by (suc (suc zero)) period is = sym (same_Some 1 period is)
period_by (suc (suc (suc place))) period is = absurd (none-some period is)

period_is : (period : ℕ) → IsPeriodOf diagram period → period ≡ 1
period_is period is = period_by is.place period (subst (λ (a : Attributes). a.period_at is.place ≡ Some period) attributes_known is.is)

one_there : IsPeriodOf diagram 1
one_there = record { place = 0; is = subst (λ (a : Attributes). a.period_at 0 ≡ Some 1) (sym attributes_known) refl }

abbrev two : Resolved
two = in_clocks 2

abbrev three : Resolved
three = in_clocks 3

-- ---- slots, multiplications and latency
need_two : need_of diagram (attributes_of diagram) two at_once 1 ≡ 2
need_two = subst (λ (a : Attributes). need_of diagram a two at_once 1 ≡ 2) (sym attributes_known) refl

need_three : need_of diagram (attributes_of diagram) three at_once 1 ≡ 2
need_three = subst (λ (a : Attributes). need_of diagram a three at_once 1 ≡ 2) (sym attributes_known) refl

owed_three : owed diagram (attributes_of diagram) three at_once ≡ 1
owed_three = subst (λ (a : Attributes). owed diagram a three at_once ≡ 1) (sym attributes_known) refl

late_three : greatest_latency diagram (attributes_of diagram) three at_once ≡ 2
late_three = subst (λ (a : Attributes). greatest_latency diagram a three at_once ≡ 2) (sym attributes_known) refl

few_two : storage diagram (attributes_of diagram) two at_once ≤ 400000
few_two = subst (λ (a : Attributes). storage diagram a two at_once ≤ 400000) (sym attributes_known) (lit≤ tt)

few_three : storage diagram (attributes_of diagram) three at_once ≤ 400000
few_three = subst (λ (a : Attributes). storage diagram a three at_once ≤ 400000) (sym attributes_known) (lit≤ tt)

timed_two : IsTimingOf diagram two at_once
timed_two = timed two two_alike refl

timed_three : IsTimingOf diagram three at_once
timed_three = timed three three_alike refl

budget_three : KeepsBudget diagram three at_once
budget_three = record {
  keeps = λ period is.
      let at : period ≡ 1 = period_is period is in
      subst (λ (p : ℕ). need_of diagram (attributes_of diagram) three at_once p ≤ have_of three p) (sym at) (omega (arith, need_three));
}

keeps_three : KeepsTimes diagram three at_once
keeps_three = record {
  timed = timed_three;
  budget = budget_three;
  size = record { few = few_three; short = omega (arith, late_three) };
}

breaks_two : BreaksTimes diagram two (fault_of Rule.Budget [] (Budget 1 2 1))
breaks_two = inr (inl (record {
  timing = at_once;
  timed = timed_two;
  broken = record {
    period = 1;
    there = one_there;
    broken = omega (arith, need_two);
    least = λ other below is. let at = period_is other is in absurd (omega (arith, at, below));
    fault_is = ap (λ (need : ℕ). fault_of Rule.Budget [] (Budget 1 need 1)) (sym need_two);
  };
}))

-- ---- this is found
judged_two : IsFinding diagram range 0 too_few
judged_two = record { cycles = refl; multipliers = refl; verdict = breaks_two }

judged_three : IsFinding diagram range 1 enough
judged_three = record {
  cycles = refl;
  multipliers = refl;
  verdict = record { timing = at_once; keeps = keeps_three; multiplications_are = sym owed_three; latency_is = sym late_three };
}

never_ranked : (rank : Rank) → ¬ IsRanked too_few rank
never_ranked rank is = let good = is.good in cc good

abbrev enough_rank : Rank
enough_rank = record { multiplications = 1; cycles = 3; latency = 2; multipliers = 1 }

-- the numbers of a good verdict
abbrev owed_in : Judged → ℕ
owed_in (Good multiplications latency) = multiplications
owed_in (Bad rule shown) = 0

abbrev latency_in : Judged → ℕ
latency_in (Good multiplications latency) = latency
latency_in (Bad rule shown) = 0

worth : (rank : Rank) → Good 1 2 ≡ Good rank.multiplications rank.latency → (1 ≡ rank.multiplications) × (2 ≡ rank.latency)
worth rank same = (ap owed_in same, ap latency_in same)

-- the same rank is not better
not_above : (better : Rank) → better.multiplications ≡ 1 → better.cycles ≡ 3 → better.latency ≡ 2 → better.multipliers ≡ 1 → ¬ IsBetter better enough_rank
not_above better owed cycles late multipliers (inl less) = omega (arith, owed, less)
not_above better owed cycles late multipliers (inr (same, inl less)) = omega (arith, cycles, less)
not_above better owed cycles late multipliers (inr (same, inr (too, inl less))) = omega (arith, late, less)
not_above better owed cycles late multipliers (inr (same, inr (too, inr (also, less)))) = omega (arith, multipliers, less)

least_three : IsLeastAt (too_few ∷ enough ∷ []) 1
least_three = record {
  finding = enough;
  there = refl;
  rank = enough_rank;
  ranked = record { good = refl; cycles = refl; multipliers = refl };
  least = none_better;
}
  where
    none_better : (k : ℕ) (other : Finding) (better : Rank) → slice_get (too_few ∷ enough ∷ []) k ≡ Some other → IsRanked other better → ¬ IsBetter better enough_rank
    none_better zero other better at is above = never_ranked better (subst (λ (f : Finding). IsRanked f better) (sym (same_Some too_few other at)) is)
    none_better (suc zero) other better at is above =
        let ranked : IsRanked enough better = subst (λ (f : Finding). IsRanked f better) (sym (same_Some enough other at)) is in
        not_above better (sym (worth better ranked.good).0) ranked.cycles (sym (worth better ranked.good).1) ranked.multipliers above
    none_better (suc (suc k)) other better at is above = none-some other at

-- of two good plans the first isn't least where the second is better
abbrev rank_of : ℕ → ℕ → ℕ → ℕ → Rank
rank_of multiplications cycles latency multipliers = record { multiplications = multiplications; cycles = cycles; latency = latency; multipliers = multipliers }

not_first : (m c l k n d e j : ℕ) → IsBetter (rank_of n d e j) (rank_of m c l k) → ¬ IsLeast (good m c l k ∷ good n d e j ∷ []) (Some 0)
not_first m c l k n d e j better at =
    let ranked : IsRanked (good m c l k) at.rank = subst (λ (f : Finding). IsRanked f at.rank) (sym (same_Some (good m c l k) at.finding at.there)) at.ranked in
    let own : m ≡ at.rank.multiplications = ap owed_in ranked.good in
    let late : l ≡ at.rank.latency = ap latency_in ranked.good in
    let same : rank_of m c l k ≡ at.rank =
    ap (λ (x : ℕ). rank_of x c l k) own
    ∙ ap (λ (x : ℕ). rank_of at.rank.multiplications x l k) (sym ranked.cycles)
    ∙ ap (λ (x : ℕ). rank_of at.rank.multiplications at.rank.cycles x k) late
    ∙ ap (λ (x : ℕ). rank_of at.rank.multiplications at.rank.cycles at.rank.latency x) (sym ranked.multipliers) in
    at.least 1 (good n d e j) (rank_of n d e j) refl (record { good = refl; cycles = refl; multipliers = refl }) (subst (IsBetter (rank_of n d e j)) same better)

found : AreFindings diagram range whole_findings
found = record { size = refl; each = each_found; least = least_three }
  where
    each_found : (place : ℕ) (finding : Finding) → slice_get (too_few ∷ enough ∷ []) place ≡ Some finding → IsFinding diagram range place finding
    each_found zero finding at = subst (IsFinding diagram range 0) (same_Some too_few finding at) judged_two
    each_found (suc zero) finding at = subst (IsFinding diagram range 1) (same_Some enough finding at) judged_three
    each_found (suc (suc place)) finding at = absurd (none-some finding at)

-- ---- and nothing else
module _ (one_fed : FedIsOne) (one_lat : LatenciesAreOne) (one_depth : DepthsAreOne) (no_cycle : LatencyCyclesLeaveNone) where
  times_two : (other : Timing) → IsTimingOf diagram two other → other ≡ at_once
  times_two = only_times two two_alike refl one_fed one_lat one_depth

  times_three : (other : Timing) → IsTimingOf diagram three other → other ≡ at_once
  times_three = only_times three three_alike refl one_fed one_lat one_depth

  no_latency : (plan : Resolved) (fault : RuleFault) → IsTimingOf diagram plan at_once → ¬ BreaksLatency diagram plan fault
  no_latency plan fault is broken =
      no_cycle diagram plan broken.cycle broken.total at_once.lat broken.is_cycle
      (record { fed = at_once.fed; are_fed = is.fed; size = refl; feasible = is.lat.feasible })

  -- three clocks are good
  good_three : (multiplications latency : ℕ) → IsGood diagram three multiplications latency → Good multiplications latency ≡ Good 1 2
  good_three multiplications latency good =
      let same = times_three good.timing good.keeps.timed in
      let count : multiplications ≡ 1 = good.multiplications_are ∙ ap (owed diagram (attributes_of diagram) three) same ∙ owed_three in
      let late : latency ≡ 2 = good.latency_is ∙ ap (greatest_latency diagram (attributes_of diagram) three) same ∙ late_three in
      ap (λ (n : ℕ). Good n latency) count ∙ ap (Good 1) late

  not_bad_three : (fault : RuleFault) → ¬ BreaksTimes diagram three fault
  not_bad_three fault (inl late) = no_latency three fault timed_three late
  not_bad_three fault (inr (inl slots)) =
      let same = times_three slots.timing slots.timed in
      let at : slots.broken.period ≡ 1 = period_is slots.broken.period slots.broken.there in
      let above : have_of three 1 < need_of diagram (attributes_of diagram) three at_once 1 =
      subst (λ (p : ℕ). have_of three p < need_of diagram (attributes_of diagram) three at_once p) at
      (subst (λ (t : Timing). have_of three slots.broken.period < need_of diagram (attributes_of diagram) three t slots.broken.period) same slots.broken.broken) in
      omega (arith, above, need_three)
  not_bad_three fault (inr (inr size)) =
      let same = times_three size.timing size.timed in
      ⊎_elim
      (λ (many : 400000 < storage diagram (attributes_of diagram) three size.timing).
      let few : storage diagram (attributes_of diagram) three size.timing ≤ 400000 =
      subst (λ (t : Timing). storage diagram (attributes_of diagram) three t ≤ 400000) (sym same) few_three in omega (arith, many, few))
      (λ (long : 16777216 < greatest_latency diagram (attributes_of diagram) three size.timing).
      let short : greatest_latency diagram (attributes_of diagram) three size.timing ≡ 2 =
      subst (λ (t : Timing). greatest_latency diagram (attributes_of diagram) three t ≡ 2) (sym same) late_three in omega (arith, long, short))
      size.broken.broken

  -- two are too few
  not_good_two : (multiplications latency : ℕ) → ¬ IsGood diagram two multiplications latency
  not_good_two multiplications latency good =
      let same = times_two good.timing good.keeps.timed in
      let kept : need_of diagram (attributes_of diagram) two at_once 1 ≤ 1 =
      subst (λ (t : Timing). need_of diagram (attributes_of diagram) two t 1 ≤ have_of two 1) same (good.keeps.budget.keeps 1 one_there) in
      omega (arith, kept, need_two)

  bad_two : (rule : Rule) (shown : Shown) → BreaksTimes diagram two (fault_of rule [] shown) → Bad rule shown ≡ Bad Rule.Budget (Budget 1 2 1)
  bad_two rule shown (inl late) = absurd (no_latency two (fault_of rule [] shown) timed_two late)
  bad_two rule shown (inr (inl slots)) =
      let same = times_two slots.timing slots.timed in
      let at : slots.broken.period ≡ 1 = period_is slots.broken.period slots.broken.there in
      let told : fault_of rule [] shown ≡ fault_of Rule.Budget [] (Budget 1 2 1) =
      slots.broken.fault_is
      ∙ ap (λ (p : ℕ). fault_of Rule.Budget [] (Budget p (need_of diagram (attributes_of diagram) two slots.timing p) (have_of two p))) at
      ∙ ap (λ (t : Timing). fault_of Rule.Budget [] (Budget 1 (need_of diagram (attributes_of diagram) two t 1) 1)) same
      ∙ ap (λ (need : ℕ). fault_of Rule.Budget [] (Budget 1 need 1)) need_two in
      ap (λ (fault : RuleFault). Bad fault.rule fault.shown) told
  bad_two rule shown (inr (inr size)) =
      let same = times_two size.timing size.timed in
      let kept : need_of diagram (attributes_of diagram) two at_once 1 ≤ 1 =
      subst (λ (t : Timing). need_of diagram (attributes_of diagram) two t 1 ≤ have_of two 1) same (size.budget.keeps 1 one_there) in
      absurd (omega (arith, kept, need_two))

  verdict_two : (verdict : Judged) → IsJudged diagram two verdict → verdict ≡ Bad Rule.Budget (Budget 1 2 1)
  verdict_two (Good multiplications latency) good = absurd (not_good_two multiplications latency good)
  verdict_two (Bad rule shown) bad = bad_two rule shown bad

  verdict_three : (verdict : Judged) → IsJudged diagram three verdict → verdict ≡ Good 1 2
  verdict_three (Good multiplications latency) good = good_three multiplications latency good
  verdict_three (Bad rule shown) bad = absurd (not_bad_three (fault_of rule [] shown) bad)

  finding_of : (finding : Finding) (clocks : ℕ) (verdict : Judged) → finding.cycles ≡ clocks → finding.multipliers ≡ 1
      → ((own : Judged) → IsJudged diagram (in_clocks clocks) own → own ≡ verdict) →
      IsJudged diagram (record { cycles = finding.cycles; multipliers = finding.multipliers; stages = 0 ∷ 0 ∷ 0 ∷ [] }) finding.verdict
      → finding ≡ record { cycles = clocks; multipliers = 1; verdict = verdict }
  finding_of finding clocks verdict cycles multipliers judged is =
      let own : IsJudged diagram (in_clocks clocks) finding.verdict =
      subst (λ (n : ℕ). IsJudged diagram (record { cycles = clocks; multipliers = n; stages = 0 ∷ 0 ∷ 0 ∷ [] }) finding.verdict) multipliers
      (subst (λ (n : ℕ). IsJudged diagram (record { cycles = n; multipliers = finding.multipliers; stages = 0 ∷ 0 ∷ 0 ∷ [] }) finding.verdict) cycles is) in
      ap (λ (n : ℕ). record { cycles = n; multipliers = finding.multipliers; verdict = finding.verdict }) cycles
      ∙ ap (λ (n : ℕ). record { cycles = clocks; multipliers = n; verdict = finding.verdict }) multipliers
      ∙ ap (λ (v : Judged). record { cycles = clocks; multipliers = 1; verdict = v }) (judged finding.verdict own)

  first_is : (finding : Finding) → IsFinding diagram range 0 finding → finding ≡ too_few
  first_is finding is = finding_of finding 2 (Bad Rule.Budget (Budget 1 2 1)) is.cycles is.multipliers verdict_two is.verdict

  second_is : (finding : Finding) → IsFinding diagram range 1 finding → finding ≡ enough
  second_is finding is = finding_of finding 3 (Good 1 2) is.cycles is.multipliers verdict_three is.verdict

  rows_are : (rows : List Finding) → length rows ≡ 2 → ((place : ℕ) (finding : Finding) → slice_get rows place ≡ Some finding → IsFinding diagram range place finding) → rows ≡ too_few ∷ enough ∷ []
  rows_are [] size each = absurd (omega (arith, size))
  rows_are (a ∷ []) size each = absurd (omega (arith, size))
  rows_are (a ∷ b ∷ []) size each = ap (λ (f : Finding). f ∷ b ∷ []) (first_is a (each 0 a refl)) ∙ ap (λ (f : Finding). too_few ∷ f ∷ []) (second_is b (each 1 b refl))
  rows_are (a ∷ b ∷ c ∷ rows) size each = absurd (omega (arith, size))

  least_is : (least : Option ℕ) → IsLeast (too_few ∷ enough ∷ []) least → least ≡ Some 1
  least_is None none = absurd (none 1 enough enough_rank refl (record { good = refl; cycles = refl; multipliers = refl }))
  least_is (Some zero) at = absurd (never_ranked at.rank (subst (λ (f : Finding). IsRanked f at.rank) (sym (same_Some too_few at.finding at.there)) at.ranked))
  least_is (Some (suc zero)) at = refl
  least_is (Some (suc (suc place))) at = absurd (none-some at.finding at.there)

  only : (findings : Findings) → AreFindings diagram range findings → findings ≡ whole_findings
  only findings are =
      let rows : findings.rows ≡ too_few ∷ enough ∷ [] = rows_are findings.rows are.size are.each in
      let least : findings.least ≡ Some 1 = least_is findings.least (subst (λ (rs : List Finding). IsLeast rs findings.least) rows are.least) in
      ap (λ (rs : List Finding). record findings { rows = rs }) rows ∙ ap (λ (l : Option ℕ). record { rows = too_few ∷ enough ∷ []; least = l }) least

  written : findings_text (codes "u" ∷ codes "G" ∷ codes "y" ∷ []) whole_findings ≡ whole_exploration
  unfolding finding_line named digits
  written = refl

  pub explores_whole : ExploresWhole
  explores_whole = record {
    found = found;
    only = only;
    written = written;
    multiplications = not_first 2 1 0 0 1 9 9 9 (inl (lit< tt));
    clocks = not_first 1 3 0 0 1 2 9 9 (inr (refl, inl (lit< tt)));
    latency = not_first 1 2 3 0 1 2 2 9 (inr (refl, inr (refl, inl (lit< tt))));
    multipliers = not_first 1 2 2 3 1 2 2 2 (inr (refl, inr (refl, inr (refl, lit< tt))));
  }
