use Rattle.std.proofs.Common.{◌≡◌, ℕ, ◌<◌, ◌-◌, ◌∙◌, List, map, Ok, Err, Vec, Global, sym, subst, ap, arith}
use Rattle.std.specs.Prelude.{Contains, IfOk, MatchResult, Result}
use Rattle.std.specs.List.{AllZip, range_with_len}
use Rattle.rayon.specs.Numbers.{nat_range}
use Rattle.rayon.proofs.ToStd.{nat_range-All}
use Rattle.fx_io.specs.declared.fault.OutOfMemory.{OutOfMemory}
use Rattle.hw_explore.specs.declared.finding.Finding.{Finding}
use Rattle.hw_explore.proofs.WorkerFindings.{found_all}
use Rattle.hw_explore.specs.Candidates.{IsFinding}
use Rattle.hw_explore.specs.Range.{pairs_of}
use Rattle.hw_explore.specs.inner.Latencies.{CanFind}
use Rattle.hw_explore.proofs.exploring.all_found.Goals as goal

pub collect-requires-clause-ready : goal.collect-requires-clause-ready
collect-requires-clause-ready g c =
    let ends = c.into_par_iter.ensures in
    let inside = nat_range-All (λ i. CanFind c.args.checked.now.diagram c.args.timed.now c.args.range i) 0 c.pairs-pairs.result
    (λ i low high. record { is_range = c.requires.range; there = subst (λ (n : ℕ). i < n) c.pairs-pairs.ensures high; timed_is = c.requires.timed }) in
    rw (c.map.ensures.base, c.with_min_len.ensures.base, c.map.ensures.f, ends.0, ends.1) (λ a b k d lt. (inside k d lt, λ y p. tt))

pub returns : goal.returns
returns g c =
    let ends = c.into_par_iter.ensures in
    let pairs = c.pairs-pairs.result in
    let whole : pairs - 0 ≡ pairs_of c.args.range = omega (arith, c.pairs-pairs.ensures) in
    let mapped = rw c.map.ensures.f at c.in_ok-rows.ensures.1 in
    let chain = rw (c.map.ensures.base, c.with_min_len.ensures.base) at mapped in
    let places = chain.1 ∙ (λ i. nat_range (ends.0 i) (ends.1 i)) ∙ ap (range_with_len 0) whole in
    let xs = c.in_ok-rows.ensures.0 in
    let given = subst
    (λ (r : Result (Vec Finding Global) OutOfMemory). MatchResult r
    (λ v. (ys : List Finding) × (xs ≡ map Ok ys) × (v.items ≡ ys)) (λ e. Contains xs (Err e)))
    c.in_ok-rows-2.was c.in_ok-rows.ensures.2 in
    let zipped = found_all (IsFinding c.args.checked.now.diagram c.args.range) chain.0 given.0
    (subst (λ (rs : List (Result Finding OutOfMemory)). AllZip (λ place row. IfOk row (IsFinding c.args.checked.now.diagram c.args.range place)) chain.0 rs) given.1 chain.2) in
    subst (λ (numbers : List ℕ). AllZip (IsFinding c.args.checked.now.diagram c.args.range) numbers c.from_vec.result) places
    (subst (λ (rows : List Finding). AllZip (IsFinding c.args.checked.now.diagram c.args.range) chain.0 rows) (sym (c.from_vec.ensures ∙ given.2)) zipped)
