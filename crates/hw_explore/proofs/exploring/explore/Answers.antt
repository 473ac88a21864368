use Rattle.std.proofs.Common.{◌≡◌, ℕ, ◌+◌, List, length, subst, ap, arith}
use Rattle.hw_explore.specs.declared.finding.Finding.{Finding}
use Rattle.hw_explore.specs.Candidates.{IsFinding}
use Rattle.hw_explore.specs.Findings.{IsLeast}
use Rattle.hw_explore.specs.Range.{pairs_of}
use Rattle.hw_explore.proofs.WorkerFindings.{found_size, found_each}
use Rattle.hw_explore.proofs.Ranges.{few_pairs}
use Rattle.hw_explore.proofs.exploring.explore.Goals as goal

pub least_of-least-requires : goal.least_of-least-requires
least_of-least-requires g c =
    let size = found_size (IsFinding c.args.checked.now.diagram c.args.range) 0 (pairs_of c.args.range) c.in_ok-rows.rows c.in_ok-rows.ensures in
    let same = ap (λ (rows : List Finding). length rows) c.as_slice.ensures in
    let few = few_pairs c.args.range c.requires in
    omega (arith, size, same, few)

pub returns : goal.returns
returns g c = record {
  size = found_size (IsFinding c.args.checked.now.diagram c.args.range) 0 (pairs_of c.args.range) c.in_ok-rows.rows c.in_ok-rows.ensures;
  each = λ place finding at.
      let same : 0 + place ≡ place = omega arith in
      subst (λ (k : ℕ). IsFinding c.args.checked.now.diagram c.args.range k finding) same
      (found_each (IsFinding c.args.checked.now.diagram c.args.range) 0 (pairs_of c.args.range) c.in_ok-rows.rows c.in_ok-rows.ensures place finding at);
  least = subst (λ (rows : List Finding). IsLeast rows c.least_of-least.result) c.as_slice.ensures c.least_of-least.ensures;
}
