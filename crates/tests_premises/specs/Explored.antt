-- What is found of the whole model by one multiplier in two clocks and in three (own).
use Rattle.std.specs.Prelude.{◌≡◌, ℕ, List, [], ◌∷◌, ◌++◌, codes, Some}
use Rattle.cmd_explore.specs.FindingsText.{findings_text}
use Rattle.dg_model.specs.declared.fault.Shown.TheVariants.{Budget}
use Rattle.dg_model.specs.declared.rule.Rule.{Rule}
use Rattle.hw_explore.specs.declared.finding.Finding.{Finding}
use Rattle.hw_explore.specs.declared.finding.Judged.TheVariants.{Bad, Good}
use Rattle.hw_explore.specs.declared.findings.Findings.{Findings}
use Rattle.hw_explore.specs.declared.range.Range.{Range}
use Rattle.hw_explore.specs.Findings.{AreFindings, IsLeast}
use Rattle.tests_premises.specs.Whole.{diagram}

-- two plans
abbrev pub range : Range
range =
    record { low_cycles = 2; high_cycles = 3; low_multipliers = 1; high_multipliers = 1 }

-- the two products want a slot each, and two clocks have one, since the last shows a result
abbrev pub too_few : Finding
too_few = record { cycles = 2; multipliers = 1; verdict = Bad Rule.Budget (Budget 1 2 1) }

-- three have two, and the second product is there behind the second
abbrev pub enough : Finding
enough = record { cycles = 3; multipliers = 1; verdict = Good 1 2 }

-- so the second is the least that keeps the rules
abbrev pub whole_findings : Findings
whole_findings = record { rows = too_few ∷ enough ∷ []; least = Some 1 }

-- so it is written
abbrev pub whole_exploration : List ℕ
whole_exploration =
    codes "cycles 2 multipliers 1: rule 12 (budget): period 1 need 2 have 1\n"
    ++ codes "cycles 3 multipliers 1 multiplications 1 latency 2\n"
    ++ codes "least cycles 3 multipliers 1\n"

-- a good plan of these multiplications, clocks, latency and multipliers
abbrev pub good : ℕ → ℕ → ℕ → ℕ → Finding
good multiplications cycles latency multipliers =
    record {
      cycles = cycles;
      multipliers = multipliers;
      verdict = Good multiplications latency;
    }

-- this is found and nothing else; of two good plans none is least that has more multiplications, or
-- as many in more clocks, or later, or by more multipliers
pub record ExploresWhole : Type 0 where
  pub found : AreFindings diagram range whole_findings
  pub only : (findings : Findings) → AreFindings diagram range findings → findings ≡ whole_findings
  pub written : findings_text (codes "u" ∷ codes "G" ∷ codes "y" ∷ []) whole_findings
      ≡ whole_exploration
  pub multiplications : ¬ IsLeast (good 2 1 0 0 ∷ good 1 9 9 9 ∷ []) (Some 0)
  pub clocks : ¬ IsLeast (good 1 3 0 0 ∷ good 1 2 9 9 ∷ []) (Some 0)
  pub latency : ¬ IsLeast (good 1 2 3 0 ∷ good 1 2 2 9 ∷ []) (Some 0)
  pub multipliers : ¬ IsLeast (good 1 2 2 3 ∷ good 1 2 2 2 ∷ []) (Some 0)
