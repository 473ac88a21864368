-- What is found of a model's text, as one thing (own).
use Rattle.std.specs.Prelude.{ℕ, List}
use Rattle.dg_model.specs.declared.diagram.Diagram.{Diagram}
use Rattle.dg_model.specs.declared.fault.RuleFault.{RuleFault}
use Rattle.dg_rules.specs.Laws.{told_first}
use Rattle.cmd_model.specs.Model.{IsNotMdl, IsBrokenModel, IsModelOf}

-- it is no MDL text from this line on, or it breaks this rule first, where these are the paths of
-- the diagram's blocks, or this is its diagram
pub data Verdict : Type 0 where
  NotMdl : ℕ → Verdict
  Broken : RuleFault → List (List ℕ) → Verdict
  Accepted : Diagram → Verdict

-- the bytes have this verdict
abbrev pub IsVerdict : List ℕ → Verdict → Type 0
IsVerdict bytes (Verdict.NotMdl line) = IsNotMdl bytes line
IsVerdict bytes (Verdict.Broken fault paths) = IsBrokenModel bytes fault paths
IsVerdict bytes (Verdict.Accepted diagram) = IsModelOf bytes diagram

-- the verdict, with the first block alone of a cycle
abbrev pub told : Verdict → Verdict
told (Verdict.NotMdl line) = Verdict.NotMdl line
told (Verdict.Broken fault paths) = Verdict.Broken (told_first fault) paths
told (Verdict.Accepted diagram) = Verdict.Accepted diagram
