-- What an exploration makes of a model and a range of plans (own).
use Rattle.std.specs.Prelude.{◌≡◌, ℕ, List, map}
use Rattle.dg_model.specs.declared.diagram.Diagram.{Diagram}
use Rattle.cmd_explore.specs.FindingsText.{findings_text}
use Rattle.cmd_model.specs.Model.{IsModelOf}
use Rattle.hw_explore.specs.declared.findings.Findings.{Findings}
use Rattle.hw_explore.specs.declared.range.Range.{Range}
use Rattle.hw_explore.specs.Findings.{AreFindings}

-- the text tells what is found of the plans of the range on the model's diagram
pub record IsExplorationOf (model : List ℕ) (range : Range) (text : List ℕ) : Type 0 where
  pub diagram : Diagram
  pub accepted : IsModelOf model diagram
  pub findings : Findings
  pub found : AreFindings diagram range findings
  pub text_is : text ≡ findings_text (map (λ block. block.path) diagram.blocks) findings
