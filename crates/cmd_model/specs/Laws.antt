-- What the definitions of models say together (own).
use Rattle.std.specs.Prelude.{◌≡◌, ◌≢◌, ℕ, List}
use Rattle.dg_model.specs.declared.diagram.Diagram.{Diagram}
use Rattle.dg_model.specs.declared.fault.RuleFault.{RuleFault}
use Rattle.dg_model.specs.declared.rule.Rule.{Rule}
use Rattle.mdl_text.specs.declared.tree.Tree.{Tree}
use Rattle.mdl_text.specs.Stands.{Stands}
use Rattle.cmd_model.specs.Model.{IsModelOf, IsBrokenModel}
use Rattle.cmd_model.specs.RuleLine.{TellsRule}
use Rattle.cmd_model.specs.Verdict.{Verdict, IsVerdict, told}

-- a text is the model of one diagram at most
abbrev pub DiagramIsOne : Type 0
DiagramIsOne =
    (bytes : List ℕ) (one other : Diagram) → IsModelOf bytes one → IsModelOf bytes other
    → one ≡ other

-- it has one verdict at most, but for the cycle that is told
abbrev pub VerdictIsOne : Type 0
VerdictIsOne =
    (bytes : List ℕ) (one other : Verdict) → IsVerdict bytes one → IsVerdict bytes other
    → told one ≡ told other

-- and where the rule of loops isn't broken first, one fault with all that is shown
abbrev pub BrokenIsOne : Type 0
BrokenIsOne =
    (bytes : List ℕ) (one other : RuleFault) (paths others : List (List ℕ))
    → IsBrokenModel bytes one paths → IsBrokenModel bytes other others → one.rule ≢ Rule.Loop
    → (one ≡ other) × (paths ≡ others)

-- so the line that tells it is one
abbrev pub LineIsOne : Type 0
LineIsOne =
    (bytes one other : List ℕ) → (tells : TellsRule bytes one) → TellsRule bytes other
    → tells.fault.rule ≢ Rule.Loop → one ≡ other

-- a text that stands for a tree isn't the model of no diagram if it breaks no rule
abbrev pub ModelIsThere : Type 0
ModelIsThere =
    (bytes : List ℕ) (tree : Tree) → Stands bytes tree
    → ((diagram : Diagram) → ¬ IsModelOf bytes diagram)
    → ((fault : RuleFault) (paths : List (List ℕ)) → ¬ IsBrokenModel bytes fault paths) → ⊥
