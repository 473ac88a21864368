-- The diagram that a model's text describes, and the first of the rules of models that the text
-- breaks (own; the rules are those of the Simulink reference, model files, signal attributes,
-- sample times and algebraic loops).
use Rattle.std.specs.Prelude.{◌≡◌, ℕ, ◌⊎◌, List, [], map}
use Rattle.mdl_text.specs.declared.tree.Tree.{Tree}
use Rattle.mdl_text.specs.Stands.{Stands}
use Rattle.mdl_text.specs.Prefix.{IsMdlFaultLine}
use Rattle.mdl_build.specs.Nested.{IsNestedOf}
use Rattle.mdl_build.specs.Rules.{Breaks}
use Rattle.dg_flat.specs.Flat.{IsFlatOf}
use Rattle.dg_flat.specs.Rules.{AllNestedKeep, KeepsWiring, KeepsEnable, BreaksWiringOrEnable}
use Rattle.dg_model.specs.declared.diagram.Diagram.{Diagram}
use Rattle.dg_model.specs.declared.fault.RuleFault.{RuleFault}
use Rattle.dg_model.specs.declared.nested.Nested.{Nested}
use Rattle.dg_model.specs.Checked.{IsChecked, BreaksRule}
use Rattle.dg_model.specs.Wired.{IsWired}

-- the bytes are no MDL text
abbrev pub IsNoText : List ℕ → Type 0
IsNoText bytes = (tree : Tree) → Stands bytes tree → ⊥

-- the bytes stand for no tree, and stop being the beginning of a text at this line
pub record IsNotMdl (bytes : List ℕ) (line : ℕ) : Type 0 where
  pub no_tree : IsNoText bytes
  pub fault : IsMdlFaultLine bytes line

-- the tree keeps the rules up to that of enabled subsystems, and this is its flat diagram
pub record IsDiagramOf (tree : Tree) (diagram : Diagram) : Type 0 where
  pub nested : Nested
  pub built : IsNestedOf tree nested
  pub wiring : AllNestedKeep nested KeepsWiring
  pub enables : AllNestedKeep nested KeepsEnable
  pub flat : IsFlatOf nested diagram
  pub wired : IsWired diagram

-- the bytes are a model that keeps the rules of models, and this is its diagram
pub record IsModelOf (bytes : List ℕ) (diagram : Diagram) : Type 0 where
  pub tree : Tree
  pub stands : Stands bytes tree
  pub flat : IsDiagramOf tree diagram
  pub checked : IsChecked diagram

-- the rule of structure, library or parameter is broken, where no block of a diagram is shown
pub record BreaksText (tree : Tree) (fault : RuleFault) (paths : List (List ℕ)) : Type 0 where
  pub broken : Breaks tree fault
  pub none : paths ≡ []

-- these three are kept, and the rule of wiring or of enabled subsystems is broken
pub record BreaksLines (tree : Tree) (fault : RuleFault) (paths : List (List ℕ)) : Type 0 where
  pub nested : Nested
  pub built : IsNestedOf tree nested
  pub broken : BreaksWiringOrEnable nested fault
  pub none : paths ≡ []

-- these five are kept, and the rule of dimensions, types, rates or loops is broken; these are the
-- paths of the diagram's blocks
pub record BreaksDiagram (tree : Tree) (fault : RuleFault) (paths : List (List ℕ)) : Type 0 where
  pub diagram : Diagram
  pub flat : IsDiagramOf tree diagram
  pub broken : BreaksRule diagram fault
  pub paths_are : paths ≡ map (λ block. block.path) diagram.blocks

-- the first rule that is broken is one of models, with this fault
abbrev pub BreaksModel : Tree → RuleFault → List (List ℕ) → Type 0
BreaksModel tree fault paths =
    BreaksText tree fault paths ⊎ (BreaksLines tree fault paths ⊎ BreaksDiagram tree fault paths)

-- the bytes stand for a tree that breaks a rule, the first of them with this fault
pub record IsBrokenModel (bytes : List ℕ) (fault : RuleFault) (paths : List (List ℕ)) : Type 0 where
  pub tree : Tree
  pub stands : Stands bytes tree
  pub broken : BreaksModel tree fault paths

-- the bytes stand for a tree that breaks none of the rules of models
pub record IsAccepted (bytes : List ℕ) : Type 0 where
  pub tree : Tree
  pub stands : Stands bytes tree
  pub kept : (fault : RuleFault) (paths : List (List ℕ)) → IsBrokenModel bytes fault paths → ⊥

-- the bytes stand for a tree, and are the model of no diagram
pub record IsWithoutDiagram (bytes : List ℕ) : Type 0 where
  pub tree : Tree
  pub stands : Stands bytes tree
  pub none : (diagram : Diagram) → IsModelOf bytes diagram → ⊥
