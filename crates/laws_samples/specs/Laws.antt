-- What is known of all samples (own).
use Rattle.dg_model.specs.declared.diagram.Diagram.{Diagram}
use Rattle.dg_model.specs.Checked.{IsChecked}
use Rattle.laws_samples.specs.Columns.{HasSampleColumns}
use Rattle.laws_samples.specs.Shape.{IsSampleDiagram}

-- a diagram of the form of a sample's that keeps the rules has the columns of samples
abbrev pub DiagramsHaveColumns : Type 0
DiagramsHaveColumns = (diagram : Diagram) → IsSampleDiagram diagram → IsChecked diagram → HasSampleColumns diagram
