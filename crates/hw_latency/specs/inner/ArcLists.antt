-- Arcs that are put at the end of a list (own).
use Rattle.std.specs.Prelude.{◌≡◌, ℕ, ◌≤◌, ◌++◌, Bool, List, [], ◌∷◌, Option, None, Some, slice_get}
use Rattle.dg_model.specs.declared.diagram.Block.{Block}
use Rattle.dg_model.specs.declared.diagram.Diagram.{Diagram}
use Rattle.dg_model.specs.declared.resolved.Resolved.{Resolved}
use Rattle.dg_model.specs.Attributes.{attributes_of}
use Rattle.hw_arcs.specs.declared.arc.Arc.{Arc}
use Rattle.hw_arcs.specs.Found.{most_gain}
use Rattle.hw_latency.specs.Control.{control_ever}
use Rattle.hw_latency.specs.Weight.{arc_between}

-- the arc of an edge is put at the end
pub record IsArcPut (diagram : Diagram) (plan : Resolved) (fed : List Bool)
    (before after : List Arc) (from to : ℕ) : Type 0 where
  pub arc : Arc
  pub put : after ≡ before ++ arc ∷ []
  pub is : arc ≡ arc_between diagram (attributes_of diagram) plan fed from to
  pub begins : arc.from ≡ from
  pub ends : arc.to ≡ to
  pub small : arc.gain ≤ most_gain

-- the same of the edge from a control, where there is one
abbrev pub IsPutBy : Diagram → Resolved → List Bool → List Arc → List Arc → ℕ → Option ℕ → Type 0
IsPutBy diagram plan fed before after place None = after ≡ before
IsPutBy diagram plan fed before after place (Some control) =
    IsArcPut diagram plan fed before after control place

-- the same of the edge from what enables the block at a place
pub record IsControlPut (diagram : Diagram) (plan : Resolved) (fed : List Bool)
    (before after : List Arc) (place : ℕ) : Type 0 where
  pub put : (block : Block) → slice_get diagram.blocks place ≡ Some block
      → IsPutBy diagram plan fed before after place (control_ever block)
