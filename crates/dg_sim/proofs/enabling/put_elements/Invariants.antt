use Rattle.std.proofs.Common.{◌≡◌, ℕ, List, ◌++◌, length}
use Rattle.fx_type.specs.declared.kind.FxType.{FxType}
use Rattle.dg_model.specs.Attributes.{attributes_of}
use Rattle.dg_sim.specs.inner.ProgramSteps.{AreElements}
use Rattle.dg_sim.proofs.enabling.put_elements.Given as goal

abbrev pub invariant-loop-element : goal.invariant-loop-element
invariant-loop-element l = (numbers : List ℕ) × (length numbers ≡ l.element) × (l.args ≡ l.initial.args ++ numbers)
    × AreElements l.turn.checked.now.diagram
    (attributes_of l.turn.checked.now.diagram) l.places l.turn.place.block l.turn.cell numbers
    × (more : List FxType) × (l.types ≡ l.initial.types ++ more) × (length more ≡ l.element)
