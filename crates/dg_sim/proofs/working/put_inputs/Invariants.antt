use Rattle.std.proofs.Common.{◌≡◌, ℕ, List, ◌++◌, length}
use Rattle.dg_model.specs.Attributes.{attributes_of}
use Rattle.dg_model.specs.Wires.{types_into}
use Rattle.dg_sim.specs.inner.ProgramSteps.{AreRead}
use Rattle.dg_sim.proofs.working.put_inputs.Given as goal

abbrev pub invariant-loop-i : goal.invariant-loop-i
invariant-loop-i l = (numbers : List ℕ) × (length numbers ≡ l.i) × (l.args ≡ l.initial.args ++ numbers)
    × AreRead l.turn.checked.now.diagram (attributes_of l.turn.checked.now.diagram) l.places l.turn.place.block
    l.turn.place.element l.turn.cell numbers
    × (l.types ≡ l.initial.types ++ types_into l.turn.checked.now.diagram (attributes_of l.turn.checked.now.diagram) l.turn.place.block l.i)
