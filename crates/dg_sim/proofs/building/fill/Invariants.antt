use Rattle.std.proofs.Common.{◌≡◌}
use Rattle.dg_model.specs.Attributes.{attributes_of}
use Rattle.dg_sim.specs.inner.ProgramSteps.{IsFilled}
use Rattle.dg_sim.specs.inner.Cursors.{AreCursors}
use Rattle.dg_sim.proofs.building.fill.Given as goal

abbrev pub invariant-loop-k : goal.invariant-loop-k
invariant-loop-k l = record {
  filled : IsFilled l.checked.diagram (attributes_of l.checked.diagram) l.program l.k;
  places : l.program.places ≡ l.initial.program.places;
  cursors : AreCursors l.checked.diagram (attributes_of l.checked.diagram) l.cursors;
}
