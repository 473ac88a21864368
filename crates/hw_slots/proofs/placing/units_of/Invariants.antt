use Rattle.hw_slots.specs.Answer.{AreUnits}
use Rattle.hw_slots.proofs.placing.units_of.Given as goal

abbrev pub invariant-loop-place : goal.invariant-loop-place
invariant-loop-place l = AreUnits l.operations l.multipliers l.kinds l.place l.units
