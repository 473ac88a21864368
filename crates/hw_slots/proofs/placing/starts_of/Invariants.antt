use Rattle.hw_slots.specs.Answer.{AreStarts}
use Rattle.hw_slots.proofs.placing.starts_of.Given as goal

abbrev pub invariant-loop-place : goal.invariant-loop-place
invariant-loop-place l = AreStarts l.operations l.multipliers l.periods l.place l.starts
