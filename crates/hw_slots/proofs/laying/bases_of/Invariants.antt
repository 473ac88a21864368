use Rattle.hw_slots.specs.inner.Counts.{AreLaid}
use Rattle.hw_slots.proofs.laying.bases_of.Given as goal

abbrev pub invariant-loop-place : goal.invariant-loop-place
invariant-loop-place l = AreLaid l.operations l.multipliers l.periods l.place l.bases
