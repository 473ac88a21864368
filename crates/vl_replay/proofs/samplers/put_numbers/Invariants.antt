use Rattle.vl_replay.specs.inner.Samplers.{ArePut, numbers_in}
use Rattle.vl_replay.proofs.samplers.put_numbers.Given as goal

abbrev pub invariant-loop-place : goal.invariant-loop-place
invariant-loop-place l = ArePut (numbers_in l.machine) l.samplers l.samples l.window l.sample l.phase l.place l.initial.cells l.cells
