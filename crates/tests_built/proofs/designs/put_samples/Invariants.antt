use Rattle.dg_response.specs.Responding.{IsBefore}
use Rattle.tests_built.proofs.designs.put_samples.Given as goal

abbrev pub invariant-loop-sample : goal.invariant-loop-sample
invariant-loop-sample l = IsBefore l.checked l.rows l.responding l.sample
