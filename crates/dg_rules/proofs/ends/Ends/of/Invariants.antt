use Rattle.std.proofs.Common.{take}
use Rattle.dg_rules.specs.inner.Ends.{HaveEnds}
use Rattle.dg_rules.proofs.ends.Ends.of.Given as goal

abbrev pub invariant-loop-pipeline : goal.invariant-loop-pipeline
invariant-loop-pipeline l = HaveEnds (take l.pipeline-index l.pipelines) l.by_bytes.entries
