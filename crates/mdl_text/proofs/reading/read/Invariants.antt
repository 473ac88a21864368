use Rattle.std.proofs.Common.{length}
use Rattle.mdl_text.specs.inner.Plain.{IsBounded}
use Rattle.mdl_text.proofs.Whole.{Reached}
use Rattle.mdl_text.proofs.reading.read.Given as goal

-- the lines before this one were read
abbrev pub invariant-loop-next : goal.invariant-loop-next
invariant-loop-next l = record { reached : Reached l.bytes l.rest l.reader l.line; bounded : IsBounded l.reader.pending }

abbrev pub decreases-loop-next : goal.decreases-loop-next
decreases-loop-next l = length l.rest
