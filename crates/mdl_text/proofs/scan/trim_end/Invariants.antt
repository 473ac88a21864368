use Rattle.std.proofs.Common.{◌≡◌, length, ◌≤◌, take}
use Rattle.mdl_text.specs.inner.Plain.{trimmed}
use Rattle.mdl_text.proofs.scan.trim_end.Given as goal

abbrev pub invariant-loop-end : goal.invariant-loop-end
invariant-loop-end l = (trimmed (take l.end l.bytes) ≡ trimmed l.bytes) × (l.end ≤ length l.bytes)

abbrev pub decreases-loop-end : goal.decreases-loop-end
decreases-loop-end l = l.end
