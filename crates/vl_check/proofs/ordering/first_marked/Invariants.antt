use Rattle.std.proofs.Common.{◌≡◌, None, take}
use Rattle.vl_check.specs.inner.CycleMarks.{first_some, marked_at}
use Rattle.vl_check.specs.inner.Mentions.{shown}
use Rattle.vl_check.proofs.ordering.first_marked.Given as goal

abbrev pub invariant-loop-mention : goal.invariant-loop-mention
invariant-loop-mention l = first_some (marked_at l.scope l.marks) (shown (take l.mention-index l.text)) ≡ None
