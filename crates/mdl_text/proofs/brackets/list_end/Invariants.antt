use Rattle.std.proofs.Common.{◌≡◌, ◌≤◌, ◌+◌, drop}
use Rattle.mdl_text.specs.inner.Plain.{list_end, list_from}
use Rattle.mdl_text.proofs.brackets.list_end.Given as goal

abbrev pub invariant-loop-i : goal.invariant-loop-i
invariant-loop-i l = record { same : list_end l.spot l.i (drop l.i l.line) ≡ list_from l.fn.nesting l.line; within : l.spot.nesting ≤ l.fn.nesting + l.i }
