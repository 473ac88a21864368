use Rattle.std.proofs.Common.{◌≡◌, ◌+◌, drop}
use Rattle.std.specs.List.{prefix_len}
use Rattle.mdl_values.specs.inner.Runs.{is_of}
use Rattle.mdl_values.proofs.pieces.run_length.Given as goal

abbrev pub invariant-loop-i : goal.invariant-loop-i
invariant-loop-i l = l.i + prefix_len (is_of l.solid) (drop l.i l.text) ≡ prefix_len (is_of l.solid) l.text
