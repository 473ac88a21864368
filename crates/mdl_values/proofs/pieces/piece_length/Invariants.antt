use Rattle.std.proofs.Common.{◌≡◌, ◌+◌, drop}
use Rattle.std.specs.List.{prefix_len}
use Rattle.mdl_values.specs.Pieces.{is_other}
use Rattle.mdl_values.proofs.pieces.piece_length.Given as goal

abbrev pub invariant-loop-i : goal.invariant-loop-i
invariant-loop-i l = l.i + prefix_len (is_other l.separator) (drop l.i l.text) ≡ prefix_len (is_other l.separator) l.text
