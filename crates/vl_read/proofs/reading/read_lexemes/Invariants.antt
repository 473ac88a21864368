use Rattle.std.proofs.Common.{[], take, drop, ◌≤◌, ◌-◌, length}
use Rattle.vl_read.specs.inner.DesignerFields.{gathered}
use Rattle.vl_read.specs.inner.Turns.{IsBeyond, line_at}
use Rattle.vl_read.proofs.Reach.{Reached}
use Rattle.vl_read.proofs.reading.read_lexemes.Given as goal

abbrev pub invariant-loop-at : goal.invariant-loop-at
invariant-loop-at l = record {
  within : l.at ≤ length l.bytes;
  beyond : IsBeyond l.mode;
  reached : Reached l.fn.scope l.bytes (drop l.at l.bytes) (gathered l.designer) l.mode [] (line_at (take l.at l.bytes));
}

abbrev pub decreases-loop-at : goal.decreases-loop-at
decreases-loop-at l = length l.bytes - l.at
