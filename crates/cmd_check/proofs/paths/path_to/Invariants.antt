use Rattle.std.proofs.Common.{◌≡◌, ◌<◌, length, drop}
use Rattle.cmd_check.specs.inner.Way.{Follows}
use Rattle.cmd_check.proofs.paths.path_to.Given as goal

abbrev pub invariant-loop-block : goal.invariant-loop-block
invariant-loop-block l = record {
  way : Follows l.checked.diagram l.plan l.latencies l.end l.block (drop l.start l.room);
  size : length l.room ≡ length l.checked.diagram.blocks;
  within : l.start < length l.room;
}

abbrev pub decreases-loop-block : goal.decreases-loop-block
decreases-loop-block l = l.start
