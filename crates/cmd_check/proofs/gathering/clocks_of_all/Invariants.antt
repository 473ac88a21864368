use Rattle.std.proofs.Common.{◌≡◌, map, take}
use Rattle.hw_rules.specs.Times.{timing_in}
use Rattle.cmd_check.specs.Gathered.{clocks_at}
use Rattle.cmd_check.proofs.gathering.clocks_of_all.Given as goal

abbrev pub invariant-loop-block : goal.invariant-loop-block
invariant-loop-block l = l.all.items ≡ map (clocks_at l.checked.diagram l.planned.resolved (timing_in l.planned.times)) (take l.block-index l.blocks)
