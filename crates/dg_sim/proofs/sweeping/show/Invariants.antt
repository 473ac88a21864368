use Rattle.std.proofs.Common.{◌≡◌, map, take}
use Rattle.dg_sim.specs.Program.{value_at}
use Rattle.dg_sim.proofs.sweeping.show.Given as goal

abbrev pub invariant-loop-i : goal.invariant-loop-i
invariant-loop-i l = take l.i l.out ≡ map (value_at l.row) (take l.i l.cells)
