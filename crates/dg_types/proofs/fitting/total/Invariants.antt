use Rattle.std.proofs.Common.{◌≡◌, ◌^◌, ◌-◌, min, sum, take}
use Rattle.dg_types.proofs.fitting.total.Given as goal

abbrev pub invariant-loop-width : goal.invariant-loop-width
invariant-loop-width l = l.total ≡ min (2 ^ 64 - 1) (sum (take l.width-index l.row))
