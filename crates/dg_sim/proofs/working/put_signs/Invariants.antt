use Rattle.std.proofs.Common.{◌≡◌, ◌++◌, take}
use Rattle.dg_sim.proofs.working.put_signs.Given as goal

abbrev pub invariant-loop-sign : goal.invariant-loop-sign
invariant-loop-sign l = l.signs ≡ l.initial.signs ++ take l.sign-index l.negative
