use Rattle.std.proofs.Common.{◌≡◌, take}
use Rattle.std.specs.Prelude.{zip}
use Rattle.dg_model.specs.Operation.{signed_sum}
use Rattle.dg_blocks.proofs.short_sums.signed_sum.Given as goal

abbrev pub invariant-loop-input : goal.invariant-loop-input
invariant-loop-input l = l.total ≡ signed_sum l.frac (take l.input (zip l.signs l.types)) (take l.input l.inputs)
