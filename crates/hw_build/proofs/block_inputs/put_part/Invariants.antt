use Rattle.std.proofs.Common.{◌-◌}
use Rattle.hw_build.specs.inner.Offers.{ArePartsTo}
use Rattle.hw_build.proofs.block_inputs.put_part.Given as goal

abbrev pub invariant-loop-left : goal.invariant-loop-left
invariant-loop-left l = ArePartsTo l.owner.setting l.owner.block l.owner.one.now (l.port - 1) l.left l.parts
