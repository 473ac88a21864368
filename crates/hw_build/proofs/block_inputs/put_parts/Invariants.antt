use Rattle.hw_build.specs.inner.Offers.{ArePartsTo}
use Rattle.hw_build.proofs.block_inputs.put_parts.Given as goal

abbrev pub invariant-loop-input : goal.invariant-loop-input
invariant-loop-input l = ArePartsTo l.owner.setting l.owner.block l.owner.one.now l.input 0 l.parts
