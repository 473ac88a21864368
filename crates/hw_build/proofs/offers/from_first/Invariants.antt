use Rattle.std.proofs.Common.{◌≡◌, map}
use Rattle.math_list.specs.Numbers.{numbers_from}
use Rattle.hw_build.specs.inner.Operands.{offered_at}
use Rattle.hw_build.proofs.offers.from_first.Given as goal

abbrev pub invariant-loop-element : goal.invariant-loop-element
invariant-loop-element l = l.nets ≡ map (offered_at l.checked.diagram l.to.setting.operands.now l.to.place.block 1) (numbers_from 0 l.element)
