use Rattle.std.proofs.Common.{◌≡◌, map}
use Rattle.math_list.specs.Numbers.{numbers_from}
use Rattle.hw_build.specs.inner.Operands.{offered_at}
use Rattle.hw_build.proofs.offers.from_each.Given as goal

abbrev pub invariant-loop-input : goal.invariant-loop-input
invariant-loop-input l = l.nets ≡ map (λ input. offered_at l.checked.diagram l.to.setting.operands.now l.to.place.block input l.to.place.element) (numbers_from 1 l.input)
