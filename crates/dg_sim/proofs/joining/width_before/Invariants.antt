use Rattle.std.proofs.Common.{◌≡◌, map, sum}
use Rattle.math_list.specs.Numbers.{numbers_from}
use Rattle.dg_model.specs.Attributes.{attributes_of}
use Rattle.dg_sim.proofs.joining.width_before.Given as goal

abbrev pub invariant-loop-i : goal.invariant-loop-i
invariant-loop-i l = l.total ≡ sum (map ((attributes_of l.checked.diagram).width_at l.block) (numbers_from 1 l.i))
