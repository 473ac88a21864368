use Rattle.std.proofs.Common.{◌≡◌, ◌≤◌, ◌<◌, ◌+◌, ◌-◌, map, sum}
use Rattle.math_list.specs.Numbers.{numbers_from}
use Rattle.dg_model.specs.Attributes.{attributes_of}
use Rattle.dg_model.specs.Wires.{width_into}
use Rattle.dg_sim.proofs.joining.part_into.Given as goal

abbrev pub invariant-loop-width : goal.invariant-loop-width
invariant-loop-width l = record {
  at : l.before ≡ sum (map (width_into l.checked.diagram (attributes_of l.checked.diagram) l.block) (numbers_from 1 l.signal));
  low : l.before ≤ l.element;
  below : l.signal < l.inputs;
  width : l.width ≡ width_into l.checked.diagram (attributes_of l.checked.diagram) l.block (l.signal + 1);
}

abbrev pub decreases-loop-width : goal.decreases-loop-width
decreases-loop-width l = l.inputs - l.signal
