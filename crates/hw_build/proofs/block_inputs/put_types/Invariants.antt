use Rattle.std.proofs.Common.{◌≡◌, map}
use Rattle.math_list.specs.Numbers.{numbers_from}
use Rattle.dg_model.specs.Attributes.{attributes_of}
use Rattle.dg_model.specs.Wires.{type_into}
use Rattle.hw_build.proofs.block_inputs.put_types.Given as goal

abbrev pub invariant-loop-input : goal.invariant-loop-input
invariant-loop-input l = l.types.items ≡ map (type_into l.checked.diagram (attributes_of l.checked.diagram) l.block) (numbers_from 1 l.input)
