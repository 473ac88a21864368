use Rattle.std.proofs.Common.{◌≡◌, map, sum}
use Rattle.math_list.specs.Numbers.{numbers_from}
use Rattle.dg_model.specs.Attributes.{attributes_of}
use Rattle.dg_model.specs.Solves.{shown_width}
use Rattle.hw_build.specs.inner.Offers.{AreBegins}
use Rattle.hw_build.proofs.block_inputs.put_begins.Given as goal

abbrev pub invariant-loop-port : goal.invariant-loop-port
invariant-loop-port l = AreBegins l.checked.diagram l.block l.one l.port l.begins
    × (l.total ≡ sum (map (shown_width l.checked.diagram (attributes_of l.checked.diagram) l.one.kind l.block)
    (numbers_from 1 l.port)))
