use Rattle.std.proofs.Common.{◌≡◌, ◌^◌, ◌-◌, min, take}
use Rattle.dg_types.specs.inner.Elements.{inputs_of}
use Rattle.dg_types.proofs.elements.all_inputs.Given as goal

abbrev pub invariant-loop-edge : goal.invariant-loop-edge
invariant-loop-edge l = l.total ≡ min (2 ^ 64 - 1) (inputs_of l.widths (take l.edge-index l.edges))
