use Rattle.std.proofs.Common.{◌≡◌}
use Rattle.std.specs.List.{flat_map, position}
use Rattle.math_list.specs.Numbers.{numbers_from}
use Rattle.dg_model.specs.Attributes.{attributes_of}
use Rattle.dg_model.specs.RootElements.{elements_of_port, has_number}
use Rattle.dg_tables.specs.Roots.{roots_of}
use Rattle.dg_tables.specs.inner.Ports.{root_on, width_on}
use Rattle.dg_tables.proofs.roots.roots_on.Given as goal

abbrev pub invariant-loop-i : goal.invariant-loop-i
invariant-loop-i l = l.roots ≡ roots_of
    (flat_map (λ number. elements_of_port (attributes_of l.checked.diagram)
    (width_on l.checked.diagram (attributes_of l.checked.diagram) l.side) number
    (position (has_number (root_on l.side) number) l.checked.diagram.blocks)) (numbers_from 1 l.i))
