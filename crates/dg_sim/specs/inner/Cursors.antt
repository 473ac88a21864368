-- How many elements the first ports of a block have (own).
use Rattle.std.specs.Prelude.{◌≡◌, map, sum}
use Rattle.math_list.specs.Numbers.{numbers_from}
use Rattle.dg_model.specs.declared.diagram.Diagram.{Diagram}
use Rattle.dg_model.specs.Signals.{Attributes}
use Rattle.dg_model.specs.Wires.{width_into}
use Rattle.dg_sim.specs.declared.joining.Cursor.{Cursor}
use Rattle.dg_sim.specs.declared.joining.Cursors.{Cursors}

-- the first input ports of a block have so many elements together
abbrev pub IsInto : Diagram → Attributes → Cursor → Type 0
IsInto diagram attributes cursor =
    cursor.before
    ≡ sum (map (width_into diagram attributes cursor.block) (numbers_from 1 cursor.ports))

-- its first output ports have
abbrev pub IsOut : Attributes → Cursor → Type 0
IsOut attributes cursor =
    cursor.before ≡ sum (map (attributes.width_at cursor.block) (numbers_from 1 cursor.ports))

pub record AreCursors (diagram : Diagram) (attributes : Attributes)
    (cursors : Cursors) : Type 0 where
  pub into : IsInto diagram attributes cursors.into
  pub out : IsOut attributes cursors.out
