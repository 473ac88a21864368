use Rattle.std.proofs.Common.{◌≡◌, ◌++◌, map}
use Rattle.math_list.specs.Numbers.{numbers_from}
use Rattle.dg_tables.specs.Roots.{root_at}
use Rattle.dg_tables.proofs.roots.put_port.Given as goal

abbrev pub invariant-loop-element : goal.invariant-loop-element
invariant-loop-element l = l.roots ≡ l.initial.roots ++ map (root_at l.number l.block) (numbers_from 0 l.element)
