use Rattle.std.proofs.Common.{◌≡◌, ◌++◌, map}
use Rattle.math_list.specs.Numbers.{numbers_from}
use Rattle.dg_tables.specs.Entries.{place_at}
use Rattle.dg_tables.proofs.layout.put_entries.Given as goal

abbrev pub invariant-loop-element : goal.invariant-loop-element
invariant-loop-element l = l.places ≡ l.initial.places ++ map (place_at l.block l.port) (numbers_from 0 l.element)
