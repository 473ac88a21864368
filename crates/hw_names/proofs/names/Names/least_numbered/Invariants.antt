use Rattle.std.proofs.Common.{ℕ, List}
use Rattle.hw_names.specs.Taken.{AreTaken, AreTried}
use Rattle.hw_names.proofs.names.Names.least_numbered.Given as goal

abbrev pub invariant-loop-number : goal.invariant-loop-number
invariant-loop-number l = (list : List (List ℕ)) → AreTaken l.self list → AreTried list l.name.items l.number
