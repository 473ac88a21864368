use Rattle.std.proofs.Common.{◌≡◌}
use Rattle.hw_net.specs.Products.{places}
use Rattle.hw_fold.proofs.folding.numbers.Given as goal

abbrev pub invariant-loop-k : goal.invariant-loop-k
invariant-loop-k l = l.made.items ≡ places l.k
