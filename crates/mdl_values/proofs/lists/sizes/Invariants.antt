use Rattle.std.proofs.Common.{ℕ, List, ◌++◌, drop}
use Rattle.std.specs.List.{AllZip}
use Rattle.mdl_values.specs.Lists.{IsSizeText}
use Rattle.mdl_values.proofs.lists.sizes.Given as goal

abbrev pub invariant-loop-element : goal.invariant-loop-element
invariant-loop-element l = (more : List ℕ) → AllZip IsSizeText (drop l.element-index l.texts) more → AllZip IsSizeText l.texts (l.list ++ more)
