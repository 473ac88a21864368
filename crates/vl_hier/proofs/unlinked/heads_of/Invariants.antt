use Rattle.std.proofs.Common.{map, take}
use Rattle.vl_ast.specs.Listing.{Holds}
use Rattle.vl_hier.specs.Linked.{head_of}
use Rattle.vl_hier.proofs.unlinked.heads_of.Given as goal

abbrev pub invariant-loop-one : goal.invariant-loop-one
invariant-loop-one l = Holds l.out (map head_of (take l.one-index l.instances))
