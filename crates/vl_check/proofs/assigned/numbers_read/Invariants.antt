use Rattle.std.proofs.Common.{◌≡◌, map, take}
use Rattle.vl_ast.specs.Conditions.{mentioned}
use Rattle.vl_check.specs.Scope.{number_at}
use Rattle.vl_check.specs.inner.Mentions.{shown}
use Rattle.vl_check.proofs.assigned.numbers_read.Given as goal

abbrev pub invariant-loop-mention : goal.invariant-loop-mention
invariant-loop-mention l = l.numbers ≡ map (number_at l.scope) (map mentioned (shown (take l.mention-index l.mention-items)))
