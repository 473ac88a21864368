use Rattle.dg_flat.specs.inner.Groups.{AreFlatGroups}
use Rattle.dg_flat.proofs.grouping.groups.Given as goal

abbrev pub invariant-loop-place : goal.invariant-loop-place
invariant-loop-place l = AreFlatGroups l.blocks l.place l.groups.items
