use Rattle.std.proofs.Common.{◌≡◌}
use Rattle.dg_flat.specs.Groups.{root_subsystems}
use Rattle.dg_flat.specs.inner.Groups.{AreNestedGroups}
use Rattle.dg_flat.proofs.grouping.nested_groups.Given as goal

abbrev pub invariant-loop-block : goal.invariant-loop-block
invariant-loop-block l = record {
  counted : l.count ≡ root_subsystems l.blocks l.block-index;
  are : AreNestedGroups l.blocks l.block-index l.groups.items;
}
