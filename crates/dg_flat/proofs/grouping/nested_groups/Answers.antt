use Rattle.std.proofs.Common.{◌≡◌, ◌+◌, ◌<◌, length, get_or, sym, ap, ◌∙◌}
use Rattle.dg_flat.specs.Groups.{group_in, own_group, root_subsystems}
use Rattle.dg_flat.proofs.GroupTable.{counted_no, counted_yes, group_is, groups_more}
use Rattle.dg_flat.proofs.grouping.nested_groups.Goals as goal
use Rattle.dg_flat.proofs.grouping.nested_groups.Goals.{then-is_root_subsystem, else-is_root_subsystem}

pub loop-block-preserved : goal.loop-block-preserved
loop-block-preserved c =
    let blocks = c.args.blocks.now in
    let i = c.loop-block.block-index in
    let block = c.block-item.result in
    let at : get_or blocks i block ≡ block = sym c.block-item.is in
    let inside : i < length blocks = c.loop-block-test.true in
    let are = c.loop-block.invariant.are in
    let known = group_is blocks i block c.loop-block.groups.items c.requires.parents are inside at in
    let group : c.group_behind-group.result ≡ group_in (own_group (root_subsystems blocks i) block.part) (λ k. get_or c.loop-block.groups.items k 0) block.parent =
    c.group_behind-group.ensures
    ∙ ap (λ xs. group_in (own_group c.loop-block.count block.part) (λ k. get_or xs k 0) block.parent) c.as_slice.ensures.value
    ∙ ap (λ n. group_in (own_group n block.part) (λ k. get_or c.loop-block.groups.items k 0) block.parent) c.loop-block.invariant.counted in
    record {
      counted =
          elim c.if-is_root_subsystem.branch [
            | then-is_root_subsystem w ↦ w.count-is ∙ ap (λ n. n + 1) c.loop-block.invariant.counted ∙ sym (counted_yes blocks i block inside at (sym c.is_root_subsystem.ensures ∙ w.if-is_root_subsystem.true))
            | else-is_root_subsystem w ↦ w.count-is ∙ c.loop-block.invariant.counted ∙ sym (counted_no blocks i block inside at (sym c.is_root_subsystem.ensures ∙ w.if-is_root_subsystem.false))
          ];
      are = rw c.in_ok-push.ensures.items (groups_more blocks i c.group_behind-group.result c.loop-block.groups.items (group ∙ known) are);
    }
