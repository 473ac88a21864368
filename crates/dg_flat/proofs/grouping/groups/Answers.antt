use Rattle.std.proofs.Common.{◌≡◌, ◌∙◌, ◌+◌, ◌<◌, List, length, get_or, sym, subst, arith}
use Rattle.std.proofs.lemmas.Option.{same_Some, slice_get-get_or}
use Rattle.dg_model.specs.declared.nested.NestedBlock.{NestedBlock}
use Rattle.dg_flat.specs.Groups.{AreGroups, group_of}
use Rattle.dg_flat.proofs.FromSound.{have_parents}
use Rattle.dg_flat.proofs.GroupTable.{all_flat, flat_left, flat_more}
use Rattle.dg_flat.proofs.grouping.groups.Goals as goal
use Rattle.dg_flat.proofs.grouping.groups.Goals.{then-not-is_subsystem+in_ok-push, else-not-is_subsystem}

pub nested_groups-requires-clause-parents : goal.nested_groups-requires-clause-parents
nested_groups-requires-clause-parents c = rw c.as_slice-blocks.ensures (have_parents c.args.nested.now c.requires)

pub loop-place-preserved : goal.loop-place-preserved
loop-place-preserved c =
    let blocks = c.as_slice-blocks.result.now in
    let i = c.loop-place.place in
    let block = c.index-blocks-place.result in
    let at : get_or blocks i block ≡ block = sym c.index-blocks-place.is in
    let inside : i < length blocks = c.loop-place-test.true in
    elim c.if-not-is_subsystem.branch [
      | then-not-is_subsystem+in_ok-push w ↦ (
          let all = c.in_ok-all.all.items in
          let within : i < length all = omega (arith, inside, c.in_ok-all.ensures.size) in
          let known : get_or all i w.index.result.now ≡ get_or all i 0 =
          same_Some _ _ (sym (slice_get-get_or all i w.index.result.now within) ∙ slice_get-get_or all i 0 within) in
          let is : w.index.result.now ≡ group_of blocks i = w.index.ensures ∙ known ∙ c.in_ok-all.ensures.at i inside in
          rw w.groups-is (rw w.in_ok-push.ensures.items
          (flat_more blocks i block inside at c.loop-place.groups.items w.index.result.now (sym c.is_subsystem.ensures ∙ w.if-not-is_subsystem.true) is c.loop-place.invariant)))
      | else-not-is_subsystem w ↦ rw w.groups-is (flat_left blocks i block inside at c.loop-place.groups.items (sym c.is_subsystem.ensures ∙ w.if-not-is_subsystem.false) c.loop-place.invariant)
    ]

pub returns : goal.returns
returns c =
    subst (λ (blocks : List NestedBlock). AreGroups blocks c.loop-place.groups.items) c.as_slice-blocks.ensures
    (all_flat c.as_slice-blocks.result.now c.loop-place.place c.loop-place.groups.items c.loop-place.auto.place-end c.loop-place-test.false c.loop-place.invariant)
