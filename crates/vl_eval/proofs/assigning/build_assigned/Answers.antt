use Rattle.std.proofs.Common.{subst, arith}
use Rattle.vl_eval.specs.inner.Site.{Built}
use Rattle.vl_eval.proofs.Assigns.{assigns-cut, assigns-whole}
use Rattle.vl_eval.proofs.assigning.build_assigned.Goals as goal

pub build-slot-requires : goal.build-slot-requires
build-slot-requires c = record {
  by_layer = c.meaning_by_layer.ensures.value;
  sound = c.requires.sound;
  longer = omega (arith, c.shape_of-shape.ensures.length, c.max-length.ensures);
  most = omega (arith, c.shape_of-shape.ensures.few, c.requires.most, c.max-length.ensures);
  placed = c.requires.placed;
}

pub returns-then-shape-width : goal.returns-then-shape-width
returns-then-shape-width c = λ fine.
    let site = c.args.site.now in
    let b = c.build-slot.ensures fine in
    let built = subst (λ n. Built site.base site.scope.now site.slots.now c.args.ops.now.code
    c.build-slot.new.ops.code c.build-slot.result n c.shape_of-shape.result.signed c.args.e.now)
    c.max-length.ensures b.1 in (
      b.0,
      assigns-whole c.meaning_by_layer.ensures.value site.base site.scope.now site.slots.now c.args.e.now
          c.args.ops.now.code c.build-slot.new.ops.code c.build-slot.result c.args.width c.shape_of-shape.result
          c.requires.sound c.shape_of-shape.ensures.length c.shape_of-shape.ensures.sign c.if-shape-width.true built,
    )

pub returns : goal.returns
returns c = λ fine.
    let site = c.args.site.now in
    let p = c.push.ensures fine in
    let b = c.build-slot.ensures p.0 in
    let built = subst (λ n. Built site.base site.scope.now site.slots.now c.args.ops.now.code
    c.build-slot.new.ops.code c.build-slot.result n c.shape_of-shape.result.signed c.args.e.now)
    c.max-length.ensures b.1 in (
      b.0,
      assigns-cut c.meaning_by_layer.ensures.value site.base site.scope.now site.slots.now c.args.e.now
          c.args.ops.now.code c.build-slot.new.ops.code c.push.new.ops.code c.build-slot.result c.push.result
          c.args.width
          c.mask_of-mask.result c.shape_of-shape.result c.shape_of-shape.ensures.length c.shape_of-shape.ensures.sign c.mask_of-mask.ensures built p.1,
    )
