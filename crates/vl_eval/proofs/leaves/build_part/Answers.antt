use Rattle.std.proofs.Common.{◌≡◌, ◌+◌, ◌-◌, ◌^◌, [], sym, ap, subst, ◌∙◌, arith}
use Rattle.math_list.proofs.Elements.{head-in}
use Rattle.std.proofs.Common.{Contains}
use Rattle.vl_check.specs.Scope.{nets_in}
use Rattle.vl_eval.proofs.Operands.{length-part, names-part, sound-part}
use Rattle.vl_eval.proofs.Builds.{built-part}
use Rattle.vl_eval.proofs.leaves.build_part.Goals as goal

pub overflow_sub-high : goal.overflow_sub-high
overflow_sub-high c = (sound-part (nets_in c.args.site.now.scope.now) c.args.name.now c.args.high c.args.low c.requires.sound).0

pub overflow_add-high : goal.overflow_add-high
overflow_add-high c =
    let l = length-part (nets_in c.args.site.now.scope.now) c.args.name.now c.args.high c.args.low in
    record { fits = omega (arith, l, c.requires.longer, c.requires.most) }

pub mask_of-mask-requires : goal.mask_of-mask-requires
mask_of-mask-requires c =
    let nets = nets_in c.args.site.now.scope.now in
    let s = sound-part nets c.args.name.now c.args.high c.args.low c.requires.sound in
    let l = length-part nets c.args.name.now c.args.high c.args.low in
    omega (arith, s.0, l, c.requires.longer, c.requires.most)

pub returns : goal.returns
returns c = λ fine.
    let site = c.args.site.now in
    let nets = nets_in site.scope.now in
    let p = c.push.ensures fine in
    let placed = c.requires.placed p.0 in
    let here = subst (λ ns. Contains ns c.args.name.now) (sym (names-part nets c.args.name.now c.args.high c.args.low)) (head-in c.args.name.now []) in
    let few = placed.few c.args.name.now here in
    let s = sound-part nets c.args.name.now c.args.high c.args.low c.requires.sound in
    let bits : c.args.high - c.args.low + 1 ≡ c.args.high + 1 - c.args.low = (let le = s.0 in omega (arith, le)) in (
      p.0,
      built-part c.requires.by_layer site.base site.scope.now site.slots.now c.args.name.now c.args.high c.args.low
          c.args.ops.now.code c.push.new.ops.code c.slot-part.result c.push.result c.args.context.length
          c.mask_of-mask.result c.args.context.signed
          c.slot-part.ensures (placed.below c.args.name.now here) (omega (arith, few, s.0, s.1)) (c.mask_of-mask.ensures ∙ ap (λ n. 2 ^ n - 1) bits) p.1,
    )
