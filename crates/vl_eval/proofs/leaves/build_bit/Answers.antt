use Rattle.std.proofs.Common.{[], sym, subst, arith}
use Rattle.math_list.proofs.Elements.{head-in}
use Rattle.std.proofs.Common.{Contains}
use Rattle.vl_check.specs.Scope.{nets_in}
use Rattle.vl_eval.proofs.Operands.{names-bit, sound-bit}
use Rattle.vl_eval.proofs.Builds.{built-bit}
use Rattle.vl_eval.proofs.leaves.build_bit.Goals as goal

pub returns : goal.returns
returns c = λ fine.
    let site = c.args.site.now in
    let p = c.push.ensures fine in
    let placed = c.requires.placed p.0 in
    let here = subst (λ ns. Contains ns c.args.name.now) (sym (names-bit (nets_in site.scope.now) c.args.name.now c.args.low)) (head-in c.args.name.now []) in
    let few = placed.few c.args.name.now here in
    let low = sound-bit (nets_in site.scope.now) c.args.name.now c.args.low c.requires.sound in (
      p.0,
      built-bit c.requires.by_layer site.base site.scope.now site.slots.now c.args.name.now c.args.low
          c.args.ops.now.code c.push.new.ops.code c.slot-part.result c.push.result c.args.context.length
          c.args.context.signed
          c.slot-part.ensures (placed.below c.args.name.now here) (omega (arith, few, low)) p.1,
    )
