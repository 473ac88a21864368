use Rattle.std.proofs.Common.{arith}
use Rattle.vl_check.specs.Scope.{nets_in}
use Rattle.vl_eval.proofs.Operands.{length-literal, sound-literal}
use Rattle.vl_eval.proofs.Builds.{built-literal}
use Rattle.vl_eval.proofs.leaves.build_literal.Goals as goal

pub literal-bits-requires-clause-number : goal.literal-bits-requires-clause-number
literal-bits-requires-clause-number c = sound-literal (nets_in c.args.site.now.scope.now) c.args.number.now c.requires.sound

pub literal-bits-requires-clause-longer : goal.literal-bits-requires-clause-longer
literal-bits-requires-clause-longer c = let l = length-literal (nets_in c.args.site.now.scope.now) c.args.number.now in omega (arith, l, c.requires.longer)

pub literal-bits-requires-clause-most : goal.literal-bits-requires-clause-most
literal-bits-requires-clause-most c = c.requires.most

pub returns : goal.returns
returns c = λ fine.
    let site = c.args.site.now in
    let p = c.push.ensures fine in (
      p.0,
      built-literal c.requires.by_layer site.base site.scope.now site.slots.now c.args.number.now
          c.args.ops.now.code c.push.new.ops.code c.literal-bits.result c.push.result c.args.context.length
          c.args.context.signed
          c.literal-bits.ensures p.1,
    )
