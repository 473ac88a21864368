use Rattle.std.proofs.Common.{[], sym, ap, subst, arith}
use Rattle.math_list.proofs.Elements.{head-in}
use Rattle.std.proofs.Common.{Contains}
use Rattle.vl_ast.specs.Context.{Net}
use Rattle.vl_check.specs.Scope.{nets_in}
use Rattle.std.proofs.lemmas.Bool.{not-false, not-true}
use Rattle.vl_eval.proofs.Operands.{length-name, names-name}
use Rattle.vl_eval.proofs.Builds.{built-name, built-signed-name}
use Rattle.vl_eval.proofs.leaves.build_name.Goals as goal

pub returns-then-not-context : goal.returns-then-not-context
returns-then-not-context c = λ fine.
    let site = c.args.site.now in
    let below = (c.requires.placed fine).below c.args.name.now (subst (λ ns. Contains ns c.args.name.now) (sym (names-name (nets_in site.scope.now) c.args.name.now)) (head-in c.args.name.now [])) in (
      fine,
      built-name c.requires.by_layer site.base site.scope.now site.slots.now c.args.name.now
          c.args.ops.now.code c.slot-part.result c.args.context.length c.args.context.signed c.slot-part.ensures below
          (not-true c.args.context.signed c.if-not-context.true),
    )

pub extend-requires-clause-longer : goal.extend-requires-clause-longer
extend-requires-clause-longer c =
    let nets = nets_in c.args.site.now.scope.now in
    let l = length-name nets c.args.name.now in
    let e = ap (λ (n : Net). n.width) c.net-length.ensures in
    omega (arith, l, e, c.requires.longer)

pub extend-requires-clause-most : goal.extend-requires-clause-most
extend-requires-clause-most c = c.requires.most

pub returns : goal.returns
returns c = λ fine.
    let site = c.args.site.now in
    let nets = nets_in site.scope.now in
    let x = c.extend.ensures fine in
    let below = (c.requires.placed x.0).below c.args.name.now (subst (λ ns. Contains ns c.args.name.now) (sym (names-name nets c.args.name.now)) (head-in c.args.name.now [])) in
    let l = length-name nets c.args.name.now in
    let e = ap (λ (n : Net). n.width) c.net-length.ensures in (
      x.0,
      built-signed-name c.requires.by_layer site.base site.scope.now site.slots.now c.args.name.now
          c.args.ops.now.code c.extend.new.ops.code c.slot-part.result c.extend.result c.args.context.length
          c.net-length.result.length c.args.context.signed
          c.slot-part.ensures e below (omega (arith, l, e, c.requires.longer)) c.requires.most (not-false c.args.context.signed c.if-not-context.false) x.1,
    )
