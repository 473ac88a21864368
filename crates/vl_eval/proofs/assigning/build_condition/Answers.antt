use Rattle.std.proofs.Common.{◌≡◌, Option, true, arith, subst, sym}
use Rattle.vl_ast.specs.declared.expressions.Expr.{Expr}
use Rattle.vl_ast.specs.Conditions.{is_sound_condition}
use Rattle.vl_ast.specs.Nets.{condition_names}
use Rattle.vl_check.specs.Scope.{nets_in}
use Rattle.vl_eval.specs.inner.Assigns.{Tests}
use Rattle.vl_eval.specs.inner.Site.{ArePlaced}
use Rattle.vl_eval.proofs.Assigns.{tests-none, tests-some}
use Rattle.vl_eval.proofs.Builds.{fine-as}
use Rattle.vl_eval.proofs.assigning.build_condition.Goals as goal

pub build-requires : goal.build-requires
build-requires c =
    let site = c.args.site.now in
    record {
      by_layer = c.meaning_by_layer.ensures.value;
      sound = subst (λ (condition : Option Expr). is_sound_condition (nets_in site.scope.now) condition ≡ true) c.in-Some.is c.requires.sound;
      longer = omega (arith, c.shape_of-shape.ensures.length);
      most = c.shape_of-shape.ensures.few;
      placed = λ fine. subst (λ (condition : Option Expr). ArePlaced site.base site.scope.now site.slots.now c.args.ops.now.code (condition_names condition)) c.in-Some.is (c.requires.placed fine);
    }

pub returns-in-None : goal.returns-in-None
returns-in-None c =
    let site = c.args.site.now in
    fine-as c.push.ensures
    (λ p. subst (Tests site.base site.scope.now site.slots.now c.args.ops.now.code c.push.new.ops.code c.push.result) (sym c.in-None.is)
    (tests-none c.meaning_by_layer.ensures.value site.base site.scope.now site.slots.now c.args.ops.now.code c.push.new.ops.code c.push.result p))

pub returns-in-Some : goal.returns-in-Some
returns-in-Some c =
    let site = c.args.site.now in
    fine-as c.build.ensures
    (λ b. subst (Tests site.base site.scope.now site.slots.now c.args.ops.now.code c.build.new.ops.code c.build.result) (sym c.in-Some.is)
    (tests-some c.meaning_by_layer.ensures.value site.base site.scope.now site.slots.now c.in-Some.e
    c.args.ops.now.code c.build.new.ops.code c.build.result c.shape_of-shape.result
    c.shape_of-shape.ensures.length c.shape_of-shape.ensures.sign b))
