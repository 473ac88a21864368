use Rattle.std.proofs.Common.{ap, arith}
use Rattle.vl_ast.specs.Context.{Net}
use Rattle.vl_ast.specs.Nets.{condition_names, names_read}
use Rattle.vl_eval.proofs.Assigns.{captures-next, placed-rest}
use Rattle.vl_eval.proofs.Builds.{placed-later, placed-left, placed-right}
use Rattle.vl_eval.proofs.assigning.build_next.Goals as goal

pub build_condition-test-requires-clause-placed : goal.build_condition-test-requires-clause-placed
build_condition-test-requires-clause-placed c = λ fine.
    let site = c.args.site.now in
    placed-left c.meaning_by_layer.ensures.value site.base site.scope.now site.slots.now c.args.ops.now.code (condition_names c.args.condition.now) (names_read c.args.value.now)
    (placed-rest c.meaning_by_layer.ensures.value site.base site.scope.now site.slots.now c.args.ops.now.code c.args.name.now c.args.condition.now c.args.value.now (c.requires.placed fine))

pub build_assigned-taken-requires-clause-most : goal.build_assigned-taken-requires-clause-most
build_assigned-taken-requires-clause-most c = let e = ap (λ (n : Net). n.width) c.net-width.ensures in omega (arith, e, c.requires.few)

pub build_assigned-taken-requires-clause-placed : goal.build_assigned-taken-requires-clause-placed
build_assigned-taken-requires-clause-placed c = λ fine.
    let site = c.args.site.now in
    let test = c.build_condition-test.ensures fine in
    placed-later c.meaning_by_layer.ensures.value site.base site.scope.now site.slots.now c.args.ops.now.code c.build_condition-test.new.ops.code (names_read c.args.value.now) test.1.grows
    (placed-right c.meaning_by_layer.ensures.value site.base site.scope.now site.slots.now c.args.ops.now.code (condition_names c.args.condition.now) (names_read c.args.value.now)
    (placed-rest c.meaning_by_layer.ensures.value site.base site.scope.now site.slots.now c.args.ops.now.code c.args.name.now c.args.condition.now c.args.value.now (c.requires.placed test.0)))

pub first_bits-requires-clause-most : goal.first_bits-requires-clause-most
first_bits-requires-clause-most c = let e = ap (λ (n : Net). n.width) c.net-width.ensures in omega (arith, e, c.requires.few)

pub returns : goal.returns
returns c = λ fine.
    let site = c.args.site.now in
    let p = c.push.ensures fine in
    let taken = c.build_assigned-taken.ensures p.0 in
    let test = c.build_condition-test.ensures taken.0 in (
      test.0,
      captures-next c.meaning_by_layer.ensures.value site.base site.scope.now site.slots.now c.args.name.now c.args.first.now c.args.condition.now c.args.value.now
          c.args.ops.now.code c.build_condition-test.new.ops.code c.build_assigned-taken.new.ops.code
          c.push.new.ops.code c.net-width.result.length c.build_condition-test.result
          c.build_assigned-taken.result c.slot.result c.slot-2.result c.first_bits.result c.push.result
          (ap (λ (n : Net). n.width) c.net-width.ensures) c.first_bits.ensures c.slot.ensures c.slot-2.ensures (c.requires.placed test.0) test.1 taken.1 p.1,
    )
