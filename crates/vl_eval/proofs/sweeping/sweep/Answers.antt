use Rattle.std.proofs.Common.{rules, ◌<◌, ◌+◌, ◌∙◌, length, arith}
use Rattle.std.proofs.lemmas.List.{take-set-le}
use Rattle.vl_eval.specs.declared.steps.Step.TheVariants.{Constant as ConstantStep}
use Rattle.vl_eval.proofs.Sweep.{step-reads, swept-step}
use Rattle.vl_eval.proofs.sweeping.sweep.Goals as goal

pub value_by-value-requires-clause-reads : goal.value_by-value-requires-clause-reads
value_by-value-requires-clause-reads c =
    let steps = c.args.steps.now in
    let long = c.loop-number.invariant.long in
    let room = c.requires.room in
    let low : c.loop-number.number < length steps = omega (arith, c.loop-number-test.true) in
    step-reads c.args.base c.loop-number.number (length c.loop-number.values) c.args.wide.now steps (ConstantStep 0) c.requires.ordered low (omega (arith, long, room, low))

pub loop-number-preserved : goal.loop-number-preserved
loop-number-preserved c =
    let steps = c.args.steps.now in
    let long = c.loop-number.invariant.long in
    let room = c.requires.room in
    let low : c.loop-number.number < length steps = omega (arith, c.loop-number-test.true) in
    record {
      long = search rules;
      kept = take-set-le c.args.base c.loop-number.values (c.args.base + c.loop-number.number) c.value_by-value.result (omega arith) ∙ c.loop-number.invariant.kept;
      settled = swept-step c.args.base c.loop-number.number c.value_by-value.result c.args.wide.now steps (ConstantStep 0) c.loop-number.values c.requires.ordered low (omega (arith, long, room))
          c.value_by-value.ensures c.loop-number.invariant.settled;
    }
