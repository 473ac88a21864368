use Rattle.std.proofs.Common.{◌∙◌, sym, arith}
use Rattle.std.specs.Prelude.{MatchBool}
use Rattle.std.specs.Int.{w128}
use Rattle.std.proofs.lemmas.Int.{to_z-of_z}
use Rattle.dg_model.specs.Operation.{operation_of, IsConverted, meets, type_of, value_of}
use Rattle.hw_lower.specs.inner.Spread.{OfArguments, argument_of}
use Rattle.hw_lower.proofs.PlanSteps.{at-later}
use Rattle.hw_lower.proofs.StepChains.{made-both, made-then}
use Rattle.fx_type.proofs.Ranges.{range-word}
use Rattle.hw_lower.proofs.Arguments.{switch-is}
use Rattle.hw_lower.proofs.planning.plan_switch.Goals as goal

pub convert_argument-first-requires-clause-inside : goal.convert_argument-first-requires-clause-inside
convert_argument-first-requires-clause-inside c = omega (arith, c.requires.three)

pub convert_argument-first-requires-clause-few : goal.convert_argument-first-requires-clause-few
convert_argument-first-requires-clause-few c = omega (arith, c.requires.three)

pub convert_argument-other-requires-clause-can : goal.convert_argument-other-requires-clause-can
convert_argument-other-requires-clause-can c =
    record {
      prepared = c.requires.can.prepared;
      arguments =
          record {
            each = λ input inside. at-later _ _
                (argument_of c.args.call.now.types.now input) c.convert_argument-first.ensures.grows
                (c.requires.can.arguments.each input inside);
          };
    }

pub convert_argument-other-requires-clause-inside : goal.convert_argument-other-requires-clause-inside
convert_argument-other-requires-clause-inside c = omega (arith, c.requires.three)

pub convert_argument-other-requires-clause-few : goal.convert_argument-other-requires-clause-few
convert_argument-other-requires-clause-few c = omega (arith, c.requires.three)

pub argument_of-control-requires-clause-inside : goal.argument_of-control-requires-clause-inside
argument_of-control-requires-clause-inside c = omega (arith, c.requires.three)

pub argument_of-control-requires-clause-few : goal.argument_of-control-requires-clause-few
argument_of-control-requires-clause-few c = omega (arith, c.requires.three)

pub switch-requires : goal.switch-requires
switch-requires c =
    let own = to_z-of_z w128 c.args.threshold c.ranges.threshold in
    rw (c.argument_of-control.ensures, own) (record {
      control = at-later _ _ (argument_of c.args.call.now.types.now 1) c.convert_argument-other.ensures.grows
          (at-later _ _ (argument_of c.args.call.now.types.now 1) c.convert_argument-first.ensures.grows
          (c.requires.can.arguments.each 1 (omega (arith, c.requires.three))));
      first = at-later _ _ c.convert_argument-first.result c.convert_argument-other.ensures.grows c.convert_argument-first.ensures.at;
      other = c.convert_argument-other.ensures.at;
      word = c.convert_argument-first.ensures.has_word ∙ sym c.convert_argument-other.ensures.has_word;
      bound = range-word (type_of c.args.call.now.types.now 1) c.args.threshold c.requires.threshold;
    })

pub returns : goal.returns
returns c =
    let own = to_z-of_z w128 c.args.threshold c.ranges.threshold in
    made-then (λ numbers. OfArguments c.args.call.now.types.now numbers (λ values.
    MatchBool (meets c.args.criterion c.args.threshold (value_of values 1))
    (IsConverted (operation_of c.args.call.now) (value_of values 0) (type_of c.args.call.now.types.now 0)
    (numbers c.switch.result.place))
    (IsConverted (operation_of c.args.call.now) (value_of values 2) (type_of c.args.call.now.types.now 2)
    (numbers c.switch.result.place)))) (made-both c.convert_argument-first.ensures
    c.convert_argument-other.ensures) (rw
    (c.convert_argument-first.ensures.has_word, c.argument_of-control.ensures, own) at c.switch.ensures)
    (λ numbers has later p q values are.
    switch-is (operation_of c.args.call.now) (meets c.args.criterion c.args.threshold) (type_of c.args.call.now.types.now 0) (type_of c.args.call.now.types.now 2)
    (numbers 0) (numbers 1) (numbers 2) (value_of values 0) (value_of values 1) (value_of values 2)
    (numbers c.convert_argument-first.result.place) (numbers c.convert_argument-other.result.place)
    (numbers c.switch.result.place)
    (are.each 0 (omega (arith, c.requires.three))) (are.each 1 (omega (arith, c.requires.three))) (are.each 2 (omega (arith, c.requires.three))) p.0 p.1 q)
