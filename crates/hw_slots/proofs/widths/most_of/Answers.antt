use Rattle.std.proofs.Common.{get_or}
use Rattle.std.proofs.lemmas.Option.{slice_get-get_or}
use Rattle.hw_slots.specs.declared.operation.Operation.{Operation}
use Rattle.hw_slots.specs.Slots.{beside}
use Rattle.hw_slots.proofs.Steps.{greatest_none, greatest_more, greatest_end, firsts_given, most_given, are_most, at_first}
use Rattle.hw_slots.proofs.widths.most_of.Goals as goal

abbrev none : Operation
none = record { kind = 0; period = 0; level = 0 }

pub loop-operation-init : goal.loop-operation-init
loop-operation-init c = greatest_none c.args.operations.now (at_first (beside c.args.operations.now)) c.new-most.result c.new-most.ensures

pub loop-operation-preserved : goal.loop-operation-preserved
loop-operation-preserved c =
    let at = slice_get-get_or c.args.operations.now c.loop-operation.operation-index none c.loop-operation-test.true in
    greatest_more c.args.operations.now (at_first (beside c.args.operations.now)) c.loop-operation.operation-index
    (get_or c.args.operations.now c.loop-operation.operation-index none) _ 0 c.get-count.result
    c.loop-operation.most c.raise.new.self at
    (firsts_given (beside c.args.operations.now)
    (get_or c.args.operations.now c.loop-operation.operation-index none) _ c.get-count.result
    (most_given c.args.operations.now c.args.counts.now
    (get_or c.args.operations.now c.loop-operation.operation-index none) c.get-count.result
    c.requires.counts c.get-count.ensures)) c.in_ok-raise.ensures c.loop-operation.invariant

pub returns : goal.returns
returns c = are_most c.args.operations.now c.loop-operation.most
    (greatest_end c.args.operations.now (at_first (beside c.args.operations.now)) c.loop-operation.operation-index
    c.loop-operation.most c.loop-operation-test.false c.loop-operation.invariant)
