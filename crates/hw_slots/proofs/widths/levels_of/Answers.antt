use Rattle.std.proofs.Common.{get_or}
use Rattle.std.proofs.lemmas.Option.{slice_get-get_or}
use Rattle.hw_slots.specs.declared.operation.Operation.{Operation}
use Rattle.hw_slots.specs.Slots.{level_after}
use Rattle.hw_slots.proofs.Steps.{greatest_none, greatest_more, greatest_end, firsts_given, levels_given, are_levels, at_first}
use Rattle.hw_slots.proofs.widths.levels_of.Goals as goal

abbrev none : Operation
none = record { kind = 0; period = 0; level = 0 }

pub loop-operation-init : goal.loop-operation-init
loop-operation-init c = greatest_none c.args.operations.now (at_first level_after) c.new-levels.result c.new-levels.ensures

pub loop-operation-preserved : goal.loop-operation-preserved
loop-operation-preserved c =
    let at = slice_get-get_or c.args.operations.now c.loop-operation.operation-index none c.loop-operation-test.true in
    greatest_more c.args.operations.now (at_first level_after) c.loop-operation.operation-index
    (get_or c.args.operations.now c.loop-operation.operation-index none) _ 0 c.in_ok-after.after
    c.loop-operation.levels c.raise.new.self at
    (firsts_given level_after (get_or c.args.operations.now c.loop-operation.operation-index none) _
    c.in_ok-after.after (levels_given (get_or c.args.operations.now c.loop-operation.operation-index none)
    c.in_ok-after.after c.in_ok-after.ensures)) c.in_ok-raise.ensures c.loop-operation.invariant

pub returns : goal.returns
returns c = are_levels c.args.operations.now c.loop-operation.levels
    (greatest_end c.args.operations.now (at_first level_after) c.loop-operation.operation-index
    c.loop-operation.levels c.loop-operation-test.false c.loop-operation.invariant)
