use Rattle.std.proofs.Common.{get_or, ◌∙◌}
use Rattle.std.proofs.lemmas.Option.{slice_get-get_or}
use Rattle.hw_slots.specs.declared.operation.Operation.{Operation}
use Rattle.hw_slots.specs.Slots.{needed}
use Rattle.hw_slots.proofs.Steps.{greatest_none, greatest_more, greatest_end, shared_is, slots_given, are_widths}
use Rattle.hw_slots.proofs.widths.widths_of.Goals as goal

abbrev none : Operation
none = record { kind = 0; period = 0; level = 0 }

pub loop-operation-init : goal.loop-operation-init
loop-operation-init c = greatest_none c.args.operations.now (needed c.args.operations.now c.args.multipliers) c.new-widths.result c.new-widths.ensures

pub loop-operation-preserved : goal.loop-operation-preserved
loop-operation-preserved c =
    let at = slice_get-get_or c.args.operations.now c.loop-operation.operation-index none c.loop-operation-test.true in
    greatest_more c.args.operations.now (needed c.args.operations.now c.args.multipliers)
    c.loop-operation.operation-index (get_or c.args.operations.now c.loop-operation.operation-index none) _ _
    c.div_ceil-slots.result c.loop-operation.widths c.raise.new.self at
    (slots_given c.args.operations.now c.args.multipliers c.args.counts.now
    (get_or c.args.operations.now c.loop-operation.operation-index none) c.get-count.result
    c.div_ceil-slots.result c.requires.counts c.get-count.ensures
    (c.div_ceil-slots.ensures ∙ shared_is c.get-count.result c.args.multipliers c.requires.some))
    c.in_ok-raise.ensures c.loop-operation.invariant

pub returns : goal.returns
returns c = are_widths c.args.operations.now c.args.multipliers c.loop-operation.widths
    (greatest_end c.args.operations.now (needed c.args.operations.now c.args.multipliers)
    c.loop-operation.operation-index c.loop-operation.widths c.loop-operation-test.false
    c.loop-operation.invariant)
