use Rattle.std.proofs.Common.{slice_index_or, arith}
use Rattle.std.proofs.lemmas.Option.{slice_get-get_or}
use Rattle.tests_hardware.proofs.GatheredSlots.{none-rise, rise-more, all-rise}
use Rattle.tests_hardware.proofs.gathered.are_rising.Goals as goal

pub loop-slot-init : goal.loop-slot-init
loop-slot-init c = none-rise c.args.length

pub loop-slot-preserved : goal.loop-slot-preserved
loop-slot-preserved c =
    rise-more c.args.slots.now c.args.length c.loop-slot.least c.loop-slot.slot-index (slice_index_or c.args.slots.now c.loop-slot.slot-index 0) c.loop-slot.invariant
    (slice_get-get_or c.args.slots.now c.loop-slot.slot-index 0 c.loop-slot-test.true) (omega (arith, c.if-slot-least.false)) (omega (arith, c.if-length-slot.false))

pub returns : goal.returns
returns c = λ _. all-rise c.args.slots.now c.args.length c.loop-slot.least c.loop-slot.slot-index c.loop-slot.invariant (omega (arith, c.loop-slot-test.false))
