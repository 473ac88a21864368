use Rattle.std.proofs.Common.{slice_index_or, arith}
use Rattle.std.proofs.lemmas.Option.{slice_get-get_or}
use Rattle.hw_share.proofs.GateNets.{gated-begun, gated-more, gated-done, gated-some, slot-later}
use Rattle.hw_share.proofs.accumulating.gate_of.Goals as goal

pub loop-slot-init : goal.loop-slot-init
loop-slot-init c = gated-begun c.args.net.now c.args.frame c.args.slots.now

pub add_slot-requires-clause-slot : goal.add_slot-requires-clause-slot
add_slot-requires-clause-slot c =
    slot-later c.args.net.now c.loop-slot.net c.args.frame _ c.loop-slot.invariant.extends (c.requires.slots c.loop-slot.slot-index 0 c.loop-slot-test.true)

pub add_slot-requires-clause-known : goal.add_slot-requires-clause-known
add_slot-requires-clause-known c = λ gate is. (c.loop-slot.invariant.gates gate is).bit

pub loop-slot-preserved : goal.loop-slot-preserved
loop-slot-preserved c =
    gated-more c.args.net.now c.loop-slot.net c.add_slot.new.net c.args.frame c.args.slots.now c.loop-slot.slot-index
    (slice_index_or c.args.slots.now c.loop-slot.slot-index 0) c.in_ok-gate.gate c.loop-slot.known
    c.loop-slot.invariant (slice_get-get_or c.args.slots.now c.loop-slot.slot-index 0 c.loop-slot-test.true) c.in_ok-gate.ensures

pub unwrap-requires : goal.unwrap-requires
unwrap-requires c =
    gated-some c.args.net.now c.loop-slot.net c.args.frame c.args.slots.now c.loop-slot.slot-index c.loop-slot.known c.loop-slot.invariant
    (omega (arith, c.requires.some, c.loop-slot-test.false))

pub returns : goal.returns
returns c =
    gated-done c.args.net.now c.loop-slot.net c.args.frame c.args.slots.now c.loop-slot.slot-index c.unwrap.result c.loop-slot.known c.loop-slot.invariant c.unwrap.ensures
    (omega (arith, c.loop-slot-test.false))
