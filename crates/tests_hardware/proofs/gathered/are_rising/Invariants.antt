use Rattle.std.proofs.Common.{take}
use Rattle.tests_hardware.proofs.GatheredSlots.{RiseTo}
use Rattle.tests_hardware.proofs.gathered.are_rising.Given as goal

abbrev pub invariant-loop-slot : goal.invariant-loop-slot
invariant-loop-slot l = RiseTo (take l.slot-index l.slots) l.length l.least
