use Rattle.hw_slots.proofs.slots.slots_of.Goals as goal

pub slots_by-slots-requires : goal.slots_by-slots-requires
slots_by-slots-requires c = record {
  turns = record { some = c.requires.some; are = c.in_ok-made.ensures.turns };
  counts = c.in_ok-made.ensures.counts;
}
