use Rattle.std.proofs.Common.{subst, sym}
use Rattle.hw_slots.specs.Answer.{AreBaseSlots}
use Rattle.hw_slots.proofs.Totals.{laid_end, bases_end}
use Rattle.hw_slots.proofs.slots.slots_by.Goals as goal

pub returns-clause-slots : goal.returns-clause-slots
returns-clause-slots c = record {
  keeps = laid_end c.args.operations.now c.args.multipliers c.args.periods.now c.in_ok-bases.bases c.in_ok-bases.ensures.laid;
  starts = c.in_ok-starts.ensures;
  units = c.in_ok-units.ensures;
  bases = subst (AreBaseSlots c.args.operations.now c.args.multipliers c.args.periods.now) (sym c.new-bases.ensures)
      (bases_end c.args.operations.now c.args.multipliers c.args.periods.now
      (record { firsts = c.in_ok-bases.bases; levels = c.in_ok-levels.levels }) c.in_ok-bases.ensures.laid
      c.in_ok-levels.ensures);
}
