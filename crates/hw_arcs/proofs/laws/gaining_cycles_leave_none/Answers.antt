use Rattle.hw_arcs.proofs.GainfulCycles.{none_left}
use Rattle.hw_arcs.proofs.laws.gaining_cycles_leave_none.Goals as goal

pub returns : goal.returns
returns c = none_left
