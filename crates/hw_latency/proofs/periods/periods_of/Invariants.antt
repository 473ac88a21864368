use Rattle.std.proofs.Common.{◌≡◌, take}
use Rattle.dg_model.specs.Periods.{periods_of}
use Rattle.hw_latency.proofs.periods.periods_of.Given as goal

abbrev pub invariant-loop-block : goal.invariant-loop-block
invariant-loop-block l = l.periods.items ≡ take l.block (periods_of l.checked.diagram)
