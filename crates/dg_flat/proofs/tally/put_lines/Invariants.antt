use Rattle.std.proofs.Common.{take}
use Rattle.dg_flat.specs.inner.Tally.{IsTally}
use Rattle.dg_flat.proofs.tally.put_lines.Given as goal

abbrev pub invariant-loop-line : goal.invariant-loop-line
invariant-loop-line l = IsTally l.blocks (take l.line-index l.lines) l.tally
