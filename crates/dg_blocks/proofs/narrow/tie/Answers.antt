use Rattle.dg_blocks.proofs.Shifts.{odd_bit, no_tie}
use Rattle.dg_blocks.proofs.narrow.tie.Goals as goal

pub returns-then-even : goal.returns-then-even
returns-then-even c = rw c.if-even.true (odd_bit c.args.lower c.ranges.lower)

pub returns-else-even : goal.returns-else-even
returns-else-even c = rw c.if-even.false (no_tie c.args.lower)
