use Rattle.std.proofs.Common.{◌≡◌, ℕ, ◌<◌, ◌+◌, get_or}
use Rattle.dg_flat.specs.inner.Tables.{cell_at}
use Rattle.dg_flat.proofs.wiring.is_driven.Given as goal

abbrev pub invariant-loop-before : goal.invariant-loop-before
invariant-loop-before l = (k : ℕ) → k < l.before → get_or l.tally.drivers.items (cell_at l.tally.rows.lengths.items l.place (k + 1)) 0 ≡ 1
