use Rattle.std.proofs.Common.{◌≡◌, ◌++◌, drop}
use Rattle.dg_types.specs.inner.WidthShapes.{shown}
use Rattle.dg_types.proofs.rows.put_rows.Given as goal

abbrev pub invariant-loop-place : goal.invariant-loop-place
invariant-loop-place l = l.rows ++ shown (drop l.place l.blocks) (drop l.place l.held) ≡ shown l.blocks l.held
