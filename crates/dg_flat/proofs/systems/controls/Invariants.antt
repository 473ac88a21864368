use Rattle.dg_flat.proofs.Controls.{AreControlsTo}
use Rattle.dg_flat.proofs.systems.controls.Given as goal

abbrev pub invariant-loop-place : goal.invariant-loop-place
invariant-loop-place l = AreControlsTo l.blocks l.place l.controls.items
