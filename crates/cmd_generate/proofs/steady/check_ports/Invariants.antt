use Rattle.std.proofs.Common.{◌≡◌, ◌<◌, ℕ, Some}
use Rattle.std.specs.Prelude.{slice_get}
use Rattle.dg_model.specs.declared.diagram.Block.{Block}
use Rattle.cmd_generate.specs.Streamed.{KeepsStream}
use Rattle.cmd_generate.proofs.steady.check_ports.Given as goal

abbrev pub invariant-loop-place : goal.invariant-loop-place
invariant-loop-place l = (other : ℕ) (b : Block) → other < l.place → slice_get l.checked.diagram.blocks other ≡ Some b → KeepsStream l.checked.diagram other b
