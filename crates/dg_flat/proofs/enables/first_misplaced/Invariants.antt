use Rattle.std.proofs.Common.{◌≡◌, ℕ, ◌<◌, Some}
use Rattle.std.specs.Prelude.{slice_get}
use Rattle.dg_model.specs.declared.nested.NestedBlock.{NestedBlock}
use Rattle.dg_flat.specs.Rules.{KeepsEnable}
use Rattle.dg_flat.proofs.enables.first_misplaced.Given as goal

abbrev pub invariant-loop-place : goal.invariant-loop-place
invariant-loop-place l = (other : ℕ) (b : NestedBlock) → other < l.place → slice_get l.nested.blocks other ≡ Some b → KeepsEnable l.nested other b
