use Rattle.std.proofs.Common.{◌≡◌, ℕ, ◌<◌, Some, map, take}
use Rattle.std.specs.Prelude.{slice_get}
use Rattle.dg_model.specs.declared.diagram.Block.{Block}
use Rattle.dg_model.specs.Periods.{first_period}
use Rattle.dg_model.specs.Rate.{KeepsDeclared}
use Rattle.dg_rates.proofs.declared.first_periods.Given as goal

abbrev pub invariant-loop-block : goal.invariant-loop-block
invariant-loop-block l = record {
  known : l.first ≡ map (λ block. first_period l.diagram block.kind block.period) (take l.block-index l.diagram.blocks);
  kept : (other : ℕ) (b : Block) → other < l.block-index → slice_get l.diagram.blocks other ≡ Some b → KeepsDeclared l.diagram other b;
}
