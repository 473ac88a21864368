use Rattle.dg_flat.specs.inner.Paths.{ArePaths}
use Rattle.dg_flat.proofs.paths.system_paths.Given as goal

abbrev pub invariant-loop-block : goal.invariant-loop-block
invariant-loop-block l = ArePaths l.blocks l.block-index l.paths
