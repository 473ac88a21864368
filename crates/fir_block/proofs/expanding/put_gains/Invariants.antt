use Rattle.std.proofs.Common.{◌≡◌, ◌++◌, drop}
use Rattle.fir_block.specs.Expanded.{gain_blocks}
use Rattle.fir_block.proofs.expanding.put_gains.Given as goal

abbrev pub invariant-loop-k : goal.invariant-loop-k
invariant-loop-k l = l.blocks ++ gain_blocks l.fir l.k (drop l.k l.fir.coefficients) ≡ l.initial.blocks ++ gain_blocks l.fir 0 l.fir.coefficients
