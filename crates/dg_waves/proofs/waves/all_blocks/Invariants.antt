use Rattle.std.proofs.Common.{◌≡◌, ℕ, ◌<◌, true, All}
use Rattle.dg_waves.specs.inner.Waves.{is_in}
use Rattle.dg_waves.proofs.waves.all_blocks.Given as goal

abbrev pub invariant-loop-block : goal.invariant-loop-block
invariant-loop-block l = record {
  there : All (λ block. block < l.count) l.blocks.items;
  all : (block : ℕ) → block < l.block → is_in block l.blocks.items ≡ true;
}
