use Rattle.std.proofs.Common.{◌≡◌, map, take}
use Rattle.dg_tables.proofs.listing.blocks_of.Given as goal

abbrev pub invariant-loop-root : goal.invariant-loop-root
invariant-loop-root l = l.blocks ≡ map (λ root. root.block) (take l.root-index l.roots)
