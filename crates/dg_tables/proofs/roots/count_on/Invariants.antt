use Rattle.std.proofs.Common.{◌≡◌, ◌≤◌, take, count_by, is_some}
use Rattle.dg_model.specs.RootElements.{number_in}
use Rattle.dg_tables.specs.inner.Ports.{root_on}
use Rattle.dg_tables.proofs.roots.count_on.Given as goal

abbrev pub invariant-loop-block : goal.invariant-loop-block
invariant-loop-block l = (l.count ≤ l.block-index) × (l.count ≡ count_by (λ block. is_some (number_in (root_on l.side) block)) (take l.block-index l.blocks))
