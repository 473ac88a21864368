use Rattle.std.proofs.Common.{◌≡◌, ◌+◌, ◌++◌, length}
use Rattle.std.specs.Vec.Iter.{into_iter_items, into_iter_len}
use Rattle.mdl_build.specs.Expanded.{inner_blocks}
use Rattle.mdl_build.proofs.expanding.put_inner.Given as goal

abbrev pub invariant-loop-next : goal.invariant-loop-next
invariant-loop-next l = record {
  put : l.blocks ++ inner_blocks l.place l.count l.number (into_iter_items l.left) ≡ l.initial.blocks ++ inner_blocks l.place l.count 0 l.fn.inner;
  len : into_iter_len l.left ≡ length (into_iter_items l.left);
  number : l.number + into_iter_len l.left ≡ l.count;
}

abbrev pub decreases-loop-next : goal.decreases-loop-next
decreases-loop-next l = into_iter_len l.left
