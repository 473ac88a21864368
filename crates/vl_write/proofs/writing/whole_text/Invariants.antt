use Rattle.std.proofs.Common.{◌≡◌, ◌++◌, length}
use Rattle.std.specs.List.{flat_map}
use Rattle.std.specs.Vec.Iter.{into_iter_items, into_iter_len}
use Rattle.vl_write.proofs.writing.whole_text.Given as goal

abbrev pub invariant-loop-part : goal.invariant-loop-part
invariant-loop-part l = record {
  text : l.text.items ++ flat_map (λ part. part.items) (into_iter_items l.left) ≡ flat_map (λ part. part.items) l.fn.parts.items;
  len : into_iter_len l.left ≡ length (into_iter_items l.left);
}

abbrev pub decreases-loop-part : goal.decreases-loop-part
decreases-loop-part l = into_iter_len l.left
