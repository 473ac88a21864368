use Rattle.std.proofs.Common.{◌≡◌, ℕ, ◌+◌, ◌++◌, drop, length}
use Rattle.std.specs.Prelude.{All, flat_map, zip}
use Rattle.std.specs.Vec.Iter.{into_iter_items, into_iter_len}
use Rattle.fx_type.specs.declared.decimal.Decimal.{Decimal}
use Rattle.mdl_build.specs.declared.expanding.DrawnBlock.{DrawnBlock}
use Rattle.mdl_build.specs.Expanded.{with_filling, filling_lines, expanded_blocks, expanded_lines}
use Rattle.mdl_build.specs.inner.Sketch.{IsPlaced}
use Rattle.mdl_build.proofs.expanding.put_expanded.Given as goal

abbrev pub invariant-loop-drawn : goal.invariant-loop-drawn
invariant-loop-drawn l = record {
  blocks : (other : Decimal) → l.nested.blocks ++ flat_map (with_filling other l.numbers) (zip (drop l.number l.numbers) (into_iter_items l.left)) ≡ expanded_blocks other l.numbers l.fn.blocks;
  lines : l.nested.lines ++ flat_map (λ (entry : ℕ × DrawnBlock). filling_lines entry.0 entry.1.filter)
      (zip (drop l.number l.numbers) (into_iter_items l.left)) ≡ expanded_lines l.numbers l.fn.blocks l.fn.lines;
  len : into_iter_len l.left ≡ length (into_iter_items l.left);
  number : l.number + into_iter_len l.left ≡ length l.numbers;
  placed : All (IsPlaced l.numbers) (into_iter_items l.left);
}

abbrev pub decreases-loop-drawn : goal.decreases-loop-drawn
decreases-loop-drawn l = into_iter_len l.left
