use Rattle.std.proofs.Common.{◌≡◌, ◌≤◌, length}
use Rattle.hw_names.specs.Columns.{AreColumnsFrom}
use Rattle.hw_names.proofs.columns.columns_of.Given as goal

abbrev pub invariant-loop-left : goal.invariant-loop-left
invariant-loop-left l = (l.left ≤ length l.inputs) × (length l.columns.items ≡ l.count) × AreColumnsFrom l.inputs l.columns.items l.left

abbrev pub decreases-loop-left : goal.decreases-loop-left
decreases-loop-left l = l.left
