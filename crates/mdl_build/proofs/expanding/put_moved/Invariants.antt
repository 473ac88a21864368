use Rattle.std.proofs.Common.{◌≡◌, ◌++◌, drop, map}
use Rattle.mdl_build.specs.Expanded.{moved_line}
use Rattle.mdl_build.proofs.expanding.put_moved.Given as goal

abbrev pub invariant-loop-line : goal.invariant-loop-line
invariant-loop-line l = l.lines ++ map (moved_line l.numbers) (drop l.line-index l.drawn) ≡ l.initial.lines ++ map (moved_line l.numbers) l.drawn
