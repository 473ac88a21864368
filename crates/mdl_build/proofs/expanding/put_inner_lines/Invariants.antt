use Rattle.std.proofs.Common.{◌≡◌, ◌++◌, drop, map}
use Rattle.mdl_build.specs.Expanded.{inner_line}
use Rattle.mdl_build.proofs.expanding.put_inner_lines.Given as goal

abbrev pub invariant-loop-edge : goal.invariant-loop-edge
invariant-loop-edge l = l.lines ++ map inner_line (drop l.edge-index l.edges) ≡ l.initial.lines ++ map inner_line l.edges
