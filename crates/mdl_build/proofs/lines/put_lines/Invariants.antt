use Rattle.std.proofs.Common.{◌≡◌, true}
use Rattle.mdl_build.specs.inner.Lines.{are_joined_before, lines_before}
use Rattle.mdl_build.proofs.lines.put_lines.Given as goal

abbrev pub invariant-loop-place : goal.invariant-loop-place
invariant-loop-place l = record {
  joined : are_joined_before l.layout.items.now l.place ≡ true;
  lines : l.lines ≡ lines_before l.layout.items.now l.place;
}
