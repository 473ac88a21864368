use Rattle.std.proofs.Common.{◌≡◌}
use Rattle.mdl_build.specs.inner.Lines.{sources_before}
use Rattle.mdl_build.proofs.lines.sources.Given as goal

abbrev pub invariant-loop-place : goal.invariant-loop-place
invariant-loop-place l = l.sources.items ≡ sources_before l.layout.items.now l.place
