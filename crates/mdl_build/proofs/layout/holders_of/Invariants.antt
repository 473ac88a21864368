use Rattle.std.proofs.Common.{◌≡◌, map}
use Rattle.std.specs.List.{range_with_len}
use Rattle.mdl_build.specs.Sections.{holder_of}
use Rattle.mdl_build.proofs.layout.holders_of.Given as goal

abbrev pub invariant-loop-place : goal.invariant-loop-place
invariant-loop-place l = l.holders.items ≡ map (holder_of l.items) (range_with_len 0 l.place)
