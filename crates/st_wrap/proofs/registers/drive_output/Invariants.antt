use Rattle.std.proofs.Common.{map}
use Rattle.std.specs.List.{range_with_len}
use Rattle.vl_ast.specs.Listing.{Lists}
use Rattle.st_wrap.specs.inner.Columns.{stage_driven}
use Rattle.st_wrap.proofs.registers.drive_output.Given as goal

abbrev pub invariant-loop-place : goal.invariant-loop-place
invariant-loop-place l = Lists l.initial.out l.out (map (stage_driven l.column) (range_with_len 0 l.place))
