use Rattle.std.proofs.Common.{map}
use Rattle.std.specs.List.{range_with_len}
use Rattle.vl_ast.specs.Listing.{Lists}
use Rattle.st_wrap.specs.inner.Columns.{stage_declared}
use Rattle.st_wrap.proofs.registers.declare_output.Given as goal

abbrev pub invariant-loop-place : goal.invariant-loop-place
invariant-loop-place l = Lists l.initial.out l.out (map (stage_declared l.column) (range_with_len 0 l.place))
