use Rattle.std.proofs.Common.{map, take}
use Rattle.vl_ast.specs.Listing.{Lists}
use Rattle.st_wrap.specs.inner.Columns.{port_of}
use Rattle.st_wrap.proofs.header.put_columns.Given as goal

abbrev pub invariant-loop-column : goal.invariant-loop-column
invariant-loop-column l = Lists l.initial.out l.out (map (port_of l.input) (take l.column-index l.columns))
