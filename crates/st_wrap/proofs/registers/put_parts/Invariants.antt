use Rattle.std.proofs.Common.{flat_map, take}
use Rattle.vl_ast.specs.Listing.{Lists}
use Rattle.st_wrap.specs.inner.Columns.{items_for}
use Rattle.st_wrap.proofs.registers.put_parts.Given as goal

abbrev pub invariant-loop-column : goal.invariant-loop-column
invariant-loop-column l = Lists l.initial.out l.out (flat_map (items_for l.part) (take l.column-index l.columns))
