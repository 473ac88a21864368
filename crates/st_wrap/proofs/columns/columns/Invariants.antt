use Rattle.vl_ast.specs.Control.{is_stallable}
use Rattle.vl_ast.specs.Attributes.{clocks_of}
use Rattle.st_wrap.specs.inner.Columns.{is_column, output_column}
use Rattle.st_wrap.proofs.Filters.{AreGathered}
use Rattle.st_wrap.proofs.columns.columns.Given as goal

abbrev pub invariant-loop-port : goal.invariant-loop-port
invariant-loop-port l =
    AreGathered (output_column (clocks_of l.core) l.latest) (is_column l.input (is_stallable l.core)) l.core.ports l.names l.out l.port-index l.left
