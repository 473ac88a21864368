use Rattle.std.proofs.Common.{◌≡◌, ◌+◌, ◌++◌, map, length, drop}
use Rattle.fx_tables.specs.Fields.{fields_of}
use Rattle.fx_tables.specs.Stimulus.{cell_of, cells_of, fields_fault}
use Rattle.fx_tables.proofs.rows.read_line.Given as goal

abbrev pub invariant-loop-k : goal.invariant-loop-k
invariant-loop-k l = record {
  counted : l.k + length (fields_of l.rest) ≡ length (fields_of l.line);
  faults : fields_fault l.sample (drop l.k l.columns) (fields_of l.rest) ≡ fields_fault l.sample l.columns (fields_of l.line);
  numbers : l.cells ++ map cell_of (fields_of l.rest) ≡ l.initial.cells ++ cells_of l.line;
}
