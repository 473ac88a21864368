use Rattle.std.proofs.Common.{◌≡◌, ◌+◌, ◌*◌, ◌≤◌, ◌++◌, length}
use Rattle.std.specs.List.{flat_map}
use Rattle.std.specs.Str.Lines.{lines}
use Rattle.fx_tables.specs.Stimulus.{cells_of, lines_fault, stimulus_fault}
use Rattle.fx_tables.proofs.rows.read_rows.Given as goal

abbrev pub invariant-loop-rest : goal.invariant-loop-rest
invariant-loop-rest l = record {
  counted : l.lines + length (lines l.rest) ≡ length (lines l.bytes);
  faults : lines_fault l.columns l.outputs l.lines (lines l.rest) ≡ stimulus_fault l.columns l.outputs l.bytes;
  numbers : l.cells ++ flat_map cells_of (lines l.rest) ≡ flat_map cells_of (lines l.bytes);
  full : length l.cells ≡ l.lines * length l.columns;
  few : l.lines ≤ l.most;
}

abbrev pub decreases-loop-rest : goal.decreases-loop-rest
decreases-loop-rest l = length l.rest
