use Rattle.std.proofs.Common.{◌≡◌, length}
use Rattle.dg_response.specs.Responding.{IsBefore, row_of}
use Rattle.fx_tables.specs.RowText.{periods_of}
use Rattle.cmd_simulate.specs.Simulating.{AreLines}
use Rattle.cmd_simulate.proofs.simulation.lines_of.Given as goal

abbrev pub invariant-loop-sample : goal.invariant-loop-sample
invariant-loop-sample l = record {
  before : IsBefore l.checked l.rows l.responding l.sample;
  wide : length (row_of l.responding) ≡ length (periods_of l.text);
  periods : periods_of l.text ≡ periods_of l.initial.text;
  lines : AreLines l.checked l.rows (periods_of l.initial.text) l.sample l.lines.items;
}
