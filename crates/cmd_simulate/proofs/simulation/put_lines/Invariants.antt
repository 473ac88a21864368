use Rattle.std.proofs.Common.{◌≡◌, ◌≤◌, length}
use Rattle.dg_response.specs.Responding.{IsBefore, row_of}
use Rattle.fx_tables.specs.RowText.{periods_of}
use Rattle.cmd_simulate.specs.Simulating.{TookLines}
use Rattle.cmd_simulate.proofs.simulation.put_lines.Given as goal

abbrev pub invariant-loop-sample : goal.invariant-loop-sample
invariant-loop-sample g l = record {
  before : IsBefore l.checked l.rows l.responding l.sample;
  wide : length (row_of l.responding) ≡ length (periods_of l.text);
  periods : periods_of l.text ≡ periods_of l.initial.text;
  taken : TookLines l.checked l.rows (periods_of l.initial.text) l.sample (g.K.Sink.taken l.initial.out) (g.K.Sink.taken l.out);
  later : g.K.Sink.faults l.initial.out ≤ g.K.Sink.faults l.out;
}
