use Rattle.std.proofs.Common.{◌≡◌, ◌≤◌, ℤ, List}
use Rattle.fx_io.specs.Sink.{also_took}
use Rattle.fx_tables.specs.Response.{response}
use Rattle.fx_tables.specs.RowText.{periods_of}
use Rattle.vl_ast.specs.Windows.{Sample}
use Rattle.cmd_replay.specs.Responding.{IsTableOf}
use Rattle.cmd_replay.specs.inner.Machines.{GoesOn}
use Rattle.cmd_replay.proofs.response.put_lines.Given as goal

abbrev pub invariant-loop-sample : goal.invariant-loop-sample
invariant-loop-sample g l = record {
  goes : GoesOn l.initial.replay l.initial.text l.sample l.replay l.text;
  taken : (table : Sample → List ℤ) → IsTableOf l.initial.replay table
      → g.K.Sink.taken l.out ≡ also_took (g.K.Sink.taken l.initial.out) (response (periods_of l.initial.text) table l.sample);
  later : g.K.Sink.faults l.initial.out ≤ g.K.Sink.faults l.out;
}
