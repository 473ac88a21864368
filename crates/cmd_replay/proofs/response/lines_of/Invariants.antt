use Rattle.std.proofs.Common.{◌≡◌, ℤ, List}
use Rattle.fx_tables.specs.Response.{response}
use Rattle.fx_tables.specs.RowText.{periods_of}
use Rattle.vl_ast.specs.Windows.{Sample}
use Rattle.cmd_replay.specs.Responding.{IsTableOf}
use Rattle.cmd_replay.specs.inner.Machines.{GoesOn}
use Rattle.cmd_replay.proofs.response.lines_of.Given as goal

abbrev pub invariant-loop-sample : goal.invariant-loop-sample
invariant-loop-sample l = record {
  goes : GoesOn l.initial.replay l.initial.text l.sample l.replay l.text;
  lines : (table : Sample → List ℤ) → IsTableOf l.initial.replay table → l.lines.items ≡ response (periods_of l.initial.text) table l.sample;
}
