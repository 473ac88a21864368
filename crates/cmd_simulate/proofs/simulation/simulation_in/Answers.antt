use Rattle.std.proofs.Common.{List, length, ap, subst, ◌∙◌}
use Rattle.fx_tables.specs.declared.table.Column.{Column}
use Rattle.fx_tables.specs.Stimulus.{FitsColumns}
use Rattle.cmd_simulate.proofs.Simulations.{made-ready, of-rows}
use Rattle.cmd_simulate.proofs.simulation.simulation_in.Goals as goal

pub returns-in-Err-read_rows-clause-refused : goal.returns-in-Err-read_rows-clause-refused
returns-in-Err-read_rows-clause-refused c =
    of-rows c.args.checked.now.diagram c.args.stimulus.now c.in-Ok.columns c.as_slice-2.result.now c.as_slice.result.now c.in-Ok.ensures.columns c.as_slice-2.ensures c.as_slice.ensures
    c.in-Err-read_rows.fault c.in-Err-read_rows.ensures.refused

pub returns-in-Ok-made-clause-made : goal.returns-in-Ok-made-clause-made
returns-in-Ok-made-clause-made c =
    made-ready c.args.checked.now c.args.stimulus.now c.in-Ok-read_rows.rows c.in-Ok.columns c.as_slice-2.result.now c.as_slice.result.now c.in-Ok-made.simulation c.in-Ok.ensures.columns
    c.as_slice-2.ensures c.as_slice.ensures c.in-Ok-read_rows.ensures.rows c.in-Ok-made.ensures

pub simulation_with-made-requires-clause-rows : goal.simulation_with-made-requires-clause-rows
simulation_with-made-requires-clause-rows c =
    let inputs = c.as_slice-2.ensures in
    record {
      columns = c.in-Ok.ensures.columns;
      count = c.in-Ok-read_rows.ensures.rows.column_count ∙ ap length inputs;
      fits = subst (λ (own : List Column). FitsColumns own c.in-Ok-read_rows.rows) inputs c.in-Ok-read_rows.ensures.fits;
      few = c.in-Ok-read_rows.ensures.few;
    }
