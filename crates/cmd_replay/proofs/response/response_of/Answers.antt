use Rattle.std.proofs.Common.{◌<◌, ◌^◌, ℕ, Some, All, List, length, map, refl, ap, subst, sym, ◌∙◌}
use Rattle.std.proofs.lemmas.List.{length-map}
use Rattle.vl_ast.specs.Driven.{output_ports, stimulus_ports}
use Rattle.vl_eval.specs.Machine.{source_of}
use Rattle.fx_tables.specs.declared.table.Column.{Column}
use Rattle.vl_replay.specs.Sampled.{numbers_of}
use Rattle.cmd_replay.proofs.Responses.{bad-stimulus, responds}
use Rattle.cmd_replay.proofs.response.response_of.Goals as goal

pub returns-in-Ok-response_with-clause-made : goal.returns-in-Ok-response_with-clause-made
returns-in-Ok-response_with-clause-made c =
    let m = source_of c.in-Ok.machine in
    let rows = c.in-Ok-read_rows.rows in
    let some = c.some_response.ensures m (numbers_of rows) rows.lines c.in-Ok.ensures.made.spelled.sound in
    let ready = c.in-Ok-response_with.response in
    let periods = c.in-Ok-response_with.ensures.text ∙ ap (λ (columns : List Column). map (λ (column : Column). column.period) columns) (c.as_slice-3.ensures ∙ sym c.as_slice.ensures) in
    responds c.args.verilog.now c.args.stimulus.now m rows c.as_slice-2.result.now c.as_slice.result.now (length c.as_slice.result.now) ready.samples ready.replay ready.text some.table
    c.in-Ok.ensures.made.spelled (c.as_slice-2.ensures ∙ c.in-Ok-columns.ensures.inputs)
    (c.as_slice.ensures ∙ c.in-Ok-columns.ensures.outputs) refl c.in-Ok-read_rows.ensures.rows
    c.in-Ok-response_with.ensures.samples periods c.in-Ok-response_with.ensures.stands
    c.in-Ok-response_with.ensures.source c.in-Ok-response_with.ensures.stimulus some.sampled

pub returns-in-Err-clause-refused : goal.returns-in-Err-clause-refused
returns-in-Err-clause-refused c = c.in-Err.ensures.refused c.args.stimulus.now

pub returns-in-Err-Bad-clause-refused : goal.returns-in-Err-Bad-clause-refused
returns-in-Err-Bad-clause-refused c =
    let m = source_of c.in-Ok.machine in
    let inputs = c.as_slice-2.ensures ∙ c.in-Ok-columns.ensures.inputs in
    let outputs = c.as_slice.ensures ∙ c.in-Ok-columns.ensures.outputs in
    rw (c.in-Err-Bad.line-is, c.in-Err-Bad.cause-is)
    (bad-stimulus c.args.verilog.now c.args.stimulus.now m c.as_slice-2.result.now c.as_slice.result.now
    c.in-Err-Bad.line c.in-Err-Bad.cause c.in-Ok.ensures.made.spelled inputs outputs
    (c.in-Err-Bad.ensures.refused (λ e. cc (sym c.in-Err-Bad.field-0-is ∙ e)) ∙ ap Some c.in-Err-Bad.field-0-is))

pub response_with-requires : goal.response_with-requires
response_with-requires c =
    let m = source_of c.in-Ok.machine in
    record {
      ready = c.in-Ok.ensures.made.ready;
      sound = c.in-Ok.ensures.made.spelled.sound;
      row = c.in-Ok.ensures.made.row;
      columns = c.in-Ok-read_rows.ensures.rows.column_count ∙ ap length (c.as_slice-2.ensures ∙ c.in-Ok-columns.ensures.inputs) ∙ length-map (stimulus_ports m) _;
      few_outputs = subst (λ (n : ℕ). n < 2 ^ 32) (ap length c.in-Ok-columns.ensures.outputs ∙ length-map (output_ports m) _) c.in-Ok-columns.ensures.few_outputs;
      few = c.in-Ok-read_rows.ensures.few;
      periods = subst (All (λ (column : Column). 0 < column.period)) (sym c.as_slice-3.ensures) c.in-Ok-columns.ensures.output_periods;
      few_columns = subst (λ (columns : List Column). length columns < 2 ^ 32) (sym c.as_slice-3.ensures) c.in-Ok-columns.ensures.few_outputs;
    }
