use Rattle.std.proofs.Common.{◌<◌, ℕ, List, All, sym, subst}
use Rattle.dg_model.specs.Attributes.{attributes_of}
use Rattle.dg_model.specs.RootElements.{root_inputs, root_outputs}
use Rattle.dg_model.specs.Wired.{root_input, root_output}
use Rattle.dg_model.specs.Wires.{width_into}
use Rattle.fx_tables.specs.declared.table.Column.{Column}
use Rattle.cmd_simulate.proofs.Periods.{periods_above}
use Rattle.cmd_simulate.proofs.simulation.columns_of.Goals as goal

pub returns-in-Ok-clause-input_periods : goal.returns-in-Ok-clause-input_periods
returns-in-Ok-clause-input_periods c =
    let diagram = c.args.checked.now.diagram in
    let rules = c.keeps_rules.ensures.checked in
    subst (λ (columns : List Column). All (λ column. 0 < column.period) columns) (sym c.in_ok-columns.ensures.inputs)
    (periods_above root_input (λ (block : ℕ). (attributes_of diagram).width_at block 1) diagram
    (root_inputs diagram (attributes_of diagram)) rules c.periods_are_above.ensures.above
    (c.root_elements_are_listed.ensures.inputs diagram (attributes_of diagram) rules.wired))

pub returns-in-Ok-clause-output_periods : goal.returns-in-Ok-clause-output_periods
returns-in-Ok-clause-output_periods c =
    let diagram = c.args.checked.now.diagram in
    let rules = c.keeps_rules.ensures.checked in
    subst (λ (columns : List Column). All (λ column. 0 < column.period) columns) (sym c.in_ok-columns.ensures.outputs)
    (periods_above root_output (λ (block : ℕ). width_into diagram (attributes_of diagram) block 1) diagram
    (root_outputs diagram (attributes_of diagram)) rules c.periods_are_above.ensures.above
    (c.root_elements_are_listed.ensures.outputs diagram (attributes_of diagram) rules.wired))
