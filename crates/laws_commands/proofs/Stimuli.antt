-- The rows of a simulation are a stimulus of its model's diagram, whose blocks have an order.
use Rattle.std.proofs.Common.{◌≡◌, length}
use Rattle.fx_tables.specs.declared.table.Rows.{Rows}
use Rattle.fx_tables.specs.Stimulus.{FitsColumns}
use Rattle.dg_model.specs.declared.diagram.Diagram.{Diagram}
use Rattle.dg_model.specs.Attributes.{attributes_of}
use Rattle.dg_model.specs.Laws.{ColumnsMakeStimulus}
use Rattle.dg_model.specs.Solves.{IsStimulus}
use Rattle.dg_model.specs.Wired.{IsWired}
use Rattle.dg_response.specs.Response.{input_columns, number_in, output_columns, stimulus_of}
use Rattle.dg_response.proofs.Stimuli.{are-columns}
use Rattle.laws_commands.specs.Laws.{DiagramsAreOrdered, SimulationsAreStimulated}
use Rattle.laws_commands.specs.inner.LawsBelow.{AreKnown}
use Rattle.laws_commands.proofs.Orders.{some-order}
use Rattle.laws_commands.proofs.Texts.{rows-fit}

-- rows that fit the columns give numbers in range
pub rows-stimulate : ColumnsMakeStimulus → (diagram : Diagram) → IsWired diagram → (rows : Rows)
    → rows.columns ≡ length (input_columns diagram) → FitsColumns (input_columns diagram) rows
    → IsStimulus diagram (attributes_of diagram) (stimulus_of diagram rows) rows.lines
rows-stimulate made diagram wired rows many fits =
    made diagram (attributes_of diagram) (number_in rows) rows.lines wired (are-columns diagram rows many fits)

pub diagrams-are-ordered : DiagramsAreOrdered
diagrams-are-ordered diagram checked = some-order diagram checked

pub simulations-are-stimulated : AreKnown → SimulationsAreStimulated
simulations-are-stimulated known model stimulus text simulation =
    let fits = rows-fit (input_columns simulation.diagram) (length (output_columns simulation.diagram)) stimulus
    simulation.rows simulation.rows_are in
    rows-stimulate known.made simulation.diagram simulation.accepted.checked.wired simulation.rows
    simulation.rows_are.column_count fits
