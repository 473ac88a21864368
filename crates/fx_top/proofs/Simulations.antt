-- What a simulation of a model's diagram is of the model, and what its faults say.
use Rattle.std.proofs.Common.{◌≡◌, ℕ, List, Result, Ok, Err, OnErr, OnOk, refl, ap, ◌∙◌}
use Rattle.std.specs.Prelude.{⊤}
use Rattle.dg_model.specs.Checked.{CheckedDiagram}
use Rattle.fx_io.specs.declared.sink.PutFault.{PutFault}
use Rattle.cmd_model.specs.Model.{IsModelOf}
use Rattle.cmd_simulate.specs.declared.simulation.Simulation.{Simulation}
use Rattle.cmd_simulate.specs.Simulating.{IsSimulationIn, TookLines, TookPartOfLines}
use Rattle.fx_tables.specs.Response.{response}
use Rattle.fx_tables.specs.RowText.{periods_of}
use Rattle.fx_top.specs.Call.{Stream}
use Rattle.fx_top.specs.Simulated.{IsSimulationOf}
use Rattle.fx_top.specs.inner.Tasks.{IsPut}

-- the lines of its response are a text of the simulation
pub is-simulation : (checked : CheckedDiagram) (model stimulus : List ℕ) (ready : Simulation) → IsModelOf model checked.diagram → (is : IsSimulationIn checked stimulus ready)
    → (text : List ℕ) → text ≡ response (periods_of ready.text) is.response.lines ready.rows.lines → IsSimulationOf model stimulus text
is-simulation checked model stimulus ready accepted is text same = record {
  diagram = checked.diagram;
  accepted = accepted;
  rows = ready.rows;
  rows_are = is.rows_are;
  lines = is.response.lines;
  shown = is.response.shown;
  text_is = same ∙ ap (λ (p : List ℕ). response p is.response.lines ready.rows.lines) is.periods;
}

-- the lines that were taken are such a text
module _ (checked : CheckedDiagram) (model stimulus : List ℕ) (ready : Simulation) (out : Stream) (accepted : IsModelOf model checked.diagram) (is : IsSimulationIn checked stimulus ready) where
  abbrev text : List ℕ
  text = response (periods_of ready.text) is.response.lines ready.rows.lines

  of-text : IsSimulationOf model stimulus text
  of-text = is-simulation checked model stimulus ready accepted is text refl

  pub simulation-put : (put : Result ⊤ PutFault) → OnOk put (TookLines checked ready.rows (periods_of ready.text) ready.rows.lines out.before out.now)
      → OnErr put (TookPartOfLines checked ready.rows (periods_of ready.text) out.before out.now) → OnErr put out.failed → IsPut (IsSimulationOf model stimulus) out put
  simulation-put (Ok whole) took part rise = (text, (of-text, took.each is.response.lines is.response.shown))
  simulation-put (Err fault) took part rise = (text, (of-text, (part.each is.response.lines is.response.shown, rise)))
