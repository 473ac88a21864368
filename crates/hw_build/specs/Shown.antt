-- What a netlist shows of its diagram: the entries of each table that solves (own; HDL Coder, delay
-- balancing).
use Rattle.std.specs.Prelude.{◌≡◌, ℕ, suc, ◌+◌, ◌*◌, ◌<◌, Some}
use Rattle.dg_model.specs.declared.diagram.Diagram.{Diagram}
use Rattle.dg_model.specs.declared.diagram.Block.{Block}
use Rattle.dg_model.specs.Attributes.{attributes_of}
use Rattle.dg_model.specs.Signals.{Stimulus, Table}
use Rattle.dg_model.specs.Solves.{IsShown}
use Rattle.hw_net.specs.Circuit.{Circuit}
use Rattle.hw_net.specs.NetRows.{Inputs, Rows}
use Rattle.hw_shows.specs.Shows.{Shows}
use Rattle.hw_shows.specs.Timing.{Timing}
use Rattle.hw_shows.specs.Laws.{AreShown}
use Rattle.hw_build.specs.Places.{Places, IsRunOf, waves_of}

-- every element of every block shows the table's entries before its pipeline and behind, and so
-- does each register of it, a period later than the one before
pub record ShowsTables (diagram : Diagram) (timing : Timing) (netlist : Circuit)
    (places : Places) : Type 0 where
  pub elements : (stimulus : Stimulus) (n clocks : ℕ) (inputs : Inputs) (rows : Rows)
      (table : Table) → IsRunOf diagram netlist stimulus n clocks inputs rows table
      → (block : ℕ) (b : Block) (port element : ℕ)
      → IsShown diagram (attributes_of diagram) block b port element
      → AreShown (attributes_of diagram) timing clocks n table
      (waves_of places rows) block port element
  pub stages : (stimulus : Stimulus) (n clocks : ℕ) (inputs : Inputs) (rows : Rows) (table : Table)
      → IsRunOf diagram netlist stimulus n clocks inputs rows table
      → (block : ℕ) (b : Block) (port element stage period : ℕ)
      → IsShown diagram (attributes_of diagram) block b port element
      → (attributes_of diagram).period_at block ≡ Some period → stage < timing.stages block
      → Shows clocks n timing.cycles (Some period) (timing.latency block + suc stage * period) 0
      (table block port element) (rows (places.stage block port element (suc stage)))
