-- Why what is built shows what the equations say (own).
use Rattle.std.specs.Prelude.{◌≡◌, ℕ, suc, ◌+◌, ◌*◌, ◌<◌, ◌≤◌, true, List, Some, slice_get}
use Rattle.dg_model.specs.declared.diagram.Diagram.{Diagram}
use Rattle.dg_model.specs.declared.diagram.Block.{Block}
use Rattle.dg_model.specs.Signals.{Attributes, Stimulus, Table}
use Rattle.dg_model.specs.Attributes.{attributes_of}
use Rattle.dg_model.specs.Wires.{repeated, width_into, value_into}
use Rattle.dg_model.specs.Instant.{reads_now}
use Rattle.dg_model.specs.Solves.{IsShown, Solves, shown_ports}
use Rattle.dg_tables.specs.Laws.{IsOrdered}
use Rattle.hw_shows.specs.Shows.{Shows}
use Rattle.hw_shows.specs.Timing.{Timing, ready_after, latency_behind}
use Rattle.hw_shows.specs.Timed.{IsTimed}
use Rattle.hw_shows.specs.Waves.{Waves, AreBuilt, AreDriven}

-- at the first clocks both waves of an element show the table's entries below sample n, each in its
-- time
pub record AreShown (attributes : Attributes) (timing : Timing) (clocks n : ℕ) (table : Table)
    (waves : Waves) (block port element : ℕ) : Type 0 where
  pub entry : Shows clocks n timing.cycles (attributes.period_at block) (timing.latency block)
      (timing.ready block) (table block port element) (waves.entry block port element)
  pub after : Shows clocks n timing.cycles (attributes.period_at block)
      (latency_behind timing (attributes.period_at block) block)
      (ready_after timing block) (table block port element) (waves.after block port element)

-- waves that are built as a schedule of a checked diagram says, driven by a stimulus, and a table
-- that solves
pub record IsDesign (diagram : Diagram) (order : List ℕ) (stimulus : Stimulus) (timing : Timing)
    (clocks n : ℕ) (table : Table) (waves : Waves) : Type 0 where
  pub ordered : IsOrdered diagram order
  pub timed : IsTimed diagram (attributes_of diagram) timing
  pub solves : Solves diagram (attributes_of diagram) stimulus n table
  pub built : AreBuilt diagram (attributes_of diagram) timing clocks waves
  pub driven : AreDriven diagram (attributes_of diagram) stimulus n timing.cycles clocks waves

-- every element of every block shows the table's entries
abbrev pub BuiltIsShown : Type 0
BuiltIsShown =
    (diagram : Diagram) (order : List ℕ) (stimulus : Stimulus) (timing : Timing) (clocks n : ℕ)
    (table : Table) (waves : Waves) → IsDesign diagram order stimulus timing clocks n table waves
    → (block : ℕ) (b : Block) (port element : ℕ)
    → IsShown diagram (attributes_of diagram) block b port element
    → AreShown (attributes_of diagram) timing clocks n table waves block port element

-- so does each register of its pipeline, a period later than the one before it
abbrev pub StagesAreShown : Type 0
StagesAreShown =
    (diagram : Diagram) (order : List ℕ) (stimulus : Stimulus) (timing : Timing) (clocks n : ℕ)
    (table : Table) (waves : Waves)
    → IsDesign diagram order stimulus timing clocks n table waves
    → (block : ℕ) (b : Block) (port element stage period : ℕ)
    → IsShown diagram (attributes_of diagram) block b port element
    → (attributes_of diagram).period_at block ≡ Some period → stage < timing.stages block
    → Shows clocks n timing.cycles (Some period) (timing.latency block + suc stage * period) 0
    (table block port element) (waves.stage block port element (suc stage))

-- from the clock of its slot on a shared operation is offered what its inputs carry
abbrev pub OperandsAreServed : Type 0
OperandsAreServed =
    (diagram : Diagram) (order : List ℕ) (stimulus : Stimulus) (timing : Timing) (clocks n : ℕ)
    (table : Table) (waves : Waves)
    → IsDesign diagram order stimulus timing clocks n table waves
    → (block : ℕ) (b : Block) (input element slot : ℕ) → slice_get diagram.blocks block ≡ Some b
    → 1 ≤ shown_ports b.kind b.outputs
    → reads_now diagram (attributes_of diagram) block b.kind ≡ true
    → timing.slot block element ≡ Some slot
    → 1 ≤ input → input ≤ b.inputs
    → repeated (width_into diagram (attributes_of diagram) block input) element < width_into diagram
    (attributes_of diagram) block input
    → Shows clocks n timing.cycles ((attributes_of diagram).period_at block)
    (timing.latency block) slot
    (value_into diagram (attributes_of diagram) table block input element)
    (waves.offered block input element)
