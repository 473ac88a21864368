-- A netlist whose rows are built shows the tables of its diagram, and serves its shared operations.
use Rattle.std.proofs.Common.{ℕ, List, length, subst}
use Rattle.dg_model.specs.declared.diagram.Diagram.{Diagram}
use Rattle.dg_model.specs.Attributes.{attributes_of}
use Rattle.dg_model.specs.Laws.{InputsAreListed}
use Rattle.dg_model.specs.Signals.{Stimulus, Table}
use Rattle.dg_tables.specs.Laws.{IsOrdered, TypesAreValid}
use Rattle.hw_net.specs.Circuit.{Circuit}
use Rattle.hw_net.specs.NetRows.{Inputs, Rows}
use Rattle.hw_shows.specs.Timing.{Timing}
use Rattle.hw_shows.specs.Timed.{IsTimed}
use Rattle.hw_shows.specs.Waves.{AreDriven}
use Rattle.hw_shows.specs.Laws.{IsDesign, BuiltIsShown, StagesAreShown}
use Rattle.hw_build.specs.Places.{Places, IsRunOf, waves_of}
use Rattle.hw_build.specs.Shown.{ShowsTables}
use Rattle.hw_build.specs.inner.Facts.{LateAreWide, HaveFacts}
use Rattle.hw_build.proofs.Assembly.{facts_build}
use Rattle.hw_build.proofs.InputWaves.{inputs_driven}

module _ (built_shown : BuiltIsShown) (stages_shown : StagesAreShown) (listing : InputsAreListed) (valid : TypesAreValid) where
  module _ (diagram : Diagram) (order : List ℕ) (timing : Timing) (places : Places) (hubs : ℕ) (netlist : Circuit)
      (ordered : IsOrdered diagram order) (timed : IsTimed diagram (attributes_of diagram) timing)
      (wide : LateAreWide diagram)
      (facts : HaveFacts diagram timing places hubs hubs netlist (length diagram.blocks))
    where
      pub design : (stimulus : Stimulus) (n clocks : ℕ) (inputs : Inputs) (rows : Rows) (table : Table)
          → IsRunOf diagram netlist stimulus n clocks inputs rows table
          → IsDesign diagram order stimulus timing clocks n table (waves_of places rows)
      design stimulus n clocks inputs rows table run = record {
        ordered = ordered;
        timed = timed;
        solves = run.solves;
        built = facts_build diagram timing places hubs netlist wide facts clocks inputs rows run.rows_are;
        driven = subst (λ (cycles : ℕ). AreDriven diagram (attributes_of diagram) stimulus n cycles clocks (waves_of places rows)) facts.cycles
            (inputs_driven diagram places netlist stimulus n clocks inputs rows table listing ordered.checked.wired (λ block b at. (valid diagram order block b ordered at).0) facts.inputs run);
      }

      pub tables_shown : ShowsTables diagram timing netlist places
      tables_shown = record {
        elements = λ stimulus n clocks inputs rows table run block b port element shown. built_shown diagram order
            stimulus timing clocks n table (waves_of places rows)
            (design stimulus n clocks inputs rows table run) block b port element shown;
        stages = λ stimulus n clocks inputs rows table run block b port element stage period shown is below.
            stages_shown diagram order stimulus timing clocks n table (waves_of places rows) (design stimulus n clocks inputs rows table run) block b port element stage period shown is below;
      }
