-- What the steps give is all that a netlist owes.
use Rattle.dg_model.specs.Laws.{InputsAreListed, WidthsAreOfEdges}
use Rattle.dg_tables.specs.Laws.{TypesAreValid}
use Rattle.hw_sched.specs.Laws.{OperationsAreServed, ReadyFits}
use Rattle.hw_shows.specs.Laws.{BuiltIsShown, StagesAreShown, OperandsAreServed}
use Rattle.hw_build.specs.Laws.{SchedulesAreTimed}
use Rattle.hw_build.specs.Times.{timing_by}
use Rattle.hw_build.specs.inner.Facts.{LateAreWide}
use Rattle.hw_build.specs.inner.Done.{DoneIsBuilt}
use Rattle.hw_build.proofs.Multipliers.{served_in}
use Rattle.hw_build.proofs.Shows.{design, tables_shown}
use Rattle.hw_build.proofs.Turns.{slot_fits}
use Rattle.hw_build.proofs.Widths.{late_are_wide}

module _ (built : BuiltIsShown) (stages : StagesAreShown) (operands : OperandsAreServed) (listing : InputsAreListed)
    (valid : TypesAreValid) (widths : WidthsAreOfEdges) (timed : SchedulesAreTimed) (served : OperationsAreServed)
    (fits : ReadyFits) where
  pub done_is_built : DoneIsBuilt
  done_is_built diagram order plan times places hubs netlist ordered s done =
      let wide : LateAreWide diagram = late_are_wide widths diagram ordered.checked in
      let in_time = timed diagram plan times s in
      record {
        runs = done.runs;
        emittable = done.emittable;
        places = places;
        shows = tables_shown built stages listing valid diagram order (timing_by diagram plan times) places hubs netlist ordered in_time wide done.facts;
        pipelined = done.pipelined;
        ports = done.ports;
        serves = record {
          each = λ number o b at there.
              served_in operands widths diagram order plan times places netlist number o b at there (λ period is. slot_fits served fits diagram plan times number o period s at is) hubs
              (λ stimulus n clocks inputs rows table run. design built stages listing valid diagram order
              (timing_by diagram plan times) places hubs netlist ordered in_time wide done.facts stimulus n
              clocks inputs rows table run)
              (done.units.each number o b at there);
          shared = done.shared;
          own = done.own;
        };
        multiplied = done.multiplied;
        few = done.few;
      }
