-- What the crates below say together: laws of models, of diagrams, of schedules and of modules.
use Rattle.std.specs.Prelude.{ℕ}
use Rattle.dg_model.specs.Laws.{ColumnsComeBack, ColumnsMakeStimulus, InputsAreListed, OutputsAreListed}
use Rattle.dg_response.specs.Laws.{SomeResponds}
use Rattle.dg_tables.specs.Laws.{SolvedIsInRange, TypesAreValid}
use Rattle.cmd_model.specs.Laws.{DiagramIsOne, VerdictIsOne}
use Rattle.hw_sched.specs.Laws.{EdgesJoinPeriods, PeriodsAreAbove, ReadyFits, UnfedAreReady}
use Rattle.vl_ast.specs.declared.modules.Module.{Module}
use Rattle.vl_ast.specs.Conditions.{BreaksNone}
use Rattle.vl_ast.specs.Windows.{PortNumbers}
use Rattle.vl_replay.specs.Sampled.{HasTable}

pub record AreKnown : Type 0 where
  pub diagram : DiagramIsOne
  pub verdict : VerdictIsOne
  pub inputs : InputsAreListed
  pub outputs : OutputsAreListed
  pub made : ColumnsMakeStimulus
  pub kept : ColumnsComeBack
  pub range : SolvedIsInRange
  pub types : TypesAreValid
  pub responds : SomeResponds
  pub above : PeriodsAreAbove
  pub joins : EdgesJoinPeriods
  pub unfed : UnfedAreReady
  pub fits : ReadyFits
  pub sampled : (m : Module) (stimulus : PortNumbers) (samples : ℕ) → BreaksNone m
      → HasTable m stimulus samples
