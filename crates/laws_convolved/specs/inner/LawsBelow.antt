-- What the crates below say together: laws of diagrams, of their periods and of filters.
use Rattle.dg_filters.specs.Laws.{CountedHitsGoOn}
use Rattle.dg_model.specs.Laws.{ColumnsComeBack, InputsAreListed, OutputsAreListed}
use Rattle.dg_tables.specs.Laws.{SignalsFit}
use Rattle.hw_sched.specs.Laws.{EdgesJoinPeriods, LinesAreEdges, MovingHavePeriods}
use Rattle.laws_filters.specs.Laws.{FiltersConvolve, FiltersFit}

pub record AreKnown : Type 0 where
  pub inputs : InputsAreListed
  pub outputs : OutputsAreListed
  pub kept : ColumnsComeBack
  pub fit : SignalsFit
  pub lines : LinesAreEdges
  pub joins : EdgesJoinPeriods
  pub moving : MovingHavePeriods
  pub counted : CountedHitsGoOn
  pub filters : FiltersFit
  pub convolve : FiltersConvolve
