use Rattle.std.proofs.Common.{◌≡◌, ◌∷◌, ◌++◌, []}
use Rattle.hw_build.specs.inner.Series.{AreSeries, enables_by, register_of, taken_by}
use Rattle.hw_build.proofs.states.put_series.Given as goal

abbrev pub invariant-loop-step : goal.invariant-loop-step
invariant-loop-step l = AreSeries (register_of l.fn.enabled l.fn.frame l.fn.slot l.fn.first) l.fn.net l.net
    (enables_by l.fn.enabled ++ l.fn.from ∷ []) l.fn.frame l.fn.word l.fn.from l.begin l._step
    × (l.last ≡ taken_by l.fn.from l.begin l._step)
