use Rattle.std.proofs.Common.{◌≡◌}
use Rattle.dg_waves.specs.Rounds.{after_rounds}
use Rattle.dg_waves.specs.inner.Waves.{IsBetween}
use Rattle.dg_waves.proofs.waves.after_rounds.Given as goal

abbrev pub invariant-loop-k : goal.invariant-loop-k
invariant-loop-k g l = record {
  values : l.values.items ≡ after_rounds (g.R.Round.next l.round) l.k l.initial.values.items;
  between : IsBetween (g.R.Round.count l.round) (g.R.Round.IsValue l.round) (g.R.Round.next l.round) l.values.items l.waiting.items l.marks.items;
}
