use Rattle.std.proofs.Common.{◌≡◌, max, drop}
use Rattle.hw_lines.specs.Chain.{most_frames}
use Rattle.hw_lines.proofs.source_taps.most_frames.Given as goal

abbrev pub invariant-loop-one : goal.invariant-loop-one
invariant-loop-one l = max l.most (most_frames l.period (drop l.one-index l.uses)) ≡ most_frames l.period l.uses
