use Rattle.std.proofs.Common.{◌+◌}
use Rattle.hw_net.specs.Frames.{register_count}
use Rattle.hw_lines.specs.Chain.{most_frames, different, parted_frames}
use Rattle.hw_lines.specs.inner.Ends.{IsDone}
use Rattle.hw_lines.proofs.lines.put_chain.Given as goal

abbrev pub invariant-loop-one : goal.invariant-loop-one
invariant-loop-one l =
    IsDone l.fn.net l.net l.source l.uses (register_count l.fn.net.nets + most_frames l.source.frame.period l.uses + different (parted_frames l.source l.uses)) l.taps l.ends l.answers l.one-index
