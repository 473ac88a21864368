use Rattle.std.proofs.Common.{arith}
use Rattle.hw_renumber.specs.Renumbered.{place_in}
use Rattle.hw_fold.proofs.Repeats.{maps-same}
use Rattle.hw_fold.proofs.alike.are_alike.Goals as goal

pub returns : goal.returns
returns c = λ yes. maps-same (place_in c.args.roots.now) c.args.one.now c.args.other.now (omega arith) (λ j below. c.loop-i.invariant j (omega (arith, below)))
