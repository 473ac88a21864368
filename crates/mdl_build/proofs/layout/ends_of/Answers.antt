use Rattle.std.proofs.Common.{arith}
use Rattle.mdl_build.proofs.Ends.{ends_are}
use Rattle.mdl_build.proofs.layout.ends_of.Goals as goal

pub returns : goal.returns
returns c = let t = c.loop-place-test.false in ends_are c.args.items.now c.loop-place.ends.items c.loop-place.invariant.1 (λ k below. c.loop-place.invariant.2 k (omega arith) below)
