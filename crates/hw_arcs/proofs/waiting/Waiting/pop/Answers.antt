use Rattle.std.proofs.Common.{arith}
use Rattle.hw_arcs.specs.inner.Parts.{awaited, blocks_of}
use Rattle.hw_arcs.proofs.Waits.{popped_is}
use Rattle.hw_arcs.proofs.waiting.Waiting.pop.Goals as goal

pub returns : goal.returns
returns c =
    popped_is (awaited c.args.self.now) (blocks_of c.refill.new.self.later.items) c.refill.new.self.queue.items c.pop_front.new.self.items c.pop_front.result _ _
    c.in_ok-refill.ensures.same c.in_ok-refill.ensures.some (omega (arith, c.refill.new.self.queue.ok.0)) c.pop_front.ensures.items c.pop_front.ensures.cases
