use Rattle.std.proofs.Common.{◌≡◌, ◌<◌, length}
use Rattle.hw_arcs.specs.inner.Parts.{awaited}
use Rattle.hw_arcs.proofs.waiting.Waiting.refill.Given as goal

abbrev pub invariant-part : goal.invariant-part
invariant-part l = (awaited l.self ≡ awaited l.fn.self) × (0 < length l.self.queue.items)

abbrev pub decreases-part : goal.decreases-part
decreases-part l = length l.self.later.items
