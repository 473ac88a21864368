use Rattle.dg_model.specs.Attributes.{attributes_of}
use Rattle.hw_latency.specs.inner.Marks.{AreFedTo}
use Rattle.hw_latency.proofs.fed.fed_of.Given as goal

abbrev pub invariant-loop-place : goal.invariant-loop-place
invariant-loop-place l = AreFedTo l.checked.diagram (attributes_of l.checked.diagram) l.plan l.checked.order l.place-index l.fed.items
