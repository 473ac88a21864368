use Rattle.hw_build.specs.inner.HubPlaces.{AddsFresh}
use Rattle.hw_build.proofs.hubs.put_port.Given as goal

abbrev pub invariant-loop-element : goal.invariant-loop-element
invariant-loop-element l = AddsFresh l.fn.net l.net l.element l.kind
