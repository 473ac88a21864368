use Rattle.std.proofs.Common.{◌≡◌, take}
use Rattle.hw_arcs.specs.inner.Parts.{blocks_of}
use Rattle.hw_arcs.proofs.parts.Search.places.Given as goal

abbrev pub invariant-loop-block : goal.invariant-loop-block
invariant-loop-block l = blocks_of l.placed.items ≡ take l.block-index l.order
