use Rattle.std.proofs.Common.{length, take}
use Rattle.dg_rates.specs.inner.Links.{AreControlled, AreDrivers, AreTied}
use Rattle.dg_rates.proofs.links.put_links.Given as goal

abbrev pub invariant-loop-edge : goal.invariant-loop-edge
invariant-loop-edge l = record {
  tied : AreTied (length l.diagram.blocks) 0 l.sources.items l.readers.items;
  drivers : AreDrivers (length l.diagram.blocks) (take l.edge-index l.diagram.edges) l.sources.items;
}

abbrev pub invariant-loop-place : goal.invariant-loop-place
invariant-loop-place l = record {
  tied : AreTied (length l.diagram.blocks) l.place l.sources.items l.readers.items;
  controlled : AreControlled l.diagram l.place l.sources.items;
}
