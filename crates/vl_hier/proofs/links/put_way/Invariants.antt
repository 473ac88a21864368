use Rattle.std.proofs.Common.{flat_map, take}
use Rattle.vl_ast.specs.Listing.{Lists}
use Rattle.vl_hier.specs.inner.Puts.{link_items}
use Rattle.vl_hier.proofs.links.put_way.Given as goal

abbrev pub invariant-loop-link : goal.invariant-loop-link
invariant-loop-link l = Lists l.initial.out l.out (flat_map (link_items l.way l.ports l.head) (take l.link-index l.links))
