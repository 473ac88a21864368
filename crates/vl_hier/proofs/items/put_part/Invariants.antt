use Rattle.std.proofs.Common.{flat_map, take}
use Rattle.vl_ast.specs.Listing.{Lists}
use Rattle.vl_inner.specs.Names.{name_by}
use Rattle.vl_hier.specs.inner.Puts.{part_items}
use Rattle.vl_hier.proofs.items.put_part.Given as goal

abbrev pub invariant-loop-item : goal.invariant-loop-item
invariant-loop-item l = Lists l.initial.out l.out (flat_map (part_items l.part (name_by l.naming)) (take l.item-index l.items))
